-- What a run leaves out of a specification, and what is refused of the expression of a run. (That a run has neither threads nor
-- synchronisation is this project's own.)
use Rattle.std.specs.Prelude.{List, [], ◌∷◌, Option, Some, None}
use Rattle.std.specs.List.{flat_map}
use Rattle.vdm_kinds.specs.declared.spec_fault.SpecFault.{SpecFault}
use Rattle.vdm_kinds.specs.declared.spec_kind.SpecKind.TheVariants.{LeftOut}
use Rattle.abstract_syntax.specs.Expressions.{ExprTree}
use Rattle.abstract_syntax.specs.Classes.{BlockTree, thread_of, synchronisation, ClassTree, SpecTree}
use Rattle.class_checks.specs.Results.{refusal, first_among}
use Rattle.class_checks.specs.WellTyped.{main_fault}

-- a block of a thread or of synchronisation, at its first word
abbrev pub block_left_out : BlockTree → List SpecFault
block_left_out (thread_of thread place) = refusal LeftOut place ∷ []
block_left_out (synchronisation clauses place) = refusal LeftOut place ∷ []
block_left_out _ = []

abbrev pub class_left_out : ClassTree → List SpecFault
class_left_out class = flat_map block_left_out class.blocks

abbrev pub spec_left_out : SpecTree → List SpecFault
spec_left_out spec = flat_map class_left_out spec.classes

-- the first such block in text order
abbrev pub left_out_block : SpecTree → Option SpecFault
left_out_block spec = first_among None (spec_left_out spec)

abbrev pub first_or : Option SpecFault → Option SpecFault → Option SpecFault
first_or None later = later
first_or (Some fault) later = Some fault

-- what is left out is refused before the expression is looked at
abbrev pub run_fault : SpecTree → ExprTree → Option SpecFault
run_fault spec e = first_or (left_out_block spec) (main_fault spec e)
