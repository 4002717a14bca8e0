-- What is called, as the program holds it: what is wanted of the arguments, what is given, and the first refusal.
use Rattle.std.specs.Prelude.{◌≡◌, ℕ, ◌||◌, not, nat_eq, Option}
use Rattle.vdm_kinds.specs.declared.spec_fault.SpecFault.{SpecFault}
use Rattle.vdm_kinds.specs.declared.place.Place.{Place}
use Rattle.vdm_kinds.specs.declared.spec_kind.SpecKind.TheVariants.{WrongArity}
use Rattle.abstract_syntax.specs.Classes.{ClassTree, SpecTree}
use Rattle.form_meaning.specs.Forms.{FormTree, FormTrees, no_forms}
use Rattle.type_forms.specs.Tree.{form_trees}
use Rattle.class_checks.specs.Callees.{Callee as CalleeTree, created, has_constructor}
use Rattle.class_checks.specs.Results.{first_among, refused_if}
use Rattle.class_checks.specs.Scopes.{ScopeTree}
use Rattle.check_calls.specs.declared.callee.Callee.{Callee}

pub record Called : Type 0 where
  pub wants : FormTrees
  pub gives : FormTree
  pub first : Option SpecFault

-- where this was the first refusal before it
abbrev pub called : Option SpecFault → CalleeTree → Called
called first callee = record { wants = callee.wants; gives = callee.result; first = first_among first callee.refusals }

abbrev pub made : Option SpecFault → Callee → Called
made first callee = record { wants = form_trees callee.wants.items; gives = callee.result; first = first }

-- what is called was made so, and what is refused of it was noted
abbrev pub Calls : Option SpecFault → Option SpecFault → Callee → CalleeTree → Type 0
Calls before after callee tree = called before tree ≡ made after callee

-- a new object of a class without a constructor for so many arguments
abbrev pub without_own : SpecTree → ScopeTree → Place → Place → ℕ → ClassTree → CalleeTree
without_own spec scope class_place place n class =
    created spec scope class_place place n class.name (refused_if (has_constructor class || not (nat_eq n 0)) WrongArity place) no_forms
