-- What a record type wants of the parts of its records, and what it makes of them.
use Rattle.std.specs.Prelude.{Option}
use Rattle.abstract_syntax.specs.Classes.{SpecTree}
use Rattle.pattern_meaning.specs.RecordTypes.{RecordType}
use Rattle.form_meaning.specs.Forms.{FormTree, FormTrees, any_form, no_forms}
use Rattle.class_checks.specs.Expressions.{made_form, made_wants}
use Rattle.type_forms.specs.Tree.{form_trees}
use Rattle.check_steps.specs.Below.check_calls.specs.declared.callee.Callee.{Callee}

pub record Offer : Type 0 where
  pub wants : FormTrees
  pub gives : FormTree

abbrev pub offered : Callee → Offer
offered callee = record { wants = form_trees callee.wants.items; gives = callee.result }

abbrev pub nothing_offered : Offer
nothing_offered = record { wants = no_forms; gives = any_form }

abbrev pub offer_of : SpecTree → Option RecordType → Offer
offer_of spec made = record { wants = made_wants spec made; gives = made_form spec made }
