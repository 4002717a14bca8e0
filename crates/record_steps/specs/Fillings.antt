-- How far the tests of the values of fields came.
use Rattle.std.specs.Prelude.{◌≡◌, Some}
use Rattle.vdm_kinds.specs.declared.place.Place.{Place}
use Rattle.vdm_kinds.specs.declared.run_fault.RunFault.TheVariants.{TypeFault}
use Rattle.abstract_syntax.specs.Classes.{SpecTree}
use Rattle.type_tree.specs.TypeView.{type_view}
use Rattle.node_meaning.specs.Envs.{Locals}
use Rattle.node_meaning.specs.Fitting.{typed}
use Rattle.node_meaning.specs.Needs.{Setting}
use Rattle.node_meaning.specs.Records.{record_value}
use Rattle.node_meaning.specs.Tasks.{Code, fault}
use Rattle.eval_data.specs.declared.fitting.Filling.{Filling}
use Rattle.eval_data.specs.Parts.{nest_of}
use Rattle.eval_data.specs.Steps.{code_of, fields_left}
use Rattle.record_steps.specs.declared.made.Filled.{Filled}
use Rattle.record_steps.specs.declared.made.Filled.TheVariants.{Fits, Stops}
use Rattle.record_steps.specs.declared.made.Next.{Next}
use Rattle.record_steps.specs.declared.made.Next.TheVariants.{Field, Over, Wrong}

abbrev pub filled_code : Setting → Place → Locals → Filled → Code
filled_code setting place locals (Fits filling) = fields_left setting.spec filling place locals
filled_code setting place locals (Stops step) = code_of setting locals step

-- what is left before the next field is taken, and what behind it
abbrev pub NextField : Next → Filling → Filling → Type 0
NextField Over old new =
    (spec : SpecTree) (place : Place) (locals : Locals) → fields_left spec old place locals ≡ record_value new.class new.name place new.values.items locals
NextField Wrong old new = (spec : SpecTree) (place : Place) (locals : Locals) → fields_left spec old place locals ≡ fault TypeFault place
NextField (Field declared v) old new =
    (spec : SpecTree) (place : Place) (locals : Locals) → fields_left spec old place locals
    ≡ typed spec (nest_of new.nest) (Some new.class) (type_view declared.now) place (λ fitting_v. fields_left spec new place) v locals
