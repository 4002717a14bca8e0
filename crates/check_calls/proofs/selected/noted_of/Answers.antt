use Rattle.std.proofs.Common.{Option, ap, sym, ◌∙◌}
use Rattle.vdm_kinds.specs.declared.spec_fault.SpecFault.{SpecFault}
use Rattle.class_checks.specs.Members.{other_faults}
use Rattle.check_fields.specs.Below.check_scopes.specs.Told.{scope_at, spec_in}
use Rattle.check_names.specs.Noting.{note, noted_as}
use Rattle.check_calls.proofs.selected.noted_of.Goals as goal

pub returns : goal.returns
returns c =
    λ names. ap (λ (o : Option SpecFault). note o (other_faults (spec_in c.args.setting) (scope_at c.args.setting names) c.args.name_place c.args.owner.number c.args.access)) (sym c.new-refusals.ensures)
    ∙ c.other_faults-spoiled.ensures names
    ∙ ap (λ (o : Option SpecFault). noted_as o c.other_faults-spoiled.result) (sym c.first.ensures)
