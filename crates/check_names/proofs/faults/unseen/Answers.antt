use Rattle.std.proofs.Common.{Bool, not, ap, sym, ◌∙◌}
use Rattle.vdm_kinds.specs.declared.spec_kind.SpecKind.TheVariants.{NotVisible}
use Rattle.class_checks.specs.Results.{refused_if}
use Rattle.check_scopes.specs.Told.{first_in}
use Rattle.check_names.specs.Noting.{note}
use Rattle.check_names.proofs.faults.unseen.Goals as goal

pub returns : goal.returns
returns c =
    λ names. ap (λ (seen : Bool). note (first_in c.args.refusals.now) (refused_if (not seen) NotVisible c.args.place)) (sym (c.visible-seen.ensures c.args.owner.number c.requires.numbered))
    ∙ c.spoiled_if.ensures
