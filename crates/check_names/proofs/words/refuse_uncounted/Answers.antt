use Rattle.std.proofs.Common.{Bool, not, ap, ◌∙◌}
use Rattle.vdm_kinds.specs.declared.spec_kind.SpecKind.TheVariants.{NotSynchronised}
use Rattle.class_checks.specs.Results.{first_among, refused_if}
use Rattle.check_scopes.specs.Told.{first_in}
use Rattle.check_names.proofs.words.refuse_uncounted.Goals as goal

pub returns : goal.returns
returns c =
    λ bound. c.refuse_if.ensures
    ∙ ap (λ (b : Bool). first_among (first_in c.args.refusals.now) (refused_if (not b) NotSynchronised c.args.named.now.place)) (c.is_counted-counted.ensures bound)
