-- What the bytes mean that were read is what the command means.
use Rattle.std.proofs.Common.{rules, ◌≡◌}
use Rattle.vdm_cli.proofs.RunTexts.{means_read}
use Rattle.vdm_cli.proofs.meant.meant_by.Goals as goal

pub returns-in-Ok-clause-means : goal.returns-in-Ok-clause-means
returns-in-Ok-clause-means g c =
    let spec_is : c.deref.result.now ≡ c.in-Ok.spec.items = search rules in (
      c.in-Ok.spec.items,
      means_read _ c.deref.result.now c.in-Ok.spec.items _ _ _ _ spec_is c.in-Ok.ensures.cause.calm c.in-Ok.ensures.bytes c.meant_of_spec.ensures.means,
    )
