use Rattle.std.proofs.Common.{ap, ◌∙◌}
use Rattle.shared_names.specs.Maps.{held}
use Rattle.check_steps.specs.Below.check_scopes.specs.Told.{first_in, told}
use Rattle.check_steps.specs.Below.check_names.proofs.Notes.{if_ok}
use Rattle.check_steps.specs.Below.check_frames.specs.Meant.{scope_here}
use Rattle.check_named.proofs.Begun.{result_begun}
use Rattle.check_named.proofs.names.result_form.Goals as goal

pub returns : goal.returns
returns c =
    if_ok c.read_result.result c.read_result.ensures (λ form told_so. ap (told (first_in c.args.refusals.now)) (result_begun c.args.here.setting (scope_here c.args.here) c.args.place) ∙ told_so (held c.args.here.locals.now))
