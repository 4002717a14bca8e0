use Rattle.std.proofs.Common.{ap, ◌∙◌}
use Rattle.shared_names.specs.Maps.{held}
use Rattle.spec_checks.specs.Targets.{written_local_or}
use Rattle.target_steps.specs.Below.check_frames.specs.Meant.{spec_here}
use Rattle.target_steps.specs.Below.stmt_scopes.specs.Standing.{stands_here}
use Rattle.stmt_targets.proofs.looked_for.named_alone.Goals as goal

pub returns-in-None-clause-named : goal.returns-in-None-clause-named
returns-in-None-clause-named c =
    c.named_here.ensures.named (held c.args.stands.here.locals.now) (stands_here c.args.stands)
    ∙ ap (written_local_or (spec_here c.args.stands.here) (stands_here c.args.stands) c.args.name c.args.place) c.in-None.ensures
