use Rattle.shared_names.specs.Maps.{held}
use Rattle.part_checks.specs.Below.check_scopes.specs.Told.{first_in, scope_view, spec_in}
use Rattle.sync_checks.specs.Threads.{unnamed_in}
use Rattle.sync_checks.proofs.Noted.{alone}
use Rattle.sync_checks.proofs.clauses.refuse_unnamed.Goals as goal

pub returns : goal.returns
returns c =
    alone (first_in c.args.refusals.now) (first_in c.refuse_uncounted.new.refusals)
    (unnamed_in (spec_in c.args.setting) (scope_view c.args.setting.scope.now) c.args.named.name c.args.named.place)
    (c.refuse_uncounted.ensures (held c.args.setting.scope.now.locals))
