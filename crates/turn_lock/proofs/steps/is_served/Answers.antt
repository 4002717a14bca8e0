use Rattle.std.proofs.Common.{rules}
use mathlib.Core.Option.{none}
use Rattle.atomic_table.specs.Table.{step}
use Rattle.turn_lock.proofs.Looking.{looks}
use Rattle.turn_lock.proofs.steps.is_served.Goals as goal

pub load-requires : goal.load-requires
load-requires g c = (
  c.requires.board.0,
  search rules,
  looks g.V.Storied.story g.V.Storied.adds_up _ _ _ _ _ (step c.args.top.now.table_id.slots 1 0 0 none) c.args.number c.requires.waits.0 c.requires.waits.1 c.requires.alone,
)
