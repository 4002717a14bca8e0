use Rattle.std.proofs.Common.{rules}
use mathlib.Core.Option.{none}
use Rattle.atomic_table.specs.Table.{step}
use Rattle.turn_lock.proofs.Drawing.{draws}
use Rattle.turn_lock.proofs.steps.draw_number.Goals as goal

pub fetch_add-requires : goal.fetch_add-requires
fetch_add-requires g c = (
  c.requires.board.0,
  search rules,
  draws g.V.Storied.story g.V.Storied.adds_up _ _ _ _ _ (step c.args.top.now.table_id.slots 0 1 0 none) c.requires.idle.0 c.requires.draws,
)
