use Rattle.std.proofs.Common.{rules}
use mathlib.Core.Option.{none}
use Rattle.atomic_table.specs.Table.{step}
use Rattle.turn_lock.proofs.Serving.{serves}
use Rattle.turn_lock.proofs.steps.serve_next.Goals as goal

pub fetch_add-requires : goal.fetch_add-requires
fetch_add-requires g c =
    let turn = c.requires.turn in let home = c.requires.home in (
      c.requires.board.0,
      search rules,
      serves g.V.Storied.story g.V.Storied.adds_up _ _ _ _ _ (step c.args.top.now.table_id.slots 1 1 0 none) turn.0 home.0 turn.1 home.1 home.2 home.3,
    )
