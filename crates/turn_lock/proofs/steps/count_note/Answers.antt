use Rattle.std.proofs.Common.{rules}
use mathlib.Core.Option.{none}
use Rattle.atomic_table.specs.Table.{step}
use Rattle.turn_lock.proofs.Noting.{notes}
use Rattle.turn_lock.proofs.steps.count_note.Goals as goal

pub fetch_add-requires : goal.fetch_add-requires
fetch_add-requires g c =
    let turn = c.requires.turn in let entry = c.requires.entry in (
      c.requires.board.0,
      search rules,
      notes g.V.Storied.story g.V.Storied.adds_up _ _ _ _ _ (step c.args.top.now.table_id.slots 2 1 0 none) g.J.Adds.added entry.0 turn.0 entry.1 turn.1 c.requires.alone c.requires.room,
    )

pub returns-clause-noted : goal.returns-clause-noted
returns-clause-noted g c e adds = let told = c.fetch_add.ensures.2 e adds in (c.fetch_add.result, told.1, told.2, told.0)
