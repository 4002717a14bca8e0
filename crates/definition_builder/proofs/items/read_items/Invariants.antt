use Rattle.std.proofs.Common.{◌≡◌, ◌-◌, map}
use Rattle.stmt_reading.specs.Definitions.{items_in}
use Rattle.definition_parts.specs.Parts.{put_all}
use Rattle.definition_builder.proofs.items.read_items.Given as goal

-- what was read, and what is read in the turns that are left, is what is read in all
abbrev pub invariant-loop-turn : goal.invariant-loop-turn
invariant-loop-turn g l =
    items_in g.T.Item.begins (g.T.Item.reading l.turns l.class) l.fn.turns l.fn.source
    ≡ put_all (map g.T.Item.view l.items.items) (items_in g.T.Item.begins (g.T.Item.reading l.turns l.class) (l.turns - l._turn) l.source)
