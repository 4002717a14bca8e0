use Rattle.std.proofs.Common.{◌≡◌, ◌-◌}
use Rattle.stmt_reading.specs.Definitions.{fields_in}
use Rattle.definition_parts.specs.Parts.{fields_view, put_all}
use Rattle.definition_builder.proofs.types.fields.Given as goal

-- what was read, and what is read in the turns that are left, is what is read in all
abbrev pub invariant-loop-turn : goal.invariant-loop-turn
invariant-loop-turn l = fields_in l.fn.turns l.fn.source ≡ put_all (fields_view l.fields) (fields_in (l.turns - l._turn) l.source)
