use Rattle.std.proofs.Common.{◌≡◌, ◌-◌}
use Rattle.grammar_words.specs.declared.word.Word.TheVariants.{Comma}
use Rattle.stmt_reading.specs.Leaves.{further}
use Rattle.stmt_reading.specs.Statements.{definition_in}
use Rattle.stmt_parts.specs.Lists.{added, definition_rows}
use Rattle.stmt_parts.proofs.definitions.further_definitions.Given as goal

-- behind what was read, what is read in the turns that are left
abbrev pub invariant-loop-turn : goal.invariant-loop-turn
invariant-loop-turn l =
    added (definition_rows l.definitions.items) (further Comma definition_in (l.fn.turns - l._turn) l.source)
    ≡ added (definition_rows l.fn.definitions.items) (further Comma definition_in l.fn.turns l.fn.source)
