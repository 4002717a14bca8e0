use Rattle.std.proofs.Common.{◌≡◌, ◌-◌, map}
use Rattle.grammar_words.specs.declared.word.Word.TheVariants.{Semicolon}
use Rattle.vdm_tree.specs.StmtView.{assignment_view}
use Rattle.stmt_reading.specs.Leaves.{further}
use Rattle.stmt_reading.specs.Statements.{assignment_in}
use Rattle.stmt_parts.specs.Lists.{added}
use Rattle.stmt_parts.proofs.assignments.further_assignments.Given as goal

-- behind what was read, what is read in the turns that are left
abbrev pub invariant-loop-turn : goal.invariant-loop-turn
invariant-loop-turn l =
    added (map assignment_view l.assignments.items) (further Semicolon assignment_in (l.fn.turns - l._turn) l.source)
    ≡ added (map assignment_view l.fn.assignments.items) (further Semicolon assignment_in l.fn.turns l.fn.source)
