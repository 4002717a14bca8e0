use Rattle.std.proofs.Common.{◌≡◌, ◌+◌, ◌*◌, ◌-◌}
use Rattle.grammar_words.specs.declared.word.Word.TheVariants.{Comma}
use Rattle.stmt_reading.specs.Leaves.{further, list_in, turns_for}
use Rattle.stmt_reading.specs.Statements.{block_rest, branches_in, cases_in, handler_in, stmt_in}
use Rattle.stmt_parts.specs.Lists.{added}
use Rattle.stmt_openings.specs.Between.{stmts_in}
use Rattle.stmt_builder.specs.Lists.{branch_rows, branches_on, case_rows, cases_on, handlers_view, stmts_view}
use Rattle.stmt_builder.proofs.statements.+statement.Given as goal

-- each function hands on as much room as it has, and a statement takes one off
abbrev pub decreases-statement : goal.decreases-statement
decreases-statement l = 5 * l.room

abbrev pub decreases-push : goal.decreases-push
decreases-push l = 5 * l.room + 1

abbrev pub decreases-push_alternative : goal.decreases-push_alternative
decreases-push_alternative l = 5 * l.room + 1

abbrev pub decreases-push_trap : goal.decreases-push_trap
decreases-push_trap l = 5 * l.room + 1

abbrev pub decreases-last : goal.decreases-last
decreases-last l = 5 * l.room + 1

abbrev pub decreases-statements : goal.decreases-statements
decreases-statements l = 5 * l.room + 2

abbrev pub decreases-listed : goal.decreases-listed
decreases-listed l = 5 * l.room + 2

abbrev pub decreases-branches : goal.decreases-branches
decreases-branches l = 5 * l.room + 2

abbrev pub decreases-otherwise : goal.decreases-otherwise
decreases-otherwise l = 5 * l.room + 2

abbrev pub decreases-two : goal.decreases-two
decreases-two l = 5 * l.room + 2

abbrev pub decreases-cases : goal.decreases-cases
decreases-cases l = 5 * l.room + 2

abbrev pub decreases-handlers : goal.decreases-handlers
decreases-handlers l = 5 * l.room + 2

abbrev pub decreases-if_rest : goal.decreases-if_rest
decreases-if_rest l = 5 * l.room + 3

abbrev pub decreases-tixe_rest : goal.decreases-tixe_rest
decreases-tixe_rest l = 5 * l.room + 3

abbrev pub decreases-rest : goal.decreases-rest
decreases-rest l = 5 * l.room + 4

-- behind what was read, what is read in the turns that are left
abbrev pub invariant-statements-loop-turn : goal.invariant-statements-loop-turn
invariant-statements-loop-turn l =
    added (stmts_view l.statements) (block_rest (stmt_in l.fn.room) (l.fn.turns - l._turn) l.source) ≡ stmts_in (stmt_in l.fn.room) l.fn.turns l.fn.source

abbrev pub invariant-listed-loop-turn : goal.invariant-listed-loop-turn
invariant-listed-loop-turn l =
    added (stmts_view l.statements) (further Comma (stmt_in l.fn.room) (turns_for l.fn.source - l._turn) l.source) ≡ list_in Comma (stmt_in l.fn.room) l.fn.source

abbrev pub invariant-handlers-loop-turn : goal.invariant-handlers-loop-turn
invariant-handlers-loop-turn l =
    added (handlers_view l.handlers) (further Comma (handler_in (stmt_in l.fn.room)) (turns_for l.fn.source - l._turn) l.source)
    ≡ list_in Comma (handler_in (stmt_in l.fn.room)) l.fn.source

abbrev pub invariant-branches-loop-turn : goal.invariant-branches-loop-turn
invariant-branches-loop-turn l =
    branches_on (branch_rows l.branches) (branches_in (stmt_in l.fn.room) (l.fn.turns - l._turn) l.source) ≡ branches_in (stmt_in l.fn.room) l.fn.turns l.fn.source

abbrev pub invariant-cases-loop-turn : goal.invariant-cases-loop-turn
invariant-cases-loop-turn l =
    cases_on (case_rows l.cases) (cases_in (stmt_in l.fn.room) (l.fn.turns - l._turn) l.source) ≡ cases_in (stmt_in l.fn.room) l.fn.turns l.fn.source
