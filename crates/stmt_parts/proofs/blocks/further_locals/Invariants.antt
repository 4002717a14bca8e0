use Rattle.std.proofs.Common.{◌≡◌, ◌-◌, map}
use Rattle.grammar_words.specs.declared.word.Word.TheVariants.{Comma}
use Rattle.vdm_tree.specs.StmtView.{local_view}
use Rattle.stmt_reading.specs.Leaves.{further}
use Rattle.stmt_reading.specs.Statements.{local_in}
use Rattle.stmt_parts.specs.Lists.{added}
use Rattle.stmt_parts.proofs.blocks.further_locals.Given as goal

-- behind what was read, what is read in the turns that are left
abbrev pub invariant-loop-turn : goal.invariant-loop-turn
invariant-loop-turn l =
    added (map local_view l.locals.items) (further Comma local_in (l.fn.turns - l._turn) l.source)
    ≡ added (map local_view l.fn.locals.items) (further Comma local_in l.fn.turns l.fn.source)
