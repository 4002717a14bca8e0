use Rattle.std.proofs.Common.{◌≡◌, ◌-◌}
use Rattle.grammar_words.specs.declared.word.Word.TheVariants.{Comma}
use Rattle.expr_tree.specs.View.{pattern_views}
use Rattle.stmt_reading.specs.Leaves.{pattern_in, further}
use Rattle.stmt_parts.specs.Lists.{added}
use Rattle.stmt_parts.proofs.patterns.further_patterns.Given as goal

-- behind what was read, what is read in the turns that are left
abbrev pub invariant-loop-turn : goal.invariant-loop-turn
invariant-loop-turn l =
    added (pattern_views l.patterns.items) (further Comma pattern_in (l.fn.turns - l._turn) l.source)
    ≡ added (pattern_views l.fn.patterns.items) (further Comma pattern_in l.fn.turns l.fn.source)
