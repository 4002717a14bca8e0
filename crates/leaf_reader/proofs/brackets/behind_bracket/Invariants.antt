use Rattle.std.proofs.Common.{◌≡◌, ◌+◌, ◌≤◌, length, reverse}
use Rattle.grammar_tokens.specs.View.{token_views}
use Rattle.stmt_reading.specs.Statements.{behind_bracket}
use Rattle.leaf_reader.proofs.brackets.behind_bracket.Given as goal

-- what is found of the rest is what is found of all
abbrev pub invariant-loop-next : goal.invariant-loop-next
invariant-loop-next l =
    (behind_bracket l.inside (reverse (token_views l.rest)) ≡ behind_bracket 0 (reverse (token_views l.items)))
    × (l.inside + length l.rest ≤ length l.items)

abbrev pub decreases-loop-next : goal.decreases-loop-next
decreases-loop-next l = length l.rest
