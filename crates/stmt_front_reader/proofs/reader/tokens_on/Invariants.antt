use Rattle.std.proofs.Common.{◌≡◌, drop}
use Rattle.grammar_tokens.specs.View.{token_views}
use Rattle.stmt_fronts.specs.Fronts.{front_from}
use Rattle.stmt_front_reader.specs.Held.{alive_views}
use Rattle.stmt_front_reader.proofs.reader.tokens_on.Given as goal

-- behind what was read, what is found of the rest
abbrev pub invariant-loop-count : goal.invariant-loop-count
invariant-loop-count l =
    front_from l.count (token_views (drop l.count l.tokens)) (alive_views l.alive)
    ≡ front_from 0 (token_views l.fn.tokens) (alive_views l.fn.alive)
