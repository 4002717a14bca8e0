use Rattle.std.proofs.Common.{◌≡◌, drop}
use Rattle.grammar_tokens.specs.View.{token_views}
use Rattle.type_reading.specs.Reading.{state, outcome, type_of}
use Rattle.type_grammar.specs.Views.{mode_view, stack_view}
use Rattle.type_grammar.proofs.build.build_type.Given as goal

-- what the tokens that are left come to from here is what all come to
abbrev pub invariant-loop-token : goal.invariant-loop-token
invariant-loop-token l = type_of (token_views l.tokens) ≡ outcome (state (mode_view l.mode) (stack_view l.frames.items)) (token_views (drop l.token-index l.tokens))
