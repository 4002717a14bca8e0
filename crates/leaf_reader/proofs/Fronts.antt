-- How much of tokens is taken.
use Rattle.std.proofs.Common.{ℕ, List, length, map, reverse}
use Rattle.grammar_words.specs.Tokens.{word_of}
use Rattle.grammar_tokens.specs.declared.token.Token.{Token}
use Rattle.grammar_tokens.specs.View.{token_views}
use Rattle.grammar_fronts.specs.declared.wanted.Wanted.{Wanted}
use Rattle.grammar_fronts.specs.Fronts.{fronts}

-- how many of tokens, of which the first is the last, are taken
abbrev pub taken : List Token → List Wanted → ℕ
taken items wanted = length (fronts (map word_of (reverse (token_views items))) wanted).front
