-- The pure tokens that tokens of the program are.
use Rattle.std.specs.Prelude.{List, map}
use Rattle.grammar_words.specs.Tokens as pure
use Rattle.grammar_tokens.specs.declared.token.Token.{Token}
use Rattle.grammar_tokens.specs.declared.token.Token.TheVariants.{Identifier, Quote, Whole, Character, Text, MakeNamed, IsNamed, Plain}

abbrev pub token_view : Token → pure.Token
token_view (Identifier name place) = pure.identifier name place
token_view (Quote name place) = pure.quote name place
token_view (Whole number place) = pure.whole number place
token_view (Character c place) = pure.character c place
token_view (Text characters place) = pure.text characters.items place
token_view (MakeNamed name place) = pure.make_named name place
token_view (IsNamed name place) = pure.is_named name place
token_view (Plain word place) = pure.plain word place

abbrev pub token_views : List Token → List pure.Token
token_views = map token_view
