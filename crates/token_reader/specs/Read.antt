-- The tokens of words of a text, and the names that they are given.
use Rattle.std.specs.Prelude.{◌≡◌, ℕ, ◌^◌, ◌<◌, pos, List, [], ◌∷◌, ◌++◌, drop, Option, Some, None}
use Rattle.std.specs.Str.{IsUtf8, chars, encode_utf8_all}
use Rattle.vdm_kinds.specs.declared.name.Name.{Name}
use Rattle.vdm_kinds.specs.declared.place.Place.{Place}
use Rattle.vdm_kinds.specs.NameList.{with_name, with_names, number_in}
use Rattle.vdm_lexer.specs.declared.lexeme.Lexeme.{Lexeme}
use Rattle.vdm_lexer.specs.declared.lexeme.LexKind.{LexKind}
use Rattle.vdm_lexer.specs.declared.lexeme.LexKind.TheVariants as lex
use Rattle.grammar_words.specs.declared.word.Word.{Word}
use Rattle.grammar_words.specs.declared.word.Word.TheVariants.{Identifier, MakeNamed, IsNamed}
use Rattle.grammar_words.specs.declared.word.PlacedWord.{PlacedWord}
use Rattle.grammar_words.specs.Tokens.{Token, identifier, quote, whole, character, text as text_token, make_named, is_named, plain, width}
use Rattle.word_reader.specs.Words.{slice_of}
use Rattle.token_reader.specs.Values.{whole_value, between, text_value, character_value}

-- the text that an identifier, alone or behind `mk_` or `is_`, or a quote is named by: the last two by what stands behind the
-- first three characters, or between the signs
abbrev pub identifier_text : Word → List ℕ → Option (List ℕ)
identifier_text Identifier piece = Some piece
identifier_text MakeNamed piece = Some (encode_utf8_all (drop 3 (chars piece)))
identifier_text IsNamed piece = Some (encode_utf8_all (drop 3 (chars piece)))
identifier_text _ piece = None

abbrev pub name_text : LexKind → Word → List ℕ → Option (List ℕ)
name_text lex.Identifier word piece = identifier_text word piece
name_text lex.Quote word piece = Some (encode_utf8_all (between (chars piece)))
name_text _ word piece = None

-- the place of a text among the names, where it goes last if it is new
abbrev pub name_in : List (List ℕ) → List ℕ → Name
name_in names piece = record { 0 = number_in names piece }

abbrev pub identifier_token : List (List ℕ) → Word → List ℕ → Place → Token
identifier_token names Identifier piece place = identifier (name_in names piece) place
identifier_token names MakeNamed piece place = make_named (name_in names (encode_utf8_all (drop 3 (chars piece)))) place
identifier_token names IsNamed piece place = is_named (name_in names (encode_utf8_all (drop 3 (chars piece)))) place
identifier_token names word piece place = plain word place

-- the token of a lexeme that is, or begins, this word
abbrev pub token_of : List (List ℕ) → LexKind → Word → List ℕ → Place → Token
token_of names lex.Identifier word piece place = identifier_token names word piece place
token_of names lex.Quote word piece place = quote (name_in names (encode_utf8_all (between (chars piece)))) place
token_of names lex.Whole word piece place = whole (pos (whole_value (chars piece))) place
token_of names lex.Character word piece place = character (character_value (chars piece)) place
token_of names lex.Text word piece place = text_token (text_value (chars piece)) place
token_of names lex.Reserved word piece place = plain word place
token_of names lex.Sign word piece place = plain word place
token_of names lex.End word piece place = plain word place

-- a text that is named
abbrev pub with_text : List (List ℕ) → Option (List ℕ) → List (List ℕ)
with_text names None = names
with_text names (Some piece) = with_name names piece

abbrev pub text_before : Option (List ℕ) → List (List ℕ) → List (List ℕ)
text_before None pieces = pieces
text_before (Some piece) pieces = piece ∷ pieces

abbrev pub first_kind : List Lexeme → LexKind
first_kind [] = lex.End
first_kind (lexeme ∷ lexemes) = lexeme.kind

abbrev pub first_slice : List ℕ → List Lexeme → List ℕ
first_slice text [] = []
first_slice text (lexeme ∷ lexemes) = slice_of text lexeme

abbrev pub first_name : List ℕ → List Lexeme → PlacedWord → Option (List ℕ)
first_name text lexemes word = name_text (first_kind lexemes) word.word (first_slice text lexemes)

-- the texts that the words of lexemes are named by, in text order
abbrev pub named_texts : List ℕ → List Lexeme → List PlacedWord → List (List ℕ)
named_texts text lexemes [] = []
named_texts text lexemes (word ∷ words) = text_before (first_name text lexemes word) (named_texts text (drop (width word.word) lexemes) words)

-- the tokens of the words of lexemes, where names are given in text order
abbrev pub tokens_from : List (List ℕ) → List ℕ → List Lexeme → List PlacedWord → List Token
tokens_from names text lexemes [] = []
tokens_from names text lexemes (word ∷ words) =
    token_of names (first_kind lexemes) word.word (first_slice text lexemes) word.place
    ∷ tokens_from (with_text names (first_name text lexemes word)) text (drop (width word.word) lexemes) words

-- the names behind those tokens
abbrev pub names_behind : List (List ℕ) → List ℕ → List Lexeme → List PlacedWord → List (List ℕ)
names_behind names text lexemes words = with_names names (named_texts text lexemes words)

-- the old names stand in front of the new ones
pub record KeepsNames (old new : List (List ℕ)) : Type 0 where
  pub more : List (List ℕ)
  pub names : new ≡ old ++ more

-- the bytes of a lexeme are a text, and a whole literal is small enough
pub record IsReadable (text : List ℕ) (lexeme : Lexeme) : Type 0 where
  pub utf8 : IsUtf8 (slice_of text lexeme)
  pub small : lexeme.kind ≡ lex.Whole → whole_value (chars (slice_of text lexeme)) < 2 ^ 127

abbrev pub AreReadable : List ℕ → List Lexeme → Type 0
AreReadable text [] = Unit {0}
AreReadable text (lexeme ∷ lexemes) = IsReadable text lexeme × AreReadable text lexemes
