-- Which word a lexeme is, and the words of a text.
use Rattle.std.specs.Prelude.{ℕ, ◌-◌, Bool, true, false, ◌&&◌, if◌then◌else◌, List, [], ◌∷◌, take, drop, codes, nat_eq, Option, Some, None}
use Rattle.std.specs.List.{starts_with}
use Rattle.std.specs.Option.{unwrap_or}
use Rattle.vdm_kinds.specs.declared.sign.Sign.TheVariants.{Not, InSet, NotInSet}
use Rattle.vdm_lexer.specs.declared.lexeme.Lexeme.{Lexeme}
use Rattle.vdm_lexer.specs.declared.lexeme.LexKind.{LexKind}
use Rattle.vdm_lexer.specs.declared.lexeme.LexKind.TheVariants as lex
use Rattle.grammar_words.specs.declared.word.Word.{Word}
use Rattle.grammar_words.specs.declared.word.Word.TheVariants.{
  Identifier,
  Quote,
  Whole,
  Character,
  Text,
  MakeNamed,
  IsNamed,
  Operator,
  CloseRound,
  CloseSquare,
  CloseCurly,
  Tilde,
  True,
  False,
  Nil,
  SelfWord,
  Time,
  Undefined,
  Result,
  In,
  End,
  Set,
  TextEnd,
}
use Rattle.grammar_words.specs.declared.word.PlacedWord.{PlacedWord}
use Rattle.word_reader.specs.Written.{word_in, reserved_words, signs, forms}

-- the bytes of a lexeme
abbrev pub slice_of : List ℕ → Lexeme → List ℕ
slice_of text lexeme = take (lexeme.end - lexeme.start) (drop lexeme.start text)

-- ---- one lexeme

-- a text that begins with `mk_` or `is_`, and goes on as no form of its own, carries a name behind it
abbrev pub named_form : List ℕ → Word
named_form piece =
    if starts_with nat_eq piece (codes "mk_") then MakeNamed
    else if starts_with nat_eq piece (codes "is_") then IsNamed
    else Identifier

-- a lexeme with these bytes; no reserved word and no sign is without a row
abbrev pub word_of_kind : LexKind → List ℕ → Word
word_of_kind lex.Identifier piece = unwrap_or (word_in piece forms) (named_form piece)
word_of_kind lex.Whole piece = Whole
word_of_kind lex.Character piece = Character
word_of_kind lex.Text piece = Text
word_of_kind lex.Quote piece = Quote
word_of_kind lex.Reserved piece = unwrap_or (word_in piece reserved_words) TextEnd
word_of_kind lex.Sign piece = unwrap_or (word_in piece signs) TextEnd
word_of_kind lex.End piece = TextEnd

abbrev pub word_of_lexeme : List ℕ → Lexeme → Word
word_of_lexeme text lexeme = word_of_kind lexeme.kind (slice_of text lexeme)

-- that of the first of some lexemes, or the end where there is none
abbrev pub word_or_end : List ℕ → List Lexeme → Word
word_or_end text [] = TextEnd
word_or_end text (lexeme ∷ lexemes) = word_of_lexeme text lexeme

-- ---- several lexemes that are one word

-- what may end an operand
abbrev pub ends_operand : Word → Bool
ends_operand Identifier = true
ends_operand Quote = true
ends_operand Whole = true
ends_operand Character = true
ends_operand Text = true
ends_operand CloseRound = true
ends_operand CloseSquare = true
ends_operand CloseCurly = true
ends_operand Tilde = true
ends_operand True = true
ends_operand False = true
ends_operand Nil = true
ends_operand SelfWord = true
ends_operand Time = true
ends_operand Undefined = true
ends_operand Result = true
ends_operand End = true
ends_operand _ = false

abbrev pub is_in : Word → Bool
is_in In = true
is_in _ = false

abbrev pub is_set : Word → Bool
is_set Set = true
is_set _ = false

abbrev pub is_not : Word → Bool
is_not (Operator Not) = true
is_not _ = false

abbrev pub is_in_set : Word → Bool
is_in_set (Operator InSet) = true
is_in_set _ = false

-- `in` before `set` is one word, and so is `not` before these where an operand has ended
abbrev pub joined : Bool → Word → Word → Option Word
joined ended word next =
    if is_in word && is_set next then Some (Operator InSet)
    else if ended && is_not word && is_in_set next then Some (Operator NotInSet)
    else None

-- a word before another, as two or as one, before the rest
abbrev pub before_next : Option Word → PlacedWord → PlacedWord → List PlacedWord → List PlacedWord
before_next None word next words = word ∷ next ∷ words
before_next (Some both) word next words = record { word = both; place = word.place } ∷ words

abbrev pub before : Bool → PlacedWord → List PlacedWord → List PlacedWord
before ended word [] = word ∷ []
before ended word (next ∷ words) = before_next (joined ended word.word next.word) word next words

-- the words of lexemes of a text, behind an operand or not
abbrev pub words_behind : Bool → List ℕ → List Lexeme → List PlacedWord
words_behind ended text [] = []
words_behind ended text (lexeme ∷ lexemes) =
    before ended (record { word = word_of_lexeme text lexeme; place = lexeme.place })
    (words_behind (ends_operand (word_of_lexeme text lexeme)) text lexemes)

-- the words of a text from a lexeme on
abbrev pub words_from : List ℕ → List Lexeme → ℕ → List PlacedWord
words_from text lexemes at = words_behind false text (drop at lexemes)
