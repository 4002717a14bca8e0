-- What a word does where a pattern, or a part of one, is wanted: `Pattern = Pat { "^" Pat }`.
use Rattle.std.specs.Prelude.{ℕ, List, [], ◌∷◌, Option, None, Some}
use Rattle.vdm_kinds.specs.declared.sign.Sign.TheVariants.{Minus, Concatenation}
use Rattle.grammar_words.specs.declared.word.Word.{Word}
use Rattle.grammar_words.specs.declared.word.Word.TheVariants as word
use Rattle.grammar_fronts.specs.declared.wanted.Wanted.{Wanted}
use Rattle.grammar_fronts.specs.declared.wanted.Wanted.TheVariants.{
  Pattern,
  BehindPattern,
  InCurlyPattern,
  BehindFirstInPattern,
  InSquarePattern,
  PatternParts,
  MorePatterns,
  MorePatternPairs,
  Expression,
  BehindClass,
  OpenRound,
  CloseRound,
  CloseSquare,
  CloseCurly,
  Comma,
  MapsTo,
}
use Rattle.grammar_fronts.specs.Turns.{Turn, begins, adds, own, then_wanted}

abbrev pub single : List Wanted → Option Turn
single parts = Some (begins 0 parts (BehindPattern ∷ []))

abbrev pub pattern : Word → Option Turn
pattern (word.Operator Minus) = single []
pattern word.Identifier = single []
pattern word.Whole = single []
pattern word.Character = single []
pattern word.Text = single []
pattern word.Quote = single []
pattern word.True = single []
pattern word.False = single []
pattern word.Nil = single []
pattern word.OpenRound = single (Expression ∷ CloseRound ∷ [])
pattern word.OpenCurly = single (InCurlyPattern ∷ [])
pattern word.OpenSquare = single (InSquarePattern ∷ [])
pattern word.MakeTuple = single (OpenRound ∷ Pattern ∷ Comma ∷ Pattern ∷ MorePatterns ∷ CloseRound ∷ [])
pattern word.MakeNamed = single (BehindClass ∷ OpenRound ∷ PatternParts ∷ [])
pattern _ = None

abbrev pub concatenation_pull : ℕ
concatenation_pull = 2

abbrev pub behind_pattern : Word → Option Turn
behind_pattern (word.Operator Concatenation) = Some (adds concatenation_pull (Pattern ∷ []))
behind_pattern _ = None

-- `"{" [ C(Pattern) ] "}"`, `"{" C(Pattern "|->" Pattern) "}"` and `"{" "|->" "}"`
abbrev pub in_curly_pattern : Word → Option Turn
in_curly_pattern word.CloseCurly = own []
in_curly_pattern word.MapsTo = own (CloseCurly ∷ [])
in_curly_pattern w = then_wanted (pattern w) (BehindFirstInPattern ∷ [])

abbrev pub behind_first_in_pattern : Word → Option Turn
behind_first_in_pattern word.CloseCurly = own []
behind_first_in_pattern word.Comma = own (Pattern ∷ MorePatterns ∷ CloseCurly ∷ [])
behind_first_in_pattern word.MapsTo = own (Pattern ∷ MorePatternPairs ∷ CloseCurly ∷ [])
behind_first_in_pattern _ = None

abbrev pub in_square_pattern : Word → Option Turn
in_square_pattern word.CloseSquare = own []
in_square_pattern w = then_wanted (pattern w) (MorePatterns ∷ CloseSquare ∷ [])

abbrev pub pattern_parts : Word → Option Turn
pattern_parts word.CloseRound = own []
pattern_parts w = then_wanted (pattern w) (MorePatterns ∷ CloseRound ∷ [])

abbrev pub more_patterns : Word → Option Turn
more_patterns word.Comma = own (Pattern ∷ MorePatterns ∷ [])
more_patterns _ = None

abbrev pub more_pattern_pairs : Word → Option Turn
more_pattern_pairs word.Comma = own (Pattern ∷ MapsTo ∷ Pattern ∷ MorePatternPairs ∷ [])
more_pattern_pairs _ = None
