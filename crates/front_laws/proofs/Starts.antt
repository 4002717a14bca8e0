-- Where an expression, a pattern or a type may begin, and what is wanted behind it besides.
use Rattle.std.proofs.Common.{◌≡◌, List, [], ◌∷◌, ◌++◌, Option, Some, None, refl, ap, sym, ◌∙◌, append_assoc, if◌then◌else◌}
use Rattle.std.proofs.lemmas.List.{append-nil}
use Rattle.grammar_words.specs.declared.word.Word.{Word}
use Rattle.grammar_words.specs.declared.word.Word.TheVariants as word_is
use Rattle.grammar_words.specs.Written.{Written}
use Rattle.grammar_fronts.specs.declared.wanted.Wanted.{Wanted}
use Rattle.grammar_fronts.specs.declared.wanted.Wanted.TheVariants.{
  WholeType,
  SingleType,
  BehindType,
  Pattern,
  InCurlyPattern,
  BehindFirstInPattern,
  InSquarePattern,
  PatternParts,
  MorePatterns,
  Expression,
  Parts,
  MoreExpressions,
  InCurly,
  BehindFirstInCurly,
  SecondInCurly,
  InSquare,
  BehindFirstInSquare,
  Arguments,
  BehindFirstArgument,
  SecondArgument,
  BehindCase,
  MoreCases,
  NextCase,
  CloseRound,
  CloseSquare,
  CloseCurly,
}
use Rattle.grammar_fronts.specs.Turns.{Turn, goes_on, begins, joins, adds, wanted_by, then_wanted}
use Rattle.grammar_fronts.specs.Types.{single_type}
use Rattle.grammar_fronts.specs.Patterns.{pattern, in_curly_pattern, in_square_pattern, pattern_parts}
use Rattle.grammar_fronts.specs.Operands.{expression, parts}
use Rattle.grammar_fronts.specs.Brackets.{in_curly, second_in_curly, in_square, arguments, second_argument}
use Rattle.grammar_fronts.specs.Binds.{next_case}
use Rattle.grammar_fronts.specs.Table.{turn, is_optional}
use Rattle.grammar_fronts.specs.Viable.{Met, refuses, after, meets, either, left_by}
use Rattle.front_laws.proofs.Passing.{written_word, Reads, tok}

-- a word that begins something by a table begins it there too, with more behind it
pub record Starts (table : Word → Option Turn) (next : Wanted) (more : List Wanted) : Type 0 where
  pub starts : (w : Word) (t : Turn) (behind : List Wanted) → table w ≡ Some t → after w (next ∷ behind) ≡ Some (wanted_by t ++ (more ++ behind))
  pub turns : (w : Word) (t : Turn) → table w ≡ Some t → turn next w ≡ then_wanted (Some t) more

with_other : (t : Turn) (more behind : List Wanted) (other : Met)
    → left_by (either (then_wanted (Some t) more) behind other) ≡ Some (wanted_by t ++ (more ++ behind))
with_other (goes_on parts) more behind other = ap Some (append_assoc parts more behind)
with_other (begins pull parts rest) more behind other =
    ap (λ all. Some (all ++ behind)) (sym (append_assoc parts rest more)) ∙ ap Some (append_assoc (parts ++ rest) more behind)
with_other (joins left right parts rest) more behind other =
    ap (λ all. Some (all ++ behind)) (sym (append_assoc parts rest more)) ∙ ap Some (append_assoc (parts ++ rest) more behind)
with_other (adds pull parts) more behind other = ap Some (append_assoc parts more behind)

nothing_more : (t : Turn) → then_wanted (Some t) [] ≡ Some t
nothing_more (goes_on parts) = ap (λ more. Some (goes_on more)) (append-nil parts)
nothing_more (begins pull parts behind) = ap (λ more. Some (begins pull parts more)) (append-nil behind)
nothing_more (joins left right parts behind) = ap (λ more. Some (joins left right parts more)) (append-nil behind)
nothing_more (adds pull parts) = ap (λ more. Some (adds pull more)) (append-nil parts)

-- where the table of what is wanted is that table with more behind it
follows-table : (table : Word → Option Turn) (next : Wanted) (more : List Wanted)
    → ((w : Word) (t : Turn) → table w ≡ Some t → turn next w ≡ then_wanted (Some t) more) → Starts table next more
follows-table table next more same = record {
  starts = λ w t behind begun.
      let other = (if is_optional next then meets w behind else refuses (next ∷ behind)) in
      ap (λ found. left_by (either found behind other)) (same w t begun) ∙ with_other t more behind other;
  turns = same;
}

-- a word that begins something in such a place
pub opens : {table : Word → Option Turn} {next : Wanted} {more : List Wanted} → Starts table next more → (w : Written) {t : Turn}
    {a : List Written} {behind : List Wanted} → table (written_word w) ≡ Some t → Reads a (wanted_by t ++ (more ++ behind))
    → Reads (w ∷ a) (next ∷ behind)
opens place w {t = t} {behind = behind} begun others = tok w (place.starts (written_word w) t behind begun) others

-- no word both begins something and does not
no-turn : {A : Type 0} (t : Turn) → None ≡ Some t → A
no-turn t is = absurd (cc)

in_curly-begins : (w : Word) (t : Turn) → expression w ≡ Some t → in_curly w ≡ then_wanted (expression w) (BehindFirstInCurly ∷ [])
in_curly-begins word_is.CloseCurly t is = no-turn t is
in_curly-begins word_is.MapsTo t is = no-turn t is
in_curly-begins _ t is = refl

pub at_in_curly : Starts expression InCurly (BehindFirstInCurly ∷ [])
at_in_curly = follows-table expression InCurly (BehindFirstInCurly ∷ []) (λ w t is. in_curly-begins w t is ∙ ap (λ found. then_wanted found (BehindFirstInCurly ∷ [])) is)

second_in_curly-begins : (w : Word) (t : Turn) → expression w ≡ Some t → second_in_curly w ≡ then_wanted (expression w) (MoreExpressions ∷ CloseCurly ∷ [])
second_in_curly-begins word_is.Dots t is = no-turn t is
second_in_curly-begins _ t is = refl

pub at_second_in_curly : Starts expression SecondInCurly (MoreExpressions ∷ CloseCurly ∷ [])
at_second_in_curly = follows-table expression SecondInCurly (MoreExpressions ∷ CloseCurly ∷ []) (λ w t is. second_in_curly-begins w t is ∙ ap (λ found. then_wanted found (MoreExpressions ∷ CloseCurly ∷ [])) is)

in_square-begins : (w : Word) (t : Turn) → expression w ≡ Some t → in_square w ≡ then_wanted (expression w) (BehindFirstInSquare ∷ [])
in_square-begins word_is.CloseSquare t is = no-turn t is
in_square-begins _ t is = refl

pub at_in_square : Starts expression InSquare (BehindFirstInSquare ∷ [])
at_in_square = follows-table expression InSquare (BehindFirstInSquare ∷ []) (λ w t is. in_square-begins w t is ∙ ap (λ found. then_wanted found (BehindFirstInSquare ∷ [])) is)

arguments-begins : (w : Word) (t : Turn) → expression w ≡ Some t → arguments w ≡ then_wanted (expression w) (BehindFirstArgument ∷ [])
arguments-begins word_is.CloseRound t is = no-turn t is
arguments-begins _ t is = refl

pub at_arguments : Starts expression Arguments (BehindFirstArgument ∷ [])
at_arguments = follows-table expression Arguments (BehindFirstArgument ∷ []) (λ w t is. arguments-begins w t is ∙ ap (λ found. then_wanted found (BehindFirstArgument ∷ [])) is)

second_argument-begins : (w : Word) (t : Turn) → expression w ≡ Some t → second_argument w ≡ then_wanted (expression w) (MoreExpressions ∷ CloseRound ∷ [])
second_argument-begins word_is.Dots t is = no-turn t is
second_argument-begins _ t is = refl

pub at_second_argument : Starts expression SecondArgument (MoreExpressions ∷ CloseRound ∷ [])
at_second_argument = follows-table expression SecondArgument (MoreExpressions ∷ CloseRound ∷ []) (λ w t is. second_argument-begins w t is ∙ ap (λ found. then_wanted found (MoreExpressions ∷ CloseRound ∷ [])) is)

parts-begins : (w : Word) (t : Turn) → expression w ≡ Some t → parts w ≡ then_wanted (expression w) (MoreExpressions ∷ CloseRound ∷ [])
parts-begins word_is.CloseRound t is = no-turn t is
parts-begins _ t is = refl

pub at_parts : Starts expression Parts (MoreExpressions ∷ CloseRound ∷ [])
at_parts = follows-table expression Parts (MoreExpressions ∷ CloseRound ∷ []) (λ w t is. parts-begins w t is ∙ ap (λ found. then_wanted found (MoreExpressions ∷ CloseRound ∷ [])) is)

in_curly_pattern-begins : (w : Word) (t : Turn) → pattern w ≡ Some t → in_curly_pattern w ≡ then_wanted (pattern w) (BehindFirstInPattern ∷ [])
in_curly_pattern-begins word_is.CloseCurly t is = no-turn t is
in_curly_pattern-begins word_is.MapsTo t is = no-turn t is
in_curly_pattern-begins _ t is = refl

pub at_in_curly_pattern : Starts pattern InCurlyPattern (BehindFirstInPattern ∷ [])
at_in_curly_pattern = follows-table pattern InCurlyPattern (BehindFirstInPattern ∷ []) (λ w t is. in_curly_pattern-begins w t is ∙ ap (λ found. then_wanted found (BehindFirstInPattern ∷ [])) is)

in_square_pattern-begins : (w : Word) (t : Turn) → pattern w ≡ Some t → in_square_pattern w ≡ then_wanted (pattern w) (MorePatterns ∷ CloseSquare ∷ [])
in_square_pattern-begins word_is.CloseSquare t is = no-turn t is
in_square_pattern-begins _ t is = refl

pub at_in_square_pattern : Starts pattern InSquarePattern (MorePatterns ∷ CloseSquare ∷ [])
at_in_square_pattern = follows-table pattern InSquarePattern (MorePatterns ∷ CloseSquare ∷ []) (λ w t is. in_square_pattern-begins w t is ∙ ap (λ found. then_wanted found (MorePatterns ∷ CloseSquare ∷ [])) is)

pattern_parts-begins : (w : Word) (t : Turn) → pattern w ≡ Some t → pattern_parts w ≡ then_wanted (pattern w) (MorePatterns ∷ CloseRound ∷ [])
pattern_parts-begins word_is.CloseRound t is = no-turn t is
pattern_parts-begins _ t is = refl

pub at_pattern_parts : Starts pattern PatternParts (MorePatterns ∷ CloseRound ∷ [])
at_pattern_parts = follows-table pattern PatternParts (MorePatterns ∷ CloseRound ∷ []) (λ w t is. pattern_parts-begins w t is ∙ ap (λ found. then_wanted found (MorePatterns ∷ CloseRound ∷ [])) is)

next_case-begins : (w : Word) (t : Turn) → pattern w ≡ Some t → next_case w ≡ then_wanted (pattern w) (BehindCase ∷ MoreCases ∷ [])
next_case-begins word_is.Others t is = no-turn t is
next_case-begins _ t is = refl

pub at_next_case : Starts pattern NextCase (BehindCase ∷ MoreCases ∷ [])
at_next_case = follows-table pattern NextCase (BehindCase ∷ MoreCases ∷ []) (λ w t is. next_case-begins w t is ∙ ap (λ found. then_wanted found (BehindCase ∷ MoreCases ∷ [])) is)

pub at_expression : Starts expression Expression []
at_expression = record {
  starts = λ w t behind is. ap (λ found. left_by (either found behind (refuses (Expression ∷ behind)))) is;
  turns = λ w t is. is ∙ sym (nothing_more t);
}

pub at_pattern : Starts pattern Pattern []
at_pattern = record {
  starts = λ w t behind is. ap (λ found. left_by (either found behind (refuses (Pattern ∷ behind)))) is;
  turns = λ w t is. is ∙ sym (nothing_more t);
}

pub at_single_type : Starts single_type SingleType []
at_single_type = record {
  starts = λ w t behind is. ap (λ found. left_by (either found behind (refuses (SingleType ∷ behind)))) is;
  turns = λ w t is. is ∙ sym (nothing_more t);
}

pub at_whole_type : Starts single_type WholeType (BehindType ∷ [])
at_whole_type = follows-table single_type WholeType (BehindType ∷ []) (λ w t is. ap (λ found. then_wanted found (BehindType ∷ [])) is)
