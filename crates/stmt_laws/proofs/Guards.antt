-- A `be` goes on with no whole expression: what it begins is wanted only before an `in` that has to come.
use Rattle.std.proofs.Common.{◌≡◌, Bool, true, false, ◌&&◌, if◌then◌else◌, List, [], ◌∷◌, ◌++◌, length, Option, Some, None, refl, ap, sym, ◌∙◌, append_assoc}
use Rattle.std.specs.Option.{option_and_then}
use Rattle.vdm_kinds.specs.declared.sign.Sign.{Sign}
use Rattle.vdm_kinds.specs.declared.sign.Sign.TheVariants as sign_is
use Rattle.grammar_words.specs.declared.word.Word.{Word}
use Rattle.grammar_words.specs.declared.word.Word.TheVariants as word_is
use Rattle.grammar_words.specs.Pulls.{left_pull, right_pull, is_prefix, is_infix}
use Rattle.grammar_fronts.specs.declared.wanted.Wanted.{Wanted}
use Rattle.grammar_fronts.specs.declared.wanted.Wanted.TheVariants as want
use Rattle.grammar_fronts.specs.Turns.{Turn, goes_on, begins, joins, adds, wanted_by, then_wanted}
use Rattle.grammar_fronts.specs.Types.{single_type, whole_type, behind_type}
use Rattle.grammar_fronts.specs.Patterns.{pattern, behind_pattern, in_curly_pattern, behind_first_in_pattern, in_square_pattern, pattern_parts, more_patterns, more_pattern_pairs}
use Rattle.grammar_fronts.specs.Operands.{before_operand, between_operands, reaching, made, expression, behind_operand, behind_name, behind_class, parts, more_expressions}
use Rattle.grammar_fronts.specs.Brackets.{in_curly, behind_first_in_curly, second_in_curly, behind_first_pair, more_pairs, in_square, behind_first_in_square, arguments, behind_first_argument, second_argument, more_changes, more_names}
use Rattle.grammar_fronts.specs.Binds.{behind_bound, behind_only_bound, more_binds, condition, behind_let, local_type, more_locals, such_that, otherwise, behind_case, more_cases, next_case}
use Rattle.grammar_fronts.specs.Words.{alone}
use Rattle.grammar_fronts.specs.Table.{turn, is_optional}
use Rattle.grammar_fronts.specs.Viable.{after, taken, meets, refuses, either, left_by, needed}
use Rattle.stmt_laws.proofs.Stops.{only-optional}

-- ---- what is wanted where `be` may come has to be followed

abbrev has_to_come : List Wanted → Bool
has_to_come [] = false
has_to_come (x ∷ rest) = if is_optional x then false else true

abbrev guards : Wanted → List Wanted → Bool
guards want.SuchThat rest = has_to_come rest
guards _ rest = true

abbrev pub guarded : List Wanted → Bool
guarded [] = true
guarded (x ∷ rest) = guards x rest && guarded rest

abbrev guarded_turn : Option Turn → Bool
guarded_turn None = true
guarded_turn (Some t) = guarded (wanted_by t)

two : (a b : Bool) → (a && b) ≡ true → (a ≡ true) × (b ≡ true)
two true true e = (refl, refl)
two true false e = absurd (cc)
two false b e = absurd (cc)

one : (a b : Bool) → a ≡ true → b ≡ true → (a && b) ≡ true
one true true d e = refl
one true false d e = absurd (cc)
one false b d e = absurd (cc)

come-append : (a b : List Wanted) → has_to_come a ≡ true → has_to_come (a ++ b) ≡ true
come-append [] b e = absurd (cc)
come-append (x ∷ a) b e = e

guards-append : (x : Wanted) (a b : List Wanted) → guards x a ≡ true → guards x (a ++ b) ≡ true
guards-append want.SuchThat a b e = come-append a b e
guards-append _ a b e = refl

guarded-append : (a b : List Wanted) → guarded a ≡ true → guarded b ≡ true → guarded (a ++ b) ≡ true
guarded-append [] b e f = f
guarded-append (x ∷ a) b e f =
    let k = two (guards x a) (guarded a) e in
    one (guards x (a ++ b)) (guarded (a ++ b)) (guards-append x a b k.0) (guarded-append a b k.1 f)

then-guarded : (t : Option Turn) (more : List Wanted) → guarded_turn t ≡ true → guarded more ≡ true → guarded_turn (then_wanted t more) ≡ true
then-guarded None more e f = refl
then-guarded (Some (goes_on parts)) more e f = guarded-append parts more e f
then-guarded (Some (begins pull parts behind)) more e f =
    ap guarded (sym (append_assoc parts behind more)) ∙ guarded-append (parts ++ behind) more e f
then-guarded (Some (joins left right parts behind)) more e f =
    ap guarded (sym (append_assoc parts behind more)) ∙ guarded-append (parts ++ behind) more e f
then-guarded (Some (adds pull parts)) more e f = guarded-append parts more e f

-- ---- each table

either-guarded : (b : Bool) (t : Turn) → guarded (wanted_by t) ≡ true → guarded_turn (if b then Some t else None) ≡ true
either-guarded true t e = e
either-guarded false t e = refl

before_operand-guarded : (sign : Sign) → guarded_turn (before_operand sign) ≡ true
before_operand-guarded sign_is.Plus = refl
before_operand-guarded sign_is.Minus = refl
before_operand-guarded sign_is.Positive = refl
before_operand-guarded sign_is.Negative = refl
before_operand-guarded sign = either-guarded (is_prefix sign) (begins (right_pull sign) (want.Expression ∷ []) []) refl

between-guarded : (sign : Sign) → guarded_turn (between_operands sign) ≡ true
between-guarded sign = either-guarded (is_infix sign) (joins (left_pull sign) (right_pull sign) (want.Expression ∷ []) []) refl

single_type-guarded : (w : Word) → guarded_turn (single_type w) ≡ true
single_type-guarded (word_is.Basic basic) = refl
single_type-guarded word_is.Quote = refl
single_type-guarded word_is.Set = refl
single_type-guarded word_is.Seq = refl
single_type-guarded word_is.Seq1 = refl
single_type-guarded word_is.Map = refl
single_type-guarded word_is.InMap = refl
single_type-guarded word_is.OpenSquare = refl
single_type-guarded word_is.OpenRound = refl
single_type-guarded word_is.Identifier = refl
single_type-guarded _ = refl

whole_type-guarded : (w : Word) → guarded_turn (whole_type w) ≡ true
whole_type-guarded w = then-guarded (single_type w) (want.BehindType ∷ []) (single_type-guarded w) refl

behind_type-guarded : (w : Word) → guarded_turn (behind_type w) ≡ true
behind_type-guarded word_is.Bar = refl
behind_type-guarded (word_is.Operator sign_is.Times) = refl
behind_type-guarded _ = refl

pattern-guarded : (w : Word) → guarded_turn (pattern w) ≡ true
pattern-guarded (word_is.Operator sign_is.Minus) = refl
pattern-guarded word_is.Identifier = refl
pattern-guarded word_is.Whole = refl
pattern-guarded word_is.Character = refl
pattern-guarded word_is.Text = refl
pattern-guarded word_is.Quote = refl
pattern-guarded word_is.True = refl
pattern-guarded word_is.False = refl
pattern-guarded word_is.Nil = refl
pattern-guarded word_is.OpenRound = refl
pattern-guarded word_is.OpenCurly = refl
pattern-guarded word_is.OpenSquare = refl
pattern-guarded word_is.MakeTuple = refl
pattern-guarded word_is.MakeNamed = refl
pattern-guarded _ = refl

behind_pattern-guarded : (w : Word) → guarded_turn (behind_pattern w) ≡ true
behind_pattern-guarded (word_is.Operator sign_is.Concatenation) = refl
behind_pattern-guarded _ = refl

in_curly_pattern-guarded : (w : Word) → guarded_turn (in_curly_pattern w) ≡ true
in_curly_pattern-guarded word_is.CloseCurly = refl
in_curly_pattern-guarded word_is.MapsTo = refl
in_curly_pattern-guarded w = then-guarded (pattern w) (want.BehindFirstInPattern ∷ []) (pattern-guarded w) refl

behind_first_in_pattern-guarded : (w : Word) → guarded_turn (behind_first_in_pattern w) ≡ true
behind_first_in_pattern-guarded word_is.CloseCurly = refl
behind_first_in_pattern-guarded word_is.Comma = refl
behind_first_in_pattern-guarded word_is.MapsTo = refl
behind_first_in_pattern-guarded _ = refl

in_square_pattern-guarded : (w : Word) → guarded_turn (in_square_pattern w) ≡ true
in_square_pattern-guarded word_is.CloseSquare = refl
in_square_pattern-guarded w = then-guarded (pattern w) (want.MorePatterns ∷ want.CloseSquare ∷ []) (pattern-guarded w) refl

pattern_parts-guarded : (w : Word) → guarded_turn (pattern_parts w) ≡ true
pattern_parts-guarded word_is.CloseRound = refl
pattern_parts-guarded w = then-guarded (pattern w) (want.MorePatterns ∷ want.CloseRound ∷ []) (pattern-guarded w) refl

more_patterns-guarded : (w : Word) → guarded_turn (more_patterns w) ≡ true
more_patterns-guarded word_is.Comma = refl
more_patterns-guarded _ = refl

more_pattern_pairs-guarded : (w : Word) → guarded_turn (more_pattern_pairs w) ≡ true
more_pattern_pairs-guarded word_is.Comma = refl
more_pattern_pairs-guarded _ = refl

reaching-guarded : (w : Word) → guarded_turn (reaching w) ≡ true
reaching-guarded word_is.Let = refl
reaching-guarded word_is.Def = refl
reaching-guarded word_is.If = refl
reaching-guarded word_is.Cases = refl
reaching-guarded word_is.Forall = refl
reaching-guarded word_is.Exists = refl
reaching-guarded word_is.ExistsOne = refl
reaching-guarded word_is.Iota = refl
reaching-guarded _ = refl

made-guarded : (w : Word) → guarded_turn (made w) ≡ true
made-guarded word_is.MakeTuple = refl
made-guarded word_is.MakeToken = refl
made-guarded word_is.MakeNamed = refl
made-guarded word_is.IsType = refl
made-guarded word_is.IsNamed = refl
made-guarded (word_is.IsBasic basic) = refl
made-guarded word_is.Modify = refl
made-guarded word_is.New = refl
made-guarded word_is.IsOfClass = refl
made-guarded word_is.IsOfBaseClass = refl
made-guarded word_is.SameClass = refl
made-guarded word_is.SameBaseClass = refl
made-guarded (word_is.Counter counter) = refl
made-guarded w = reaching-guarded w

expression-guarded : (w : Word) → guarded_turn (expression w) ≡ true
expression-guarded (word_is.Operator sign) = before_operand-guarded sign
expression-guarded word_is.Whole = refl
expression-guarded word_is.Character = refl
expression-guarded word_is.Text = refl
expression-guarded word_is.Quote = refl
expression-guarded word_is.True = refl
expression-guarded word_is.False = refl
expression-guarded word_is.Nil = refl
expression-guarded word_is.Identifier = refl
expression-guarded word_is.SelfWord = refl
expression-guarded word_is.Time = refl
expression-guarded word_is.Undefined = refl
expression-guarded word_is.Result = refl
expression-guarded word_is.OpenRound = refl
expression-guarded word_is.OpenCurly = refl
expression-guarded word_is.OpenSquare = refl
expression-guarded w = made-guarded w

behind_operand-guarded : (w : Word) → guarded_turn (behind_operand w) ≡ true
behind_operand-guarded (word_is.Operator sign) = between-guarded sign
behind_operand-guarded word_is.OpenRound = refl
behind_operand-guarded word_is.Dot = refl
behind_operand-guarded word_is.DotNumber = refl
behind_operand-guarded _ = refl

behind_name-guarded : (w : Word) → guarded_turn (behind_name w) ≡ true
behind_name-guarded word_is.Backquote = refl
behind_name-guarded word_is.Tilde = refl
behind_name-guarded _ = refl

behind_class-guarded : (w : Word) → guarded_turn (behind_class w) ≡ true
behind_class-guarded word_is.Backquote = refl
behind_class-guarded _ = refl

parts-guarded : (w : Word) → guarded_turn (parts w) ≡ true
parts-guarded word_is.CloseRound = refl
parts-guarded w = then-guarded (expression w) (want.MoreExpressions ∷ want.CloseRound ∷ []) (expression-guarded w) refl

more_expressions-guarded : (w : Word) → guarded_turn (more_expressions w) ≡ true
more_expressions-guarded word_is.Comma = refl
more_expressions-guarded _ = refl

in_curly-guarded : (w : Word) → guarded_turn (in_curly w) ≡ true
in_curly-guarded word_is.CloseCurly = refl
in_curly-guarded word_is.MapsTo = refl
in_curly-guarded w = then-guarded (expression w) (want.BehindFirstInCurly ∷ []) (expression-guarded w) refl

behind_first_in_curly-guarded : (w : Word) → guarded_turn (behind_first_in_curly w) ≡ true
behind_first_in_curly-guarded word_is.CloseCurly = refl
behind_first_in_curly-guarded word_is.Comma = refl
behind_first_in_curly-guarded word_is.Bar = refl
behind_first_in_curly-guarded word_is.MapsTo = refl
behind_first_in_curly-guarded _ = refl

second_in_curly-guarded : (w : Word) → guarded_turn (second_in_curly w) ≡ true
second_in_curly-guarded word_is.Dots = refl
second_in_curly-guarded w = then-guarded (expression w) (want.MoreExpressions ∷ want.CloseCurly ∷ []) (expression-guarded w) refl

behind_first_pair-guarded : (w : Word) → guarded_turn (behind_first_pair w) ≡ true
behind_first_pair-guarded word_is.CloseCurly = refl
behind_first_pair-guarded word_is.Comma = refl
behind_first_pair-guarded word_is.Bar = refl
behind_first_pair-guarded _ = refl

more_pairs-guarded : (w : Word) → guarded_turn (more_pairs w) ≡ true
more_pairs-guarded word_is.Comma = refl
more_pairs-guarded _ = refl

in_square-guarded : (w : Word) → guarded_turn (in_square w) ≡ true
in_square-guarded word_is.CloseSquare = refl
in_square-guarded w = then-guarded (expression w) (want.BehindFirstInSquare ∷ []) (expression-guarded w) refl

behind_first_in_square-guarded : (w : Word) → guarded_turn (behind_first_in_square w) ≡ true
behind_first_in_square-guarded word_is.CloseSquare = refl
behind_first_in_square-guarded word_is.Comma = refl
behind_first_in_square-guarded word_is.Bar = refl
behind_first_in_square-guarded _ = refl

arguments-guarded : (w : Word) → guarded_turn (arguments w) ≡ true
arguments-guarded word_is.CloseRound = refl
arguments-guarded w = then-guarded (expression w) (want.BehindFirstArgument ∷ []) (expression-guarded w) refl

behind_first_argument-guarded : (w : Word) → guarded_turn (behind_first_argument w) ≡ true
behind_first_argument-guarded word_is.CloseRound = refl
behind_first_argument-guarded word_is.Comma = refl
behind_first_argument-guarded _ = refl

second_argument-guarded : (w : Word) → guarded_turn (second_argument w) ≡ true
second_argument-guarded word_is.Dots = refl
second_argument-guarded w = then-guarded (expression w) (want.MoreExpressions ∷ want.CloseRound ∷ []) (expression-guarded w) refl

more_changes-guarded : (w : Word) → guarded_turn (more_changes w) ≡ true
more_changes-guarded word_is.Comma = refl
more_changes-guarded _ = refl

more_names-guarded : (w : Word) → guarded_turn (more_names w) ≡ true
more_names-guarded word_is.Comma = refl
more_names-guarded _ = refl

behind_bound-guarded : (w : Word) → guarded_turn (behind_bound w) ≡ true
behind_bound-guarded word_is.Comma = refl
behind_bound-guarded (word_is.Operator sign_is.InSet) = refl
behind_bound-guarded word_is.In = refl
behind_bound-guarded _ = refl

behind_only_bound-guarded : (w : Word) → guarded_turn (behind_only_bound w) ≡ true
behind_only_bound-guarded (word_is.Operator sign_is.InSet) = refl
behind_only_bound-guarded word_is.In = refl
behind_only_bound-guarded _ = refl

more_binds-guarded : (w : Word) → guarded_turn (more_binds w) ≡ true
more_binds-guarded word_is.Comma = refl
more_binds-guarded _ = refl

condition-guarded : (w : Word) → guarded_turn (condition w) ≡ true
condition-guarded word_is.Ampersand = refl
condition-guarded _ = refl

behind_let-guarded : (w : Word) → guarded_turn (behind_let w) ≡ true
behind_let-guarded word_is.Colon = refl
behind_let-guarded (word_is.Operator sign_is.Equal) = refl
behind_let-guarded word_is.Comma = refl
behind_let-guarded (word_is.Operator sign_is.InSet) = refl
behind_let-guarded word_is.In = refl
behind_let-guarded _ = refl

local_type-guarded : (w : Word) → guarded_turn (local_type w) ≡ true
local_type-guarded word_is.Colon = refl
local_type-guarded _ = refl

more_locals-guarded : (w : Word) → guarded_turn (more_locals w) ≡ true
more_locals-guarded word_is.Comma = refl
more_locals-guarded _ = refl

such_that-guarded : (w : Word) → guarded_turn (such_that w) ≡ true
such_that-guarded word_is.Be = refl
such_that-guarded _ = refl

otherwise-guarded : (w : Word) → guarded_turn (otherwise w) ≡ true
otherwise-guarded word_is.Elseif = refl
otherwise-guarded word_is.Else = refl
otherwise-guarded _ = refl

behind_case-guarded : (w : Word) → guarded_turn (behind_case w) ≡ true
behind_case-guarded word_is.Comma = refl
behind_case-guarded word_is.Arrow = refl
behind_case-guarded _ = refl

more_cases-guarded : (w : Word) → guarded_turn (more_cases w) ≡ true
more_cases-guarded word_is.Comma = refl
more_cases-guarded word_is.End = refl
more_cases-guarded _ = refl

next_case-guarded : (w : Word) → guarded_turn (next_case w) ≡ true
next_case-guarded word_is.Others = refl
next_case-guarded w = then-guarded (pattern w) (want.BehindCase ∷ want.MoreCases ∷ []) (pattern-guarded w) refl

alone-guarded : (x : Wanted) (w : Word) → guarded_turn (alone x w) ≡ true
alone-guarded want.Identifier word_is.Identifier = refl
alone-guarded want.Whole word_is.Whole = refl
alone-guarded want.OpenRound word_is.OpenRound = refl
alone-guarded want.CloseRound word_is.CloseRound = refl
alone-guarded want.CloseSquare word_is.CloseSquare = refl
alone-guarded want.CloseCurly word_is.CloseCurly = refl
alone-guarded want.Comma word_is.Comma = refl
alone-guarded want.Colon word_is.Colon = refl
alone-guarded want.MapsTo word_is.MapsTo = refl
alone-guarded want.Arrow word_is.Arrow = refl
alone-guarded want.Ampersand word_is.Ampersand = refl
alone-guarded want.Of word_is.Of = refl
alone-guarded want.To word_is.To = refl
alone-guarded want.Then word_is.Then = refl
alone-guarded want.In word_is.In = refl
alone-guarded want.St word_is.St = refl
alone-guarded want.End word_is.End = refl
alone-guarded want.Equals (word_is.Operator sign_is.Equal) = refl
alone-guarded want.InOfDef word_is.In = refl
alone-guarded _ _ = refl

turn-guarded : (x : Wanted) (w : Word) → guarded_turn (turn x w) ≡ true
turn-guarded want.WholeType w = whole_type-guarded w
turn-guarded want.SingleType w = single_type-guarded w
turn-guarded want.BehindType w = behind_type-guarded w
turn-guarded want.Pattern w = pattern-guarded w
turn-guarded want.BehindPattern w = behind_pattern-guarded w
turn-guarded want.InCurlyPattern w = in_curly_pattern-guarded w
turn-guarded want.BehindFirstInPattern w = behind_first_in_pattern-guarded w
turn-guarded want.InSquarePattern w = in_square_pattern-guarded w
turn-guarded want.PatternParts w = pattern_parts-guarded w
turn-guarded want.MorePatterns w = more_patterns-guarded w
turn-guarded want.MorePatternPairs w = more_pattern_pairs-guarded w
turn-guarded want.Expression w = expression-guarded w
turn-guarded want.BehindOperand w = behind_operand-guarded w
turn-guarded want.BehindName w = behind_name-guarded w
turn-guarded want.BehindClass w = behind_class-guarded w
turn-guarded want.Parts w = parts-guarded w
turn-guarded want.MoreExpressions w = more_expressions-guarded w
turn-guarded want.InCurly w = in_curly-guarded w
turn-guarded want.BehindFirstInCurly w = behind_first_in_curly-guarded w
turn-guarded want.SecondInCurly w = second_in_curly-guarded w
turn-guarded want.BehindFirstPair w = behind_first_pair-guarded w
turn-guarded want.MorePairs w = more_pairs-guarded w
turn-guarded want.InSquare w = in_square-guarded w
turn-guarded want.BehindFirstInSquare w = behind_first_in_square-guarded w
turn-guarded want.Arguments w = arguments-guarded w
turn-guarded want.BehindFirstArgument w = behind_first_argument-guarded w
turn-guarded want.SecondArgument w = second_argument-guarded w
turn-guarded want.MoreChanges w = more_changes-guarded w
turn-guarded want.MoreNames w = more_names-guarded w
turn-guarded want.BehindBound w = behind_bound-guarded w
turn-guarded want.BehindOnlyBound w = behind_only_bound-guarded w
turn-guarded want.MoreBinds w = more_binds-guarded w
turn-guarded want.Condition w = condition-guarded w
turn-guarded want.BehindLet w = behind_let-guarded w
turn-guarded want.LocalType w = local_type-guarded w
turn-guarded want.MoreLocals w = more_locals-guarded w
turn-guarded want.SuchThat w = such_that-guarded w
turn-guarded want.Otherwise w = otherwise-guarded w
turn-guarded want.BehindCase w = behind_case-guarded w
turn-guarded want.MoreCases w = more_cases-guarded w
turn-guarded want.NextCase w = next_case-guarded w
turn-guarded x w = alone-guarded x w

-- ---- words that are taken

guarded_on : (t : Option Turn) (optional : Bool) (rest more : List Wanted) (next : Wanted) (w : Word) → guarded_turn t ≡ true → guarded rest ≡ true
    → ((found : List Wanted) → left_by (meets w rest) ≡ Some found → guarded found ≡ true)
    → left_by (either t rest (if optional then meets w rest else refuses (next ∷ rest))) ≡ Some more → guarded more ≡ true
guarded_on (Some t) optional rest more next w g h others e =
    let same : wanted_by t ++ rest ≡ more = cc in ap guarded (sym same) ∙ guarded-append (wanted_by t) rest g h
guarded_on None true rest more next w g h others e = others more e
guarded_on None false rest more next w g h others e = absurd (cc)

after-guarded : (w : Word) (wanted more : List Wanted) → guarded wanted ≡ true → after w wanted ≡ Some more → guarded more ≡ true
after-guarded w [] more g e = absurd (cc)
after-guarded w (x ∷ rest) more g e =
    let k = two (guards x rest) (guarded rest) g in
    guarded_on (turn x w) (is_optional x) rest more x w (turn-guarded x w) k.1 (λ found h. after-guarded w rest found k.1 h) e

taken_on : (words : List Word) (found : Option (List Wanted)) (behind : List Wanted)
    → ((more : List Wanted) → found ≡ Some more → taken words more ≡ Some behind → guarded behind ≡ true)
    → option_and_then (taken words) found ≡ Some behind → guarded behind ≡ true
taken_on words None behind others e = absurd (cc)
taken_on words (Some more) behind others e = others more refl e

pub taken-guarded : (words : List Word) (wanted behind : List Wanted) → guarded wanted ≡ true → taken words wanted ≡ Some behind → guarded behind ≡ true
taken-guarded [] wanted behind g e = let same : wanted ≡ behind = cc in ap guarded (sym same) ∙ g
taken-guarded (w ∷ words) wanted behind g e =
    taken_on words (after w wanted) behind (λ more h f. taken-guarded words more behind (after-guarded w wanted more g h) f) e

-- ---- a `be` behind a whole

be_here : (x : Wanted) (rest : List Wanted) → guards x rest ≡ true → is_optional x ≡ true → length (needed rest) ≡ 0 → turn x word_is.Be ≡ None
be_here want.SuchThat [] g o n = absurd (cc)
be_here want.SuchThat (y ∷ rest) g o n = absurd (not_both (is_optional y) g (only-optional (is_optional y) y rest n).0)
  where
    not_both : (b : Bool) → (if b then false else true) ≡ true → b ≡ true → ⊥
    not_both true d e = absurd (cc)
    not_both false d e = absurd (cc)
be_here _ rest g o n = refl

pub be-ends : (wanted : List Wanted) → guarded wanted ≡ true → length (needed wanted) ≡ 0 → after word_is.Be wanted ≡ None
be-ends [] g n = refl
be-ends (x ∷ rest) g n =
    let k = two (guards x rest) (guarded rest) g in
    let o = only-optional (is_optional x) x rest n in
    ap (λ t. left_by (either t rest (if is_optional x then meets word_is.Be rest else refuses (x ∷ rest)))) (be_here x rest k.0 o.0 o.1)
    ∙ ap (λ (b : Bool). left_by (if b then meets word_is.Be rest else refuses (x ∷ rest))) o.0 ∙ be-ends rest k.1 o.1
