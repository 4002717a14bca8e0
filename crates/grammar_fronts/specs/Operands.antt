-- What a word does where an expression is wanted, and behind an operand: prefix operators and primaries; infix operators and
-- postfixes.
use Rattle.std.specs.Prelude.{List, [], ◌∷◌, if◌then◌else◌, Option, Some, None}
use Rattle.vdm_kinds.specs.declared.sign.Sign.{Sign}
use Rattle.vdm_kinds.specs.declared.sign.Sign.TheVariants.{Plus, Minus, Positive, Negative}
use Rattle.grammar_words.specs.declared.word.Word.{Word}
use Rattle.grammar_words.specs.declared.word.Word.TheVariants as word
use Rattle.grammar_words.specs.Pulls.{left_pull, right_pull, postfix_pull, is_prefix, is_infix}
use Rattle.grammar_fronts.specs.declared.wanted.Wanted.{Wanted}
use Rattle.grammar_fronts.specs.declared.wanted.Wanted.TheVariants.{
  WholeType,
  Pattern,
  Expression,
  BehindOperand,
  BehindName,
  BehindClass,
  Parts,
  MoreExpressions,
  InCurly,
  InSquare,
  Arguments,
  MoreChanges,
  MoreNames,
  BehindBound,
  BehindOnlyBound,
  MoreBinds,
  BehindLet,
  InOfDef,
  Otherwise,
  BehindCase,
  MoreCases,
  Identifier,
  Whole,
  OpenRound,
  CloseRound,
  Comma,
  Colon,
  MapsTo,
  Ampersand,
  Equals,
  Then,
}
use Rattle.grammar_fronts.specs.Turns.{Turn, begins, joins, own, operand, far, then_wanted}

-- an operator before its operand
abbrev pub before : Sign → Option Turn
before sign = Some (begins (right_pull sign) (Expression ∷ []) [])

abbrev pub before_operand : Sign → Option Turn
before_operand Plus = before Positive
before_operand Minus = before Negative
before_operand Positive = None
before_operand Negative = None
before_operand sign = if is_prefix sign then before sign else None

-- what reaches as far to the right as it can; `cases` has an end of its own
abbrev pub reaching : Word → Option Turn
reaching word.Let = far (Pattern ∷ BehindLet ∷ [])
reaching word.Def = far (Pattern ∷ Equals ∷ Expression ∷ InOfDef ∷ Expression ∷ [])
reaching word.If = far (Expression ∷ Then ∷ Expression ∷ Otherwise ∷ [])
reaching word.Cases = operand (Expression ∷ Colon ∷ Pattern ∷ BehindCase ∷ MoreCases ∷ [])
reaching word.Forall = far (Pattern ∷ BehindBound ∷ MoreBinds ∷ Ampersand ∷ Expression ∷ [])
reaching word.Exists = far (Pattern ∷ BehindBound ∷ MoreBinds ∷ Ampersand ∷ Expression ∷ [])
reaching word.ExistsOne = far (Pattern ∷ BehindBound ∷ Ampersand ∷ Expression ∷ [])
reaching word.Iota = far (Pattern ∷ BehindOnlyBound ∷ Ampersand ∷ Expression ∷ [])
reaching _ = None

abbrev pub made : Word → Option Turn
-- tuples, tokens, records, tests of types
made word.MakeTuple = operand (OpenRound ∷ Expression ∷ Comma ∷ Expression ∷ MoreExpressions ∷ CloseRound ∷ [])
made word.MakeToken = operand (OpenRound ∷ Expression ∷ CloseRound ∷ [])
made word.MakeNamed = operand (BehindClass ∷ OpenRound ∷ Parts ∷ [])
made word.IsType = operand (OpenRound ∷ Expression ∷ Comma ∷ WholeType ∷ CloseRound ∷ [])
made word.IsNamed = operand (BehindClass ∷ OpenRound ∷ Expression ∷ CloseRound ∷ [])
made (word.IsBasic basic) = operand (OpenRound ∷ Expression ∷ CloseRound ∷ [])
made word.Modify =
    operand (OpenRound ∷ Expression ∷ Comma ∷ Identifier ∷ MapsTo ∷ Expression ∷ MoreChanges ∷ CloseRound ∷ [])
-- objects, and counters of their operations
made word.New = operand (Identifier ∷ OpenRound ∷ Parts ∷ [])
made word.IsOfClass = operand (OpenRound ∷ Identifier ∷ Comma ∷ Expression ∷ CloseRound ∷ [])
made word.IsOfBaseClass = operand (OpenRound ∷ Identifier ∷ Comma ∷ Expression ∷ CloseRound ∷ [])
made word.SameClass = operand (OpenRound ∷ Expression ∷ Comma ∷ Expression ∷ CloseRound ∷ [])
made word.SameBaseClass = operand (OpenRound ∷ Expression ∷ Comma ∷ Expression ∷ CloseRound ∷ [])
made (word.Counter counter) = operand (OpenRound ∷ Identifier ∷ MoreNames ∷ CloseRound ∷ [])
made w = reaching w

abbrev pub expression : Word → Option Turn
expression (word.Operator sign) = before_operand sign
-- literals, names and words that are expressions by themselves
expression word.Whole = operand []
expression word.Character = operand []
expression word.Text = operand []
expression word.Quote = operand []
expression word.True = operand []
expression word.False = operand []
expression word.Nil = operand []
expression word.Identifier = operand (BehindName ∷ [])
expression word.SelfWord = operand []
expression word.Time = operand []
expression word.Undefined = operand []
expression word.Result = operand []
-- brackets
expression word.OpenRound = operand (Expression ∷ CloseRound ∷ [])
expression word.OpenCurly = operand (InCurly ∷ [])
expression word.OpenSquare = operand (InSquare ∷ [])
expression w = made w

-- an infix operator wants an operand, with what binds it tighter
abbrev pub between_operands : Sign → Option Turn
between_operands sign = if is_infix sign then Some (joins (left_pull sign) (right_pull sign) (Expression ∷ []) []) else None

abbrev pub postfix : List Wanted → Option Turn
postfix parts = Some (joins postfix_pull 0 parts (BehindOperand ∷ []))

abbrev pub behind_operand : Word → Option Turn
behind_operand (word.Operator sign) = between_operands sign
behind_operand word.OpenRound = postfix (Arguments ∷ [])
behind_operand word.Dot = postfix (Identifier ∷ BehindClass ∷ [])
behind_operand word.DotNumber = postfix (Whole ∷ [])
behind_operand _ = None

abbrev pub behind_name : Word → Option Turn
behind_name word.Backquote = own (Identifier ∷ [])
behind_name word.Tilde = own []
behind_name _ = None

abbrev pub behind_class : Word → Option Turn
behind_class word.Backquote = own (Identifier ∷ [])
behind_class _ = None

abbrev pub parts : Word → Option Turn
parts word.CloseRound = own []
parts w = then_wanted (expression w) (MoreExpressions ∷ CloseRound ∷ [])

abbrev pub more_expressions : Word → Option Turn
more_expressions word.Comma = own (Expression ∷ MoreExpressions ∷ [])
more_expressions _ = None
