-- What a word does within the brackets of sets, maps, sequences and applications: alternatives that begin alike are told apart by
-- what stands behind the first expression.
use Rattle.std.specs.Prelude.{List, [], ◌∷◌, Option, None}
use Rattle.grammar_words.specs.declared.word.Word.{Word}
use Rattle.grammar_words.specs.declared.word.Word.TheVariants as word
use Rattle.grammar_fronts.specs.declared.wanted.Wanted.{Wanted}
use Rattle.grammar_fronts.specs.declared.wanted.Wanted.TheVariants.{
  Pattern,
  Expression,
  MoreExpressions,
  BehindFirstInCurly,
  SecondInCurly,
  BehindFirstPair,
  MorePairs,
  BehindFirstInSquare,
  BehindFirstArgument,
  SecondArgument,
  MoreChanges,
  MoreNames,
  BehindBound,
  BehindOnlyBound,
  MoreBinds,
  Condition,
  Identifier,
  CloseRound,
  CloseSquare,
  CloseCurly,
  Comma,
  MapsTo,
}
use Rattle.grammar_fronts.specs.Turns.{Turn, own, then_wanted}
use Rattle.grammar_fronts.specs.Operands.{expression}

abbrev pub in_curly : Word → Option Turn
in_curly word.CloseCurly = own []
in_curly word.MapsTo = own (CloseCurly ∷ [])
in_curly w = then_wanted (expression w) (BehindFirstInCurly ∷ [])

-- `C(Bind) [ "&" Expr ] "}"`
abbrev pub comprehension : List Wanted
comprehension = Pattern ∷ BehindBound ∷ MoreBinds ∷ Condition ∷ CloseCurly ∷ []

abbrev pub behind_first_in_curly : Word → Option Turn
behind_first_in_curly word.CloseCurly = own []
behind_first_in_curly word.Comma = own (SecondInCurly ∷ [])
behind_first_in_curly word.Bar = own comprehension
behind_first_in_curly word.MapsTo = own (Expression ∷ BehindFirstPair ∷ [])
behind_first_in_curly _ = None

abbrev pub second_in_curly : Word → Option Turn
second_in_curly word.Dots = own (Comma ∷ Expression ∷ CloseCurly ∷ [])
second_in_curly w = then_wanted (expression w) (MoreExpressions ∷ CloseCurly ∷ [])

abbrev pub behind_first_pair : Word → Option Turn
behind_first_pair word.CloseCurly = own []
behind_first_pair word.Comma = own (Expression ∷ MapsTo ∷ Expression ∷ MorePairs ∷ CloseCurly ∷ [])
behind_first_pair word.Bar = own comprehension
behind_first_pair _ = None

abbrev pub more_pairs : Word → Option Turn
more_pairs word.Comma = own (Expression ∷ MapsTo ∷ Expression ∷ MorePairs ∷ [])
more_pairs _ = None

abbrev pub in_square : Word → Option Turn
in_square word.CloseSquare = own []
in_square w = then_wanted (expression w) (BehindFirstInSquare ∷ [])

abbrev pub behind_first_in_square : Word → Option Turn
behind_first_in_square word.CloseSquare = own []
behind_first_in_square word.Comma = own (Expression ∷ MoreExpressions ∷ CloseSquare ∷ [])
behind_first_in_square word.Bar = own (Pattern ∷ BehindOnlyBound ∷ Condition ∷ CloseSquare ∷ [])
behind_first_in_square _ = None

abbrev pub arguments : Word → Option Turn
arguments word.CloseRound = own []
arguments w = then_wanted (expression w) (BehindFirstArgument ∷ [])

abbrev pub behind_first_argument : Word → Option Turn
behind_first_argument word.CloseRound = own []
behind_first_argument word.Comma = own (SecondArgument ∷ [])
behind_first_argument _ = None

abbrev pub second_argument : Word → Option Turn
second_argument word.Dots = own (Comma ∷ Expression ∷ CloseRound ∷ [])
second_argument w = then_wanted (expression w) (MoreExpressions ∷ CloseRound ∷ [])

abbrev pub more_changes : Word → Option Turn
more_changes word.Comma = own (Identifier ∷ MapsTo ∷ Expression ∷ MoreChanges ∷ [])
more_changes _ = None

abbrev pub more_names : Word → Option Turn
more_names word.Comma = own (Identifier ∷ MoreNames ∷ [])
more_names _ = None
