-- What a word does in binds, in `let`, `def` and `if`, and in `cases`.
use Rattle.std.specs.Prelude.{[], ◌∷◌, Option, None}
use Rattle.vdm_kinds.specs.declared.sign.Sign.TheVariants.{InSet, Equal}
use Rattle.grammar_words.specs.declared.word.Word.{Word}
use Rattle.grammar_words.specs.declared.word.Word.TheVariants as word
use Rattle.grammar_fronts.specs.declared.wanted.Wanted.TheVariants.{
  WholeType,
  Pattern,
  Expression,
  BehindBound,
  SetOfBind,
  MoreBinds,
  LocalType,
  MoreLocals,
  SuchThat,
  Otherwise,
  BehindCase,
  MoreCases,
  NextCase,
  Arrow,
  Equals,
  Then,
  In,
  St,
  End,
}
use Rattle.grammar_fronts.specs.Turns.{Turn, own, then_wanted}
use Rattle.grammar_fronts.specs.Patterns.{pattern}

-- `Bind = C(Pattern) in set Expr`; an `in` that is not before `set` is that of a bind too, and nothing goes on behind it
abbrev pub behind_bound : Word → Option Turn
behind_bound word.Comma = own (Pattern ∷ BehindBound ∷ [])
behind_bound (word.Operator InSet) = own (Expression ∷ [])
behind_bound word.In = own (SetOfBind ∷ [])
behind_bound _ = None

abbrev pub behind_only_bound : Word → Option Turn
behind_only_bound (word.Operator InSet) = own (Expression ∷ [])
behind_only_bound word.In = own (SetOfBind ∷ [])
behind_only_bound _ = None

abbrev pub more_binds : Word → Option Turn
more_binds word.Comma = own (Pattern ∷ BehindBound ∷ MoreBinds ∷ [])
more_binds _ = None

abbrev pub condition : Word → Option Turn
condition word.Ampersand = own (Expression ∷ [])
condition _ = None

-- behind the first pattern of `let C(Pattern [ ":" Type ] "=" Expr) in Expr` or of `let Bind [ be st Expr ] in Expr`
abbrev pub behind_let : Word → Option Turn
behind_let word.Colon = own (WholeType ∷ Equals ∷ Expression ∷ MoreLocals ∷ In ∷ Expression ∷ [])
behind_let (word.Operator Equal) = own (Expression ∷ MoreLocals ∷ In ∷ Expression ∷ [])
behind_let word.Comma = own (Pattern ∷ BehindBound ∷ SuchThat ∷ In ∷ Expression ∷ [])
behind_let (word.Operator InSet) = own (Expression ∷ SuchThat ∷ In ∷ Expression ∷ [])
behind_let word.In = own (SetOfBind ∷ [])
behind_let _ = None

abbrev pub local_type : Word → Option Turn
local_type word.Colon = own (WholeType ∷ [])
local_type _ = None

abbrev pub more_locals : Word → Option Turn
more_locals word.Comma = own (Pattern ∷ LocalType ∷ Equals ∷ Expression ∷ MoreLocals ∷ [])
more_locals _ = None

abbrev pub such_that : Word → Option Turn
such_that word.Be = own (St ∷ Expression ∷ [])
such_that _ = None

-- `{ elseif Expr then Expr } else Expr`
abbrev pub otherwise : Word → Option Turn
otherwise word.Elseif = own (Expression ∷ Then ∷ Expression ∷ Otherwise ∷ [])
otherwise word.Else = own (Expression ∷ [])
otherwise _ = None

-- `C( C(Pattern) "->" Expr ) [ "," others "->" Expr ] end`
abbrev pub behind_case : Word → Option Turn
behind_case word.Comma = own (Pattern ∷ BehindCase ∷ [])
behind_case word.Arrow = own (Expression ∷ [])
behind_case _ = None

abbrev pub more_cases : Word → Option Turn
more_cases word.Comma = own (NextCase ∷ [])
more_cases word.End = own []
more_cases _ = None

abbrev pub next_case : Word → Option Turn
next_case word.Others = own (Arrow ∷ Expression ∷ End ∷ [])
next_case w = then_wanted (pattern w) (BehindCase ∷ MoreCases ∷ [])
