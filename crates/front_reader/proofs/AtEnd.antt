-- The end of the text is no word of any tree.
use Rattle.std.proofs.Common.{◌≡◌, Bool, true, false, if◌then◌else◌, List, [], ◌∷◌, None, refl, ap, sym, subst, ◌∙◌}
use Rattle.grammar_words.specs.declared.word.Word.TheVariants.{TextEnd}
use Rattle.grammar_fronts.specs.declared.wanted.Wanted.{Wanted}
use Rattle.grammar_fronts.specs.declared.wanted.Wanted.TheVariants.{
  WholeType,
  SingleType,
  BehindType,
  Pattern,
  BehindPattern,
  InCurlyPattern,
  BehindFirstInPattern,
  InSquarePattern,
  PatternParts,
  MorePatterns,
  MorePatternPairs,
  Expression,
  BehindOperand,
  BehindName,
  BehindClass,
  Parts,
  MoreExpressions,
  InCurly,
  BehindFirstInCurly,
  SecondInCurly,
  BehindFirstPair,
  MorePairs,
  InSquare,
  BehindFirstInSquare,
  Arguments,
  BehindFirstArgument,
  SecondArgument,
  MoreChanges,
  MoreNames,
  BehindBound,
  BehindOnlyBound,
  SetOfBind,
  MoreBinds,
  Condition,
  BehindLet,
  LocalType,
  MoreLocals,
  SuchThat,
  InOfDef,
  Otherwise,
  BehindCase,
  MoreCases,
  NextCase,
  Identifier,
  Whole,
  OpenRound,
  CloseRound,
  CloseSquare,
  CloseCurly,
  Comma,
  Colon,
  MapsTo,
  Arrow,
  Ampersand,
  Equals,
  Of,
  To,
  Then,
  In,
  St,
  End,
}
use Rattle.grammar_fronts.specs.Turns.{Turn}
use Rattle.grammar_fronts.specs.Table.{turn, is_optional}
use Rattle.grammar_fronts.specs.Viable.{Met, takes, meets, needed, refuses, either}

no_turn_at_end : (wanted : Wanted) → turn wanted TextEnd ≡ None
no_turn_at_end WholeType = refl
no_turn_at_end SingleType = refl
no_turn_at_end BehindType = refl
no_turn_at_end Pattern = refl
no_turn_at_end BehindPattern = refl
no_turn_at_end InCurlyPattern = refl
no_turn_at_end BehindFirstInPattern = refl
no_turn_at_end InSquarePattern = refl
no_turn_at_end PatternParts = refl
no_turn_at_end MorePatterns = refl
no_turn_at_end MorePatternPairs = refl
no_turn_at_end Expression = refl
no_turn_at_end BehindOperand = refl
no_turn_at_end BehindName = refl
no_turn_at_end BehindClass = refl
no_turn_at_end Parts = refl
no_turn_at_end MoreExpressions = refl
no_turn_at_end InCurly = refl
no_turn_at_end BehindFirstInCurly = refl
no_turn_at_end SecondInCurly = refl
no_turn_at_end BehindFirstPair = refl
no_turn_at_end MorePairs = refl
no_turn_at_end InSquare = refl
no_turn_at_end BehindFirstInSquare = refl
no_turn_at_end Arguments = refl
no_turn_at_end BehindFirstArgument = refl
no_turn_at_end SecondArgument = refl
no_turn_at_end MoreChanges = refl
no_turn_at_end MoreNames = refl
no_turn_at_end BehindBound = refl
no_turn_at_end BehindOnlyBound = refl
no_turn_at_end SetOfBind = refl
no_turn_at_end MoreBinds = refl
no_turn_at_end Condition = refl
no_turn_at_end BehindLet = refl
no_turn_at_end LocalType = refl
no_turn_at_end MoreLocals = refl
no_turn_at_end SuchThat = refl
no_turn_at_end InOfDef = refl
no_turn_at_end Otherwise = refl
no_turn_at_end BehindCase = refl
no_turn_at_end MoreCases = refl
no_turn_at_end NextCase = refl
no_turn_at_end Identifier = refl
no_turn_at_end Whole = refl
no_turn_at_end OpenRound = refl
no_turn_at_end CloseRound = refl
no_turn_at_end CloseSquare = refl
no_turn_at_end CloseCurly = refl
no_turn_at_end Comma = refl
no_turn_at_end Colon = refl
no_turn_at_end MapsTo = refl
no_turn_at_end Arrow = refl
no_turn_at_end Ampersand = refl
no_turn_at_end Equals = refl
no_turn_at_end Of = refl
no_turn_at_end To = refl
no_turn_at_end Then = refl
no_turn_at_end In = refl
no_turn_at_end St = refl
no_turn_at_end End = refl

passed : (optional : Bool) (wanted : Wanted) (behind : List Wanted) → meets TextEnd behind ≡ refuses (needed behind)
    → (if optional then meets TextEnd behind else refuses (wanted ∷ behind)) ≡ refuses (if optional then needed behind else wanted ∷ behind)
passed true wanted behind met = met
passed false wanted behind met = refl

pub refused_at_end : (wanted : List Wanted) → meets TextEnd wanted ≡ refuses (needed wanted)
refused_at_end [] = refl
refused_at_end (wanted ∷ behind) =
    ap (λ turn. either turn behind (if is_optional wanted then meets TextEnd behind else refuses (wanted ∷ behind))) (no_turn_at_end wanted)
    ∙ passed (is_optional wanted) wanted behind (refused_at_end behind)

IsRefusal : Met → Type 0
IsRefusal (takes turn behind) = ⊥
IsRefusal (refuses wanted) = Unit {0}

pub never_taken : (wanted : List Wanted) (turn : Turn) (behind : List Wanted) → meets TextEnd wanted ≡ takes turn behind → ⊥
unfolding IsRefusal
never_taken wanted turn behind met = subst IsRefusal (sym (refused_at_end wanted) ∙ met) tt
