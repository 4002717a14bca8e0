-- What a word does where a type, or a part of one, is wanted: `Type = Product { "|" Product }`, `Product = Single { "*" Single }`.
use Rattle.std.specs.Prelude.{ℕ, List, [], ◌∷◌, Option, None, Some}
use Rattle.vdm_kinds.specs.declared.sign.Sign.TheVariants.{Times}
use Rattle.grammar_words.specs.declared.word.Word.{Word}
use Rattle.grammar_words.specs.declared.word.Word.TheVariants as word
use Rattle.grammar_fronts.specs.declared.wanted.Wanted.{Wanted}
use Rattle.grammar_fronts.specs.declared.wanted.Wanted.TheVariants.{WholeType, SingleType, BehindType, BehindClass, Of, To, CloseSquare, CloseRound}
use Rattle.grammar_fronts.specs.Turns.{Turn, begins, adds, then_wanted}

-- the parts of a single type
abbrev pub single : List Wanted → Option Turn
single parts = Some (begins 0 parts [])

abbrev pub single_type : Word → Option Turn
single_type (word.Basic basic) = single []
single_type word.Quote = single []
single_type word.Set = single (Of ∷ SingleType ∷ [])
single_type word.Seq = single (Of ∷ SingleType ∷ [])
single_type word.Seq1 = single (Of ∷ SingleType ∷ [])
single_type word.Map = single (WholeType ∷ To ∷ SingleType ∷ [])
single_type word.InMap = single (WholeType ∷ To ∷ SingleType ∷ [])
single_type word.OpenSquare = single (WholeType ∷ CloseSquare ∷ [])
single_type word.OpenRound = single (WholeType ∷ CloseRound ∷ [])
single_type word.Identifier = single (BehindClass ∷ [])
single_type _ = None

abbrev pub whole_type : Word → Option Turn
whole_type word = then_wanted (single_type word) (BehindType ∷ [])

-- factors are nearer to each other than alternatives
abbrev pub union_pull : ℕ
union_pull = 2

abbrev pub product_pull : ℕ
product_pull = 4

abbrev pub behind_type : Word → Option Turn
behind_type word.Bar = Some (adds union_pull (WholeType ∷ []))
behind_type (word.Operator Times) = Some (adds product_pull (WholeType ∷ []))
behind_type _ = None
