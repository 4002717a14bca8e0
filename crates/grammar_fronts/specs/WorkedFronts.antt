-- What is found of words, for laws that are worked out.
use Rattle.std.specs.Prelude.{ℕ, zero, suc, ◌+◌, Bool, List, [], ◌∷◌, ◌++◌}
use Rattle.vdm_kinds.specs.declared.part.Part.TheVariants.{Expr}
use Rattle.grammar_words.specs.declared.word.PlacedWord.{PlacedWord}
use Rattle.vdm_kinds.specs.declared.sign.Sign.{Sign}
use Rattle.grammar_words.specs.declared.word.Word.{Word}
use Rattle.grammar_words.specs.declared.word.Word.TheVariants.{Whole, Operator}
use Rattle.grammar_fronts.specs.declared.front.Front.{Front}
use Rattle.grammar_fronts.specs.declared.front.Front.TheVariants.{TooDeep, Reaches}
use Rattle.grammar_fronts.specs.declared.kind.Kind.{Kind}
use Rattle.grammar_fronts.specs.Fronts.{front_of}

-- words on the first line, one a column
abbrev placed : ℕ → List Word → List PlacedWord
placed column [] = []
placed column (word ∷ words) = record { word = word; place = record { part = Expr; line = 1; column = column } } ∷ placed (column + 1) words

abbrev pub worked : Kind → List Word → Front
worked kind words = front_of kind (placed 1 words)

abbrev pub reaches : ℕ → Bool → Bool → Front
reaches words whole left_out = Reaches (record { words = words; whole = whole; left_out = left_out })

abbrev pub too_deep_at : ℕ → Front
too_deep_at column = TooDeep (record { part = Expr; line = 1; column = column })

-- words so often
abbrev pub repeated : ℕ → List Word → List Word
repeated zero words = []
repeated (suc n) words = words ++ repeated n words

-- an operand, and so often the operator and a further one
abbrev pub chain : Sign → ℕ → List Word
chain sign n = Whole ∷ repeated n (Operator sign ∷ Whole ∷ [])
