-- What is found of tokens, for laws that are worked out.
use Rattle.std.specs.Prelude.{ℕ, zero, suc, pos, ◌+◌, Bool, List, [], ◌∷◌, ◌++◌}
use Rattle.vdm_kinds.specs.declared.part.Part.TheVariants.{Spec}
use Rattle.vdm_kinds.specs.declared.name.Name.{Name}
use Rattle.vdm_kinds.specs.declared.place.Place.{Place}
use Rattle.grammar_words.specs.declared.word.Word.{Word}
use Rattle.grammar_words.specs.Tokens.{Token, identifier, quote, whole as whole_token, text, make_named, plain}
use Rattle.grammar_fronts.specs.declared.front.Front.{Front}
use Rattle.grammar_fronts.specs.declared.front.Front.TheVariants.{TooDeep, Reaches}
use Rattle.stmt_fronts.specs.declared.kind.Kind.{Kind}
use Rattle.stmt_fronts.specs.Fronts.{front_of}

-- a token, at whatever place
abbrev pub Shown : Type 0
Shown = Place → Token

abbrev named : ℕ → Name
named number = record { 0 = number }

-- a word, a name by its number, a whole literal, `<Red>`, `mk_T` and a string
abbrev pub w : Word → Shown
w word = plain word

abbrev pub n : ℕ → Shown
n number = identifier (named number)

abbrev pub num : ℕ → Shown
num number = whole_token (pos number)

abbrev pub quoted : ℕ → Shown
quoted number = quote (named number)

abbrev pub made : ℕ → Shown
made number = make_named (named number)

abbrev pub characters : List ℕ → Shown
characters codes = text codes

abbrev column_place : ℕ → Place
column_place column = record { part = Spec; line = 1; column = column }

-- on the first line, one a column
abbrev pub placed : ℕ → List Shown → List Token
placed column [] = []
placed column (shown ∷ others) = shown (column_place column) ∷ placed (column + 1) others

abbrev pub worked : Kind → List Shown → Front
worked kind tokens = front_of kind (placed 1 tokens)

abbrev pub reaches : ℕ → Bool → Bool → Front
reaches words whole left_out = Reaches (record { words = words; whole = whole; left_out = left_out })

abbrev pub too_deep_at : ℕ → Front
too_deep_at column = TooDeep (column_place column)

-- so often
abbrev pub repeated : ℕ → List Shown → List Shown
repeated zero tokens = []
repeated (suc k) tokens = tokens ++ repeated k tokens
