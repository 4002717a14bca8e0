-- Which words may be the beginning of a type, a pattern or an expression.
use Rattle.std.specs.Prelude.{if◌then◌else◌, List, [], ◌∷◌, ◌++◌, Option, Some, None, IsSome, option_and_then}
use Rattle.grammar_words.specs.declared.word.Word.{Word}
use Rattle.grammar_fronts.specs.declared.kind.Kind.{Kind}
use Rattle.grammar_fronts.specs.declared.kind.Kind.TheVariants as kind
use Rattle.grammar_fronts.specs.declared.wanted.Wanted.{Wanted}
use Rattle.grammar_fronts.specs.declared.wanted.Wanted.TheVariants.{WholeType, Pattern, Expression}
use Rattle.grammar_fronts.specs.Turns.{Turn, wanted_by}
use Rattle.grammar_fronts.specs.Table.{turn, is_optional}

-- What a word meets: something that takes it, with what is wanted behind that; or what is wanted in its place, where nothing takes
-- it, which is nothing where all may be left out.
pub data Met : Type 0 where
  takes : Turn → List Wanted → Met
  refuses : List Wanted → Met

-- what has to come: all that is wanted but what may be left out at its beginning
abbrev pub needed : List Wanted → List Wanted
needed [] = []
needed (next ∷ behind) = if is_optional next then needed behind else next ∷ behind

abbrev pub either : Option Turn → List Wanted → Met → Met
either (Some done) behind other = takes done behind
either None behind other = other

-- a word meets the first thing wanted, or the next where that does not take it and may be left out
abbrev pub meets : Word → List Wanted → Met
meets word [] = refuses []
meets word (next ∷ behind) =
    either (turn next word) behind (if is_optional next then meets word behind else refuses (next ∷ behind))

abbrev pub left_by : Met → Option (List Wanted)
left_by (takes done behind) = Some (wanted_by done ++ behind)
left_by (refuses wanted) = None

-- what is wanted behind a word
abbrev pub after : Word → List Wanted → Option (List Wanted)
after word wanted = left_by (meets word wanted)

-- what is wanted behind words that are taken one by one
abbrev pub taken : List Word → List Wanted → Option (List Wanted)
taken [] wanted = Some wanted
taken (word ∷ words) wanted = option_and_then (taken words) (after word wanted)

abbrev pub start : Kind → List Wanted
start kind.TypeExpr = WholeType ∷ []
start kind.Pattern = Pattern ∷ []
start kind.Expr = Expression ∷ []

-- words are viable where each is taken
abbrev pub IsViable : Kind → List Word → Type 0
IsViable k words = IsSome (taken words (start k))
