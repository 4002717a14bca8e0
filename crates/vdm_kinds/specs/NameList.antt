-- The list of names: texts, each once. A name is the place of its text in the list.
use Rattle.std.specs.Prelude.{ℕ, List, [], ◌∷◌, ◌++◌, bytes_eq, codes, fold, if◌then◌else◌}
use Rattle.std.specs.List.{list_any, position_or_len}
use Rattle.vdm_kinds.specs.declared.name.Name.{Name}

-- the names that are there before any text
abbrev pub built_in_names : List (List ℕ)
built_in_names = codes "IO" ∷ codes "print" ∷ codes "println" ∷ []

-- the class `IO` is the first of them
abbrev pub io : Name
io = record { 0 = 0 }

-- the names with a text, which goes last where it is new
abbrev pub with_name : List (List ℕ) → List ℕ → List (List ℕ)
with_name names text = if list_any (bytes_eq text) names then names else names ++ text ∷ []

-- the names with each of the texts in turn
abbrev pub with_names : List (List ℕ) → List (List ℕ) → List (List ℕ)
with_names names texts = fold with_name names texts

-- where a text stands in the list, or its length where it does not
abbrev pub number_in : List (List ℕ) → List ℕ → ℕ
number_in names text = position_or_len (bytes_eq text) names
