-- The texts of values and of slots.
use Rattle.std.specs.Prelude.{ℕ, Bool, true, false, ◌&&◌, if◌then◌else◌, List, [], ◌∷◌, ◌++◌, codes}
use Rattle.std.specs.Fmt.{decimal, signed_decimal}
use Rattle.abstract_syntax.specs.Values.{ValueTree, nil, boolean, number, character, quote, token, tuple, record_of, sequence, set_of}
use Rattle.abstract_syntax.specs.Values.{map_of, object, ValueTrees, no_values, one_value, PairTrees, no_pairs, one_pair}
use Rattle.vdm_values.specs.declared.slot.Slot.{Slot}
use Rattle.vdm_values.specs.declared.slot.Slot.TheVariants.{Unset, Held}
use Rattle.report_texts.specs.Names.{name_text}
use Rattle.report_texts.specs.Quoted.{escaped, character_text}

-- whether values are characters alone
abbrev pub is_character : ValueTree → Bool
is_character (character c) = true
is_character _ = false

abbrev pub are_characters : ValueTrees → Bool
are_characters no_values = true
are_characters (one_value v vs) = is_character v && are_characters vs

-- whether a sequence of these is written as a string: it has characters alone, and one at least
abbrev pub is_string : ValueTrees → Bool
is_string no_values = false
is_string (one_value v vs) = is_character v && are_characters vs

-- a character within a string; another value has no text there
abbrev pub within_string : ValueTree → List ℕ
within_string (character c) = escaped 34 c
within_string _ = []

abbrev pub all_within : ValueTrees → List ℕ
all_within no_values = []
all_within (one_value v vs) = within_string v ++ all_within vs

-- as `"abc"`
abbrev pub string_text : ValueTrees → List ℕ
string_text vs = 34 ∷ all_within vs ++ 34 ∷ []

abbrev pub boolean_text : Bool → List ℕ
boolean_text true = codes "true"
boolean_text false = codes "false"

abbrev mutual
  -- the text of a value, whose names stand in the list
  pub value_text : List (List ℕ) → ValueTree → List ℕ
  value_text names nil = codes "nil"
  value_text names (boolean b) = boolean_text b
  value_text names (number n) = signed_decimal n
  value_text names (character c) = character_text c
  value_text names (quote q) = codes "<" ++ name_text names q ++ codes ">"
  value_text names (token v) = codes "mk_token(" ++ value_text names v ++ codes ")"
  value_text names (tuple vs) = codes "mk_(" ++ values_text names vs ++ codes ")"
  value_text names (record_of class name vs) =
      codes "mk_" ++ name_text names class ++ codes "`" ++ name_text names name ++ codes "(" ++ values_text names vs ++ codes ")"
  value_text names (sequence vs) = if is_string vs then string_text vs else codes "[" ++ values_text names vs ++ codes "]"
  value_text names (set_of vs) = codes "{" ++ values_text names vs ++ codes "}"
  value_text names (map_of ps) = codes "{" ++ pairs_text names ps ++ codes "}"
  value_text names (object n class) = name_text names class ++ codes "#" ++ decimal n

  -- values, with `, ` between each two
  pub values_text : List (List ℕ) → ValueTrees → List ℕ
  values_text names no_values = []
  values_text names (one_value v vs) = value_text names v ++ further_values names vs

  pub further_values : List (List ℕ) → ValueTrees → List ℕ
  further_values names no_values = []
  further_values names (one_value v vs) = codes ", " ++ value_text names v ++ further_values names vs

  -- as `1 |-> 2, 3 |-> 4`, and `|->` where there is none
  pub pairs_text : List (List ℕ) → PairTrees → List ℕ
  pairs_text names no_pairs = codes "|->"
  pairs_text names (one_pair k v ps) = value_text names k ++ codes " |-> " ++ value_text names v ++ further_pairs names ps

  pub further_pairs : List (List ℕ) → PairTrees → List ℕ
  further_pairs names no_pairs = []
  further_pairs names (one_pair k v ps) =
      codes ", " ++ value_text names k ++ codes " |-> " ++ value_text names v ++ further_pairs names ps

-- an unset slot is `?`
abbrev pub slot_text : List (List ℕ) → Slot → List ℕ
slot_text names Unset = codes "?"
slot_text names (Held v) = value_text names v

-- a value behind a space, or nothing
abbrev pub spaced_text : List (List ℕ) → Slot → List ℕ
spaced_text names Unset = []
spaced_text names (Held v) = codes " " ++ value_text names v
