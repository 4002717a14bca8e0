-- What is printed of values: characters.
use Rattle.std.specs.Prelude.{ℕ, List, [], ◌∷◌, ◌++◌, map, if◌then◌else◌}
use Rattle.std.specs.Str.{chars}
use Rattle.abstract_syntax.specs.Values.{ValueTree, character, sequence, value_list}
use Rattle.report_texts.specs.Values.{are_characters, value_text}

-- the characters of a value's text, whose names stand in the list
abbrev pub text_characters : List (List ℕ) → ValueTree → List ValueTree
text_characters names v = map character (chars (value_text names v))

-- a sequence in which all items are characters as it stands, also an empty one; of any other value its text
abbrev pub printed_value : List (List ℕ) → ValueTree → List ValueTree
printed_value names (sequence vs) = if are_characters vs then value_list vs else text_characters names (sequence vs)
printed_value names v = text_characters names v

-- values one after another
abbrev pub printed_text : List (List ℕ) → List ValueTree → List ValueTree
printed_text names [] = []
printed_text names (v ∷ vs) = printed_value names v ++ printed_text names vs
