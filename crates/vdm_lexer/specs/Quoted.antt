-- What stands between signs of its own: strings, characters, quotes.
use Rattle.std.specs.Prelude.{ℕ, ◌+◌, Bool, false, ◌&&◌, ◌==◌, not, if◌then◌else◌, List, [], ◌∷◌, drop, take, Option, Some, None}
use Rattle.std.specs.Prelude.{option_map}
use Rattle.std.specs.Option.{is_some}
use Rattle.std.specs.List.{prefix_len}
use Rattle.vdm_kinds.specs.declared.spec_kind.SpecKind.TheVariants.{LexFault}
use Rattle.vdm_lexer.specs.declared.lexeme.LexKind.TheVariants.{Character, Text}
use Rattle.vdm_lexer.specs.declared.front.Front.{Front}
use Rattle.vdm_lexer.specs.declared.front.Front.TheVariants.{Token, Fault}
use Rattle.vdm_lexer.specs.Characters.{is_letter, is_of_word}
use Rattle.vdm_lexer.specs.Escapes.{escape_length}
use Rattle.vdm_lexer.specs.Pieces.{first}

-- one more, where there is a number
abbrev pub one_more : Option ℕ → Option ℕ
one_more found = option_map (λ (n : ℕ). n + 1) found

-- whether the next character stands behind a `\` (92), by this one and whether it does
abbrev pub escapes : Bool → ℕ → Bool
escapes escaped c = not escaped && c == 92

-- how many characters stand before the closing sign; neither a `\` nor the character behind it closes
abbrev pub close_behind : ℕ → Bool → List ℕ → Option ℕ
close_behind sign escaped [] = None
close_behind sign escaped (c ∷ cs) =
    if not escaped && c == sign then Some 0
    else one_more (close_behind sign (escapes escaped c) cs)

abbrev pub close_of : ℕ → List ℕ → Option ℕ
close_of sign text = close_behind sign false text

-- how many characters stand before the first `\` that begins no escape
abbrev pub refused_behind : Bool → List ℕ → Option ℕ
refused_behind escaped [] = None
refused_behind escaped (c ∷ cs) =
    if escapes escaped c && not (is_some (escape_length cs)) then Some 0
    else one_more (refused_behind (escapes escaped c) cs)

abbrev pub refused_in : List ℕ → Option ℕ
refused_in text = refused_behind false text

-- a string with so many characters between its signs, by where its first refused escape stands
abbrev pub closed_string : ℕ → Option ℕ → Front
closed_string inside None = Token Text (inside + 1)
closed_string inside (Some refused) = Fault LexFault (refused + 1)

abbrev pub string_to : List ℕ → Option ℕ → Front
string_to behind None = Fault LexFault 0
string_to behind (Some inside) = closed_string inside (refused_in (take inside behind))

-- a string, of what stands behind its opening sign (34 is `"`)
abbrev pub string_front : List ℕ → Front
string_front behind = string_to behind (close_of 34 behind)

-- a character with so many characters between its signs (39 is `'`), of what stands behind the opening one; 1 LexFault where it is
-- not closed
abbrev pub closed_character : ℕ → List ℕ → Front
closed_character inside behind = if first (drop inside behind) == 39 then Token Character (inside + 1) else Fault LexFault 0

-- the fault of a refused escape, which a character that is not closed comes before
abbrev pub refused_character : Option ℕ → Front
refused_character None = Fault LexFault 0
refused_character (Some inside) = Fault LexFault 1

abbrev pub escaped_character : Option ℕ → List ℕ → Front
escaped_character None behind = refused_character (close_of 39 behind)
escaped_character (Some length) behind = closed_character (length + 1) behind

-- a character, of what stands behind its opening sign: one character or escape, and the closing sign
abbrev pub character_front : List ℕ → Front
character_front behind =
    if first behind == 92 then escaped_character (escape_length (drop 1 behind)) behind
    else closed_character 1 behind

-- how many characters a quote has behind its `<`: an identifier and `>` (62), with nothing between
abbrev pub quote_length : List ℕ → Option ℕ
quote_length behind =
    if is_letter (first behind) && first (drop (prefix_len is_of_word behind) behind) == 62 then Some (prefix_len is_of_word behind + 1)
    else None
