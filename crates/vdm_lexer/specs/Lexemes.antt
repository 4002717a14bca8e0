-- The lexemes of a text, or its first fault.
use Rattle.std.specs.Prelude.{ℕ, zero, suc, ◌+◌, ◌-◌, ◌*◌, ◌==◌, nat_lt, if◌then◌else◌, List, [], ◌∷◌, length, drop, take, Result, Ok, Err}
use Rattle.vdm_kinds.specs.declared.part.Part.{Part}
use Rattle.vdm_kinds.specs.declared.part.Part.TheVariants.{Spec, Expr}
use Rattle.vdm_kinds.specs.declared.place.Place.{Place}
use Rattle.vdm_kinds.specs.declared.spec_fault.SpecFault.{SpecFault}
use Rattle.vdm_kinds.specs.declared.spec_kind.SpecKind.{SpecKind}
use Rattle.vdm_kinds.specs.declared.spec_kind.SpecKind.TheVariants.{TooLong}
use Rattle.vdm_lexer.specs.declared.front.Front.{Front}
use Rattle.vdm_lexer.specs.declared.front.Front.TheVariants.{Space, Token, Fault}
use Rattle.vdm_lexer.specs.declared.lexeme.Lexeme.{Lexeme}
use Rattle.vdm_lexer.specs.declared.lexeme.LexKind.{LexKind}
use Rattle.vdm_lexer.specs.declared.lexeme.LexKind.TheVariants.{End}
use Rattle.vdm_lexer.specs.declared.spot.Spot.{Spot}
use Rattle.vdm_lexer.specs.Decoded.{characters, good}
use Rattle.vdm_lexer.specs.Fronts.{front_of, front_within}
use Rattle.vdm_lexer.specs.Pieces.{first}
use Rattle.vdm_lexer.specs.Spots.{start_of, after_all, bytes_of, spot_after}

-- the lexemes of a text, or its first fault
abbrev pub Reading : Type 0
Reading = Result (List Lexeme) SpecFault

abbrev pub fault_at : SpecKind → Place → SpecFault
fault_at kind place = record { kind = kind; place = place }

-- how many bytes the first character of a text and so many more have
abbrev pub piece_bytes : List ℕ → ℕ → ℕ
piece_bytes text more = bytes_of (take 1 text) + bytes_of (take more (drop 1 text))

-- a lexeme of so many bytes at a spot
abbrev pub lexeme_at : LexKind → Spot → ℕ → Lexeme
lexeme_at kind spot bytes = record { kind = kind; start = spot.offset; end = spot.offset + bytes; place = spot.place }

-- a lexeme before others
abbrev pub before : Lexeme → Reading → Reading
before lexeme (Ok lexemes) = Ok (lexeme ∷ lexemes)
before lexeme (Err fault) = Err fault

-- what a text's front gives, before what stands behind so many more characters
abbrev pub front_before : Front → Spot → List ℕ → (ℕ → Reading) → Reading
front_before (Space more) spot text behind = behind more
front_before (Token kind more) spot text behind = before (lexeme_at kind spot (piece_bytes text more)) (behind more)
front_before (Fault kind n) spot text behind = Err (fault_at kind (after_all spot.place (take n text)))

-- the lexemes of a text that begins at a spot, behind as many characters as are skipped, where so many are good
abbrev pub lexemes_behind : ℕ → Spot → ℕ → List ℕ → Reading
lexemes_behind good spot skipped [] = Ok (lexeme_at End spot 0 ∷ [])
lexemes_behind good spot (suc skipped) (c ∷ cs) = lexemes_behind (good - 1) (spot_after spot c) skipped cs
lexemes_behind good spot zero (c ∷ cs) =
    front_before (front_within good (front_of (c ∷ cs))) spot (c ∷ cs)
    (λ (more : ℕ). lexemes_behind (good - 1) (spot_after spot c) more cs)

-- how many characters are skipped before a text: a byte-order mark (FEFF, of three bytes)
abbrev pub mark_length : List ℕ → ℕ
mark_length text = if first text == 0xfeff then 1 else 0

-- the lexemes of the characters of a text, of which so many stand before the first byte that is not UTF-8
abbrev pub lexemes_of : Part → ℕ → List ℕ → Reading
lexemes_of part good text =
    lexemes_behind (good - mark_length text) (record { offset = 3 * mark_length text; place = start_of part }) zero
    (drop (mark_length text) text)

-- how many bytes a text may have
abbrev pub limit_of : Part → ℕ
limit_of Spec = 4_194_304
limit_of Expr = 65_536

-- the lexemes of the bytes of a text
abbrev pub lexemes : Part → List ℕ → Reading
lexemes part text =
    if nat_lt (limit_of part) (length text) then Err (fault_at TooLong (start_of part))
    else lexemes_of part (good text) (characters text)
