-- A text is cut into blanks, comments and tokens, up to its end or up to its first fault.
use Rattle.std.specs.Prelude.{◌≡◌, ℕ, ◌+◌, ◌-◌, ◌*◌, ◌<◌, ◌≤◌, List, [], ◌∷◌, ◌++◌, length, take, drop}
use Rattle.std.specs.Str.{IsUtf8, chars}
use Rattle.vdm_kinds.specs.declared.part.Part.{Part}
use Rattle.vdm_kinds.specs.declared.place.Place.{Place}
use Rattle.vdm_kinds.specs.declared.spec_fault.SpecFault.{SpecFault}
use Rattle.vdm_kinds.specs.declared.spec_kind.SpecKind.{SpecKind}
use Rattle.vdm_kinds.specs.declared.spec_kind.SpecKind.TheVariants.{LexFault, TooLong}
use Rattle.vdm_lexer.specs.declared.lexeme.Lexeme.{Lexeme}
use Rattle.vdm_lexer.specs.declared.lexeme.LexKind.{LexKind}
use Rattle.vdm_lexer.specs.declared.lexeme.LexKind.TheVariants.{End}
use Rattle.vdm_lexer.specs.declared.spot.Spot.{Spot}
use Rattle.vdm_lexer.specs.Decoded.{characters, good}
use Rattle.vdm_lexer.specs.Lexemes.{fault_at, lexeme_at, limit_of, mark_length}
use Rattle.vdm_lexer.specs.Spots.{start_of, after_all, bytes_of}
use Rattle.lexeme_laws.specs.Faults.{IsFault}
use Rattle.lexeme_laws.specs.Spaces.{IsSpace}
use Rattle.lexeme_laws.specs.Tokens.{IsToken}

-- a blank or a comment, or a token
pub data Piece : Type 0 where
  space : List ℕ → Piece
  token : LexKind → List ℕ → Piece

abbrev pub letters_of : Piece → List ℕ
letters_of (space letters) = letters
letters_of (token kind letters) = letters

-- the pieces put together
abbrev pub together : List Piece → List ℕ
together [] = []
together (piece ∷ pieces) = letters_of piece ++ together pieces

-- a piece stands before the rest of a text
abbrev pub Stands : Piece → List ℕ → Type 0
Stands (space letters) rest = IsSpace letters rest
Stands (token kind letters) rest = IsToken kind letters rest

-- each piece stands before all that is behind it
abbrev pub AreCut : List Piece → List ℕ → Type 0
AreCut [] rest = Unit {0}
AreCut (piece ∷ pieces) rest = Stands piece (together pieces ++ rest) × AreCut pieces rest

-- the spot behind characters
abbrev pub behind_all : Spot → List ℕ → Spot
behind_all spot text = record { offset = spot.offset + bytes_of text; place = after_all spot.place text }

-- the lexemes of pieces that begin at a spot: the tokens, each where it stands, and the end
abbrev pub lexemes_at : Spot → List Piece → List Lexeme
lexemes_at spot [] = lexeme_at End spot 0 ∷ []
lexemes_at spot (space letters ∷ pieces) = lexemes_at (behind_all spot letters) pieces
lexemes_at spot (token kind letters ∷ pieces) = lexeme_at kind spot (bytes_of letters) ∷ lexemes_at (behind_all spot letters) pieces

-- where a text begins, behind a byte-order mark if it has one; the mark has three bytes and no column
abbrev pub beginning : Part → List ℕ → Spot
beginning part text = record { offset = 3 * mark_length text; place = start_of part }

-- the lexemes of a text: it is short enough and all of it UTF-8, and its characters are cut to the end
pub record AreLexemesOf (part : Part) (text : List ℕ) (found : List Lexeme) : Type 0 where
  pub short : length text ≤ limit_of part
  pub utf8 : IsUtf8 text
  pub pieces : List Piece
  pub is : drop (mark_length (chars text)) (chars text) ≡ together pieces
  pub cut : AreCut pieces []
  pub lexemes : found ≡ lexemes_at (beginning part (chars text)) pieces

-- what stands at the first fault, where so many characters come before the first byte that is not UTF-8: a fault before that
-- byte; or else the byte, which neither a blank, a comment, a token nor a fault that stands there ends before
pub data IsStopped (good : ℕ) (text : List ℕ) (kind : SpecKind) (n : ℕ) : Type 0 where
  fault : n < good → IsFault text kind n → IsStopped good text kind n
  byte : kind ≡ LexFault → n ≡ good → good < length text
      → ((piece : Piece) (rest : List ℕ) → text ≡ letters_of piece ++ rest → Stands piece rest → good < length (letters_of piece))
      → ((other : SpecKind) (m : ℕ) → IsFault text other m → good ≤ m)
      → IsStopped good text kind n

-- pieces that end before the first byte that is not UTF-8, and a rest that none can go on with
pub record IsStoppedAt (place : Place) (good : ℕ) (text : List ℕ) (told : SpecFault) : Type 0 where
  pub pieces : List Piece
  pub rest : List ℕ
  pub is : text ≡ together pieces ++ rest
  pub cut : AreCut pieces rest
  pub within : length (together pieces) ≤ good
  pub kind : SpecKind
  pub n : ℕ
  pub stopped : IsStopped (good - length (together pieces)) rest kind n
  pub fault : told ≡ fault_at kind (after_all place (together pieces ++ take n rest))

-- the first fault of a text: it is too long, or its characters are cut up to a rest that none can go on with
pub data IsFirstFault (part : Part) (text : List ℕ) (fault : SpecFault) : Type 0 where
  long : limit_of part < length text → fault ≡ fault_at TooLong (start_of part) → IsFirstFault part text fault
  stopped : length text ≤ limit_of part
      → IsStoppedAt (start_of part) (good text - mark_length (characters text))
      (drop (mark_length (characters text)) (characters text)) fault
      → IsFirstFault part text fault
