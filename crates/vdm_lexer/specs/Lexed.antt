-- What a text's front adds to the lexemes, or how it is refused.
use Rattle.std.specs.Prelude.{◌≡◌, ℕ, List, [], ◌∷◌, ◌++◌, take}
use Rattle.vdm_kinds.specs.declared.spec_fault.SpecFault.{SpecFault}
use Rattle.vdm_lexer.specs.declared.front.Front.{Front}
use Rattle.vdm_lexer.specs.declared.front.Front.TheVariants.{Space, Token, Fault}
use Rattle.vdm_lexer.specs.declared.lexeme.Lexeme.{Lexeme}
use Rattle.vdm_lexer.specs.declared.spot.Spot.{Spot}
use Rattle.vdm_lexer.specs.Lexemes.{fault_at, lexeme_at, piece_bytes}
use Rattle.vdm_lexer.specs.Spots.{after_all}

-- a token goes behind the others
abbrev pub IsPushed : Front → Spot → List ℕ → List Lexeme → List Lexeme → ℕ → Type 0
IsPushed (Space n) spot text old new more = (new ≡ old) × (more ≡ n)
IsPushed (Token kind n) spot text old new more = (new ≡ old ++ lexeme_at kind spot (piece_bytes text n) ∷ []) × (more ≡ n)
IsPushed (Fault kind n) spot text old new more = ⊥

-- a fault has its place
abbrev pub IsRefused : Front → Spot → List ℕ → SpecFault → Type 0
IsRefused (Space n) spot text fault = ⊥
IsRefused (Token kind n) spot text fault = ⊥
IsRefused (Fault kind n) spot text fault = fault ≡ fault_at kind (after_all spot.place (take n text))
