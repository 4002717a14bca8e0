-- What pieces of a text are made of, and which front of a text is taken.
use Rattle.std.specs.Prelude.{◌≡◌, ℕ, Bool, true, List, [], ◌∷◌, ◌++◌}
use Rattle.std.specs.List.{concat}

-- each character passes a test
abbrev pub AreAll : (ℕ → Bool) → List ℕ → Type 0
AreAll test [] = Unit {0}
AreAll test (c ∷ cs) = (test c ≡ true) × AreAll test cs

-- each piece is one
abbrev pub Each : (List ℕ → Type 0) → List (List ℕ) → Type 0
Each Is [] = Unit {0}
Each Is (piece ∷ pieces) = Is piece × Each Is pieces

-- a text of such pieces, one behind another
pub record IsMadeOf (Is : List ℕ → Type 0) (text : List ℕ) : Type 0 where
  pub pieces : List (List ℕ)
  pub is : text ≡ concat pieces
  pub each : Each Is pieces

-- no front of a text is one
abbrev pub NoFront : (List ℕ → Type 0) → List ℕ → Type 0
NoFront Is text = (piece rest : List ℕ) → text ≡ piece ++ rest → Is piece → ⊥

-- a piece is one before a rest, and no longer front of what stands there is one
pub record IsLongest (Is : List ℕ → Type 0) (piece rest : List ℕ) : Type 0 where
  pub is : Is piece
  pub longest : (more others : List ℕ) → rest ≡ more ++ others → Is (piece ++ more) → more ≡ []
