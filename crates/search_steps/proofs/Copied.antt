-- A list several times.
use Rattle.std.proofs.Common.{◌≡◌, ℕ, ◌+◌, List, [], ◌∷◌, ◌++◌, replicate, ap, sym, ◌∙◌, append_assoc}
use Rattle.std.proofs.lemmas.List.{replicate_more}

-- the last of so many comes behind one fewer
pub last_copy : {X : Type 0} (before others all : List X) (m n : ℕ) (x : X) → n ≡ m + 1 → others ≡ before ++ replicate m x → all ≡ others ++ x ∷ []
    → all ≡ before ++ replicate n x
last_copy {X} before others all m n x more so_far pushed =
    pushed
    ∙ ap (λ (xs : List X). xs ++ x ∷ []) so_far
    ∙ append_assoc before (replicate m x) (x ∷ [])
    ∙ ap (λ (xs : List X). before ++ xs) (replicate_more m x ∙ ap (λ (k : ℕ). replicate k x) (sym more))
