-- The values of a choice, taken from one list after the other.
use Rattle.std.proofs.Common.{◌≡◌, ℕ, ◌⊎◌, inl, inr, List, [], ◌∷◌, ◌++◌, ap, sym, ◌∙◌, append-nil, refl}
use Rattle.abstract_syntax.specs.Values.{ValueTree}
use Rattle.bind_choices.specs.Choices.{choice_at, AreIndices}

-- the values made, and those of the lists that are left, are the whole choice
pub record Picks (whole made : List ValueTree) (lists : List (List ValueTree)) (indices : List ℕ) : Type 0 where
  pub stand : AreIndices lists indices
  pub more : made ++ choice_at lists indices ≡ whole

nothing : (lists : List (List ValueTree)) → choice_at lists [] ≡ []
nothing [] = refl
nothing (vs ∷ lists) = refl

-- nothing is left of one of them
pub all_picked : (whole made : List ValueTree) (lists : List (List ValueTree)) (indices : List ℕ) → Picks whole made lists indices →
    (lists ≡ []) ⊎ (indices ≡ []) → made ≡ whole
all_picked whole made lists indices p (inl e) = sym (append-nil made) ∙ (λ k. made ++ choice_at (sym e k) indices) ∙ p.more
all_picked whole made lists indices p (inr f) =
    sym (append-nil made) ∙ ap (λ vs. made ++ vs) (sym (nothing lists)) ∙ (λ k. made ++ choice_at lists (sym f k)) ∙ p.more
