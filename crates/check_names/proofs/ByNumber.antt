-- What a name means in a class, where there may be none.
use Rattle.std.proofs.Common.{◌≡◌, ℕ, Option, Some, None, refl, ap, sym, ◌∙◌}

-- by the number of the class, where nothing is what is unknown
pub by_number : {A B : Type 0} (f : Option ℕ → B) (g : A → B) (nothing m : A) (at : ℕ → A) (o : Option ℕ) → f None ≡ g nothing
    → ((k : ℕ) → f (Some k) ≡ g (at k)) → ((k : ℕ) → o ≡ Some k → m ≡ at k) → (o ≡ None → m ≡ nothing) → f o ≡ g m
by_number f g nothing m at None e each some none = e ∙ ap g (sym (none refl))
by_number f g nothing m at (Some k) e each some none = each k ∙ ap g (sym (some k refl))
