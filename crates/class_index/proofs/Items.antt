-- Elements of lists by their numbers.
use Rattle.std.proofs.Common.{◌≡◌, ℕ, ◌+◌, ◌<◌, List, ◌∷◌, length, map, drop, get_or, Option, Some, None, option_map, slice_get, refl, ap, sym, ◌∙◌, add-one, drop-cons}
use Rattle.std.proofs.lemmas.Option.{slice_get_past, slice_get_read, slice_get-map}
use Rattle.std.specs.Borrow.{Bor}
use Rattle.std.specs.Slice.{IsItemAt}

item_at : {A : Type 0} (xs : List A) (i : ℕ) (r : Option (Bor A)) → IsItemAt xs i r → option_map (λ r. r.now) r ≡ slice_get xs i
item_at xs i None h = sym (slice_get_past xs i h.3)
item_at xs i (Some x) h = sym (slice_get_read xs (length xs) i x.now refl h.3.0 h.1)

seen_through : {A B : Type 0} (view : A → B) (r : Option (Bor A)) → option_map (λ (x : Bor A). view x.now) r ≡ option_map view (option_map (λ r. r.now) r)
seen_through view None = refl
seen_through view (Some x) = refl

-- what is found at a number, as the tree that it is
pub view_at : {A B : Type 0} (view : A → B) (xs : List A) (i : ℕ) (r : Option (Bor A)) → IsItemAt xs i r → option_map (λ (x : Bor A). view x.now) r ≡ slice_get (map view xs) i
view_at view xs i r h = seen_through view r ∙ ap (option_map view) (item_at xs i r h) ∙ sym (slice_get-map view xs i)

-- the rest, from what stands first in it
pub rest_of : {A : Type 0} (xs : List A) (i : ℕ) (d : A) → i < length xs → drop i xs ≡ get_or xs i d ∷ drop (i + 1) xs
rest_of xs i d h = rw add-one (drop-cons xs i d h)

pub rest_from : {A : Type 0} (xs : List A) (i : ℕ) (x : A) → i < length xs → x ≡ get_or xs i x → drop i xs ≡ x ∷ drop (i + 1) xs
rest_from xs i x h is = rest_of xs i x h ∙ ap (λ y. y ∷ drop (i + 1) xs) (sym is)
