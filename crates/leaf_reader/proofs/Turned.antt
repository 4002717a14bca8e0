-- Lists that are kept in reverse, as what they are seen as.
use Rattle.std.proofs.Common.{◌≡◌, ℕ, ◌+◌, ◌-◌, List, [], ◌∷◌, ◌++◌, length, map, reverse, take, drop, refl, ap, sym, ◌∙◌, arith}
use Rattle.std.proofs.lemmas.List.{map_push, map-append, reverse-append, length-reverse, length-map, length-drop, take-append-drop, take_at, drop_at}
use Rattle.std.proofs.lemmas.Grind.{reverse_onto}

module _ {A B : Type 0} (f : A → B) where
  -- the last is the first
  pub last-first : (xs : List A) (y : A) → reverse (map f (xs ++ y ∷ [])) ≡ f y ∷ reverse (map f xs)
  last-first xs y = ap reverse (map_push f xs y) ∙ reverse-append (map f xs) (f y ∷ [])

  pub map-reverse : (xs : List A) → map f (reverse xs) ≡ reverse (map f xs)
  map-reverse [] = refl
  map-reverse (x ∷ xs) =
      ap (map f) (reverse_onto xs x []) ∙ map_push f (reverse xs) x ∙ ap (λ ys. ys ++ f x ∷ []) (map-reverse xs) ∙ sym (reverse_onto (map f xs) (f x) [])

  parted : (xs : List A) (left : ℕ) → reverse (map f xs) ≡ reverse (map f (drop left xs)) ++ reverse (map f (take left xs))
  parted xs left =
      ap (λ ys. reverse (map f ys)) (sym (take-append-drop left xs))
      ∙ ap reverse (map-append f (take left xs) (drop left xs))
      ∙ reverse-append (map f (take left xs)) (map f (drop left xs))

  so_many : (xs : List A) (left ahead : ℕ) → left + ahead ≡ length xs → length (reverse (map f (drop left xs))) ≡ ahead
  so_many xs left ahead all =
      let behind = length-drop left xs in
      let less : length xs - left ≡ ahead = omega (arith, all) in
      length-reverse (map f (drop left xs)) ∙ length-map (drop left xs) f ∙ behind ∙ less

  -- what is taken off the end is the front
  pub turned-front : (xs : List A) (left ahead : ℕ) → left + ahead ≡ length xs → map f (reverse (drop left xs)) ≡ take ahead (reverse (map f xs))
  turned-front xs left ahead all =
      map-reverse (drop left xs)
      ∙ sym (take_at (reverse (map f (drop left xs))) (reverse (map f (take left xs))) ahead (so_many xs left ahead all))
      ∙ ap (take ahead) (sym (parted xs left))

  pub turned-rest : (xs : List A) (left ahead : ℕ) → left + ahead ≡ length xs → reverse (map f (take left xs)) ≡ drop ahead (reverse (map f xs))
  turned-rest xs left ahead all =
      sym (drop_at (reverse (map f (drop left xs))) (reverse (map f (take left xs))) ahead (so_many xs left ahead all))
      ∙ ap (drop ahead) (sym (parted xs left))
