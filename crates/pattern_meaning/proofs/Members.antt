-- Membership in lists of ways and of choices.
use Rattle.std.proofs.Common.{◌≡◌, ℕ, zero, suc, ◌<◌, ◌⊎◌, inl, inr, ⊎_elim, Bool, true, false, List, [], ◌∷◌, ◌++◌, map, flat_map, length, get_or, refl, ap, sym, ◌∙◌, subst, arith, Contains, Option, Some, None}
use Rattle.std.proofs.lemmas.List.Elements.{Contains-append_left, Contains-append_right, Contains-append_cases}
use Rattle.pattern_meaning.specs.Choices.{choices, splits}
use Rattle.pattern_meaning.specs.Ways.{Way, plainly, where_true, with_parts, crossed}
use Rattle.pattern_meaning.specs.Fits.{Both, HasParts}

pub at_head : {A : Type 0} (x : A) (xs : List A) → Contains (x ∷ xs) x
at_head x xs = (zero, omega arith, refl)

pub further : {A : Type 0} (y x : A) (xs : List A) → Contains xs x → Contains (y ∷ xs) x
further y x xs h = (suc h.0, (let l : h.0 < length xs = h.1 in omega arith), h.2)

pub in_nothing : {A : Type 0} (x : A) → Contains [] x → ⊥
in_nothing x h = let l : h.0 < zero = h.1 in omega arith

by_place : {A : Type 0} (y x : A) (xs : List A) (n : ℕ) → n < length (y ∷ xs) → get_or (y ∷ xs) n x ≡ x → (x ≡ y) ⊎ Contains xs x
by_place y x xs zero h e = inl (sym e)
by_place y x xs (suc n) h e = inr (n, omega arith, e)

pub at_head_or : {A : Type 0} (y x : A) (xs : List A) → Contains (y ∷ xs) x → (x ≡ y) ⊎ Contains xs x
at_head_or y x xs h = by_place y x xs h.0 h.1 h.2

pub in_map : {A B : Type 0} (f : A → B) (xs : List A) (x : A) → Contains xs x → Contains (map f xs) (f x)
in_map f [] x h = absurd (in_nothing x h)
in_map f (y ∷ ys) x h =
    ⊎_elim (λ e. subst (λ z. Contains (map f (y ∷ ys)) (f z)) (sym e) (at_head (f y) (map f ys)))
    (λ k. further (f y) (f x) (map f ys) (in_map f ys x k)) (at_head_or y x ys h)

pub record Made {A B : Type 0} (f : A → B) (xs : List A) (y : B) : Type 0 where
  pub item : A
  pub there : Contains xs item
  pub is : y ≡ f item

pub from_map : {A B : Type 0} (f : A → B) (xs : List A) (y : B) → Contains (map f xs) y → Made f xs y
from_map f [] y h = absurd (in_nothing y h)
from_map f (x ∷ xs) y h =
    ⊎_elim (λ e. record { item = x; there = at_head x xs; is = e })
    (λ k. let m = from_map f xs y k in record { item = m.item; there = further x m.item xs m.there; is = m.is })
    (at_head_or (f x) y (map f xs) h)

pub in_flat_map : {A B : Type 0} (f : A → List B) (xs : List A) (x : A) (y : B) → Contains xs x → Contains (f x) y → Contains (flat_map f xs) y
in_flat_map f [] x y h k = absurd (in_nothing x h)
in_flat_map f (z ∷ zs) x y h k =
    ⊎_elim (λ e. Contains-append_left (f z) (flat_map f zs) y (subst (λ u. Contains (f u) y) e k))
    (λ l. Contains-append_right (f z) (flat_map f zs) y (in_flat_map f zs x y l k)) (at_head_or z x zs h)

pub record Among {A B : Type 0} (f : A → List B) (xs : List A) (y : B) : Type 0 where
  pub item : A
  pub there : Contains xs item
  pub is : Contains (f item) y

pub from_flat_map : {A B : Type 0} (f : A → List B) (xs : List A) (y : B) → Contains (flat_map f xs) y → Among f xs y
from_flat_map f [] y h = absurd (in_nothing y h)
from_flat_map f (x ∷ xs) y h =
    ⊎_elim (λ k. record { item = x; there = at_head x xs; is = k })
    (λ k. let m = from_flat_map f xs y k in record { item = m.item; there = further x m.item xs m.there; is = m.is })
    (Contains-append_cases (f x) (flat_map f xs) y h)

pub in_crossed : (ws us : List Way) (w : Way) → Both (Contains ws) (Contains us) w → Contains (crossed ws us) w
in_crossed ws us w b =
    subst (Contains (crossed ws us)) (sym b.whole)
    (in_flat_map (λ first. map (λ second. first ++ second) us) ws b.front (b.front ++ b.behind) b.first
    (in_map (λ second. b.front ++ second) us b.behind b.others))

pub from_crossed : (ws us : List Way) (w : Way) → Contains (crossed ws us) w → Both (Contains ws) (Contains us) w
from_crossed ws us w h =
    let a = from_flat_map (λ first. map (λ second. first ++ second) us) ws w h in
    let m = from_map (λ second. a.item ++ second) us w a.is in
    record { front = a.item; behind = m.item; whole = m.is; first = a.there; others = m.there }

pub in_plainly : (w : Way) → w ≡ [] → Contains plainly w
in_plainly w e = subst (Contains plainly) (sym e) (at_head [] [])

pub from_plainly : (w : Way) → Contains plainly w → w ≡ []
from_plainly w h = ⊎_elim (λ e. e) (λ k. absurd (in_nothing w k)) (at_head_or [] w [] h)

pub from_where_true : (b : Bool) (ws : List Way) (w : Way) → Contains (where_true b ws) w → (b ≡ true) × Contains ws w
from_where_true true ws w h = (refl, h)
from_where_true false ws w h = absurd (in_nothing w h)

pub in_where_true : (b : Bool) (ws : List Way) (w : Way) → b ≡ true → Contains ws w → Contains (where_true b ws) w
in_where_true b ws w e h = subst (λ c. Contains (where_true c ws) w) (sym e) h

pub from_with_parts : {A : Type 0} (o : Option A) (f : A → List Way) (w : Way) → Contains (with_parts o f) w → HasParts A o (λ parts. Contains (f parts) w)
from_with_parts None f w h = absurd (in_nothing w h)
from_with_parts (Some parts) f w h = record { those = parts; are = refl; fits = h }

pub in_with_parts : {A : Type 0} (o : Option A) (f : A → List Way) (parts : A) (w : Way) → o ≡ Some parts → Contains (f parts) w →
    Contains (with_parts o f) w
in_with_parts o f parts w e h = subst (λ p. Contains (with_parts p f) w) (sym e) h

-- an item with the others: what stands before it, and behind it
pub record Stands {A : Type 0} (xs : List A) (c : A × List A) : Type 0 where
  pub before : List A
  pub behind : List A
  pub whole : xs ≡ before ++ c.0 ∷ behind
  pub others : c.1 ≡ before ++ behind

pub from_choices : {A : Type 0} (xs : List A) (c : A × List A) → Contains (choices xs) c → Stands xs c
from_choices [] c h = absurd (in_nothing c h)
from_choices (x ∷ xs) c h =
    ⊎_elim (λ e. record { before = []; behind = xs; whole = ap (λ d. d.0 ∷ xs) (sym e); others = ap (λ d. d.1) e })
    (λ k. let m = from_map (λ d. (d.0, x ∷ d.1)) (choices xs) c k in
    let s = from_choices xs m.item m.there in
    record {
      before = x ∷ s.before;
      behind = s.behind;
      whole = ap (λ ys. x ∷ ys) s.whole ∙ ap (λ d. x ∷ (s.before ++ d.0 ∷ s.behind)) (sym m.is);
      others = ap (λ d. d.1) m.is ∙ ap (λ ys. x ∷ ys) s.others;
    })
    (at_head_or (x, xs) c (map (λ d. (d.0, x ∷ d.1)) (choices xs)) h)

pub in_choices : {A : Type 0} (before : List A) (x : A) (behind : List A) → Contains (choices (before ++ x ∷ behind)) (x, before ++ behind)
in_choices [] x behind = at_head (x, behind) (map (λ d. (d.0, x ∷ d.1)) (choices behind))
in_choices (y ∷ ys) x behind =
    further (y, ys ++ x ∷ behind) (x, y ∷ (ys ++ behind)) (map (λ d. (d.0, y ∷ d.1)) (choices (ys ++ x ∷ behind)))
    (in_map (λ d. (d.0, y ∷ d.1)) (choices (ys ++ x ∷ behind)) (x, ys ++ behind) (in_choices ys x behind))

pub from_splits : {A : Type 0} (xs : List A) (s : List A × List A) → Contains (splits xs) s → xs ≡ s.0 ++ s.1
from_splits [] s h = ⊎_elim (λ e. ap (λ d. d.0 ++ d.1) (sym e)) (λ k. absurd (in_nothing s k)) (at_head_or ([], []) s [] h)
from_splits (x ∷ xs) s h =
    ⊎_elim (λ e. ap (λ d. d.0 ++ d.1) (sym e))
    (λ k. let m = from_map (λ d. (x ∷ d.0, d.1)) (splits xs) s k in
    ap (λ ys. x ∷ ys) (from_splits xs m.item m.there) ∙ ap (λ d. d.0 ++ d.1) (sym m.is))
    (at_head_or ([], x ∷ xs) s (map (λ d. (x ∷ d.0, d.1)) (splits xs)) h)

pub in_splits : {A : Type 0} (front rest : List A) → Contains (splits (front ++ rest)) (front, rest)
in_splits [] [] = at_head ([], []) []
in_splits [] (y ∷ ys) = at_head ([], y ∷ ys) (map (λ d. (y ∷ d.0, d.1)) (splits ys))
in_splits (x ∷ xs) rest =
    further ([], x ∷ (xs ++ rest)) (x ∷ xs, rest) (map (λ d. (x ∷ d.0, d.1)) (splits (xs ++ rest)))
    (in_map (λ d. (x ∷ d.0, d.1)) (splits (xs ++ rest)) (xs, rest) (in_splits xs rest))
