-- The test whether one key has two values.
use Rattle.std.proofs.Common.{◌≡◌, Bool, true, false, not, ◌&&◌, ◌||◌, List, [], ◌∷◌, refl, ap, sym, ◌∙◌, subst, inl, inr, true≢false, Contains}
use Rattle.std.specs.List.{list_any}
use Rattle.abstract_syntax.specs.ValueCode.{value_code}
use Rattle.abstract_syntax.specs.SameBy.{same_by-decides}
use Rattle.abstract_syntax.specs.ValueSets.{Entry, HasConflict}
use Rattle.abstract_syntax.proofs.RisingLaws.{In, in_from_contains, contains_from_in}
use Rattle.value_operators.specs.Numbers.{is_same}
use Rattle.value_operators.specs.Maps.{differs, is_in_conflict}

module _ {X : Type 0} where
  pub any_in : (p : X → Bool) (xs : List X) (x : X) → In xs x → p x ≡ true → list_any p xs ≡ true
  any_in p [] x i e = absurd i
  any_in p (y ∷ ys) x (inl s) e = ap (λ r. r || list_any p ys) (ap p s ∙ e)
  any_in p (y ∷ ys) x (inr i) e = by (p y) (any_in p ys x i e)
    where
      by : (r : Bool) → list_any p ys ≡ true → r || list_any p ys ≡ true
      by true h = refl
      by false h = h

  pub from_any : (p : X → Bool) (xs : List X) → list_any p xs ≡ true → (x : X) × In xs x × (p x ≡ true)
  from_any p [] e = absurd (true≢false (sym e))
  from_any p (y ∷ ys) e = by (from_any p ys) (p y) refl e
    where
      by : (list_any p ys ≡ true → (x : X) × In ys x × (p x ≡ true)) → (r : Bool) → p y ≡ r → r || list_any p ys ≡ true → (x : X) × In (y ∷ ys) x × (p x ≡ true)
      by f true s h = (y, inl refl, s)
      by f false s h = let found = f h in (found.0, inr found.1, found.2)

both_true : (p q : Bool) → p && q ≡ true → (p ≡ true) × (q ≡ true)
both_true true q e = (refl, e)
both_true false q e = absurd (true≢false (sym e))

not_true : (p : Bool) → not p ≡ true → p ≡ true → ⊥
not_true true e h = true≢false (sym e)
not_true false e h = true≢false (sym h)

-- from a test that is true
conflict_from : (ps : List Entry) → is_in_conflict ps ≡ true → HasConflict ps
conflict_from ps e =
    let one = from_any (λ p. list_any (differs p) ps) ps e in
    let two = from_any (differs one.0) ps one.2 in
    let parts = both_true (is_same one.0.0 two.0.0) (not (is_same one.0.1 two.0.1)) two.2 in
    let level : one.0.0 ≡ two.0.0 = (same_by-decides value_code one.0.0 two.0.0).0 parts.0 in
    record {
      key = one.0.0;
      value = one.0.1;
      other = two.0.1;
      first = contains_from_in ps one.0 one.1;
      second = subst (λ k. Contains ps (k, two.0.1)) (sym level) (contains_from_in ps two.0 two.1);
      differ = λ same. not_true (is_same one.0.1 two.0.1) parts.1 ((same_by-decides value_code one.0.1 two.0.1).1 same);
    }

false_not : (p : Bool) → (p ≡ true → ⊥) → not p ≡ true
false_not true f = absurd (f refl)
false_not false f = refl

conflict_to : (ps : List Entry) → HasConflict ps → is_in_conflict ps ≡ true
conflict_to ps h =
    any_in (λ p. list_any (differs p) ps) ps (h.key, h.value) (in_from_contains ps (h.key, h.value) h.first)
    (any_in (differs (h.key, h.value)) ps (h.key, h.other) (in_from_contains ps (h.key, h.other) h.second)
    (ap (λ r. r && not (is_same h.value h.other)) ((same_by-decides value_code h.key h.key).1 refl)
    ∙ false_not (is_same h.value h.other) (λ e. h.differ ((same_by-decides value_code h.value h.other).0 e))))

pub record Decided (ps : List Entry) : Type 0 where
  pub some : HasConflict ps → is_in_conflict ps ≡ true
  pub none : (HasConflict ps → ⊥) → is_in_conflict ps ≡ false

pub conflict_decided : (ps : List Entry) → Decided ps
conflict_decided ps = record {
  some = conflict_to ps;
  none = λ f. by (is_in_conflict ps) refl f;
}
  where
    by : (r : Bool) → is_in_conflict ps ≡ r → (HasConflict ps → ⊥) → r ≡ false
    by true e f = absurd (f (conflict_from ps e))
    by false e f = refl
