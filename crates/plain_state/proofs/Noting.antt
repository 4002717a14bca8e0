-- A number that is noted for one variable more.
use Rattle.std.proofs.Common.{◌≡◌, ◌⊎◌, inr, ℕ, ◌+◌, ◌<◌, Bool, true, false, ◌&&◌, cond, nat_eq, List, [], ◌∷◌, ◌++◌, take, length, get_or, Option, Some, None, if◌then◌else◌, refl, sym, ap, subst, ◌∙◌, eq-eqb, eqb-true}
use Rattle.std.specs.Option.{is_some}
use Rattle.std.proofs.lemmas.List.{take_more}
use Rattle.vdm_kinds.specs.declared.member.VarRef.{VarRef}
use Rattle.run_journal.specs.declared.write.Write.{Write as Pair}
use Rattle.vdm_legal.specs.State.{is_same_variable, last_of, written_in}
use Rattle.plain_state.specs.Found.{Place, place_of, same_place}
use Rattle.plain_state.proofs.LastWrites.{written_in-last}

both : (a b : Bool) → (a && b) ≡ true → (a ≡ true) × (b ≡ true)
both true true h = (refl, refl)
both true false h = absurd (cc)
both false b h = absurd (cc)

all-three : (a b c : Bool) → a ≡ true → b ≡ true → c ≡ true → ((a && b) && c) ≡ true
all-three true true true h k l = refl
all-three true true false h k l = absurd (cc)
all-three true false c h k l = absurd (cc)
all-three false b c h k l = absurd (cc)

one-place : (object : ℕ) (var other : VarRef) → is_same_variable var other ≡ true → same_place (place_of object other) (place_of object var) ≡ true
one-place object var other h =
    let parts = both (nat_eq var.class.0 other.class.0) (nat_eq var.name.0 other.name.0) h in
    all-three (nat_eq object object) (nat_eq other.class.0 var.class.0) (nat_eq other.name.0 var.name.0) (eq-eqb object object refl)
    (eq-eqb other.class.0 var.class.0 (sym (eqb-true var.class.0 other.class.0 parts.0))) (eq-eqb other.name.0 var.name.0 (sym (eqb-true var.name.0 other.name.0 parts.1)))

module _ (number : ℕ) where
  kept : (b : Bool) (o : Option ℕ) → o ≡ Some number → cond b (Some number) o ≡ Some number
  kept true o h = refl
  kept false o h = h

  other-kept : (b : Bool) (first o : Option ℕ) → (o ≡ first) ⊎ (o ≡ Some number) → (cond b (Some number) o ≡ first) ⊎ (cond b (Some number) o ≡ Some number)
  other-kept true first o h = inr refl
  other-kept false first o h = h

module _ (number object : ℕ) (pair : Pair) (at : Place) (at_pair : at ≡ place_of object pair.var) (old now : Place → Option ℕ) (noted : (q : Place) → now q ≡ cond (same_place at q) (Some number) (old q)) where
  updates : (q : Place) → now q ≡ cond (same_place (place_of object pair.var) q) (Some number) (old q)
  updates q = noted q ∙ ap (λ p. cond (same_place p q) (Some number) (old q)) at_pair

  pub others-noted : (first : Place → Option ℕ) → ((place : Place) → (old place ≡ first place) ⊎ (old place ≡ Some number)) → (place : Place) → (now place ≡ first place) ⊎ (now place ≡ Some number)
  others-noted first h place =
      subst (λ o. (o ≡ first place) ⊎ (o ≡ Some number)) (sym (updates place)) (other-kept number (same_place (place_of object pair.var) place) (first place) (old place) (h place))

  noted-by : (var : VarRef) (same : Bool) (before : Option _) → is_same_variable var pair.var ≡ same → (is_some before ≡ true → old (place_of object var) ≡ Some number) → is_some (last_of before (if same then Some pair.value else None)) ≡ true → now (place_of object var) ≡ Some number
  noted-by var true before is h some = updates (place_of object var) ∙ ap (λ b. cond b (Some number) (old (place_of object var))) (one-place object var pair.var is)
  noted-by var false before is h some = updates (place_of object var) ∙ kept number (same_place (place_of object pair.var) (place_of object var)) (old (place_of object var)) (h some)

  pub pair-noted : (front after : List Pair) → after ≡ front ++ pair ∷ []
      → ((var : VarRef) → is_some (written_in var front) ≡ true → old (place_of object var) ≡ Some number)
      → (var : VarRef) → is_some (written_in var after) ≡ true → now (place_of object var) ≡ Some number
  pair-noted front after is h var some =
      noted-by var (is_same_variable var pair.var) (written_in var front) refl (h var) (sym (ap is_some (ap (written_in var) is ∙ written_in-last var front pair)) ∙ some)

pub take-more : (pairs : List Pair) (i : ℕ) (pair : Pair) → i < length pairs → pair ≡ get_or pairs i pair → take (i + 1) pairs ≡ take i pairs ++ pair ∷ []
take-more pairs i pair lt is = take_more pairs i pair lt ∙ ap (λ x. take i pairs ++ x ∷ []) (sym is)
