-- Flags that are taken away.
use Rattle.std.proofs.Common.{◌≡◌, ◌≢◌, ℕ, ◌<◌, ◌≤◌, Bool, true, false, not, ◌||◌, ◌&&◌, ⊎_elim, List, [], ◌∷◌, length, get_or, set, nat_eq, eqb-true, refl, ap, subst, ◌∙◌, All}
use Rattle.std.proofs.lemmas.Bool.{cases_lt}
use Rattle.std.proofs.lemmas.List.{get_or-set_same, get_or-set_other, set_past, get_or_past}
use Rattle.std.proofs.lemmas.List.Elements.{All-from_get_or}
use Rattle.graph_cycles.specs.Graphs.{is_in}
use Rattle.graph_cycles.proofs.Held.{below_flags}
use Rattle.graph_cycles.proofs.Members.{not_both, itself, is_in-at}
use Rattle.ancestor_lines.specs.Clearing.{cleared}

set_false : (flags : List Bool) (n a : ℕ) → get_or (set flags n false) a false ≡ (get_or flags a false && not (nat_eq a n))
set_false flags n a = ⊎_elim
    (λ (l : n < length flags). by l (nat_eq a n) refl)
    (λ (m : length flags ≤ n). ap (λ (bs : List Bool). get_or bs a false) (set_past flags n false m) ∙ past m (nat_eq a n) refl)
    (cases_lt n (length flags))
  where
    and_true : (b : Bool) → b ≡ (b && true)
    and_true true = refl
    and_true false = refl

    and_false : (b : Bool) → false ≡ (b && false)
    and_false true = refl
    and_false false = refl

    other : nat_eq a n ≡ false → a ≢ n
    other f same = not_both (subst (λ (x : ℕ). nat_eq a x ≡ true) same (itself a)) f

    by : n < length flags → (e : Bool) → nat_eq a n ≡ e → get_or (set flags n false) a false ≡ (get_or flags a false && not e)
    by l true t = ap (λ (x : ℕ). get_or (set flags n false) x false) (eqb-true a n t) ∙ get_or-set_same flags n false false l ∙ and_false (get_or flags a false)
    by l false f = get_or-set_other flags n a false false (other f) ∙ and_true (get_or flags a false)

    past : length flags ≤ n → (e : Bool) → nat_eq a n ≡ e → get_or flags a false ≡ (get_or flags a false && not e)
    past m true t =
        let none : get_or flags a false ≡ false = ap (λ (x : ℕ). get_or flags x false) (eqb-true a n t) ∙ get_or_past flags n false m in
        none ∙ and_false (get_or flags a false)
    past m false f = and_true (get_or flags a false)

and_not_or : (a b c : Bool) → ((a && not b) && not c) ≡ (a && not (b || c))
and_not_or true true c = refl
and_not_or true false c = refl
and_not_or false b c = refl

cleared_at : (flags : List Bool) (nodes : List ℕ) (a : ℕ) → get_or (cleared flags nodes) a false ≡ (get_or flags a false && not (is_in nodes a))
cleared_at flags [] a = by (get_or flags a false)
  where
    by : (b : Bool) → b ≡ (b && true)
    by true = refl
    by false = refl
cleared_at flags (n ∷ nodes) a =
    cleared_at (set flags n false) nodes a
    ∙ ap (λ (b : Bool). b && not (is_in nodes a)) (set_false flags n a)
    ∙ and_not_or (get_or flags a false) (nat_eq a n) (is_in nodes a)

pub unmarked : (flags now : List Bool) (nodes : List ℕ) → ((a : ℕ) → get_or flags a false ≡ is_in nodes a) → now ≡ cleared flags nodes
    → (a : ℕ) → get_or now a false ≡ false
unmarked flags now nodes marked e a =
    ap (λ (bs : List Bool). get_or bs a false) e ∙ cleared_at flags nodes a ∙ ap (λ (b : Bool). b && not (is_in nodes a)) (marked a) ∙ by (is_in nodes a)
  where
    by : (b : Bool) → (b && not b) ≡ false
    by true = refl
    by false = refl

-- what is marked is below how many flags there are
pub all_below : (flags : List Bool) (nodes : List ℕ) (n : ℕ) → ((a : ℕ) → get_or flags a false ≡ is_in nodes a) → length flags ≡ n
    → All (λ (b : ℕ). b < n) nodes
all_below flags nodes n marked e =
    All-from_get_or (λ (b : ℕ). b < n) nodes 0 (λ i l. below_flags flags nodes n marked e (get_or nodes i 0) (is_in-at nodes i 0 l))
