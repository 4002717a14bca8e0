-- The numbers of type definitions: what a map has, and what the meaning says.
use Rattle.std.proofs.Common.{◌≡◌, ℕ, suc, ◌+◌, ◌<◌, ◌≤◌, Bool, true, false, cond, not, ◌&&◌, nat_eq, nat_lt, eqb-true, if◌then◌else◌, List, [], ◌∷◌, length, drop, get_or, Option, Some, None, is_some, refl, ap, sym, ◌∙◌, arith, add-one, drop-cons}
use Rattle.std.proofs.lemmas.Bool.Decides.{nat_tests}
use Rattle.std.proofs.lemmas.Grind.{common_steps}
use Rattle.std.specs.Borrow.{Bor}
use Rattle.std.specs.List.{position_or_len}
use Rattle.vdm_kinds.specs.declared.name.Name.{Name}
use Rattle.abstract_syntax.specs.Classes.{TypeDefTree, is_same_name}
use Rattle.expr_tree.specs.declared.type_def.TypeDef.{TypeDef}
use Rattle.expr_tree.specs.TypeDefView.{type_def_view}
use Rattle.class_meaning.specs.Members.{or_else}
use Rattle.type_graphs.specs.Numbers.{is_named, number_among, number_from, same_pair, trees_at}

-- ---- a number that is noted

both : (a b : Bool) → (a && b) ≡ true → (a ≡ true) × (b ≡ true)
both true true h = (refl, refl)
both true false h = absurd (cc)
both false b h = absurd (cc)

flipped : (a b : ℕ) → nat_eq a b ≡ nat_eq b a
flipped a b = grind (arith, nat_tests)

noted : (t : Bool) (number : ℕ) (o : Option ℕ) → (t ≡ true → is_some o ≡ false) → cond t (Some number) o ≡ or_else o (if t then Some number else None)
noted true number None absent = refl
noted true number (Some k) absent = absurd (cc (absent refl))
noted false number None absent = refl
noted false number (Some k) absent = refl

pub noted_new : (class name : Name) (number : ℕ) (old now : ℕ × ℕ → Option ℕ)
    → is_some (old (class.0, name.0)) ≡ false
    → ((q : ℕ × ℕ) → now q ≡ cond (same_pair (class.0, name.0) q) (Some number) (old q))
    → (other_class other : Name)
    → now (other_class.0, other.0)
    ≡ or_else (old (other_class.0, other.0)) (if is_same_name other_class class && is_same_name other name then Some number else None)
noted_new class name number old now absent updates other_class other =
    let turned : (nat_eq class.0 other_class.0 && nat_eq name.0 other.0) ≡ (nat_eq other_class.0 class.0 && nat_eq other.0 name.0) =
    ap (λ (b : Bool). b && nat_eq name.0 other.0) (flipped class.0 other_class.0)
    ∙ ap (λ (b : Bool). nat_eq other_class.0 class.0 && b) (flipped name.0 other.0) in
    let new : (nat_eq other_class.0 class.0 && nat_eq other.0 name.0) ≡ true → is_some (old (other_class.0, other.0)) ≡ false =
    λ t. let same = both (nat_eq other_class.0 class.0) (nat_eq other.0 name.0) t in
    ap (λ (n : ℕ). is_some (old (n, other.0))) (eqb-true other_class.0 class.0 same.0)
    ∙ ap (λ (n : ℕ). is_some (old (class.0, n))) (eqb-true other.0 name.0 same.1)
    ∙ absent in
    updates (other_class.0, other.0)
    ∙ ap (λ (b : Bool). cond b (Some number) (old (other_class.0, other.0))) turned
    ∙ noted (nat_eq other_class.0 class.0 && nat_eq other.0 name.0) number (old (other_class.0, other.0)) new

-- ---- the next definition

or_else_turn : (o hit rest : Option ℕ) → or_else (or_else o hit) rest ≡ or_else o (or_else hit rest)
or_else_turn None hit rest = refl
or_else_turn (Some k) hit rest = refl

pub next_number : (class name : Name) (definitions : List (Bor TypeDef)) (i : ℕ) (d : Bor TypeDef) (old now all : Option ℕ)
    → i < length definitions → d ≡ get_or definitions i d
    → now ≡ or_else old (if is_named class name (type_def_view d.now) then Some i else None)
    → or_else old (number_from class name i (trees_at (drop i definitions))) ≡ all
    → or_else now (number_from class name (i + 1) (trees_at (drop (i + 1) definitions))) ≡ all
next_number class name definitions i d old now all within is noted so_far =
    let front : drop i definitions ≡ get_or definitions i d ∷ drop (i + 1) definitions = rw (add-one, drop-cons definitions i d) in
    let next : drop i definitions ≡ d ∷ drop (i + 1) definitions = cc in
    ap (λ (o : Option ℕ). or_else o (number_from class name (i + 1) (trees_at (drop (i + 1) definitions)))) noted
    ∙ or_else_turn old (if is_named class name (type_def_view d.now) then Some i else None) (number_from class name (i + 1) (trees_at (drop (i + 1) definitions)))
    ∙ ap (λ (ds : List (Bor TypeDef)). or_else old (number_from class name i (trees_at ds))) (sym next)
    ∙ so_far

-- ---- what is found from the first one on

same_from : (k : ℕ) → k ≡ k + 0
same_from k = omega arith

some_within : (n : ℕ) → nat_lt 0 (suc n) ≡ true
some_within n = grind (arith, nat_tests)

one_more : (a b k : ℕ) → cond (nat_lt a b) (Some (k + 1 + a)) None ≡ cond (nat_lt (1 + a) (suc b)) (Some (k + (1 + a))) None
one_more a b k =
    let place : k + 1 + a ≡ k + (1 + a) = omega arith in
    let test : nat_lt a b ≡ nat_lt (1 + a) (suc b) = grind (arith, nat_tests) in
    ap (λ (n : ℕ). cond (nat_lt a b) (Some n) None) place ∙ ap (λ (t : Bool). cond t (Some (k + (1 + a))) None) test

module _ (class name : Name) where
  abbrev place_in : List TypeDefTree → ℕ
  place_in ds = position_or_len (is_named class name) ds

  from_is : (k : ℕ) (ds : List TypeDefTree) → number_from class name k ds ≡ cond (nat_lt (place_in ds) (length ds)) (Some (k + place_in ds)) None
  from_is k [] = refl
  from_is k (d ∷ ds) = by (is_named class name d) (from_is (k + 1) ds)
    where
      by : (b : Bool)
          → number_from class name (k + 1) ds ≡ cond (nat_lt (place_in ds) (length ds)) (Some (k + 1 + place_in ds)) None
          → or_else (cond b (Some k) None) (number_from class name (k + 1) ds)
          ≡ cond (nat_lt (cond (not b) (1 + place_in ds) 0) (suc (length ds))) (Some (k + cond (not b) (1 + place_in ds) 0)) None
      by true rest = ap Some (same_from k) ∙ ap (λ (t : Bool). cond t (Some (k + 0)) None) (sym (some_within (length ds)))
      by false rest = rest ∙ one_more (place_in ds) (length ds) k

pub number_is : (class name : Name) (ds : List TypeDefTree) → number_from class name 0 ds ≡ number_among ds class name
number_is class name ds =
    let none : 0 + place_in class name ds ≡ place_in class name ds = omega arith in
    from_is class name 0 ds ∙ ap (λ (k : ℕ). cond (nat_lt (place_in class name ds) (length ds)) (Some k) None) none

or_else_none : (o : Option ℕ) → or_else o None ≡ o
or_else_none None = refl
or_else_none (Some k) = refl

pub all_numbered : (class name : Name) (definitions : List (Bor TypeDef)) (i : ℕ) (found : Option ℕ)
    → length definitions ≤ i
    → or_else found (number_from class name i (trees_at (drop i definitions))) ≡ number_from class name 0 (trees_at definitions)
    → found ≡ number_among (trees_at definitions) class name
all_numbered class name definitions i found past so_far =
    let nothing : drop i definitions ≡ [] = grind (arith, common_steps) in
    sym (or_else_none found)
    ∙ ap (λ (ds : List (Bor TypeDef)). or_else found (number_from class name i (trees_at ds))) (sym nothing)
    ∙ so_far
    ∙ number_is class name (trees_at definitions)
