-- The place that the map has tells what a name stands for.
use Rattle.std.proofs.Common.{◌≡◌, ℕ, zero, suc, ◌+◌, ◌<◌, ◌≤◌, ◌⊎◌, inl, inr, ⊎_elim, Bool, true, false, nat_eq, cond, List, [], ◌∷◌, ◌++◌, map, length, take, get_or, refl, ap, sym, ◌∙◌, arith, Option, Some, None, option_map, if◌then◌else◌, length-append}
use Rattle.std.proofs.lemmas.Bool.{cases_eq}
use Rattle.std.proofs.lemmas.Bool.Decides.{nat_tests}
use Rattle.vdm_kinds.specs.declared.name.Name.{Name}
use Rattle.abstract_syntax.specs.Values.{ValueTree}
use Rattle.pattern_meaning.specs.Bindings.{Binding, value_in}
use Rattle.patterns.specs.Places.{numbers_of, subject_at}
use Rattle.patterns.specs.Todos.{subject_tree}
use Rattle.patterns.specs.declared.bound.Bound.{Bound}
use Rattle.patterns.proofs.Lists.{some_value}

abbrev pub bound_pairs : List Bound → Binding
bound_pairs = map (λ (b : Bound). (b.name, subject_tree b.subject))

nothing : {A : Type 0} {x : A} → None ≡ Some x → ⊥
nothing e = cc

same_number : (m n : ℕ) → nat_eq m n ≡ true → m ≡ n
same_number m n e = grind (arith, nat_tests)

-- a name stands nowhere, or first at some place
pub record First (bs : List Bound) (name : Name) : Type 0 where
  pub place : ℕ
  pub below : place < length bs
  pub number : get_or (numbers_of bs) place 0 ≡ name.0
  pub is : value_in (bound_pairs bs) name ≡ option_map subject_tree (subject_at bs place name)

pub record Nowhere (bs : List Bound) (name : Name) : Type 0 where
  pub none : value_in (bound_pairs bs) name ≡ None
  pub no_place : (k : ℕ) → option_map subject_tree (subject_at bs k name) ≡ None

at_head_or_behind : (b : Bound) (bs : List Bound) (name : Name) → nat_eq b.name.0 name.0 ≡ false →
    ((k : ℕ) → option_map subject_tree (subject_at bs k name) ≡ None) → (k : ℕ) → option_map subject_tree (subject_at (b ∷ bs) k name) ≡ None
at_head_or_behind b bs name e n zero = ap (λ t. option_map subject_tree (if t then Some b.subject else None)) e
at_head_or_behind b bs name e n (suc k) = n k

by_head : (t : Bool) (b : Bound) (bs : List Bound) (name : Name) → nat_eq b.name.0 name.0 ≡ t → Nowhere bs name ⊎ First bs name →
    Nowhere (b ∷ bs) name ⊎ First (b ∷ bs) name
by_head true b bs name e h = inr (record {
  place = zero;
  below = omega arith;
  number = same_number b.name.0 name.0 e;
  is = ap (λ t. cond t (Some (subject_tree b.subject)) (value_in (bound_pairs bs) name)) e ∙
      sym (ap (λ t. option_map subject_tree (if t then Some b.subject else None)) e);
})
by_head false b bs name e (inl n) = inl (record {
  none = ap (λ t. cond t (Some (subject_tree b.subject)) (value_in (bound_pairs bs) name)) e ∙ n.none;
  no_place = λ k. at_head_or_behind b bs name e n.no_place k;
})
by_head false b bs name e (inr f) = inr (record {
  place = suc f.place;
  below = (let l : f.place < length bs = f.below in omega arith);
  number = f.number;
  is = ap (λ t. cond t (Some (subject_tree b.subject)) (value_in (bound_pairs bs) name)) e ∙ f.is;
})

stands : (bs : List Bound) (name : Name) → Nowhere bs name ⊎ First bs name
stands [] name = inl (record { none = refl; no_place = λ k. refl })
stands (b ∷ bs) name = by_head (nat_eq b.name.0 name.0) b bs name refl (stands bs name)

module _ (bs : List Bound) (name : Name) (found : ℕ → Option ℕ) (finds : (k : ℕ) → k < length bs → found (get_or (numbers_of bs) k 0) ≡ Some k) where
  place_is : (f : First bs name) → found name.0 ≡ Some f.place
  place_is f = ap found (sym f.number) ∙ finds f.place f.below

  -- what the map has no place of is not bound
  pub not_found : found name.0 ≡ None → None ≡ value_in (bound_pairs bs) name
  not_found e = ⊎_elim (λ n. sym n.none) (λ f. absurd (nothing (sym e ∙ place_is f))) (stands bs name)

  -- and of what it has, the place tells
  pub found_at : (k : ℕ) → found name.0 ≡ Some k → option_map subject_tree (subject_at bs k name) ≡ value_in (bound_pairs bs) name
  found_at k e =
      ⊎_elim (λ n. n.no_place k ∙ sym n.none)
      (λ f. ap (λ j. option_map subject_tree (subject_at bs j name)) (some_value (sym e ∙ place_is f)) ∙ sym f.is)
      (stands bs name)

head_apart : (t : Bool) (v w : ValueTree) (o : Option ValueTree) → cond t (Some v) o ≡ None → (t ≡ false) × (o ≡ None)
head_apart true v w o e = absurd (nothing (sym e))
head_apart false v w o e = (refl, e)

not_among : (bs : List Bound) (name : Name) → value_in (bound_pairs bs) name ≡ None → (k : ℕ) → k < length bs →
    nat_eq (get_or (numbers_of bs) k 0) name.0 ≡ false
not_among [] name e k h = absurd (omega arith)
not_among (b ∷ bs) name e zero h = (head_apart (nat_eq b.name.0 name.0) (subject_tree b.subject) (subject_tree b.subject) (value_in (bound_pairs bs) name) e).0
not_among (b ∷ bs) name e (suc k) h =
    not_among bs name (head_apart (nat_eq b.name.0 name.0) (subject_tree b.subject) (subject_tree b.subject) (value_in (bound_pairs bs) name) e).1 k (omega arith)

turned : (m n : ℕ) → nat_eq m n ≡ false → nat_eq n m ≡ false
turned m n e = grind (arith, nat_tests)

itself : (n : ℕ) → nat_eq n n ≡ true
itself n = grind (arith, nat_tests)

numbers_front : (bs : List Bound) (b : Bound) (k : ℕ) → k < length bs → get_or (numbers_of (bs ++ b ∷ [])) k 0 ≡ get_or (numbers_of bs) k 0
numbers_front [] b k h = absurd (omega arith)
numbers_front (c ∷ bs) b zero h = refl
numbers_front (c ∷ bs) b (suc k) h = numbers_front bs b k (omega arith)

numbers_last : (bs : List Bound) (b : Bound) → get_or (numbers_of (bs ++ b ∷ [])) (length bs) 0 ≡ b.name.0
numbers_last [] b = refl
numbers_last (c ∷ bs) b = numbers_last bs b

-- the place of one name more, which stands nowhere else
pub finds_more : (bs cs : List Bound) (b : Bound) (now found : ℕ → Option ℕ) (place : ℕ) → ((k : ℕ) → k < length bs → found (get_or (numbers_of bs) k 0) ≡ Some k) →
    value_in (bound_pairs bs) b.name ≡ None → ((n : ℕ) → now n ≡ cond (nat_eq b.name.0 n) (Some place) (found n)) → place ≡ length bs →
    cs ≡ bs ++ b ∷ [] → (k : ℕ) → k < length cs → now (get_or (numbers_of cs) k 0) ≡ Some k
finds_more bs cs b now found place finds absent updates last e k h =
    let long : length cs ≡ length bs + 1 = ap length e ∙ length-append bs (b ∷ []) in
    ap (λ xs. now (get_or (numbers_of xs) k 0)) e ∙
    ⊎_elim
    (λ same. ap (λ j. now (get_or (numbers_of (bs ++ b ∷ [])) j 0)) same ∙ ap now (numbers_last bs b) ∙ updates b.name.0 ∙
    ap (λ t. cond t (Some place) (found b.name.0)) (itself b.name.0) ∙ ap Some (last ∙ sym same))
    (λ other. let lt : k < length bs = omega arith in
    ap now (numbers_front bs b k lt) ∙ updates (get_or (numbers_of bs) k 0) ∙
    ap (λ t. cond t (Some place) (found (get_or (numbers_of bs) k 0)))
    (turned (get_or (numbers_of bs) k 0) b.name.0 (not_among bs b.name absent k lt)) ∙ finds k lt)
    (cases_eq k (length bs))

numbers_take : (bs : List Bound) (n k : ℕ) → k < length (take n bs) → get_or (numbers_of (take n bs)) k 0 ≡ get_or (numbers_of bs) k 0
numbers_take bs zero k h = absurd (omega arith)
numbers_take [] (suc n) k h = absurd (omega arith)
numbers_take (b ∷ bs) (suc n) zero h = refl
numbers_take (b ∷ bs) (suc n) (suc k) h = numbers_take bs n k (omega arith)

no_longer : (bs : List Bound) (n : ℕ) → length (take n bs) ≤ length bs
no_longer bs zero = omega arith
no_longer [] (suc n) = omega arith
no_longer (b ∷ bs) (suc n) = let h : length (take n bs) ≤ length bs = no_longer bs n in omega arith

-- the places of the names that stay
pub finds_fewer : (bs cs : List Bound) (n : ℕ) (found : ℕ → Option ℕ) → ((k : ℕ) → k < length bs → found (get_or (numbers_of bs) k 0) ≡ Some k) →
    cs ≡ take n bs → (k : ℕ) → k < length cs → found (get_or (numbers_of cs) k 0) ≡ Some k
finds_fewer bs cs n found finds e k h =
    let same : length cs ≡ length (take n bs) = ap length e in
    let less : length (take n bs) ≤ length bs = no_longer bs n in
    let lt : k < length (take n bs) = omega arith in
    ap (λ xs. found (get_or (numbers_of xs) k 0)) e ∙ ap found (numbers_take bs n k lt) ∙ finds k (omega arith)
