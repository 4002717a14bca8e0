-- What sets tell behind one more member.
use Rattle.std.proofs.Common.{◌≡◌, ℕ, Bool, true, false, cond, not, ◌&&◌, ◌||◌, nat_eq, refl, ap, sym, ◌∙◌, arith}
use Rattle.std.proofs.lemmas.Bool.Decides.{nat_tests}
use Rattle.vdm_kinds.specs.declared.name.Name.{Name}
use Rattle.abstract_syntax.specs.Classes.{is_same_name}
use Rattle.table_faults.specs.declared.seen.Shape.{Shape}
use Rattle.table_faults.specs.declared.seen.Shape.TheVariants.{Plain, Function, Operation}
use Rattle.table_faults.specs.Firsts.{Clashing, with_member, no_members}
use Rattle.table_faults.specs.Known.{clash_by, same_pair}

flipped : (a b : ℕ) → nat_eq a b ≡ nat_eq b a
flipped a b = grind (arith, nat_tests)

twice_not : (q : Bool) → not (not q) ≡ q
twice_not true = refl
twice_not false = refl

-- one more name
one_name : (t x : Bool) → cond t true x ≡ (x || (t && true))
one_name true true = refl
one_name true false = refl
one_name false true = refl
one_name false false = refl

name_in_front : (t x y : Bool) → (cond t true x || y) ≡ ((x || y) || (t && true))
name_in_front true true y = refl
name_in_front true false true = refl
name_in_front true false false = refl
name_in_front false true y = refl
name_in_front false false true = refl
name_in_front false false false = refl

call_behind : (b t x : Bool) → (b || cond t true x) ≡ ((b || x) || t)
call_behind true t x = refl
call_behind false true true = refl
call_behind false true false = refl
call_behind false false true = refl
call_behind false false false = refl

module _ (name : Name) where
  named : (now old : ℕ → Bool) → ((n : ℕ) → now n ≡ cond (nat_eq name.0 n) true (old n)) → (other : Name)
      → now other.0 ≡ cond (is_same_name other name) true (old other.0)
  named now old updates other = updates other.0 ∙ ap (λ (t : Bool). cond t true (old other.0)) (flipped name.0 other.0)

  called : (count : ℕ) (now old : ℕ × ℕ → Bool) → ((q : ℕ × ℕ) → now q ≡ cond (same_pair (name.0, count) q) true (old q)) → (other : Name) (n : ℕ)
      → now (other.0, n) ≡ cond (is_same_name other name && not (not (nat_eq n count))) true (old (other.0, n))
  called count now old updates other n =
      updates (other.0, n)
      ∙ ap (λ (t : Bool). cond (t && nat_eq count n) true (old (other.0, n))) (flipped name.0 other.0)
      ∙ ap (λ (t : Bool). cond (is_same_name other name && t) true (old (other.0, n))) (flipped count n ∙ sym (twice_not (nat_eq n count)))

  module _ (all no_functions no_operations : ℕ → Bool) (functions operations : ℕ × ℕ → Bool) where
    abbrev old_test : Clashing
    old_test = clash_by all no_functions no_operations functions operations

    pub added_plain : (all2 no_functions2 no_operations2 : ℕ → Bool)
        → ((n : ℕ) → all2 n ≡ cond (nat_eq name.0 n) true (all n))
        → ((n : ℕ) → no_functions2 n ≡ cond (nat_eq name.0 n) true (no_functions n))
        → ((n : ℕ) → no_operations2 n ≡ cond (nat_eq name.0 n) true (no_operations n))
        → clash_by all2 no_functions2 no_operations2 functions operations ≡ with_member old_test name Plain
    added_plain all2 no_functions2 no_operations2 e f g = λ i other shape. each other shape i
      where
        each : (other : Name) (shape : Shape)
            → clash_by all2 no_functions2 no_operations2 functions operations other shape ≡ with_member old_test name Plain other shape
        each other Plain = named all2 all e other ∙ one_name (is_same_name other name) (all other.0)
        each other (Function n) =
            ap (λ (b : Bool). b || functions (other.0, n)) (named no_functions2 no_functions f other)
            ∙ name_in_front (is_same_name other name) (no_functions other.0) (functions (other.0, n))
        each other (Operation n) =
            ap (λ (b : Bool). b || operations (other.0, n)) (named no_operations2 no_operations g other)
            ∙ name_in_front (is_same_name other name) (no_operations other.0) (operations (other.0, n))

    pub added_function : (count : ℕ) (all2 no_operations2 : ℕ → Bool) (functions2 : ℕ × ℕ → Bool)
        → ((n : ℕ) → all2 n ≡ cond (nat_eq name.0 n) true (all n))
        → ((n : ℕ) → no_operations2 n ≡ cond (nat_eq name.0 n) true (no_operations n))
        → ((q : ℕ × ℕ) → functions2 q ≡ cond (same_pair (name.0, count) q) true (functions q))
        → clash_by all2 no_functions no_operations2 functions2 operations ≡ with_member old_test name (Function count)
    added_function count all2 no_operations2 functions2 e f g = λ i other shape. each other shape i
      where
        each : (other : Name) (shape : Shape)
            → clash_by all2 no_functions no_operations2 functions2 operations other shape ≡ with_member old_test name (Function count) other shape
        each other Plain = named all2 all e other ∙ one_name (is_same_name other name) (all other.0)
        each other (Function n) =
            ap (λ (b : Bool). no_functions other.0 || b) (called count functions2 functions g other n)
            ∙ call_behind (no_functions other.0) (is_same_name other name && not (not (nat_eq n count))) (functions (other.0, n))
        each other (Operation n) =
            ap (λ (b : Bool). b || operations (other.0, n)) (named no_operations2 no_operations f other)
            ∙ name_in_front (is_same_name other name) (no_operations other.0) (operations (other.0, n))

    pub added_operation : (count : ℕ) (all2 no_functions2 : ℕ → Bool) (operations2 : ℕ × ℕ → Bool)
        → ((n : ℕ) → all2 n ≡ cond (nat_eq name.0 n) true (all n))
        → ((n : ℕ) → no_functions2 n ≡ cond (nat_eq name.0 n) true (no_functions n))
        → ((q : ℕ × ℕ) → operations2 q ≡ cond (same_pair (name.0, count) q) true (operations q))
        → clash_by all2 no_functions2 no_operations functions operations2 ≡ with_member old_test name (Operation count)
    added_operation count all2 no_functions2 operations2 e f g = λ i other shape. each other shape i
      where
        each : (other : Name) (shape : Shape)
            → clash_by all2 no_functions2 no_operations functions operations2 other shape ≡ with_member old_test name (Operation count) other shape
        each other Plain = named all2 all e other ∙ one_name (is_same_name other name) (all other.0)
        each other (Function n) =
            ap (λ (b : Bool). b || functions (other.0, n)) (named no_functions2 no_functions f other)
            ∙ name_in_front (is_same_name other name) (no_functions other.0) (functions (other.0, n))
        each other (Operation n) =
            ap (λ (b : Bool). no_operations other.0 || b) (called count operations2 operations g other n)
            ∙ call_behind (no_operations other.0) (is_same_name other name && not (not (nat_eq n count))) (operations (other.0, n))

-- ---- no members

pub nothing_known : (all no_functions no_operations : ℕ → Bool) (functions operations : ℕ × ℕ → Bool)
    → ((n : ℕ) → all n ≡ false) → ((n : ℕ) → no_functions n ≡ false) → ((n : ℕ) → no_operations n ≡ false)
    → ((q : ℕ × ℕ) → functions q ≡ false) → ((q : ℕ × ℕ) → operations q ≡ false)
    → clash_by all no_functions no_operations functions operations ≡ no_members
nothing_known all no_functions no_operations functions operations e f g h j = λ i name shape. each name shape i
  where
    each : (name : Name) (shape : Shape) → clash_by all no_functions no_operations functions operations name shape ≡ false
    each name Plain = e name.0
    each name (Function n) = ap (λ (b : Bool). b || functions (name.0, n)) (f name.0) ∙ h (name.0, n)
    each name (Operation n) = ap (λ (b : Bool). b || operations (name.0, n)) (g name.0) ∙ j (name.0, n)
