-- Numbers that follow each other.
use Rattle.std.proofs.Common.{◌≡◌, ℕ, zero, suc, ◌≤◌, ℤ, pos, ◌+ℤ◌, ◌-ℤ◌, unsigned_abs, ◌≤ℤ◌, ◌<ℤ◌, true, false, List, [], ◌∷◌, ◌++◌, refl, ap, sym, ◌∙◌, arith, rules, Err, inl}
use Rattle.std.specs.Prelude.{int_le, if◌then◌else◌}
use Rattle.std.proofs.lemmas.Int.{ints}
use lib.IntN.{+ℤ_invr}
use Rattle.abstract_syntax.specs.Values.{ValueTree, number, set_of, value_trees, nodes_of_values}
use Rattle.vdm_kinds.specs.declared.run_fault.RunFault.TheVariants.{SizeLimit}
use Rattle.value_operators.specs.Outcomes.{sized}
use Rattle.value_operators.specs.Sets.{interval}
use Rattle.value_operators.proofs.Consecutive.{numbers_are_a_set}
use Rattle.value_results.proofs.Limits.{sized_beyond}
use Rattle.value_operators.specs.Members.{numbers_from, count_from_to}

le_true : (m n : ℤ) → m ≤ℤ n → int_le m n ≡ true
le_true m n h = search (rules, h)

le_false : (m n : ℤ) → n <ℤ m → int_le m n ≡ false
le_false m n h = search (rules, h)

pub next_le : (m n : ℤ) → m <ℤ n → (m +ℤ pos 1) ≤ℤ n
next_le m n h = omega (arith, ints, h)

one_less : (m n : ℤ) → m <ℤ n → unsigned_abs (n -ℤ m) ≡ suc (unsigned_abs (n -ℤ (m +ℤ pos 1)))
one_less m n h = omega (arith, ints, h)

pub count_step : (m n : ℤ) → m <ℤ n → count_from_to m n ≡ suc (count_from_to (m +ℤ pos 1) n)
count_step m n h =
    ap (λ r. if r then suc (unsigned_abs (n -ℤ m)) else 0) (le_true m n (omega (arith, ints, h)))
    ∙ ap suc (one_less m n h
    ∙ sym (ap (λ r. if r then suc (unsigned_abs (n -ℤ (m +ℤ pos 1))) else 0) (le_true (m +ℤ pos 1) n (next_le m n h))))

pub count_one : (m : ℤ) → count_from_to m m ≡ 1
count_one m =
    ap (λ r. if r then suc (unsigned_abs (m -ℤ m)) else 0) (le_true m m (omega (arith, ints)))
    ∙ ap (λ z. suc (unsigned_abs z)) (+ℤ_invr m)

nodes_of_numbers : (m : ℤ) (k : ℕ) → nodes_of_values (value_trees (numbers_from m k)) ≡ k
nodes_of_numbers m zero = refl
nodes_of_numbers m (suc k) = omega (arith, nodes_of_numbers (m +ℤ pos 1) k)

pub interval_is : (m n : ℤ) → interval m n ≡ set_of (value_trees (numbers_from m (count_from_to m n)))
interval_is m n = numbers_are_a_set m (count_from_to m n)

pub count_ahead : (m n : ℤ) → m ≤ℤ n → count_from_to m n ≡ suc (unsigned_abs (n -ℤ m))
count_ahead m n h = ap (λ r. if r then suc (unsigned_abs (n -ℤ m)) else 0) (le_true m n h)

pub interval_large : (m n : ℤ) → m ≤ℤ n → 199999 ≤ unsigned_abs (n -ℤ m) → sized (interval m n) ≡ Err SizeLimit
interval_large m n h l =
    ap sized (interval_is m n)
    ∙ sized_beyond (set_of (value_trees (numbers_from m (count_from_to m n)))) (inl (omega (arith, nodes_of_numbers m (count_from_to m n), count_ahead m n h, l)))

pub interval_empty : (m n : ℤ) → n <ℤ m → interval m n ≡ set_of (value_trees [])
interval_empty m n h = interval_is m n ∙ ap (λ r. set_of (value_trees (numbers_from m (if r then suc (unsigned_abs (n -ℤ m)) else 0)))) (le_false m n h)

one_by_one : (vs : List ValueTree) (v : ValueTree) (ws : List ValueTree) → (vs ++ v ∷ []) ++ ws ≡ vs ++ v ∷ ws
one_by_one [] v ws = refl
one_by_one (u ∷ us) v ws = ap (λ xs. u ∷ xs) (one_by_one us v ws)

-- one number more is made
pub made_more : (m n p : ℤ) (made pushed : List ValueTree) → p <ℤ n → pushed ≡ made ++ number p ∷ []
    → made ++ numbers_from p (count_from_to p n) ≡ numbers_from m (count_from_to m n)
    → pushed ++ numbers_from (p +ℤ pos 1) (count_from_to (p +ℤ pos 1) n) ≡ numbers_from m (count_from_to m n)
made_more m n p made pushed h e w =
    ap (λ vs. vs ++ numbers_from (p +ℤ pos 1) (count_from_to (p +ℤ pos 1) n)) e
    ∙ one_by_one made (number p) (numbers_from (p +ℤ pos 1) (count_from_to (p +ℤ pos 1) n))
    ∙ ap (λ k. made ++ numbers_from p k) (sym (count_step p n h)) ∙ w
