-- Numbers that follow each other.
use Rattle.std.proofs.Common.{◌≡◌, ℕ, zero, suc, ◌+◌, ℤ, pos, ◌+ℤ◌, ◌<ℤ◌, [], ◌∷◌, ◌++◌, ap, sym, ◌∙◌, arith, rules, add-one}
use Rattle.std.specs.declared.cmp.Ordering.TheVariants.{Less}
use Rattle.std.specs.List.{AllByRecursion}
use Rattle.std.specs.List.Sorted.{IsStrictlySortedBy}
use Rattle.std.proofs.lemmas.Int.{ints}
use lib.IntN.{+ℤ_idr, +ℤ_assoc}
use Rattle.abstract_syntax.specs.Values.{number, set_of, value_trees}
use Rattle.abstract_syntax.specs.ValueOrder.{value_order}
use Rattle.abstract_syntax.specs.ValueSets.{set_value}
use Rattle.value_operators.specs.Members.{numbers_from}
use Rattle.value_operators.proofs.Lists.{set_rising}

below : (m n : ℤ) → m <ℤ n → value_order (number m) (number n) ≡ Less
below m n h = search (rules, h)

numbers_above : (m z : ℤ) (k : ℕ) → m <ℤ z → AllByRecursion (λ y. value_order (number m) y ≡ Less) (numbers_from z k)
numbers_above m z zero h = tt
numbers_above m z (suc k) h = (below m z h, numbers_above m (z +ℤ pos 1) k (omega (arith, ints, h)))

pub numbers_rise : (m : ℤ) (k : ℕ) → IsStrictlySortedBy value_order (numbers_from m k)
unfolding IsStrictlySortedBy
numbers_rise m zero = tt
numbers_rise m (suc k) = (numbers_above m (m +ℤ pos 1) k (omega (arith, ints)), numbers_rise (m +ℤ pos 1) k)

pub numbers_are_a_set : (m : ℤ) (k : ℕ) → set_value (numbers_from m k) ≡ set_of (value_trees (numbers_from m k))
numbers_are_a_set m k = set_rising (numbers_from m k) (numbers_rise m k)

numbers_next : (m : ℤ) (k : ℕ) → numbers_from m (suc k) ≡ numbers_from m k ++ number (m +ℤ pos k) ∷ []
numbers_next m zero = ap (λ z. number z ∷ []) (sym (+ℤ_idr m))
numbers_next m (suc k) =
    let one : 1 + k ≡ suc k = omega arith in
    ap (λ vs. number m ∷ vs) (numbers_next (m +ℤ pos 1) k
    ∙ ap (λ z. numbers_from (m +ℤ pos 1) k ++ number z ∷ []) (+ℤ_assoc m (pos 1) (pos k) ∙ ap (λ j. m +ℤ pos j) one))

pub numbers_more : (m : ℤ) (k : ℕ) → numbers_from m (k + 1) ≡ numbers_from m k ++ number (m +ℤ pos k) ∷ []
numbers_more m k = ap (numbers_from m) (add-one k) ∙ numbers_next m k
