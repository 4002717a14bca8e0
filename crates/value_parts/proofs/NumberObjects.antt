-- Numbers, Booleans and comparison give leaves, which have no object.
use Rattle.std.proofs.Common.{ℕ, zero, suc, ℤ, pos, negsuc, Bool, IfOk}
use Rattle.std.specs.Int.{int_pow}
use Rattle.std.specs.List.{AllByRecursion as Each}
use Rattle.std.specs.Prelude.{Ok, ◌+ℤ◌, ◌-ℤ◌, ◌*ℤ◌, neg_ℤ, unsigned_abs}
use Rattle.vdm_kinds.specs.declared.name.Name.{Name}
use Rattle.vdm_kinds.specs.declared.operator.Operator.{Operator}
use Rattle.vdm_kinds.specs.declared.operator.Operator.TheVariants.{Positive, Negative, Absolute, Plus, Minus, Times, Div, Rem, Mod, Exponent}
use Rattle.vdm_kinds.specs.declared.operator.Operator.TheVariants.{Equal, NotEqual, Not, Equivalent}
use Rattle.vdm_kinds.specs.declared.run_fault.RunFault.TheVariants.{Overflow}
use Rattle.abstract_syntax.specs.Values.{ValueTree, number, boolean}
use Rattle.value_operators.specs.Numbers.{is_number, in_range, quotient, remainder, modulus, by_divisor, power_of, number_one, truth_one, numbers_one, number_two, truth_two, by_kind, numbers_two}
use Rattle.value_operators.specs.Members.{numbers_from}
use Rattle.value_parts.specs.Objects.{EachObject}
use Rattle.value_parts.proofs.Operands.{if_passed}

module _ (P : ℕ → Name → Type 0) where
  in_range_keeps : (n : ℤ) → IfOk (in_range n) (EachObject P)
  in_range_keeps n = if_passed (EachObject P) (is_number n) (Ok (number n)) Overflow tt

  by_divisor_keeps : (f : ℤ → ℤ → ℤ) (m n : ℤ) → IfOk (by_divisor f m n) (EachObject P)
  by_divisor_keeps f m (pos zero) = tt
  by_divisor_keeps f m n = in_range_keeps (f m n)

  power_keeps : (m n : ℤ) → IfOk (power_of m n) (EachObject P)
  power_keeps m (pos k) = in_range_keeps (int_pow m k)
  power_keeps m (negsuc k) = tt

  -- ---- the rows

  number_one_keeps : (operator : Operator) (m : ℤ) → IfOk (number_one operator m) (EachObject P)
  number_one_keeps Positive m = in_range_keeps m
  number_one_keeps Negative m = in_range_keeps (neg_ℤ m)
  number_one_keeps Absolute m = in_range_keeps (pos (unsigned_abs m))
  number_one_keeps operator m = tt

  truth_one_keeps : (operator : Operator) (p : Bool) → IfOk (truth_one operator p) (EachObject P)
  truth_one_keeps Not p = tt
  truth_one_keeps operator p = tt

  pub numbers_one_keeps : (operator : Operator) (a : ValueTree) → IfOk (numbers_one operator a) (EachObject P)
  numbers_one_keeps operator (number m) = number_one_keeps operator m
  numbers_one_keeps operator (boolean p) = truth_one_keeps operator p
  numbers_one_keeps operator a = tt

  number_two_keeps : (operator : Operator) (m n : ℤ) → IfOk (number_two operator m n) (EachObject P)
  number_two_keeps Plus m n = in_range_keeps (m +ℤ n)
  number_two_keeps Minus m n = in_range_keeps (m -ℤ n)
  number_two_keeps Times m n = in_range_keeps (m *ℤ n)
  number_two_keeps Div m n = by_divisor_keeps quotient m n
  number_two_keeps Rem m n = by_divisor_keeps remainder m n
  number_two_keeps Mod m n = by_divisor_keeps modulus m n
  number_two_keeps Exponent m n = power_keeps m n
  number_two_keeps operator m n = tt

  truth_two_keeps : (operator : Operator) (p q : Bool) → IfOk (truth_two operator p q) (EachObject P)
  truth_two_keeps Equivalent p q = tt
  truth_two_keeps operator p q = tt

  by_kind_keeps : (operator : Operator) (a b : ValueTree) → IfOk (by_kind operator a b) (EachObject P)
  by_kind_keeps operator (number m) (number n) = number_two_keeps operator m n
  by_kind_keeps operator (boolean p) (boolean q) = truth_two_keeps operator p q
  by_kind_keeps operator a b = tt

  pub numbers_two_keeps : (operator : Operator) (a b : ValueTree) → IfOk (numbers_two operator a b) (EachObject P)
  numbers_two_keeps Equal a b = tt
  numbers_two_keeps NotEqual a b = tt
  numbers_two_keeps operator a b = by_kind_keeps operator a b

  -- ---- numbers that follow each other

  pub each_number : (m : ℤ) (count : ℕ) → Each (EachObject P) (numbers_from m count)
  each_number m zero = tt
  each_number m (suc count) = (tt, each_number (m +ℤ pos 1) count)
