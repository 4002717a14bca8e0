-- Powers with large exponents.
use Rattle.std.proofs.Common.{◌≡◌, ℕ, zero, suc, ◌+◌, ◌%◌, ◌^◌, ◌*◌, ◌<◌, ◌≤◌, ℤ, pos, negsuc, neg_ℤ, unsigned_abs, Bool, true, false, refl, ap, sym, ◌∙◌, arith}
use Rattle.std.specs.Prelude.{int_lt}
use Rattle.std.specs.Int.{int_pow}
use Rattle.value_operators.specs.Numbers.{in_range, power_of}
use Rattle.number_ops.specs.Exponents.{reduced}
use Rattle.std.specs.Prelude.{nat_le, nat_eq, cond, if◌then◌else◌, Ok, Err}
use Rattle.std.proofs.lemmas.Bool.{le-ltb, leb-false}
use Rattle.std.proofs.lemmas.Grind.{pow_more}
use Rattle.std.proofs.Math.Nat.{pow-le-pow_left, pow-le-pow_right, le_trans}
use Rattle.vdm_kinds.specs.declared.run_fault.RunFault.TheVariants.{Overflow}
use Rattle.abstract_syntax.specs.Values.{number}
use Rattle.value_operators.specs.Outcomes.{Outcome}

-- ---- the powers of 2 and more lie outside

pub is_large : (a k : ℕ) → 2 ≤ a → 128 ≤ k → 2 ^ 128 ≤ a ^ k
is_large a k h l = le_trans (pow-le-pow_right {n = 2} (omega arith) l) (pow-le-pow_left h k)

outside : (x : ℕ) → 2 ^ 128 ≤ x → in_range (pos x) ≡ Err Overflow
outside x h = ap (λ r. if r then Ok (number (pos x)) else Err Overflow) (le-ltb x (2 ^ 127) (omega (arith, h)))

outside_below : (x : ℕ) → 2 ^ 128 ≤ x → in_range (neg_ℤ (pos x)) ≡ Err Overflow
outside_below zero h = absurd (omega (arith, h))
outside_below (suc x) h = ap (λ r. if r then Ok (number (negsuc x)) else Err Overflow) (le-ltb x (2 ^ 127) (omega (arith, h)))

outside_both : (r : Bool) (x : ℕ) → 2 ^ 128 ≤ x → in_range (cond r (pos x) (neg_ℤ (pos x))) ≡ Err Overflow
outside_both true x h = outside x h
outside_both false x h = outside_below x h

-- ---- those of 0 and 1

zero_power : (k : ℕ) → 0 < k → 0 ^ k ≡ 0
zero_power zero h = absurd (omega arith)
zero_power (suc k) h =
    let next : suc k ≡ k + 1 = omega arith in
    let none : 0 ^ k * 0 ≡ 0 = omega arith in
    ap (λ j. 0 ^ j) next ∙ pow_more 0 k ∙ none

one_power : (k : ℕ) → 1 ^ k ≡ 1
one_power zero = refl
one_power (suc k) =
    let next : suc k ≡ k + 1 = omega arith in
    let same : 1 ^ k * 1 ≡ 1 = omega (arith, one_power k) in
    ap (λ j. 1 ^ j) next ∙ pow_more 1 k ∙ same

same_parity : (k : ℕ) → (128 + k % 2) % 2 ≡ k % 2
same_parity k = omega arith

-- a number, with a minus where the exponent is odd
abbrev by_parity : ℕ → ℕ → Outcome
by_parity p x = in_range (cond (nat_eq p 0) (pos x) (neg_ℤ (pos x)))

-- ---- any two exponents from 128 on that are both odd or both even

pub large_exponents : (m : ℤ) (k j : ℕ) → 128 ≤ k → 128 ≤ j → j % 2 ≡ k % 2 → in_range (int_pow m k) ≡ in_range (int_pow m j)
large_exponents (pos zero) k j h l e = ap (λ x. in_range (pos x)) (zero_power k (omega arith) ∙ sym (zero_power j (omega arith)))
large_exponents (pos (suc zero)) k j h l e = ap (λ x. in_range (pos x)) (one_power k ∙ sym (one_power j))
large_exponents (pos (suc (suc a))) k j h l e = outside _ (is_large (suc (suc a)) k (omega arith) h) ∙ sym (outside _ (is_large (suc (suc a)) j (omega arith) l))
large_exponents (negsuc zero) k j h l e =
    ap (by_parity (k % 2)) (one_power k) ∙ ap (λ p. by_parity p 1) (sym e) ∙ sym (ap (by_parity (j % 2)) (one_power j))
large_exponents (negsuc (suc a)) k j h l e =
    outside_both _ _ (is_large (suc (suc a)) k (omega arith) h) ∙ sym (outside_both _ _ (is_large (suc (suc a)) j (omega arith) l))

reduced_power : (m : ℤ) (k : ℕ) → in_range (int_pow m k) ≡ in_range (int_pow m (reduced k))
reduced_power m k = by (nat_le k 128) refl
  where
    by : (r : Bool) → nat_le k 128 ≡ r → in_range (int_pow m k) ≡ in_range (int_pow m (if r then k else 128 + k % 2))
    by true e = refl
    by false e = large_exponents m k (128 + k % 2) (omega (arith, leb-false k 128 e)) (omega arith) (same_parity k)

pub same_power : (m n : ℤ) → int_lt n (pos 0) ≡ false → power_of m n ≡ in_range (int_pow m (reduced (unsigned_abs n)))
same_power m (pos k) h = reduced_power m k
same_power m (negsuc k) h = absurd (cc)
