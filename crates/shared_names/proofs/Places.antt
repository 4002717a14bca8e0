-- Two names differ at the lowest place at which the bits of both are not the same.
use Rattle.std.proofs.Common.{◌≡◌, ℕ, ◌+◌, ◌<◌, ◌%◌, ◌^◌, sym, ◌∙◌, ap, not, nat_eq, arith}
use Rattle.std.proofs.lemmas.Bool.Decides.{nat_tests}
use Rattle.std.specs.Prelude.{bit_xor}
use Rattle.std.specs.Int.{bit_at, trailing_zeros, w32}
use Rattle.std.proofs.lemmas.Nat.{xor_of_32}
use Rattle.std.proofs.lemmas.Nat.Bits.{bit_at-lt, bit_at-zero, bit_at_xor, bit_at-trailing_zeros, same_from_bits}
use Rattle.vdm_kinds.specs.declared.name.Name.{Name}
use Rattle.shared_names.specs.Trees.{has_bit}

even_sum : (x y : ℕ) → x < 2 → y < 2 → (x + y) % 2 ≡ 0 → x ≡ y
even_sum x y p q e = omega arith

odd_sum : (x y : ℕ) → x < 2 → y < 2 → (x + y) % 2 ≡ 1 → nat_eq y 1 ≡ not (nat_eq x 1)
odd_sum x y p q e = grind (arith, nat_tests)

-- numbers that differ nowhere are one
same_numbers : (a b : ℕ) → bit_xor a b ≡ 0 → a ≡ b
same_numbers a b e =
    same_from_bits
    a
    b
    (λ i. even_sum (bit_at a i) (bit_at b i) (bit_at-lt a i) (bit_at-lt b i) (sym (bit_at_xor a b i) ∙ ap (λ n. bit_at n i) e ∙ bit_at-zero i))

some : (n : ℕ) → (n ≡ 0 → ⊥) → 0 < n
some n h = omega arith

-- the test counts places around, which changes none below 32
odd_there : (a b place : ℕ) → place < 32 → bit_at (bit_xor a b) place ≡ 1
    → nat_eq (bit_at b (place % 32)) 1 ≡ not (nat_eq (bit_at a (place % 32)) 1)
odd_there a b place below odd =
    let here : place % 32 ≡ place = omega arith in
    rw here (odd_sum (bit_at a place) (bit_at b place) (bit_at-lt a place) (bit_at-lt b place) (sym (bit_at_xor a b place) ∙ odd))

pub bits_differ : (a b : Name) → a.0 < 2 ^ 32 → b.0 < 2 ^ 32 → (a ≡ b → ⊥)
    → has_bit (trailing_zeros w32 (bit_xor a.0 b.0)) b ≡ not (has_bit (trailing_zeros w32 (bit_xor a.0 b.0)) a)
bits_differ a b fits_a fits_b apart =
    let positive : 0 < bit_xor a.0 b.0 =
    some (bit_xor a.0 b.0) (λ e. apart (let same = same_numbers a.0 b.0 e in λ i. record { 0 = same i })) in
    let lowest = bit_at-trailing_zeros w32 (bit_xor a.0 b.0) positive (xor_of_32 a.0 b.0 fits_a fits_b) in
    odd_there a.0 b.0 (trailing_zeros w32 (bit_xor a.0 b.0)) lowest.0 lowest.1
