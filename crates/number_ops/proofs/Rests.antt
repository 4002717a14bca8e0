-- Remainders by the divisor's sign.
use Rattle.std.proofs.Common.{◌≡◌, ◌⊎◌, ℕ, zero, suc, ◌+◌, ◌%◌, min, ℤ, pos, negsuc, ◌+ℤ◌, ◌-ℤ◌, ◌*ℤ◌, neg_ℤ, unsigned_abs, Bool, true, false, refl, ap, sym, ◌∙◌, subst, inl, inr, arith, true≢false, of_z, IsTrue, ◌↔◌}
use Rattle.std.specs.Int.{w128}
use Rattle.std.specs.Prelude.{int_div, int_rem, int_lt}
use Rattle.std.proofs.lemmas.Int.{quot-rem}
use Rattle.std.proofs.lemmas.Bool.{le-ltb}
use lib.IntN.{*ℤ_comm, +ℤ_comm, +ℤ_assoc, +ℤ-neg_ℤ_cancel, neg_ℤ-+ℤ, neg_ℤ-neg_ℤ, pred_ℤ-*ℤ, -ℤ_one}
use Rattle.value_operators.specs.Numbers.{by_divisor, in_range, quotient, remainder, floored, modulus}

pub by_nonzero : (f : ℤ → ℤ → ℤ) (m n : ℤ) → (n ≡ pos 0 → ⊥) → by_divisor f m n ≡ in_range (f m n)
by_nonzero f m (pos zero) h = absurd (h refl)
by_nonzero f m (pos (suc n)) h = refl
by_nonzero f m (negsuc n) h = refl

pub remainder_is : (m n : ℤ) → remainder m n ≡ int_rem m n
remainder_is m n =
    ap (λ x. m -ℤ x) (*ℤ_comm n (int_div m n))
    ∙ ap (λ x. x -ℤ int_div m n *ℤ n) (sym (quot-rem m n) ∙ +ℤ_comm (int_div m n *ℤ n) (int_rem m n))
    ∙ +ℤ-neg_ℤ_cancel (int_rem m n) (int_div m n *ℤ n)

-- ---- the floor

one_less : (q : ℕ) → neg_ℤ (pos (q + 1)) ≡ neg_ℤ (pos q) -ℤ pos 1
one_less zero = refl
one_less (suc q) =
    let up : suc q + 1 ≡ suc (suc q) = omega arith in
    let back : q ≡ q + 0 = omega arith in
    ap (λ k. neg_ℤ (pos k)) up ∙ ap (λ k. negsuc (suc k)) back

level_up : (q r : ℕ) → r ≡ 0 → neg_ℤ (pos (q + min 1 r)) ≡ neg_ℤ (pos q)
level_up q r e = ap (λ k. neg_ℤ (pos k)) (omega arith)

less_up : (q r : ℕ) → (r ≡ 0 → ⊥) → neg_ℤ (pos (q + min 1 r)) ≡ neg_ℤ (pos q) -ℤ pos 1
less_up q zero f = absurd (f refl)
less_up q (suc r) f = ap (λ k. neg_ℤ (pos k)) (omega arith) ∙ one_less q

zero_size : (r : ℕ) → pos r ≡ pos 0 → r ≡ 0
zero_size r e = ap unsigned_abs e

zero_turned : (r : ℕ) → neg_ℤ (pos r) ≡ pos 0 → r ≡ 0
zero_turned zero e = refl
zero_turned (suc r) e = cc

-- what is not below 0
not_below : (r : ℕ) → int_lt (pos r) (pos 0) ≡ false
not_below r = le-ltb r 0 (omega arith)

turned_below : (r : ℕ) → int_lt (neg_ℤ (pos r)) (pos 0) ≡ false → r ≡ 0
turned_below zero e = refl
turned_below (suc r) e = absurd (true≢false e)

turned_more : (r : ℕ) → (r ≡ 0 → ⊥) → int_lt (neg_ℤ (pos r)) (pos 0) ≡ true
turned_more zero f = absurd (f refl)
turned_more (suc r) f = refl

-- where nothing is left, or the rest has the divisor's sign, the floor is the quotient
pub floor_level : (m n : ℤ) → (int_rem m n ≡ pos 0) ⊎ (int_lt (int_rem m n) (pos 0) ≡ int_lt n (pos 0)) → floored m n ≡ quotient m n
floor_level (pos a) (pos b) h = refl
floor_level (negsuc a) (negsuc b) h = refl
floor_level (pos a) (negsuc b) (inl e) = level_up _ _ (zero_size _ e)
floor_level (pos a) (negsuc b) (inr e) = absurd (true≢false (sym e ∙ not_below (a % suc b)))
floor_level (negsuc a) (pos b) (inl e) = level_up _ _ (zero_turned _ e)
floor_level (negsuc a) (pos b) (inr e) = level_up _ _ (turned_below _ (e ∙ not_below b))

-- else it is one less
pub floor_below : (m n : ℤ) → (int_rem m n ≡ pos 0 → ⊥) → (int_lt (int_rem m n) (pos 0) ≡ int_lt n (pos 0) → ⊥) → floored m n ≡ quotient m n -ℤ pos 1
floor_below (pos a) (pos b) f g = absurd (g (not_below (a % b) ∙ sym (not_below b)))
floor_below (negsuc a) (negsuc b) f g = absurd (g (turned_more _ (λ e. f (ap (λ k. neg_ℤ (pos k)) e))))
floor_below (pos a) (negsuc b) f g = less_up _ _ (λ e. f (ap pos e))
floor_below (negsuc a) (pos b) f g = less_up _ _ (λ e. f (ap (λ k. neg_ℤ (pos k)) e))

-- r is what the quotient leaves
pub modulus_level : (m n r : ℤ) → r ≡ int_rem m n → (r ≡ pos 0) ⊎ (int_lt r (pos 0) ≡ int_lt n (pos 0)) → modulus m n ≡ r
modulus_level m n r e h =
    ap (λ q. m -ℤ n *ℤ q) (floor_level m n (subst (λ x. (x ≡ pos 0) ⊎ (int_lt x (pos 0) ≡ int_lt n (pos 0))) e h)) ∙ remainder_is m n ∙ sym e

-- n times one less is n less
times_less : (n q : ℤ) → n *ℤ (q -ℤ pos 1) ≡ n *ℤ q -ℤ n
times_less n q = *ℤ_comm n (q -ℤ pos 1) ∙ ap (λ x. x *ℤ n) (-ℤ_one q) ∙ pred_ℤ-*ℤ q n ∙ ap (λ x. x -ℤ n) (*ℤ_comm q n)

less_less : (m x n : ℤ) → m -ℤ (x -ℤ n) ≡ (m -ℤ x) +ℤ n
less_less m x n =
    ap (λ y. m +ℤ y) (neg_ℤ-+ℤ x (neg_ℤ n) ∙ ap (λ y. neg_ℤ x +ℤ y) (neg_ℤ-neg_ℤ n))
    ∙ sym (+ℤ_assoc m (neg_ℤ x) n)

below_is : (m n : ℤ) → (int_rem m n ≡ pos 0 → ⊥) → (int_lt (int_rem m n) (pos 0) ≡ int_lt n (pos 0) → ⊥) → modulus m n ≡ int_rem m n +ℤ n
below_is m n f g =
    ap (λ q. m -ℤ n *ℤ q) (floor_below m n f g)
    ∙ ap (λ x. m -ℤ x) (times_less n (quotient m n))
    ∙ less_less m (n *ℤ quotient m n) n
    ∙ ap (λ x. x +ℤ n) (remainder_is m n)

pub modulus_below : (m n r : ℤ) → r ≡ int_rem m n → ((r ≡ pos 0) ⊎ (int_lt r (pos 0) ≡ int_lt n (pos 0)) → ⊥) → modulus m n ≡ r +ℤ n
modulus_below m n r e h =
    below_is m n (λ p. h (inl (e ∙ p))) (λ p. h (inr (ap (λ x. int_lt x (pos 0)) e ∙ p))) ∙ ap (λ x. x +ℤ n) (sym e)

pub nonzero : (n : ℤ) → (of_z w128 n ≡ 0 → ⊥) → n ≡ pos 0 → ⊥
nonzero n h e = h (ap (of_z w128) e)

abbrev pub IsLevel : ℤ → ℤ → Type 0
IsLevel r n = (r ≡ pos 0) ⊎ (int_lt r (pos 0) ≡ int_lt n (pos 0))

pub level_as : (b : Bool) (r s n m : ℤ) → s ≡ r → m ≡ n → (IsTrue b ↔ IsLevel s m) → (IsTrue b ↔ IsLevel r n)
level_as b r s n m e f h = subst (λ x. IsTrue b ↔ IsLevel x n) e (subst (λ x. IsTrue b ↔ IsLevel s x) f h)
