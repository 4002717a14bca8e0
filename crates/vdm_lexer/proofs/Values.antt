-- What digits stand for, one after another.
use Rattle.std.proofs.Common.{◌≡◌, ℕ, ◌+◌, ◌*◌, ◌<◌, ◌≤◌, Bool, true, false, cond, nat_lt, List, [], ◌∷◌, length, get_or, drop, Some, None, refl, ap, sym, arith}
use Rattle.std.specs.Char.{digit_value}
use Rattle.std.specs.Str.Parse.{digits_value_after}
use Rattle.std.proofs.lemmas.List.{drop_more}
use Rattle.std.proofs.lemmas.Bool.Decides.{nat_tests}
use Rattle.std.proofs.Math.Nat.{mul-le-mul_left}

-- more digits make no less
digits_more : (base n : ℕ) (cs : List ℕ) → 1 ≤ base → n ≤ digits_value_after base n cs
digits_more base n [] h = omega arith
digits_more base n (c ∷ cs) h =
    let rest = digits_more base (n * base + digit_value c) cs h in
    let wide = mul-le-mul_left n h in
    omega arith

pub digits_step : (base n : ℕ) (text : List ℕ) (i : ℕ) → i < length text → digits_value_after base n (drop i text) ≡ digits_value_after base (n * base + digit_value (get_or text i 0)) (drop (i + 1) text)
digits_step base n text i short = ap (digits_value_after base n) (drop_more text i 0 short)

-- what a test gave
pub some_if : (b : Bool) (a x : ℕ) → Some x ≡ cond b (Some a) None → (x ≡ a) × (b ≡ true)
some_if true a x e = (cc, refl)
some_if false a x e = absurd (cc)

pub none_if : (b : Bool) (a : ℕ) → None ≡ cond b (Some a) None → b ≡ false
none_if true a e = absurd (cc)
none_if false a e = refl

pub less_if : (a n : ℕ) → nat_lt a n ≡ true → a < n
less_if a n h = grind (arith, nat_tests)

too_great : (value least bound : ℕ) → least ≤ value → nat_lt least bound ≡ false → nat_lt value bound ≡ false
too_great value least bound h e = grind (arith, nat_tests)

pub none_too_great : (base n : ℕ) (text : List ℕ) (i value bound : ℕ) → 1 ≤ base → i < length text → value ≡ digits_value_after base n (drop i text) → nat_lt (n * base + digit_value (get_or text i 0)) bound ≡ false → None ≡ cond (nat_lt value bound) (Some value) None
none_too_great base n text i value bound some short is h =
    let more = digits_more base (n * base + digit_value (get_or text i 0)) (drop (i + 1) text) some in
    let step = digits_step base n text i short in
    sym (ap (λ (b : Bool). cond b (Some value) None) (too_great value _ bound (omega arith) h))
