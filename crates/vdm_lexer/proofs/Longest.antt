-- The longest sign is one, and none is longer.
use Rattle.std.proofs.Common.{◌≡◌, ℕ, zero, suc, ◌<◌, ◌≤◌, Bool, true, cond, nat_lt, List, [], ◌∷◌, length, get_or, refl, ap, inl, inr, arith}
use Rattle.std.proofs.lemmas.Bool.{cases_Bool}
use Rattle.std.proofs.lemmas.Bool.Decides.{nat_tests}
use Rattle.vdm_lexer.specs.Longest.{IsLongest}
use Rattle.vdm_lexer.specs.Pieces.{begins}
use Rattle.vdm_lexer.specs.Signs.{longest, sign_length}

length-begun : (text sign : List ℕ) → begins text sign ≡ true → sign_length text sign ≡ length sign
length-begun text sign h = ap (λ (b : Bool). cond b (length sign) 0) h

begun-some : (text sign : List ℕ) → 0 < sign_length text sign → begins text sign ≡ true
begun-some text sign some =
    elim (cases_Bool (begins text sign)) [
      | inl begun ↦ begun
      | inr other ↦ (let none : sign_length text sign ≡ 0 = ap (λ (b : Bool). cond b (length sign) 0) other in absurd (omega arith))
    ]

none-longer : (text : List ℕ) (table : List (List ℕ)) (sign : List ℕ) (i : ℕ) → i < length table → sign ≡ get_or table i sign → begins text sign ≡ true → length sign ≤ longest text table
unfolding longest
none-longer text [] sign i short is h = absurd (omega arith)
none-longer text (other ∷ others) sign zero short is h =
    let this = length-begun text sign h in
    let same : sign_length text sign ≡ sign_length text other = ap (sign_length text) is in
    omega arith
none-longer text (other ∷ others) sign (suc i) short is h =
    let rest = none-longer text others sign i (omega arith) is h in
    omega arith

pub none_longer : (text sign : List ℕ) (table : List (List ℕ)) → (i : ℕ) × ((i < length table) × (sign ≡ get_or table i sign)) → begins text sign ≡ true → length sign ≤ longest text table
none_longer text sign table among h = none-longer text table sign among.0 among.1.0 among.1.1 h

pub longest-there : (text : List ℕ) (table : List (List ℕ)) → 0 < longest text table → IsLongest text table
unfolding longest
longest-there text [] some = absurd (omega arith)
longest-there text (other ∷ others) some =
    elim (cases_Bool (nat_lt (longest text others) (sign_length text other))) [
      | inl greater ↦ (
          let less : longest text others < sign_length text other = grind (arith, nat_tests) in
          let begun = begun-some text other (omega arith) in
          let this = length-begun text other begun in
          record { sign = other; among = (0, (omega arith, refl)); begins = begun; length = omega arith })
      | inr not_greater ↦ (
          let less : sign_length text other ≤ longest text others = grind (arith, nat_tests) in
          let rest = longest-there text others (omega arith) in
          let was = rest.length in
          let within = rest.among.1.0 in
          record { sign = rest.sign; among = (suc rest.among.0, (omega arith, rest.among.1.1)); begins = rest.begins; length = omega arith })
    ]
