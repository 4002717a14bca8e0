-- Numbers, and options at the front of words, by what std says of texts.
use Rattle.std.proofs.Common.{◌≡◌, ◌≢◌, ℕ, ◌≤◌, Bool, false, List, [], ◌∷◌, ◌++◌, length, get_or, Option, Some, None, Result, Ok, Err, MatchOption, ◌==◌, sym, ap, ◌∙◌, subst, arith, inl, inr}
use Rattle.std.specs.Bool.{Decides}
use Rattle.std.specs.Result.{result_ok}
use Rattle.std.specs.Str.Pattern.{StripsPrefix, FindsTextPrefix}
use Rattle.std.specs.Str.Parse.{AllDigits, digits_value, ParsesUnsigned}
use Rattle.std.proofs.lemmas.Str.Parse.{IsNumeralModel, numerals_by_value, tells_digits, parse_plain, digits_value_short}
use Rattle.report_texts.specs.Words.{IsNumber, HasValue}
use Rattle.report_texts.proofs.Searches.{value_is, rest_of, one_rest}

-- ---- numbers

digits_are : IsNumeralModel (AllDigits 10) (digits_value 10)
digits_are = numerals_by_value (AllDigits 10) tells_digits

-- at most ten digits are a number below 2 ^ 64
parsed : {E : Type 0} (word : List ℕ) (read : Result ℕ E) → ParsesUnsigned 64 10 word read → get_or word 0 0 ≢ 43 → length word ≤ 10 → MatchOption (result_ok read) ((n : ℕ) → IsNumber word n → ⊥) (IsNumber word)
parsed {E = E} word (Ok n) h plus few =
    let is = parse_plain digits_are {E = E} 64 word (Ok n) h plus in
    record { digits = is.0.0; some = omega (arith, is.0.1); few = few; value = is.1 }
parsed {E = E} word (Err e) h plus few = λ n k.
    let is = parse_plain digits_are {E = E} 64 word (Err e) h plus in
    let small = digits_value_short digits_are word 10 k.digits few in
    is (k.digits, omega (arith, k.some), omega (arith, small))

pub number_is : {E : Type 0} (word : List ℕ) (read : Result ℕ E) (found : Option ℕ) (plus : Bool) → found ≡ result_ok read → ParsesUnsigned 64 10 word read → Decides plus (get_or word 0 0 ≡ 43) → plus ≡ false → length word ≤ 10 → MatchOption found ((n : ℕ) → IsNumber word n → ⊥) (IsNumber word)
number_is {E = E} word read found plus e h tells is few =
    subst (λ f. MatchOption f ((n : ℕ) → IsNumber word n → ⊥) (IsNumber word)) (sym e)
    (parsed {E = E} word read h (λ begins. (let other = tells.1 begins in cc)) few)

-- ---- values

-- a word that does not begin with a name has no value of it
pub no_value : (words : List (List ℕ)) (name first : List ℕ) (others : List (List ℕ)) → words ≡ first ∷ others → ((rest : List ℕ) → first ≢ name ++ rest) → (found : List ℕ × List (List ℕ)) → HasValue words name found.0 found.1 → ⊥
no_value words name first others e h =
    subst (λ w. (found : List ℕ × List (List ℕ)) → HasValue w name found.0 found.1 → ⊥) (sym e) (value_is name first others None h)

-- what is behind the name where it was taken off
pub split_is : (name word behind : List ℕ) → StripsPrefix (FindsTextPrefix name) word behind → word ≡ name ++ behind
split_is name word behind h = h.1.1 ∙ ap (λ rest. name ++ rest) (sym h.2)

-- nor has one where something else than `=` stands behind the name
pub no_equals : (words : List (List ℕ)) (name first behind : List ℕ) (others : List (List ℕ)) → words ≡ first ∷ others → first ≡ name ++ behind → (length behind == 0) ≡ false → ((rest : List ℕ) → behind ≢ 61 ∷ rest) → (found : List ℕ × List (List ℕ)) → HasValue words name found.0 found.1 → ⊥
no_equals words name first behind others e split some none found v =
    elim (rest_of first others name found.0 found.1 (subst (λ w. HasValue w name found.0 found.1) e v)) [
      | inl n ↦ (let empty = one_rest first name behind [] split n.0 in let zero_ = ap (λ (b : List ℕ). length b == 0) empty in cc)
      | inr n ↦ none found.0 (one_rest first name behind (61 ∷ found.0) split n.0)
    ]

-- ---- options

-- where nothing was found, something else is not there either
pub none_too : {A : Type 0} (found : Option A) (P Q : Type 0) (There : A → Type 0) → (P → Q) → MatchOption found P There → MatchOption found Q There
none_too None P Q There leads h = leads h
none_too (Some a) P Q There leads h = h
