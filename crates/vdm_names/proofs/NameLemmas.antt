-- The list of names: where a text stands, and what a further text leaves.
use Rattle.std.proofs.Common.{◌≡◌, ℕ, ◌+◌, ◌<◌, ◌≤◌, Bool, true, false, cond, not, ◌||◌, if◌then◌else◌, List, [], ◌∷◌, ◌++◌, length, slice_get, find, Some, refl, sym, ap, subst, ◌∙◌, true≢false, arith}
use Rattle.std.specs.Str.{bytes_eq}
use Rattle.std.specs.List.{list_any, position_or_len, IsDistinct}
use Rattle.std.proofs.lemmas.Cmp.{nat_list_eq_equiv}
use Rattle.std.proofs.lemmas.List.{append-nil, append_assoc, length-append}
use Rattle.std.proofs.lemmas.List.Folds.{find_at, list_any-append}
use Rattle.std.proofs.lemmas.Map.Keys.{IsDistinct-push}
use Rattle.std.proofs.lemmas.Slice.Eq.{bytes_eq-Decides}
use Rattle.vdm_kinds.specs.NameList.{built_in_names, with_name, with_names, number_in}

module _ {X : Type 0} (p : X → Bool) where
  -- what passes is still the first behind which more is put
  position-later : (xs more : List X) → list_any p xs ≡ true → position_or_len p (xs ++ more) ≡ position_or_len p xs
  position-later [] more there = absurd (true≢false (sym there))
  position-later (x ∷ xs) more there = by (p x) there (position-later xs more)
    where
      by : (b : Bool) → (b || list_any p xs) ≡ true → (list_any p xs ≡ true → position_or_len p (xs ++ more) ≡ position_or_len p xs)
          → cond (not b) (1 + position_or_len p (xs ++ more)) 0 ≡ cond (not b) (1 + position_or_len p xs) 0
      by true here rest = refl
      by false later rest = ap (λ n. 1 + n) (rest later)

  -- one that passes, put last, stands where the first of the list stands, or last
  position-push : (xs : List X) (y : X) → p y ≡ true → position_or_len p (xs ++ y ∷ []) ≡ position_or_len p xs
  position-push [] y passes = ap (λ c. cond (not c) 1 0) passes
  position-push (x ∷ xs) y passes = ap (λ n. cond (not (p x)) (1 + n) 0) (position-push xs y passes)

  -- no place is past the end
  position-within : (xs : List X) → position_or_len p xs ≤ length xs
  position-within [] = omega arith
  position-within (x ∷ xs) = by (p x) (position-within xs)
    where
      by : (b : Bool) → position_or_len p xs ≤ length xs → cond (not b) (1 + position_or_len p xs) 0 ≤ length (x ∷ xs)
      by true rest = omega arith
      by false rest = omega arith

  -- the place of one that passes is below the end
  position-below : (xs : List X) → list_any p xs ≡ true → position_or_len p xs < length xs
  position-below [] there = absurd (true≢false (sym there))
  position-below (x ∷ xs) there = by (p x) there (position-below xs)
    where
      by : (b : Bool) → (b || list_any p xs) ≡ true → (list_any p xs ≡ true → position_or_len p xs < length xs)
          → cond (not b) (1 + position_or_len p xs) 0 < length (x ∷ xs)
      by true here rest = omega arith
      by false later rest = let below : position_or_len p xs < length xs = rest later in omega arith

-- a text is equal to itself
same_text : (text : List ℕ) → bytes_eq text text ≡ true
same_text text = (bytes_eq-Decides text text).1 refl

-- the first text that is equal to a text is that text
find_text : (names : List (List ℕ)) (text : List ℕ) → list_any (bytes_eq text) names ≡ true → find (bytes_eq text) names ≡ Some text
find_text [] text there = absurd (true≢false (sym there))
find_text (x ∷ xs) text there = by (bytes_eq text x) refl there (find_text xs text)
  where
    by : (b : Bool) → bytes_eq text x ≡ b → (b || list_any (bytes_eq text) xs) ≡ true
        → (list_any (bytes_eq text) xs ≡ true → find (bytes_eq text) xs ≡ Some text)
        → cond b (Some x) (find (bytes_eq text) xs) ≡ Some text
    by true e here rest = ap Some (sym ((bytes_eq-Decides text x).0 e))
    by false e later rest = rest later

-- a text that is there stays where it is, whatever is put behind
pub number_in-later : (names more : List (List ℕ)) (text : List ℕ)
    → list_any (bytes_eq text) names ≡ true → number_in (names ++ more) text ≡ number_in names text
number_in-later names more text there = position-later (bytes_eq text) names more there

-- no number is past the end
pub number_in-within : (names : List (List ℕ)) (text : List ℕ) → number_in names text ≤ length names
number_in-within names text = position-within (bytes_eq text) names

-- a text that is there has a number below the end
pub number_in-below : (names : List (List ℕ)) (text : List ℕ)
    → list_any (bytes_eq text) names ≡ true → number_in names text < length names
number_in-below names text there = position-below (bytes_eq text) names there

-- a text that is there stands at its number
pub slice_get-number_in : (names : List (List ℕ)) (text : List ℕ)
    → list_any (bytes_eq text) names ≡ true → slice_get names (number_in names text) ≡ Some text
slice_get-number_in names text there = sym (find_at (bytes_eq text) names) ∙ find_text names text there

-- a text that is there leaves the list
pub with_name-there : (names : List (List ℕ)) (text : List ℕ) → list_any (bytes_eq text) names ≡ true → with_name names text ≡ names
with_name-there names text there = ap (λ c. if c then names else names ++ text ∷ []) there

-- a new text goes last
pub with_name-new : (names : List (List ℕ)) (text : List ℕ)
    → list_any (bytes_eq text) names ≡ false → with_name names text ≡ names ++ text ∷ []
with_name-new names text new = ap (λ c. if c then names else names ++ text ∷ []) new

-- what holds of a list with its text, and of a list with a new text at its end, holds of the list with the text
with_name-either : (P : List (List ℕ) → Type 0) (names : List (List ℕ)) (text : List ℕ)
    → (list_any (bytes_eq text) names ≡ true → P names)
    → (list_any (bytes_eq text) names ≡ false → P (names ++ text ∷ []))
    → P (with_name names text)
with_name-either P names text there new = by (list_any (bytes_eq text) names) refl
  where
    by : (b : Bool) → list_any (bytes_eq text) names ≡ b → P (with_name names text)
    by true e = subst P (sym (with_name-there names text e)) (there e)
    by false e = subst P (sym (with_name-new names text e)) (new e)

-- the text is among the names with it
pub with_name-among : (names : List (List ℕ)) (text : List ℕ) → list_any (bytes_eq text) (with_name names text) ≡ true
with_name-among names text =
    with_name-either (λ ns. list_any (bytes_eq text) ns ≡ true) names text
    (λ there. there)
    (λ new.
    list_any-append (bytes_eq text) names (text ∷ [])
    ∙ ap (λ c. c || (bytes_eq text text || false)) new
    ∙ ap (λ c. c || false) (same_text text))

-- the text has the number that it had, or the next one
pub number_in-with_name : (names : List (List ℕ)) (text : List ℕ) → number_in (with_name names text) text ≡ number_in names text
number_in-with_name names text =
    with_name-either (λ ns. number_in ns text ≡ number_in names text) names text
    (λ there. refl)
    (λ new. position-push (bytes_eq text) names text (same_text text))

-- that number is a place of the list
pub number_in-with_name-below : (names : List (List ℕ)) (text : List ℕ) → number_in (with_name names text) text < length (with_name names text)
number_in-with_name-below names text = number_in-below (with_name names text) text (with_name-among names text)

-- and the text stands there
pub slice_get-with_name : (names : List (List ℕ)) (text : List ℕ) → slice_get (with_name names text) (number_in names text) ≡ Some text
slice_get-with_name names text =
    subst (λ n. slice_get (with_name names text) n ≡ Some text) (number_in-with_name names text)
    (slice_get-number_in (with_name names text) text (with_name-among names text))

-- at most one text is added
pub length-with_name : (names : List (List ℕ)) (text : List ℕ) → length (with_name names text) ≤ length names + 1
length-with_name names text =
    with_name-either (λ ns. length ns ≤ length names + 1) names text
    (λ there. omega arith)
    (λ new. omega (arith, length-append names (text ∷ [])))

-- the names stay, and the rest goes behind them
pub with_name-behind : (names : List (List ℕ)) (text : List ℕ) → (more : List (List ℕ)) × (with_name names text ≡ names ++ more)
with_name-behind names text =
    with_name-either (λ ns. (more : List (List ℕ)) × (ns ≡ names ++ more)) names text
    (λ there. ([], sym (append-nil names)))
    (λ new. (text ∷ [], refl))

-- so they do with any texts
pub with_names-behind : (names texts : List (List ℕ)) → (more : List (List ℕ)) × (with_names names texts ≡ names ++ more)
with_names-behind names [] = ([], sym (append-nil names))
with_names-behind names (text ∷ texts) =
    let one = with_name-behind names text in
    let rest = with_names-behind (with_name names text) texts in
    (one.0 ++ rest.0, rest.1 ∙ ap (λ ns. ns ++ rest.0) one.1 ∙ append_assoc names one.0 rest.0)

-- a number that a text has is kept with any texts
pub number_in-with_names : (names texts : List (List ℕ)) (text : List ℕ)
    → list_any (bytes_eq text) names ≡ true → number_in (with_names names texts) text ≡ number_in names text
number_in-with_names names texts text there =
    let rest = with_names-behind names texts in
    ap (λ ns. number_in ns text) rest.1 ∙ number_in-later names rest.0 text there

-- no text stands twice among the built-in names
pub IsDistinct-built_in_names : IsDistinct bytes_eq built_in_names
unfolding IsDistinct
IsDistinct-built_in_names = ((refl, (refl, tt)), ((refl, tt), (tt, tt)))

-- where no text stands twice, none does with a text
pub IsDistinct-with_name : (names : List (List ℕ)) (text : List ℕ) → IsDistinct bytes_eq names → IsDistinct bytes_eq (with_name names text)
IsDistinct-with_name names text distinct =
    with_name-either (IsDistinct bytes_eq) names text
    (λ there. distinct)
    (λ new. IsDistinct-push nat_list_eq_equiv names text distinct new)

-- nor with any texts
pub IsDistinct-with_names : (names texts : List (List ℕ)) → IsDistinct bytes_eq names → IsDistinct bytes_eq (with_names names texts)
IsDistinct-with_names names [] distinct = distinct
IsDistinct-with_names names (text ∷ texts) distinct =
    IsDistinct-with_names (with_name names text) texts (IsDistinct-with_name names text distinct)
