-- The map has the numbers of the names, also with a further one.
use Rattle.std.proofs.Common.{◌≡◌, ℕ, ◌+◌, Bool, true, false, cond, not, ◌||◌, if◌then◌else◌, List, [], ◌∷◌, ◌++◌, map, length, Option, Some, None, String, HashMap, refl, sym, ap, subst, ◌∙◌, true≢false, arith}
use Rattle.std.specs.Str.{bytes_eq}
use Rattle.std.specs.String.{string_bytes, string_eq}
use Rattle.std.specs.HashMap.{get_by_text, UpdatesBy}
use Rattle.std.specs.Map.{lookup}
use Rattle.std.specs.List.{list_any, position_or_len, IsDistinct}
use Rattle.std.proofs.lemmas.Cmp.{nat_list_eq_equiv}
use Rattle.std.proofs.lemmas.List.{map-append}
use Rattle.std.proofs.lemmas.List.Folds.{list_any-append}
use Rattle.std.proofs.lemmas.Map.Keys.{IsDistinct-push}
use Rattle.std.proofs.lemmas.Map.Text.{hash_map_updates_text}
use Rattle.std.proofs.lemmas.Slice.Eq.{bytes_eq-Decides}
use Rattle.vdm_kinds.specs.NameList.{number_in}
use Rattle.vdm_names.specs.Numbering.{number_among, FindsNumbers, IsNumbered}
use Rattle.vdm_names.proofs.NameLemmas.{number_in-later}

-- a text that is not there has the number that it would have at the end
pub number_in-new : (names : List (List ℕ)) (text : List ℕ) → list_any (bytes_eq text) names ≡ false → number_in names text ≡ length names
number_in-new [] text new = refl
number_in-new (x ∷ xs) text new = by (bytes_eq text x) new (number_in-new xs text)
  where
    by : (b : Bool) → (b || list_any (bytes_eq text) xs) ≡ false → (list_any (bytes_eq text) xs ≡ false → number_in xs text ≡ length xs)
        → cond (not b) (1 + number_in xs text) 0 ≡ length (x ∷ xs)
    by true here rest = absurd (true≢false here)
    by false later rest = let n : number_in xs text ≡ length xs = rest later in omega arith

-- what has a number is there, with that number
pub is_number_in : (names : List (List ℕ)) (text : List ℕ) (n : ℕ) → Some n ≡ number_among names text → n ≡ number_in names text
is_number_in names text n e = by (list_any (bytes_eq text) names) e
  where
    by : (b : Bool) → Some n ≡ (if b then Some (number_in names text) else None) → n ≡ number_in names text
    by true e = cc e
    by false e = absurd (cc e)

pub is_among : (names : List (List ℕ)) (text : List ℕ) (n : ℕ) → Some n ≡ number_among names text → list_any (bytes_eq text) names ≡ true
is_among names text n e = by (list_any (bytes_eq text) names) e
  where
    by : (b : Bool) → Some n ≡ (if b then Some (number_in names text) else None) → b ≡ true
    by true e = refl
    by false e = absurd (cc e)

-- what has none is new
pub is_new : (names : List (List ℕ)) (text : List ℕ) → None ≡ number_among names text → list_any (bytes_eq text) names ≡ false
is_new names text e = by (list_any (bytes_eq text) names) e
  where
    by : (b : Bool) → None ≡ (if b then Some (number_in names text) else None) → b ≡ false
    by true e = absurd (cc e)
    by false e = refl

-- with a new text at the end, that text has the last number, and each other what it had
number_among-push : (names : List (List ℕ)) (new text : List ℕ) → list_any (bytes_eq new) names ≡ false
    → cond (bytes_eq new text) (Some (length names)) (number_among names text) ≡ number_among (names ++ new ∷ []) text
number_among-push names new text absent = by (bytes_eq new text) refl
  where
    last : bytes_eq new text ≡ true → number_among (names ++ new ∷ []) text ≡ Some (length names)
    last e =
        let same : new ≡ text = (bytes_eq-Decides new text).0 e in
        let itself : bytes_eq new new ≡ true = (bytes_eq-Decides new new).1 refl in
        let here : list_any (bytes_eq new) (names ++ new ∷ []) ≡ true =
        list_any-append (bytes_eq new) names (new ∷ []) ∙ ap (λ c. c || (bytes_eq new new || false)) absent ∙ ap (λ c. c || false) itself in
        let at : number_in (names ++ new ∷ []) new ≡ length names = at_end names absent itself in
        subst (λ t. number_among (names ++ new ∷ []) t ≡ Some (length names)) same
        (ap (λ b. if b then Some (number_in (names ++ new ∷ []) new) else None) here ∙ ap Some at)
      where
        at_end : (xs : List (List ℕ)) → list_any (bytes_eq new) xs ≡ false → bytes_eq new new ≡ true → number_in (xs ++ new ∷ []) new ≡ length xs
        at_end [] none itself = ap (λ b. cond (not b) 1 0) itself
        at_end (x ∷ xs) none itself = under (bytes_eq new x) none (λ later. at_end xs later itself)
          where
            under : (b : Bool) → (b || list_any (bytes_eq new) xs) ≡ false
                → (list_any (bytes_eq new) xs ≡ false → number_in (xs ++ new ∷ []) new ≡ length xs)
                → cond (not b) (1 + number_in (xs ++ new ∷ []) new) 0 ≡ length (x ∷ xs)
            under true here rest = absurd (true≢false here)
            under false later rest = let n : number_in (xs ++ new ∷ []) new ≡ length xs = rest later in omega arith

    other : bytes_eq new text ≡ false → number_among names text ≡ number_among (names ++ new ∷ []) text
    other e =
        let turned : bytes_eq text new ≡ false = sym (nat_list_eq_equiv.symm new text) ∙ e in
        let there : list_any (bytes_eq text) (names ++ new ∷ []) ≡ list_any (bytes_eq text) names =
        list_any-append (bytes_eq text) names (new ∷ []) ∙ ap (λ c. list_any (bytes_eq text) names || (c || false)) turned ∙ or_false (list_any (bytes_eq text) names) in
        among (list_any (bytes_eq text) names) refl
        ∙ ap (λ b. if b then Some (number_in (names ++ new ∷ []) text) else None) (sym there)
      where
        or_false : (b : Bool) → (b || (false || false)) ≡ b
        or_false true = refl
        or_false false = refl

        among : (b : Bool) → list_any (bytes_eq text) names ≡ b
            → number_among names text ≡ (if list_any (bytes_eq text) names then Some (number_in (names ++ new ∷ []) text) else None)
        among true e = ap (λ n. if list_any (bytes_eq text) names then Some n else None) (sym (number_in-later names (new ∷ []) text e))
        among false e = ap (λ b. if b then Some (number_in names text) else None) e ∙ ap (λ b. if b then Some (number_in (names ++ new ∷ []) text) else None) (sym e)

    by : (b : Bool) → bytes_eq new text ≡ b → cond b (Some (length names)) (number_among names text) ≡ number_among (names ++ new ∷ []) text
    by true e = sym (last e)
    by false e = other e

module _ {Y S : Type 0} where
  -- the map with the number of a new text at the end has the numbers of all
  pub IsNumbered-push : (before after : HashMap (String Y) ℕ S) (names : List (List ℕ)) (key : String Y) (text : List ℕ)
      → IsNumbered before names → list_any (bytes_eq text) names ≡ false → string_bytes key ≡ text
      → UpdatesBy string_eq (string_eq key) before after (Some (length names))
      → IsNumbered after (names ++ text ∷ [])
  IsNumbered-push before after names key text numbered absent is updates = record {
    finds = λ cs.
        subst (λ bs. get_by_text after cs ≡ cond (bytes_eq bs cs) (Some (length names)) (get_by_text before cs)) is
        (hash_map_updates_text (string_bytes key) before after (Some (length names)) updates cs)
        ∙ ap (cond (bytes_eq text cs) (Some (length names))) (numbered.finds cs)
        ∙ number_among-push names text cs absent;
    distinct = IsDistinct-push nat_list_eq_equiv names text numbered.distinct absent;
  }

  -- a map of the same entries has the same numbers
  pub IsNumbered-same : (before after : HashMap (String Y) ℕ S) (names : List (List ℕ)) → IsNumbered before names
      → after.entries ≡ before.entries → IsNumbered after names
  IsNumbered-same before after names numbered same = record {
    finds = λ cs. ap (λ es. lookup (λ k. bytes_eq cs (string_bytes k)) es) same ∙ numbered.finds cs;
    distinct = numbered.distinct;
  }

  -- an empty map has the numbers of no names
  pub IsNumbered-empty : (numbers : HashMap (String Y) ℕ S) → numbers.entries ≡ [] → IsNumbered numbers []
  unfolding IsDistinct
  IsNumbered-empty numbers empty = record {
    finds = λ cs. ap (λ es. lookup (λ k. bytes_eq cs (string_bytes k)) es) empty;
    distinct = tt;
  }

  -- what is looked up is the number among the names
  pub looked_up : (numbers : HashMap (String Y) ℕ S) (kept names : List (List ℕ)) (text : List ℕ) (found : Option ℕ)
      → IsNumbered numbers kept → kept ≡ names → found ≡ get_by_text numbers text → found ≡ number_among names text
  looked_up numbers kept names text found numbered is e = e ∙ numbered.finds text ∙ ap (λ ns. number_among ns text) is

  -- a text that is looked up and not found is new
  pub not_found : (numbers : HashMap (String Y) ℕ S) (kept names : List (List ℕ)) (text : List ℕ)
      → IsNumbered numbers kept → kept ≡ names → None ≡ get_by_text numbers text → list_any (bytes_eq text) names ≡ false
  not_found numbers kept names text numbered is e = is_new names text (looked_up numbers kept names text None numbered is e)

  -- a string more, whose text is new, with its place as its number
  pub pushed : (before after : HashMap (String Y) ℕ S) (items items' : List (String Y)) (names : List (List ℕ)) (kept key : String Y) (text : List ℕ) (number : ℕ)
      → IsNumbered before (map string_bytes items) → map string_bytes items ≡ names → list_any (bytes_eq text) names ≡ false
      → string_bytes kept ≡ text → string_bytes key ≡ text → number ≡ length names
      → UpdatesBy string_eq (string_eq key) before after (Some number) → items' ≡ items ++ kept ∷ []
      → IsNumbered after (map string_bytes items')
  pushed before after items items' names kept key text number numbered view absent kept_is key_is place updates more =
      let longer : map string_bytes items' ≡ names ++ text ∷ [] =
      ap (map string_bytes) more ∙ map-append string_bytes items (kept ∷ []) ∙ (λ i. view i ++ kept_is i ∷ []) in
      subst (IsNumbered after) (sym longer)
      (IsNumbered-push before after names key text (subst (IsNumbered before) view numbered) absent key_is
      (subst (λ n. UpdatesBy string_eq (string_eq key) before after (Some n)) place updates))
