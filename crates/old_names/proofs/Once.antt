-- A name behind others, each once where it stands first.
use Rattle.std.proofs.Common.{◌≡◌, ℕ, ◌+◌, ◌<◌, Bool, true, false, not, ◌||◌, List, [], ◌∷◌, ◌++◌, length, take, get_or, nat_eq, cond, refl, ap, sym, subst, ◌∙◌, eqb-true, append-nil}
use Rattle.std.specs.List.{list_any, filter}
use Rattle.std.proofs.lemmas.List.{take_more}
use Rattle.std.proofs.lemmas.List.Elements.{filter-append}
use Rattle.vdm_kinds.specs.declared.name.Name.{Name}
use Rattle.abstract_syntax.specs.Classes.{is_same_name}
use Rattle.class_meaning.specs.Objects.{first_names}
use Rattle.class_meaning.proofs.Numbers.{flipped}
use Rattle.old_names.specs.Firsts.{with_name}

abbrev others_than : Name → List Name → List Name
others_than name names = filter (λ (other : Name). not (is_same_name name other)) names

-- taking out another name changes nothing for a name
among_others : (y x : Name) (names : List Name) → nat_eq x.0 y.0 ≡ false → list_any (is_same_name x) (others_than y names) ≡ list_any (is_same_name x) names
among_others y x [] f = refl
among_others y x (z ∷ names) f = by (nat_eq y.0 z.0) refl (among_others y x names f)
  where
    by : (s : Bool) → nat_eq y.0 z.0 ≡ s → list_any (is_same_name x) (others_than y names) ≡ list_any (is_same_name x) names
        → list_any (is_same_name x) (cond (not s) (z ∷ others_than y names) (others_than y names)) ≡ (nat_eq x.0 z.0 || list_any (is_same_name x) names)
    by true e rest =
        rest ∙ ap (λ (t : Bool). t || list_any (is_same_name x) names) (sym (subst (λ (n : ℕ). nat_eq x.0 n ≡ false) (eqb-true y.0 z.0 e) f))
    by false e rest = ap (λ (t : Bool). nat_eq x.0 z.0 || t) rest

-- a filter lets the last name through, or does not
last_of : (y x : Name) (names : List Name) (s : Bool) → nat_eq y.0 x.0 ≡ s → others_than y (names ++ x ∷ []) ≡ others_than y names ++ cond (not s) (x ∷ []) []
last_of y x names s e =
    filter-append (λ (other : Name). not (is_same_name y other)) names (x ∷ []) ∙ ap (λ (t : Bool). others_than y names ++ cond (not t) (x ∷ []) []) e

-- a name that is taken out first, or that is added first
behind_first : (y x : Name) (names : List Name) → y ∷ others_than y (with_name names x) ≡ with_name (y ∷ others_than y names) x
behind_first y x names = by (nat_eq y.0 x.0) refl
  where
    same : (b : Bool) → nat_eq y.0 x.0 ≡ true → others_than y (cond b names (names ++ x ∷ [])) ≡ others_than y names
    same true e = refl
    same false e = last_of y x names true e ∙ append-nil (others_than y names)

    other : (b : Bool) → nat_eq y.0 x.0 ≡ false → y ∷ others_than y (cond b names (names ++ x ∷ [])) ≡ cond b (y ∷ others_than y names) (y ∷ others_than y names ++ x ∷ [])
    other true e = refl
    other false e = ap (λ (zs : List Name). y ∷ zs) (last_of y x names false e)

    by : (s : Bool) → nat_eq y.0 x.0 ≡ s → y ∷ others_than y (with_name names x) ≡ with_name (y ∷ others_than y names) x
    by true e =
        ap (λ (zs : List Name). y ∷ zs) (same (list_any (is_same_name x) names) e)
        ∙ ap (λ (t : Bool). cond (t || list_any (is_same_name x) (others_than y names)) (y ∷ others_than y names) (y ∷ others_than y names ++ x ∷ [])) (sym (flipped x.0 y.0 ∙ e))
    by false e =
        let apart : nat_eq x.0 y.0 ≡ false = flipped x.0 y.0 ∙ e in
        other (list_any (is_same_name x) names) e
        ∙ ap (λ (t : Bool). cond t (y ∷ others_than y names) (y ∷ others_than y names ++ x ∷ [])) (sym (among_others y x names apart))
        ∙ ap (λ (t : Bool). cond (t || list_any (is_same_name x) (others_than y names)) (y ∷ others_than y names) (y ∷ others_than y names ++ x ∷ [])) (sym apart)

-- the last name is found, or it is not
last_first : (names : List Name) (x : Name) → first_names (names ++ x ∷ []) ≡ with_name (first_names names) x
last_first [] x = refl
last_first (y ∷ names) x = ap (λ (zs : List Name). y ∷ others_than y zs) (last_first names x) ∙ behind_first y x (first_names names)

-- one name more of a list
pub one_more : (names : List Name) (i : ℕ) (d : Name) → i < length names → first_names (take (i + 1) names) ≡ with_name (first_names (take i names)) (get_or names i d)
one_more names i d h = ap first_names (take_more names i d h) ∙ last_first (take i names) (get_or names i d)
