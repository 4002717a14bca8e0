-- Lists, and the lists that values have.
use Rattle.std.proofs.Common.{◌≡◌, ℕ, zero, suc, List, [], ◌∷◌, map, take, refl, ap, sym, ◌∙◌, Some, None, Bool, true, if◌then◌else◌, IsTrue, ◌↔◌, unwrap_or}
use Rattle.abstract_syntax.specs.Values.{ValueTree, character, record_of, sequence, set_of, tuple, map_of, value_trees, value_list, pair_trees, pair_list, value_list-value_trees, pair_list-pair_trees}
use Rattle.pattern_meaning.specs.Ways.{items_in, elements_in, components_in, entries_in, same_type, fields_of}
use Rattle.pattern_meaning.specs.RecordTypes.{RecordType}
use Rattle.vdm_kinds.specs.declared.name.Name.{Name}

pub map-take : {A B : Type 0} (f : A → B) (n : ℕ) (xs : List A) → map f (take n xs) ≡ take n (map f xs)
map-take f zero xs = refl
map-take f (suc n) [] = refl
map-take f (suc n) (x ∷ xs) = ap (λ rest. f x ∷ rest) (map-take f n xs)

pub items_in_sequence : (vs : List ValueTree) → items_in (sequence (value_trees vs)) ≡ Some vs
items_in_sequence vs = ap Some (value_list-value_trees vs)

pub elements_in_set : (vs : List ValueTree) → elements_in (set_of (value_trees vs)) ≡ Some vs
elements_in_set vs = ap Some (value_list-value_trees vs)

pub components_in_tuple : (vs : List ValueTree) → components_in (tuple (value_trees vs)) ≡ Some vs
components_in_tuple vs = ap Some (value_list-value_trees vs)

pub entries_in_map : (es : List (ValueTree × ValueTree)) → entries_in (map_of (pair_trees es)) ≡ Some es
entries_in_map es = ap Some (pair_list-pair_trees es)

pub some_value : {A : Type 0} {x y : A} → Some x ≡ Some y → x ≡ y
some_value {x = x} e = ap (λ o. unwrap_or o x) e

-- a test of a list of values is one of the sequence of a text
pub texts_are_told : (r : Bool) (w : ValueTree) (cs characters : List ℕ) (vs : List ValueTree) →
    w ≡ sequence (value_trees (map character characters)) → cs ≡ characters →
    (IsTrue r ↔ vs ≡ map character cs) → (IsTrue r ↔ sequence (value_trees vs) ≡ w)
texts_are_told r w cs characters vs e same h = (
  λ t. ap (λ xs. sequence (value_trees xs)) (h.0 t ∙ ap (map character) same) ∙ sym e,
  λ t. h.1 (some_value (sym (items_in_sequence vs) ∙ ap items_in (t ∙ e) ∙ items_in_sequence (map character characters)) ∙
      ap (map character) (sym same)),
)

-- the fields of a record whose type passes the test
pub fields_found : (t : RecordType) (class name : Name) (vs ws : List ValueTree) (v : ValueTree) →
    v ≡ record_of class name (value_trees vs) → ws ≡ vs → same_type t class name ≡ true → Some ws ≡ fields_of t v
fields_found t class name vs ws v e same h =
    ap Some (same ∙ sym (value_list-value_trees vs)) ∙
    ap (λ b. if b then Some (value_list (value_trees vs)) else None) (sym h) ∙ ap (fields_of t) (sym e)

pub value_trees-one_to_one : (xs ys : List ValueTree) → value_trees xs ≡ value_trees ys → xs ≡ ys
value_trees-one_to_one xs ys e = sym (value_list-value_trees xs) ∙ ap value_list e ∙ value_list-value_trees ys

pub sequence-one_to_one : (xs ys : List ValueTree) → sequence (value_trees xs) ≡ sequence (value_trees ys) → xs ≡ ys
sequence-one_to_one xs ys e = some_value (sym (items_in_sequence xs) ∙ ap items_in e ∙ items_in_sequence ys)

pub same_sequences : (r : Bool) (xs ys : List ValueTree) → (IsTrue r ↔ xs ≡ ys) →
    (IsTrue r ↔ sequence (value_trees xs) ≡ sequence (value_trees ys))
same_sequences r xs ys h = (λ t. ap (λ zs. sequence (value_trees zs)) (h.0 t), λ e. h.1 (sequence-one_to_one xs ys e))

pub turned : (r : Bool) (v w : ValueTree) → (IsTrue r ↔ v ≡ w) → (IsTrue r ↔ w ≡ v)
turned r v w h = (λ t. sym (h.0 t), λ e. h.1 (sym e))

-- a test of two values is one of what they are
pub told : (r : Bool) (v w x y : ValueTree) → v ≡ x → w ≡ y → (IsTrue r ↔ x ≡ y) → (IsTrue r ↔ v ≡ w)
told r v w x y e f h = (λ t. e ∙ h.0 t ∙ sym f, λ d. h.1 (sym e ∙ d ∙ f))

pub told_sequences : (r : Bool) (v w : ValueTree) (xs ys : List ValueTree) → v ≡ sequence (value_trees xs) → w ≡ sequence (value_trees ys) →
    (IsTrue r ↔ xs ≡ ys) → (IsTrue r ↔ v ≡ w)
told_sequences r v w xs ys e f h = told r v w (sequence (value_trees xs)) (sequence (value_trees ys)) e f (same_sequences r xs ys h)

pub ruleset comparing = (same_sequences, turned, value_list-value_trees)

pub ruleset cutting = (map-take)

pub ruleset parts = (items_in_sequence, elements_in_set, components_in_tuple, entries_in_map)
