-- What stands at a number in a list, and in the tree that the list stands for.
use Rattle.std.proofs.Common.{◌≡◌, ℕ, zero, suc, List, [], ◌∷◌, Option, Some, None, option_map, slice_get, get_or, length, map, refl, ap, sym, ◌∙◌, arith, rules}
use Rattle.std.proofs.lemmas.Option.{slice_get_past, slice_get_read}
use Rattle.std.specs.Borrow.{Bor}
use Rattle.std.specs.Slice.{IsItemAt}
use Rattle.vdm_kinds.specs.declared.name.Name.{Name}
use Rattle.abstract_syntax.specs.Classes.{SpecTree}
use Rattle.expr_tree.specs.View.{field_value_view}
use Rattle.expr_tree.specs.declared.parts.FieldValue.{FieldValue, the_lemmas}
use Rattle.form_meaning.specs.Forms.{FormTree, any_form}
use Rattle.class_checks.specs.Shapes.{like, changed_want, field_want, name_behind, seen_at, want_behind}
use Rattle.type_forms.specs.Tree.{form_trees}
use Rattle.check_shapes.specs.declared.shape.Seen.{Seen}
use Rattle.check_shapes.specs.ShapeView.{names_of, seen_view}

pub item_at : {A : Type 0} (xs : List A) (i : ℕ) (r : Option (Bor A)) → IsItemAt xs i r → option_map (λ (x : Bor A). x.now) r ≡ slice_get xs i
item_at xs i None h = sym (slice_get_past xs i h.3)
item_at xs i (Some x) h = sym (slice_get_read xs (length xs) i x.now refl h.3.0 h.1)

-- ---- parts that were seen

abbrev pub form_or_any : Option Seen → FormTree
form_or_any None = any_form
form_or_any (Some seen) = seen.form

pub seen_found : (xs : List Seen) (n : ℕ) → form_or_any (slice_get xs n) ≡ seen_at n (map seen_view xs)
seen_found [] n = refl
seen_found (x ∷ xs) zero = refl
seen_found (x ∷ xs) (suc n) = seen_found xs n

pub seen_lookup : (xs : List Seen) (n : ℕ) (r : Option (Bor Seen)) → IsItemAt xs n r
    → form_or_any (option_map (λ (x : Bor Seen). x.now) r) ≡ seen_at n (map seen_view xs)
seen_lookup xs n r h = ap form_or_any (item_at xs n r h) ∙ seen_found xs n

count_seen : (xs : List Seen) → length (map seen_view xs) ≡ length xs
count_seen [] = refl
count_seen (x ∷ xs) = ap suc (count_seen xs)

-- ---- wants of arguments

abbrev pub form_or_any_form : Option FormTree → FormTree
form_or_any_form None = any_form
form_or_any_form (Some form) = form

pub want_found : (xs : List FormTree) (n : ℕ) → form_or_any_form (slice_get xs n) ≡ want_behind n (form_trees xs)
want_found [] n = refl
want_found (x ∷ xs) zero = refl
want_found (x ∷ xs) (suc n) = want_found xs n

pub want_lookup : (xs : List FormTree) (n : ℕ) (r : Option (Bor FormTree)) → IsItemAt xs n r
    → form_or_any_form (option_map (λ (x : Bor FormTree). x.now) r) ≡ want_behind n (form_trees xs)
want_lookup xs n r h = ap form_or_any_form (item_at xs n r h) ∙ want_found xs n

-- ---- fields that are changed

abbrev pub name_of : FieldValue → Name
name_of field = field.name

name_kept : (x : FieldValue) → (field_value_view x).name ≡ x.name
name_kept x = search (rules, the_lemmas)

pub name_found : (fields : List FieldValue) (n : ℕ) → option_map name_of (slice_get fields n) ≡ name_behind n (names_of fields)
name_found [] n = refl
name_found (x ∷ xs) zero = ap (λ (name : Name). Some name) (sym (name_kept x))
name_found (x ∷ xs) (suc n) = name_found xs n

pub name_lookup : (fields : List FieldValue) (n : ℕ) (r : Option (Bor FieldValue)) → IsItemAt fields n r
    → option_map name_of (option_map (λ (x : Bor FieldValue). x.now) r) ≡ name_behind n (names_of fields)
name_lookup fields n r h = ap (option_map name_of) (item_at fields n r h) ∙ name_found fields n

-- the target, and values behind it
pub target_first : (spec : SpecTree) (names : List Name) (xs : List Seen) (target : Seen) (others : ℕ) → target ≡ get_or xs 0 target
    → suc others ≡ length xs
    → like (field_want spec names (name_behind others names) (seen_view target)) ≡ changed_want spec names (map seen_view xs)
target_first spec names [] target others is count = absurd (omega (arith, count))
target_first spec names (x ∷ xs) target others is count =
    let e : others ≡ length (map seen_view xs) = omega (arith, count, count_seen xs) in
    (λ i. like (field_want spec names (name_behind others names) (seen_view (is i))))
    ∙ (λ i. like (field_want spec names (name_behind (e i) names) (seen_view x)))
