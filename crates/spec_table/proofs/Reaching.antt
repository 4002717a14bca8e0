-- Ancestors, calls and all classes by their names.
use Rattle.std.proofs.Common.{◌≡◌, ◌↔◌, ℕ, zero, suc, ◌<◌, Bool, true, false, ◌&&◌, if◌then◌else◌, cond, List, [], ◌∷◌, Option, Some, None, option_map, map, length, get_or, slice_get, nat_eq, Contains, IsTrue, refl, ap, sym, subst, ◌∙◌, arith}
use Rattle.std.specs.List.{list_any, find, filter}
use Rattle.std.specs.Option.{option_and_then}
use Rattle.std.proofs.lemmas.List.{length-map}
use Rattle.vdm_kinds.specs.NameList.{io}
use Rattle.vdm_kinds.specs.declared.access.Level.TheVariants.{Protected}
use Rattle.vdm_kinds.specs.declared.name.Name.{Name}
use Rattle.abstract_syntax.specs.Classes.{ClassTree, SpecTree, is_same_name}
use Rattle.class_meaning.specs.Classes.{classes, class_graph, class_names, class_number, name_of_class}
use Rattle.class_meaning.specs.Ancestors.{ancestors, ancestor_names, is_ancestor}
use Rattle.class_meaning.specs.Calls.{is_visible, has_operation, operation_of, on_the_way, is_private, reached}
use Rattle.class_meaning.specs.Faults.{table_fault}
use Rattle.class_meaning.specs.Found.{own_in, is_some_kind}
use Rattle.class_meaning.specs.Members.{kind_of}
use Rattle.class_meaning.specs.declared.ask.Ask.TheVariants.{Called}
use Rattle.class_meaning.specs.declared.ask.MemberKind.TheVariants.{Operation}
use Rattle.class_meaning.proofs.Numbers.{not_both, or_left, or_right, itself}
use Rattle.class_meaning.proofs.Ranges.{class_number_below}
use Rattle.class_meaning.proofs.Walks.{ancestors_has_itself}
use Rattle.spec_table.specs.Members.{own_member, number_of, descends_to, descends_from, has_named, named_operation, keeper, reached_through}
use Rattle.spec_table.proofs.Numbering.{named_class, number_at, number_of_name, ancestor_within, ancestor_named}

-- what is visible below a class, by names
pub below_right : (spec : SpecTree) (class owner : Name) (o : ℕ) → class_number spec owner ≡ Some o
    → descends_from spec class owner ≡ is_visible spec (class_number spec class) o Protected
below_right spec class owner o e = ap (descends_to spec (class_number spec class)) e ∙ by (class_number spec class)
  where
    by : (k : Option ℕ) → descends_to spec k (Some o) ≡ is_visible spec k o Protected
    by None = refl
    by (Some k) = refl

pub same_name : (a b : Name) → a.0 ≡ b.0 → a ≡ b
same_name a b e = ap (λ (n : ℕ). record { 0 = n }) e

same_default : {A : Type 0} (xs : List A) (k : ℕ) (d e : A) → k < length xs → get_or xs k d ≡ get_or xs k e
same_default [] k d e l = absurd (omega arith)
same_default (x ∷ xs) zero d e l = refl
same_default (x ∷ xs) (suc k) d e l = same_default xs k d e (omega (arith, l))

module _ (spec : SpecTree) (fine : table_fault spec ≡ None) where
  pub descends_named : (class ancestor : Name) (a : ℕ) → class_number spec ancestor ≡ Some a → (line : List Name)
      → ((k : ℕ) → class_number spec class ≡ Some k → line ≡ ancestor_names spec k) → (class_number spec class ≡ None → line ≡ [])
      → list_any (is_same_name ancestor) line ≡ descends_from spec class ancestor
  descends_named class ancestor a e line some none = by (class_number spec class) refl ∙ ap (descends_to spec (class_number spec class)) (sym e)
    where
      by : (k : Option ℕ) → class_number spec class ≡ k → list_any (is_same_name ancestor) line ≡ descends_to spec k (Some a)
      by None f = ap (list_any (is_same_name ancestor)) (none f)
      by (Some k) f =
          ap (list_any (is_same_name ancestor)) (some k f)
          ∙ ancestor_named spec fine ancestor a k e (class_number_below spec class k f)

  has_both : (name : Name) (n k : ℕ) → k < length (classes spec) → has_named spec name n (name_of_class spec k) ≡ has_operation spec name n k
  has_both name n k l =
      ap (λ (o : Option ℕ). is_some_kind Operation (option_map kind_of (option_and_then (own_in spec (Called name n)) o))) (number_of_name spec fine k l)

  first_named : (name : Name) (n : ℕ) (ks : List ℕ) → ((a : ℕ) → list_any (nat_eq a) ks ≡ true → a < length (classes spec))
      → option_map (named_operation name n) (find (has_named spec name n) (map (name_of_class spec) ks))
      ≡ slice_get (map (operation_of spec name n) (filter (has_operation spec name n) ks)) 0
  first_named name n [] within = refl
  first_named name n (k ∷ ks) within =
      ap (λ (b : Bool). option_map (named_operation name n) (cond b (Some (name_of_class spec k)) (find (has_named spec name n) (map (name_of_class spec) ks))))
      (has_both name n k (within k (or_left (nat_eq k k) (list_any (nat_eq k) ks) (itself k))))
      ∙ by (has_operation spec name n k)
      (first_named name n ks (λ a t. within a (or_right (nat_eq a k) (list_any (nat_eq a) ks) t)))
    where
      by : (b : Bool) → option_map (named_operation name n) (find (has_named spec name n) (map (name_of_class spec) ks))
          ≡ slice_get (map (operation_of spec name n) (filter (has_operation spec name n) ks)) 0
          → option_map (named_operation name n) (cond b (Some (name_of_class spec k)) (find (has_named spec name n) (map (name_of_class spec) ks)))
          ≡ slice_get (map (operation_of spec name n) (cond b (k ∷ filter (has_operation spec name n) ks) (filter (has_operation spec name n) ks))) 0
      by true rest = refl
      by false rest = rest

  on_way : (k : ℕ) (name : Name) (n : ℕ) → k < length (classes spec)
      → option_map (named_operation name n) (find (has_named spec name n) (ancestor_names spec k)) ≡ slice_get (on_the_way spec k name n) 0
  on_way k name n l = first_named name n (ancestors spec k) (λ a t. ancestor_within spec fine k a l t)

  kept : (k : ℕ) (name : Name) (n : ℕ) (line : List Name) → k < length (classes spec) → line ≡ ancestor_names spec k → (inner : Name) (f : Option ℕ) → class_number spec inner ≡ f
      → reached_through spec name n
      (if descends_to spec (Some k) f && is_private (option_and_then (own_in spec (Called name n)) f) then Some inner else None) line
      ≡ reached spec f k name n
  kept k name n line l e inner None g = ap (λ (xs : List Name). option_map (named_operation name n) (find (has_named spec name n) xs)) e ∙ on_way k name n l
  kept k name n line l e inner (Some f) g = by (is_ancestor spec k f && is_private (own_in spec (Called name n) f))
    where
      by : (b : Bool) → reached_through spec name n (if b then Some inner else None) line
          ≡ (if b then option_map (operation_of spec name n) (Some f) else slice_get (on_the_way spec k name n) 0)
      by true = ap (λ (m : Name). Some (named_operation name n m)) (same_name inner (name_of_class spec f) (named_class spec inner f g))
      by false = ap (λ (xs : List Name). option_map (named_operation name n) (find (has_named spec name n) xs)) e ∙ on_way k name n l

  pub reached_right : (from : Option Name) (class : Name) (k : ℕ) (name : Name) (n : ℕ) → class_number spec class ≡ Some k → (line : List Name) → line ≡ ancestor_names spec k
      → reached_through spec name n (keeper spec class name n from) line ≡ reached spec (number_of spec from) k name n
  reached_right None class k name n e line same =
      ap (λ (xs : List Name). option_map (named_operation name n) (find (has_named spec name n) xs)) same ∙ on_way k name n (class_number_below spec class k e)
  reached_right (Some inner) class k name n e line same =
      ap (λ (o : Option ℕ). reached_through spec name n
      (if descends_to spec o (class_number spec inner) && is_private (own_member spec inner (Called name n)) then Some inner else None) line) e
      ∙ kept k name n line (class_number_below spec class k e) same inner (class_number spec inner) refl

  -- ---- all classes

  known : (class : Name) → Contains (class_names spec) class → IsTrue (descends_from spec class class)
  known class h =
      let l : h.0 < length (classes spec) = subst (λ (n : ℕ). h.0 < n) (length-map (classes spec) (λ (c : ClassTree). c.name)) h.1 in
      let there : name_of_class spec h.0 ≡ class = same_default (class_names spec) h.0 io class h.1 ∙ h.2 in
      let number : class_number spec class ≡ Some h.0 =
      number_at spec fine class h.0 l (subst (λ (m : Name). is_same_name class m ≡ true) (sym there) (itself class.0)) in
      ap (λ (o : Option ℕ). descends_to spec o o) number ∙ ancestors_has_itself (class_graph spec) h.0

  there_is : (class : Name) (o : Option ℕ) → class_number spec class ≡ o → IsTrue (descends_to spec o o) → Contains (class_names spec) class
  there_is class None e t = not_both t refl
  there_is class (Some k) e t =
      let l : k < length (class_names spec) = subst (λ (n : ℕ). k < n) (sym (length-map (classes spec) (λ (c : ClassTree). c.name))) (class_number_below spec class k e) in
      let name : name_of_class spec k ≡ class = sym (same_name class (name_of_class spec k) (named_class spec class k e)) in
      (k, l, same_default (class_names spec) k class io l ∙ name)

  pub known_class : (class : Name) → Contains (class_names spec) class ↔ IsTrue (descends_from spec class class)
  known_class class = (known class, there_is class (class_number spec class) refl)
