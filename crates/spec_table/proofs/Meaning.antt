-- Classes that have members, by their numbers and names.
use Rattle.std.proofs.Common.{◌≡◌, ℕ, ◌<◌, Bool, true, ◌||◌, List, [], ◌∷◌, Option, Some, None, option_map, map, length, get_or, slice_get, nat_eq, eqb-true, refl, ap, sym, ◌∙◌}
use Rattle.std.specs.List.{list_any}
use Rattle.std.specs.Option.{option_and_then}
use Rattle.std.proofs.lemmas.List.Quantifiers.{position-Some}
use Rattle.std.proofs.lemmas.Option.{slice_get-get_or, slice_get_within}
use Rattle.vdm_kinds.specs.declared.name.Name.{Name}
use Rattle.abstract_syntax.specs.Classes.{ClassTree, SpecTree, is_same_name}
use Rattle.class_meaning.specs.Classes.{io_class, classes, class_at, class_number, name_of_class}
use Rattle.class_meaning.specs.Ancestors.{ancestors, ancestor_names}
use Rattle.class_meaning.specs.Faults.{table_fault}
use Rattle.class_meaning.specs.Found.{own_in}
use Rattle.class_meaning.specs.Members.{Member, own}
use Rattle.class_meaning.specs.declared.ask.Ask.{Ask}
use Rattle.class_meaning.proofs.Numbers.{or_left, or_right, itself}
use Rattle.class_meaning.proofs.Ranges.{class_number_below}
use Rattle.spec_table.specs.Meanings.{Owns, class_named}
use Rattle.spec_table.specs.Members.{item_view}
use Rattle.spec_table.specs.Tables.{table_spec}
use Rattle.spec_table.specs.declared.item.Item.{Item}
use Rattle.spec_table.specs.declared.meanings.Owner.{Owner}
use Rattle.spec_table.specs.declared.table.ClassTable.{ClassTable}
use Rattle.spec_table.proofs.Numbering.{named_class, number_of_name, ancestor_within}
use Rattle.spec_table.proofs.Reaching.{same_name}

-- the name of the number of a name
pub name_of_number : (spec : SpecTree) (class : Name) (k : ℕ) → class_number spec class ≡ Some k → name_of_class spec k ≡ class
name_of_number spec class k e = same_name (name_of_class spec k) class (sym (named_class spec class k e))

-- the class of a name has it
pub name_of_named : (spec : SpecTree) (name : Name) (k : ℕ) (class : ClassTree) → class_number spec name ≡ Some k → class_at spec k ≡ Some class → class.name ≡ name
name_of_named spec name k class e at =
    let there = position-Some (λ (c : ClassTree). is_same_name name c.name) (classes spec) k io_class e in
    let same : Some (get_or (classes spec) k io_class) ≡ Some class = sym (slice_get-get_or (classes spec) k io_class there.0) ∙ at in
    let class_is : get_or (classes spec) k io_class ≡ class = cc in
    sym (same_name name (get_or (classes spec) k io_class).name (eqb-true name.0 (get_or (classes spec) k io_class).name.0 there.1) ∙ ap (λ (c : ClassTree). c.name) class_is)

-- a class that answers is one of the classes
answering_within : (spec : SpecTree) (ask : Ask) (k : ℕ) (m : Member) → own_in spec ask k ≡ Some m → k < length (classes spec)
answering_within spec ask k m e = by (class_at spec k) refl e
  where
    by : (o : Option ClassTree) → class_at spec k ≡ o → option_and_then (λ (class : ClassTree). own class ask) o ≡ Some m → k < length (classes spec)
    by None s e = absurd (cc)
    by (Some class) s e = slice_get_within (classes spec) k class s

pub owned_by : (spec : SpecTree) → table_fault spec ≡ None → (ask : Ask) (k : ℕ) (owner : Owner) (found : Option Item) (item : Item)
    → option_map item_view found ≡ own_in spec ask k → found ≡ Some item → owner.number ≡ k → owner.name ≡ name_of_class spec k → Owns spec owner
owned_by spec fine ask k owner found item answered is number named =
    let answers : own_in spec ask k ≡ Some (item_view item) = sym answered ∙ ap (option_map item_view) is in
    record {
      named = named ∙ ap (name_of_class spec) (sym number);
      numbered = ap (class_number spec) named ∙ number_of_name spec fine k (answering_within spec ask k (item_view item) answers) ∙ ap Some (sym number);
    }

-- a test of all ancestors of a class, by their names
module _ (spec : SpecTree) (fine : table_fault spec ≡ None) (test : Option ClassTree → Bool) where
  any_among : (ks : List ℕ) → ((a : ℕ) → list_any (nat_eq a) ks ≡ true → a < length (classes spec))
      → list_any (λ (name : Name). test (class_named spec name)) (map (name_of_class spec) ks) ≡ list_any (λ (a : ℕ). test (class_at spec a)) ks
  any_among [] within = refl
  any_among (k ∷ ks) within =
      ap (λ (b : Bool). b || list_any (λ (name : Name). test (class_named spec name)) (map (name_of_class spec) ks))
      (ap (λ (o : Option ℕ). test (option_and_then (class_at spec) o)) (number_of_name spec fine k (within k (or_left (nat_eq k k) (list_any (nat_eq k) ks) (itself k)))))
      ∙ ap (λ (b : Bool). test (class_at spec k) || b) (any_among ks (λ a t. within a (or_right (nat_eq a k) (list_any (nat_eq a) ks) t)))

pub any_ancestor : (table : ClassTable) (test : Option ClassTree → Bool) (class : Name) (k : ℕ) → class_number (table_spec table) class ≡ Some k
    → list_any (λ (name : Name). test (class_named (table_spec table) name)) (ancestor_names (table_spec table) k)
    ≡ list_any (λ (a : ℕ). test (class_at (table_spec table) a)) (ancestors (table_spec table) k)
any_ancestor table test class k e =
    any_among (table_spec table) table.fine test (ancestors (table_spec table) k)
    (λ a t. ancestor_within (table_spec table) table.fine k a (class_number_below (table_spec table) class k e) t)
