-- The invariants of an object, by the names of its class's ancestors.
use Rattle.std.proofs.Common.{◌≡◌, ℕ, ◌<◌, Bool, true, false, ◌&&◌, ◌||◌, List, [], ◌∷◌, ◌++◌, Option, Some, None, map, length, nat_eq, refl, ap, sym, ◌∙◌}
use Rattle.std.specs.List.{flat_map, list_any}
use Rattle.std.specs.Option.{option_and_then}
use Rattle.std.proofs.lemmas.List.Folds.{list_any-append}
use Rattle.vdm_kinds.specs.declared.name.Name.{Name}
use Rattle.abstract_syntax.specs.Classes.{ClassTree, SpecTree}
use Rattle.abstract_syntax.specs.Expressions.{ExprTree}
use Rattle.abstract_syntax.specs.Values.{ValueTree}
use Rattle.class_meaning.specs.Classes.{classes, class_at, class_number, name_of_class}
use Rattle.class_meaning.specs.Ancestors.{ancestors, ancestor_names}
use Rattle.class_meaning.specs.Faults.{table_fault}
use Rattle.class_meaning.specs.Objects.{listed}
use Rattle.class_meaning.proofs.Numbers.{or_left, or_right, itself}
use Rattle.class_meaning.proofs.Ranges.{class_number_below}
use Rattle.stmt_meaning.specs.Keeping.{Invariant, Holding, all_hold, class_conditions, class_invariants, holds, invariants, keeps, kept_by}
use Rattle.spec_table.specs.Meanings.{class_named}
use Rattle.spec_table.specs.Tables.{table_spec}
use Rattle.spec_table.specs.declared.table.ClassTable.{ClassTable}
use Rattle.spec_table.proofs.Meaning.{name_of_named}
use Rattle.spec_table.proofs.Numbering.{ancestor_within, number_of_name}
use Rattle.eval_data.specs.declared.here.Held.{Held}
use Rattle.kept_invariants.specs.Guarding.{all_hold_in, holds_in, line_holds, own_hold, standing}
use Rattle.kept_invariants.specs.Presence.{has_any, has_invariants, has_own, invariants_by}

-- ---- names and numbers

-- what the class of a name has
abbrev of_name : {A : Type 0} → SpecTree → (ClassTree → List A) → Name → List A
of_name spec f name = listed f (class_named spec name)

module _ {A : Type 0} (spec : SpecTree) (fine : table_fault spec ≡ None) (f : ClassTree → List A) where
  each_named : (ks : List ℕ) → ((a : ℕ) → list_any (nat_eq a) ks ≡ true → a < length (classes spec))
      → flat_map (of_name spec f) (map (name_of_class spec) ks) ≡ flat_map (λ (a : ℕ). listed f (class_at spec a)) ks
  each_named [] within = refl
  each_named (k ∷ ks) within =
      ap (λ (o : Option ℕ). listed f (option_and_then (class_at spec) o) ++ flat_map (of_name spec f) (map (name_of_class spec) ks))
      (number_of_name spec fine k (within k (or_left (nat_eq k k) (list_any (nat_eq k) ks) (itself k))))
      ∙ ap (λ (xs : List A). listed f (class_at spec k) ++ xs) (each_named ks (λ a t. within a (or_right (nat_eq a k) (list_any (nat_eq a) ks) t)))

invariants_named : (table : ClassTable) (class : Name) (k : ℕ) → class_number (table_spec table) class ≡ Some k
    → flat_map (of_name (table_spec table) class_invariants) (ancestor_names (table_spec table) k) ≡ invariants (table_spec table) k
invariants_named table class k e =
    each_named (table_spec table) table.fine class_invariants (ancestors (table_spec table) k)
    (λ a t. ancestor_within (table_spec table) table.fine k a (class_number_below (table_spec table) class k e) t)

-- the class of a name has it
own_name : (spec : SpecTree) (name : Name) (class : ClassTree) → class_named spec name ≡ Some class → class.name ≡ name
own_name spec name class e = by (class_number spec name) refl e
  where
    by : (o : Option ℕ) → class_number spec name ≡ o → option_and_then (class_at spec) o ≡ Some class → class.name ≡ name
    by None s e = absurd (cc)
    by (Some k) s e = name_of_named spec name k class s e

-- ---- whether they hold

and_three : (a b c : Bool) → (a && (b && c)) ≡ ((a && b) && c)
and_three true b c = refl
and_three false b c = refl

module _ (spec : SpecTree) (own : Name) (held : Held) where
  abbrev holding : Holding
  holding = held.variables.items

  all_hold-append : (xs ys : List Invariant) → all_hold spec own holding (xs ++ ys) ≡ (all_hold spec own holding xs && all_hold spec own holding ys)
  all_hold-append [] ys = refl
  all_hold-append (x ∷ xs) ys =
      ap (λ (b : Bool). holds spec own holding x && b) (all_hold-append xs ys)
      ∙ and_three (holds spec own holding x) (all_hold spec own holding xs) (all_hold spec own holding ys)

  abbrev invariant_of : Name → ExprTree → Invariant
  invariant_of class e = record { class = class; condition = e }

  -- those that stand in a class
  all_in : (class : Name) (es : List ExprTree)
      → all_hold spec own holding (map (invariant_of class) es) ≡ all_hold_in spec (record (standing own held) { scope = Some class }) es
  all_in class [] = refl
  all_in class (e ∷ es) = ap (λ (b : Bool). holds_in spec (record (standing own held) { scope = Some class }) e && b) (all_in class es)

  named : (class : Name) → all_hold spec own holding (of_name spec class_invariants class) ≡ own_hold spec (standing own held) class
  named class = by (class_named spec class) refl
    where
      by : (o : Option ClassTree) → class_named spec class ≡ o
          → all_hold spec own holding (listed class_invariants o) ≡ all_hold_in spec (record (standing own held) { scope = Some class }) (listed class_conditions o)
      by None e = refl
      by (Some c) e =
          all_in c.name (class_conditions c)
          ∙ ap (λ (n : Name). all_hold_in spec (record (standing own held) { scope = Some n }) (class_conditions c)) (own_name spec class c e)

  line : (classes : List Name) → all_hold spec own holding (flat_map (of_name spec class_invariants) classes) ≡ line_holds spec (standing own held) classes
  line [] = refl
  line (class ∷ classes) =
      all_hold-append (of_name spec class_invariants class) (flat_map (of_name spec class_invariants) classes)
      ∙ ap (λ (b : Bool). b && all_hold spec own holding (flat_map (of_name spec class_invariants) classes)) (named class)
      ∙ ap (λ (b : Bool). own_hold spec (standing own held) class && b) (line classes)

module _ (table : ClassTable) (class : Name) (ancestors_found : List Name)
    (some : (k : ℕ) → class_number (table_spec table) class ≡ Some k → ancestors_found ≡ ancestor_names (table_spec table) k)
    (none : class_number (table_spec table) class ≡ None → ancestors_found ≡ []) where
  -- all of them, by the names of the class's ancestors
  kept_in_line : (held : Held) → line_holds (table_spec table) (standing class held) ancestors_found ≡ keeps (table_spec table) class held.variables.items
  kept_in_line held = by (class_number (table_spec table) class) refl
    where
      by : (o : Option ℕ) → class_number (table_spec table) class ≡ o
          → line_holds (table_spec table) (standing class held) ancestors_found ≡ kept_by (table_spec table) class held.variables.items o
      by None e = ap (line_holds (table_spec table) (standing class held)) (none e)
      by (Some k) e =
          ap (line_holds (table_spec table) (standing class held)) (some k e)
          ∙ sym (line (table_spec table) class held (ancestor_names (table_spec table) k))
          ∙ ap (all_hold (table_spec table) class held.variables.items) (invariants_named table class k e)

  -- ... where nothing is bound
  pub kept_unbound : (held : Held) (locals : List (Name × ValueTree)) → locals ≡ []
      → line_holds (table_spec table) (record (standing class held) { locals = locals }) ancestors_found ≡ keeps (table_spec table) class held.variables.items
  kept_unbound held locals none_bound =
      ap (λ (ls : List (Name × ValueTree)). line_holds (table_spec table) (record (standing class held) { locals = ls }) ancestors_found) none_bound
      ∙ kept_in_line held

  -- whether there are any
  has_same : (o : Option ClassTree) → has_any (listed class_conditions o) ≡ has_any (listed class_invariants o)
  has_same None = refl
  has_same (Some c) = of_conditions (class_conditions c)
    where
      invariant : ExprTree → Invariant
      invariant e = record { class = c.name; condition = e }

      of_conditions : (es : List ExprTree) → has_any es ≡ has_any (map invariant es)
      of_conditions [] = refl
      of_conditions (e ∷ es) = refl

  has_line : (classes : List Name) → list_any (has_own (table_spec table)) classes ≡ has_any (flat_map (of_name (table_spec table) class_invariants) classes)
  has_line [] = refl
  has_line (c ∷ classes) =
      ap (λ (b : Bool). b || list_any (has_own (table_spec table)) classes) (has_same (class_named (table_spec table) c))
      ∙ ap (λ (b : Bool). has_any (of_name (table_spec table) class_invariants c) || b) (has_line classes)
      ∙ sym (list_any-append (λ (i : Invariant). true) (of_name (table_spec table) class_invariants c) (flat_map (of_name (table_spec table) class_invariants) classes))

  pub has_in_line : list_any (has_own (table_spec table)) ancestors_found ≡ has_invariants (table_spec table) class
  has_in_line = by (class_number (table_spec table) class) refl
    where
      by : (o : Option ℕ) → class_number (table_spec table) class ≡ o
          → list_any (has_own (table_spec table)) ancestors_found ≡ has_any (invariants_by (table_spec table) o)
      by None e = ap (list_any (has_own (table_spec table))) (none e)
      by (Some k) e =
          ap (list_any (has_own (table_spec table))) (some k e)
          ∙ has_line (ancestor_names (table_spec table) k)
          ∙ ap has_any (invariants_named table class k e)
