-- Classes by their names and by their numbers, where nothing is refused.
use Rattle.std.proofs.Common.{◌≡◌, ℕ, zero, suc, ◌+◌, ◌<◌, Bool, true, false, not, ◌||◌, ⊎_elim, List, [], ◌∷◌, Some, None, is_some, map, length, get_or, slice_get, nat_eq, nat_lt, eqb-true, cond, refl, ap, sym, subst, ◌∙◌, arith}
use Rattle.std.specs.List.{IsDistinct, list_any, position_or_len}
use Rattle.std.proofs.lemmas.Bool.Decides.{nat_tests}
use Rattle.std.proofs.lemmas.List.{length-map, get_or-map}
use Rattle.std.proofs.lemmas.List.Quantifiers.{position-Some}
use Rattle.std.proofs.lemmas.Map.Keys.{IsDistinct-head, IsDistinct-tail}
use Rattle.std.proofs.lemmas.Option.{slice_get-get_or}
use Rattle.vdm_kinds.specs.NameList.{io}
use Rattle.vdm_kinds.specs.declared.name.Name.{Name}
use Rattle.abstract_syntax.specs.Classes.{ClassTree, SpecTree, is_same_name}
use Rattle.graph_cycles.specs.Graphs.{leads}
use Rattle.class_meaning.specs.Classes.{io_class, classes, class_at, class_number, class_graph, superclass_numbers, name_of_class}
use Rattle.class_meaning.specs.Ancestors.{ancestors, ancestor_names}
use Rattle.class_meaning.specs.Faults.{table_fault}
use Rattle.class_meaning.proofs.Numbers.{not_both, or_left, or_right, or_cases, itself, same_test}
use Rattle.class_meaning.proofs.Ranges.{class_number_below, class_graph_in_range}
use Rattle.class_meaning.proofs.Refusals.{names_differ}
use Rattle.class_meaning.proofs.Settled.{successor_in_range}
use Rattle.class_meaning.proofs.Walks.{first_step, ancestors_has}
use Rattle.spec_table.specs.Among.{among_map, among_at, each_among}
use Rattle.spec_table.specs.Answering.{same_both}

abbrev name : ClassTree → Name
name class = class.name

-- as many nodes as classes
pub in_graph : (spec : SpecTree) (k : ℕ) → k < length (classes spec) → k < length (class_graph spec)
in_graph spec k l = subst (λ (n : ℕ). k < n) (sym (length-map (classes spec) (superclass_numbers spec))) l

pub number_in_graph : (spec : SpecTree) (class : Name) (k : ℕ) → class_number spec class ≡ Some k → k < length (class_graph spec)
number_in_graph spec class k e = in_graph spec k (class_number_below spec class k e)

-- the class of a number by name has the name
pub named_class : (spec : SpecTree) (class : Name) (k : ℕ) → class_number spec class ≡ Some k → class.0 ≡ (name_of_class spec k).0
named_class spec class k e =
    let at = position-Some (λ (c : ClassTree). is_same_name class c.name) (classes spec) k io_class e in
    let there : name_of_class spec k ≡ (get_or (classes spec) k io_class).name = get_or-map name (classes spec) k io_class io at.0 in
    eqb-true class.0 (get_or (classes spec) k io_class).name.0 at.1 ∙ ap (λ (n : Name). n.0) (sym there)

-- the first of a name, where all names differ
place_apart : (n : Name) (xs : List ClassTree) → IsDistinct is_same_name (map name xs) → (a : ℕ) (x : ClassTree) → slice_get xs a ≡ Some x → is_same_name n x.name ≡ true
    → position_or_len (λ (c : ClassTree). is_same_name n c.name) xs ≡ a
place_apart n [] apart a x e t = absurd (cc)
place_apart n (y ∷ ys) apart zero x e t =
    let same : y ≡ x = cc in
    ap (λ (b : Bool). cond (not b) (1 + position_or_len (λ (c : ClassTree). is_same_name n c.name) ys) 0) (subst (λ (z : ClassTree). is_same_name n z.name ≡ true) (sym same) t)
place_apart n (y ∷ ys) apart (suc a) x e t =
    let rest = place_apart n ys (IsDistinct-tail is_same_name y.name (map name ys) apart) a x e t in
    by (is_same_name n y.name) refl rest
  where
    by : (b : Bool) → is_same_name n y.name ≡ b → position_or_len (λ (c : ClassTree). is_same_name n c.name) ys ≡ a
        → cond (not b) (1 + position_or_len (λ (c : ClassTree). is_same_name n c.name) ys) 0 ≡ suc a
    by true s rest = not_both
        (same_both n.0 y.name.0 x.name.0 s t)
        (each_among (λ (z : Name). is_same_name y.name z ≡ false) (map name ys) x.name (IsDistinct-head is_same_name y.name (map name ys) apart)
        (among_map name x ys (among_at ys a x e)))
    by false s rest = let e : 1 + position_or_len (λ (c : ClassTree). is_same_name n c.name) ys ≡ suc a = omega (arith, rest) in e

module _ (spec : SpecTree) (fine : table_fault spec ≡ None) where
  -- a class in which the name is that of the number
  pub number_at : (n : Name) (a : ℕ) → a < length (classes spec) → is_same_name n (name_of_class spec a) ≡ true → class_number spec n ≡ Some a
  number_at n a l t =
      let at : slice_get (classes spec) a ≡ Some (get_or (classes spec) a io_class) = slice_get-get_or (classes spec) a io_class l in
      let there : name_of_class spec a ≡ (get_or (classes spec) a io_class).name = get_or-map name (classes spec) a io_class io l in
      let place : position_or_len (λ (c : ClassTree). is_same_name n c.name) (classes spec) ≡ a =
      place_apart n (classes spec) (names_differ spec fine) a (get_or (classes spec) a io_class) at
      (subst (λ (m : Name). is_same_name n m ≡ true) there t) in
      let passes : nat_lt a (length (classes spec)) ≡ true = grind (arith, nat_tests, l) in
      ap (λ (p : ℕ). cond (nat_lt p (length (classes spec))) (Some p) None) place ∙ ap (λ (b : Bool). cond b (Some a) None) passes

  pub number_of_name : (a : ℕ) → a < length (classes spec) → class_number spec (name_of_class spec a) ≡ Some a
  number_of_name a l = number_at (name_of_class spec a) a l (itself (name_of_class spec a).0)

  -- one name or one number
  pub same_by_number : (n : Name) (o a : ℕ) → class_number spec n ≡ Some o → a < length (classes spec) → is_same_name n (name_of_class spec a) ≡ nat_eq o a
  same_by_number n o a e l = same_test (is_same_name n (name_of_class spec a)) (nat_eq o a)
      (λ t. let again : Some o ≡ Some a = sym e ∙ number_at n a l t in
      let same : o ≡ a = cc in subst (λ (x : ℕ). nat_eq o x ≡ true) same (itself o))
      (λ t. subst (λ (x : ℕ). is_same_name n (name_of_class spec x) ≡ true) (eqb-true o a t)
      (subst (λ (x : ℕ). nat_eq n.0 x ≡ true) (named_class spec n o e) (itself n.0)))

  leads_within : (m a b : ℕ) → leads m (class_graph spec) a b ≡ true → b < length (class_graph spec)
  leads_within zero a b t = not_both t refl
  leads_within (suc m) a b t =
      let r = first_step (class_graph spec) m a b t in
      ⊎_elim
      (λ (here : r.0 ≡ b). subst (λ (x : ℕ). x < length (class_graph spec)) here (successor_in_range (class_graph spec) a r.0 (class_graph_in_range spec) r.1))
      (λ (later : leads m (class_graph spec) r.0 b ≡ true). leads_within m r.0 b later)
      r.2

  in_classes : (a : ℕ) → a < length (class_graph spec) → a < length (classes spec)
  in_classes a l = subst (λ (n : ℕ). a < n) (length-map (classes spec) (superclass_numbers spec)) l

  pub ancestor_within : (k a : ℕ) → k < length (classes spec) → list_any (nat_eq a) (ancestors spec k) ≡ true → a < length (classes spec)
  ancestor_within k a l t = ⊎_elim
      (λ (here : nat_eq k a ≡ true). subst (λ (x : ℕ). x < length (classes spec)) (eqb-true k a here) l)
      (λ (later : leads (length (class_graph spec)) (class_graph spec) k a ≡ true). in_classes a (leads_within (length (class_graph spec)) k a later))
      (or_cases (nat_eq k a) (leads (length (class_graph spec)) (class_graph spec) k a) (sym (ancestors_has (class_graph spec) k a) ∙ t))

  -- an ancestor by name is one by number
  named_among : (n : Name) (o : ℕ) → class_number spec n ≡ Some o → (ks : List ℕ) → ((a : ℕ) → list_any (nat_eq a) ks ≡ true → a < length (classes spec))
      → list_any (is_same_name n) (map (name_of_class spec) ks) ≡ list_any (nat_eq o) ks
  named_among n o e [] within = refl
  named_among n o e (k ∷ ks) within =
      ap (λ (b : Bool). b || list_any (is_same_name n) (map (name_of_class spec) ks))
      (same_by_number n o k e (within k (or_left (nat_eq k k) (list_any (nat_eq k) ks) (itself k))))
      ∙ ap (λ (b : Bool). nat_eq o k || b)
      (named_among n o e ks (λ a t. within a (or_right (nat_eq a k) (list_any (nat_eq a) ks) t)))

  pub ancestor_named : (n : Name) (o k : ℕ) → class_number spec n ≡ Some o → k < length (classes spec)
      → list_any (is_same_name n) (ancestor_names spec k) ≡ list_any (nat_eq o) (ancestors spec k)
  ancestor_named n o k e l = named_among n o e (ancestors spec k) (λ a t. ancestor_within k a l t)

-- there is a class of a number that a name has
pub class_of_number : (spec : SpecTree) (class : Name) (k : ℕ) → class_number spec class ≡ Some k → is_some (class_at spec k) ≡ true
class_of_number spec class k e = ap is_some (slice_get-get_or (classes spec) k io_class (class_number_below spec class k e))
