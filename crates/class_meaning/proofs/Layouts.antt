-- Layouts: what stands in them, and that nothing stands there twice.
use Rattle.std.proofs.Common.{◌≡◌, ◌↔◌, ℕ, zero, suc, ◌<◌, Bool, true, false, not, ◌||◌, ◌&&◌, ◌⊎◌, ⊎_elim, List, [], ◌∷◌, ◌++◌, Option, Some, None, length, map, drop, reverse, get_or, slice_get, nat_eq, eqb-true, eq-eqb, refl, ap, sym, subst, ◌∙◌, cond, arith, Contains}
use Rattle.std.specs.List.{list_any, flat_map, filter, filter_map, cons_option, AllByRecursion, IsDistinct}
use Rattle.std.proofs.lemmas.Bool.{cases_order}
use Rattle.std.proofs.lemmas.List.{append-nil, reverse-append, map-append}
use Rattle.std.proofs.lemmas.List.Concat.{flat_map-append}
use Rattle.std.proofs.lemmas.List.Elements.{Contains-append_left, Contains-append_right, Contains-append_cases, filter_map-append, filter-append}
use Rattle.std.proofs.lemmas.List.Sorted.{IsPermutation-reverse, list_any-IsPermutation}
use Rattle.std.proofs.lemmas.Map.Keys.{IsDistinct-cons, IsDistinct-head, IsDistinct-tail, IsDistinct-IsPermutation, apart_from_distinct}
use Rattle.vdm_kinds.specs.NameList.{io}
use Rattle.vdm_kinds.specs.declared.name.Name.{Name}
use Rattle.vdm_kinds.specs.declared.member.VarRef.{VarRef}
use Rattle.abstract_syntax.specs.Classes.{VariableTree, BlockTree, types, values, variables, functions, operations, thread_of, synchronisation, variables_in, variables_among, ClassTree, SpecTree, is_same_name, class_variables}
use Rattle.graph_cycles.specs.Graphs.{Graph, successors, settles}
use Rattle.class_meaning.specs.Classes.{classes, class_at, class_names, class_graph}
use Rattle.class_meaning.specs.Ancestors.{walk, firsts, ancestors_in, ancestors, is_ancestor}
use Rattle.class_meaning.specs.Faults.{clashes, table_fault}
use Rattle.class_meaning.specs.Laws.{IsSuperclass, own_variables, is_same_variable}
use Rattle.class_meaning.specs.Members.{Member, of_type, of_value, of_variable, of_function, of_operation, members_in, class_members}
use Rattle.class_meaning.specs.Objects.{listed, variable_of, is_static, instance_variables, layout}
use Rattle.class_meaning.proofs.Numbers.{not_both, or_left, or_right, or_cases, itself, flipped}
use Rattle.class_meaning.proofs.Firsts.{other_than, firsts_again}
use Rattle.class_meaning.proofs.Refusals.{nothing_differs, each_append, names_differ, members_differ}
use Rattle.class_meaning.proofs.Walks.{not_above, more_above, ancestors_equation, ancestors_apart}

-- ---- a class with one superclass

-- a filter takes out nothing that isn't there
keeps_all : (a : ℕ) (xs : List ℕ) → list_any (nat_eq a) xs ≡ false → filter (other_than a) xs ≡ xs
keeps_all a [] f = refl
keeps_all a (x ∷ xs) f = by (nat_eq a x) f (keeps_all a xs)
  where
    by : (t : Bool) → (t || list_any (nat_eq a) xs) ≡ false → (list_any (nat_eq a) xs ≡ false → filter (other_than a) xs ≡ xs)
        → cond (not t) (x ∷ filter (other_than a) xs) (filter (other_than a) xs) ≡ x ∷ xs
    by true g rest = not_both refl g
    by false g rest = ap (λ (ys : List ℕ). x ∷ ys) (rest g)

-- the ancestors of what has one superclass: itself, and those
pub ancestors_single : (g : Graph) (a s : ℕ) → settles (length g) g a ≡ true → successors g a ≡ s ∷ [] → ancestors_in g a ≡ a ∷ ancestors_in g s
ancestors_single g a s t e =
    let among : list_any (nat_eq s) (successors g a) ≡ true = ap (λ (xs : List ℕ). list_any (nat_eq s) xs) e
    ∙ or_left (nat_eq s s) false (itself s) in
    ancestors_equation g a t
    ∙ ap (λ (xs : List ℕ). firsts (a ∷ flat_map (ancestors_in g) xs)) e
    ∙ ap (λ (xs : List ℕ). firsts (a ∷ xs)) (append-nil (ancestors_in g s))
    ∙ ap (λ (xs : List ℕ). a ∷ filter (other_than a) xs) (firsts_again (walk (suc (length g)) g s))
    ∙ ap (λ (xs : List ℕ). a ∷ xs) (keeps_all a (ancestors_in g s) (not_above g a s t among))

pub layout_single : (spec : SpecTree) (k s : ℕ) → settles (length (class_graph spec)) (class_graph spec) k ≡ true
    → successors (class_graph spec) k ≡ s ∷ [] → layout spec k ≡ layout spec s ++ own_variables spec k
layout_single spec k s t e =
    ap (λ (xs : List ℕ). flat_map (own_variables spec) (reverse xs)) (ancestors_single (class_graph spec) k s t e)
    ∙ ap (flat_map (own_variables spec)) (reverse-append (k ∷ []) (ancestors spec s))
    ∙ flat_map-append (own_variables spec) (reverse (ancestors spec s)) (k ∷ [])
    ∙ ap (λ (xs : List VarRef). layout spec s ++ xs) (append-nil (own_variables spec k))

-- the class's own variables stand behind all others
pub layout_own_last : (spec : SpecTree) (k : ℕ)
    → layout spec k ≡ flat_map (own_variables spec) (reverse (drop 1 (ancestors spec k))) ++ own_variables spec k
layout_own_last spec k =
    ap (flat_map (own_variables spec)) (reverse-append (k ∷ []) (drop 1 (ancestors spec k)))
    ∙ flat_map-append (own_variables spec) (reverse (drop 1 (ancestors spec k))) (k ∷ [])
    ∙ ap (λ (xs : List VarRef). flat_map (own_variables spec) (reverse (drop 1 (ancestors spec k))) ++ xs) (append-nil (own_variables spec k))

-- ---- what stands in a layout

in_flat_map : {B : Type 0} (f : ℕ → List B) (xs : List ℕ) (b : B) → Contains (flat_map f xs) b
    → (x : ℕ) × (list_any (nat_eq x) xs ≡ true) × Contains (f x) b
in_flat_map f [] b c = absurd (omega (arith, c.1))
in_flat_map f (x ∷ xs) b c = ⊎_elim
    (λ here. (x, or_left (nat_eq x x) (list_any (nat_eq x) xs) (itself x), here))
    (λ later. let r = in_flat_map f xs b later in (r.0, or_right (nat_eq r.0 x) (list_any (nat_eq r.0) xs) r.1, r.2))
    (Contains-append_cases (f x) (flat_map f xs) b c)

into_flat_map : {B : Type 0} (f : ℕ → List B) (xs : List ℕ) (b : B) (x : ℕ) → list_any (nat_eq x) xs ≡ true → Contains (f x) b
    → Contains (flat_map f xs) b
into_flat_map f [] b x t c = not_both t refl
into_flat_map f (y ∷ xs) b x t c = ⊎_elim
    (λ (here : nat_eq x y ≡ true). Contains-append_left (f y) (flat_map f xs) b (subst (λ (z : ℕ). Contains (f z) b) (eqb-true x y here) c))
    (λ (later : list_any (nat_eq x) xs ≡ true). Contains-append_right (f y) (flat_map f xs) b (into_flat_map f xs b x later c))
    (or_cases (nat_eq x y) (list_any (nat_eq x) xs) t)

reversed : (a : ℕ) (xs : List ℕ) → list_any (nat_eq a) xs ≡ list_any (nat_eq a) (reverse xs)
reversed a xs = list_any-IsPermutation (nat_eq a) xs (reverse xs) (IsPermutation-reverse xs)

-- a variable is in a layout exactly where it is one of an ancestor
pub layout_has : (spec : SpecTree) (k : ℕ) (v : VarRef)
    → Contains (layout spec k) v ↔ ((a : ℕ) × (is_ancestor spec k a ≡ true) × Contains (own_variables spec a) v)
layout_has spec k v = (
  λ c. let r = in_flat_map (own_variables spec) (reverse (ancestors spec k)) v c in (r.0, reversed r.0 (ancestors spec k) ∙ r.1, r.2),
  λ h. into_flat_map (own_variables spec) (reverse (ancestors spec k)) v h.0 (sym (reversed h.0 (ancestors spec k)) ∙ h.1) h.2,
)

-- so an object has each variable that an object of a superclass has
pub layout_kept : (spec : SpecTree) (k s : ℕ) (v : VarRef) → settles (length (class_graph spec)) (class_graph spec) k ≡ true → IsSuperclass spec k s
    → Contains (layout spec s) v → Contains (layout spec k) v
layout_kept spec k s v t is c =
    let from = (layout_has spec s v).0 c in
    (layout_has spec k v).1 (from.0, more_above (class_graph spec) k s from.0 t is from.1, from.2)

-- ---- nothing twice

-- each of the one list differs from each of the other
abbrev pub Apart : {A : Type 0} → (A → A → Bool) → List A → List A → Type 0
Apart same xs ys = AllByRecursion (λ x. AllByRecursion (λ y. same x y ≡ false) ys) xs

module _ {A : Type 0} (same : A → A → Bool) where
  pub apart_nothing : (xs : List A) → Apart same xs []
  apart_nothing [] = tt
  apart_nothing (x ∷ xs) = (tt, apart_nothing xs)

  pub apart_more : (xs ys zs : List A) → Apart same xs ys → Apart same xs zs → Apart same xs (ys ++ zs)
  apart_more [] ys zs h k = tt
  apart_more (x ∷ xs) ys zs h k = (each_append (λ (y : A). same x y ≡ false) ys zs h.0 k.0, apart_more xs ys zs h.1 k.1)

  pub append_apart : (xs ys : List A) → IsDistinct same xs → IsDistinct same ys → Apart same xs ys → IsDistinct same (xs ++ ys)
  append_apart [] ys h k a = k
  append_apart (x ∷ xs) ys h k a =
      IsDistinct-cons same x (xs ++ ys) (each_append (λ (y : A). same x y ≡ false) xs ys (IsDistinct-head same x xs h) a.0)
      (append_apart xs ys (IsDistinct-tail same x xs h) k a.1)

  flat_apart_from : (f : ℕ → List A) → ((x y : ℕ) → nat_eq x y ≡ false → Apart same (f x) (f y))
      → (x : ℕ) (xs : List ℕ) → AllByRecursion (λ (y : ℕ). nat_eq x y ≡ false) xs → Apart same (f x) (flat_map f xs)
  flat_apart_from f across x [] all = apart_nothing (f x)
  flat_apart_from f across x (y ∷ xs) all = apart_more (f x) (f y) (flat_map f xs) (across x y all.0) (flat_apart_from f across x xs all.1)

  flat_apart : (f : ℕ → List A) → ((x : ℕ) → IsDistinct same (f x)) → ((x y : ℕ) → nat_eq x y ≡ false → Apart same (f x) (f y))
      → (xs : List ℕ) → IsDistinct nat_eq xs → IsDistinct same (flat_map f xs)
  flat_apart f within across [] h = nothing_differs same
  flat_apart f within across (x ∷ xs) h =
      append_apart (f x) (flat_map f xs) (within x) (flat_apart f within across xs (IsDistinct-tail nat_eq x xs h))
      (flat_apart_from f across x xs (IsDistinct-head nat_eq x xs h))

-- what differs is picked out and differs again
module _ {A B : Type 0} (same : A → A → Bool) (alike : B → B → Bool) (f : A → Option B)
    (kept : (x y : A) (u w : B) → f x ≡ Some u → f y ≡ Some w → same x y ≡ false → alike u w ≡ false) where
  picked_from : (x : A) (u : B) → f x ≡ Some u → (xs : List A) → AllByRecursion (λ (y : A). same x y ≡ false) xs
      → AllByRecursion (λ (w : B). alike u w ≡ false) (filter_map f xs)
  picked_from x u e [] all = tt
  picked_from x u e (y ∷ xs) all = by (f y) refl (picked_from x u e xs all.1)
    where
      by : (o : Option B) → f y ≡ o → AllByRecursion (λ (w : B). alike u w ≡ false) (filter_map f xs)
          → AllByRecursion (λ (w : B). alike u w ≡ false) (cons_option o (filter_map f xs))
      by None d rest = rest
      by (Some w) d rest = (kept x y u w e d all.0, rest)

  pub picked_apart : (xs : List A) → IsDistinct same xs → IsDistinct alike (filter_map f xs)
  picked_apart [] h = nothing_differs alike
  picked_apart (x ∷ xs) h = by (f x) refl (picked_apart xs (IsDistinct-tail same x xs h))
    where
      by : (o : Option B) → f x ≡ o → IsDistinct alike (filter_map f xs) → IsDistinct alike (cons_option o (filter_map f xs))
      by None d rest = rest
      by (Some u) d rest = IsDistinct-cons alike u (filter_map f xs) (picked_from x u d xs (IsDistinct-head same x xs h)) rest

-- the instance variables among members
instance_of : ClassTree → Member → Option VarRef
instance_of class (of_variable v) = cond (is_static v) None (Some (variable_of class v))
instance_of class _ = None

picked_variables : (class : ClassTree) (vs : List VariableTree)
    → filter_map (instance_of class) (map of_variable vs) ≡ map (variable_of class) (filter (λ (v : VariableTree). not (is_static v)) vs)
unfolding instance_of
picked_variables class [] = refl
picked_variables class (v ∷ vs) = by (is_static v) (picked_variables class vs)
  where
    by : (t : Bool) → filter_map (instance_of class) (map of_variable vs)
        ≡ map (variable_of class) (filter (λ (v : VariableTree). not (is_static v)) vs)
        → cons_option (cond t None (Some (variable_of class v))) (filter_map (instance_of class) (map of_variable vs))
        ≡ map (variable_of class) (cond (not t) (v ∷ filter (λ (v : VariableTree). not (is_static v)) vs)
        (filter (λ (v : VariableTree). not (is_static v)) vs))
    by true rest = rest
    by false rest = ap (λ (xs : List VarRef). variable_of class v ∷ xs) rest

picked_members : (class : ClassTree) (blocks : List BlockTree)
    → filter_map (instance_of class) (flat_map members_in blocks)
    ≡ map (variable_of class) (filter (λ (v : VariableTree). not (is_static v)) (flat_map variables_in blocks))
unfolding instance_of
picked_members class [] = refl
picked_members class (block ∷ blocks) =
    filter_map-append (instance_of class) (members_in block) (flat_map members_in blocks)
    ∙ ap (λ (xs : List VarRef). xs ++ filter_map (instance_of class) (flat_map members_in blocks)) (by block)
    ∙ ap (λ (xs : List VarRef). map (variable_of class) (filter (λ (v : VariableTree). not (is_static v)) (variables_in block)) ++ xs)
    (picked_members class blocks)
    ∙ sym (map-append (variable_of class) (filter (λ (v : VariableTree). not (is_static v)) (variables_in block))
    (filter (λ (v : VariableTree). not (is_static v)) (flat_map variables_in blocks)))
    ∙ ap (map (variable_of class)) (sym (filter-append (λ (v : VariableTree). not (is_static v)) (variables_in block) (flat_map variables_in blocks)))
  where
    none : {A : Type 0} (f : A → Member) → ((x : A) → instance_of class (f x) ≡ None) → (xs : List A) → filter_map (instance_of class) (map f xs) ≡ []
    none f is [] = refl
    none f is (x ∷ xs) = ap (λ (o : Option VarRef). cons_option o (filter_map (instance_of class) (map f xs))) (is x) ∙ none f is xs

    by : (block : BlockTree)
        → filter_map (instance_of class) (members_in block)
        ≡ map (variable_of class) (filter (λ (v : VariableTree). not (is_static v)) (variables_in block))
    by (types ts place) = none of_type (λ x. refl) ts
    by (values vs place) = none of_value (λ x. refl) vs
    by (variables vs place) = picked_variables class (variables_among vs)
    by (functions fs place) = none of_function (λ x. refl) fs
    by (operations os place) = none of_operation (λ x. refl) os
    by (thread_of t place) = refl
    by (synchronisation s place) = refl

-- members that are picked do not clash, so their names differ
picked_differ : (class : ClassTree) (x y : Member) (u w : VarRef) → instance_of class x ≡ Some u → instance_of class y ≡ Some w
    → clashes x y ≡ false → is_same_variable u w ≡ false
unfolding instance_of
picked_differ class (of_variable v) (of_variable z) u w d e f = by (is_static v) (is_static z) d e
  where
    and_true : (b : Bool) → (b && true) ≡ false → b ≡ false
    and_true true g = g
    and_true false g = refl

    by : (s t : Bool) → cond s None (Some (variable_of class v)) ≡ Some u → cond t None (Some (variable_of class z)) ≡ Some w
        → is_same_variable u w ≡ false
    by true t d e = absurd (cc)
    by false true d e = absurd (cc)
    by false false d e =
        let first : variable_of class v ≡ u = cc in
        let second : variable_of class z ≡ w = cc in
        subst (λ (a : VarRef). is_same_variable a w ≡ false) first
        (subst (λ (b : VarRef). is_same_variable (variable_of class v) b ≡ false) second
        (ap (λ (b : Bool). b && is_same_name v.name z.name) (itself class.name.0) ∙ and_true (is_same_name v.name z.name) f))
picked_differ class (of_type v) y u w d e f = absurd (cc)
picked_differ class (of_value v) y u w d e f = absurd (cc)
picked_differ class (of_function v) y u w d e f = absurd (cc)
picked_differ class (of_operation v) y u w d e f = absurd (cc)
picked_differ class (of_variable v) (of_type y) u w d e f = absurd (cc)
picked_differ class (of_variable v) (of_value y) u w d e f = absurd (cc)
picked_differ class (of_variable v) (of_function y) u w d e f = absurd (cc)
picked_differ class (of_variable v) (of_operation y) u w d e f = absurd (cc)

class_apart : (class : ClassTree) → IsDistinct clashes (class_members class) → IsDistinct is_same_variable (instance_variables class)
class_apart class h = subst (IsDistinct is_same_variable) (picked_members class class.blocks)
    (picked_apart clashes is_same_variable (instance_of class) (picked_differ class) (class_members class) h)

named_at : {A : Type 0} (f : A → Name) (xs : List A) (k : ℕ) (x : A) (d : Name) → slice_get xs k ≡ Some x
    → (k < length (map f xs)) × (get_or (map f xs) k d ≡ f x)
named_at f [] k x d e = absurd (cc)
named_at f (y ∷ xs) zero x d e = let same : y ≡ x = cc in (omega arith, ap f same)
named_at f (y ∷ xs) (suc k) x d e = let r = named_at f xs k x d e in (omega (arith, r.0), r.1)

classes_across : (one other : ClassTree) → is_same_name one.name other.name ≡ false → (us ws : List VariableTree)
    → Apart is_same_variable (map (variable_of one) us) (map (variable_of other) ws)
classes_across one other f [] ws = tt
classes_across one other f (u ∷ us) ws = (against ws, classes_across one other f us ws)
  where
    against : (ws : List VariableTree) → AllByRecursion (λ (w : VarRef). is_same_variable (variable_of one u) w ≡ false) (map (variable_of other) ws)
    against [] = tt
    against (w ∷ ws) = (ap (λ (b : Bool). b && is_same_name u.name w.name) f, against ws)

module _ (spec : SpecTree) (fine : table_fault spec ≡ None) where
  names_across : (a b : ℕ) (one other : ClassTree) → class_at spec a ≡ Some one → class_at spec b ≡ Some other → nat_eq a b ≡ false
      → is_same_name one.name other.name ≡ false
  names_across a b one other d e f =
      let first = named_at (λ (c : ClassTree). c.name) (classes spec) a one io d in
      let second = named_at (λ (c : ClassTree). c.name) (classes spec) b other io e in
      ⊎_elim
      (λ (same : a ≡ b). not_both (eq-eqb a b same) f)
      (λ (order : (a < b) ⊎ (b < a)). ⊎_elim
      (λ (l : a < b).
      ap (λ (n : Name). is_same_name n other.name) (sym first.1) ∙ ap (is_same_name (get_or (class_names spec) a io)) (sym second.1)
      ∙ apart_from_distinct is_same_name (class_names spec) a b io (names_differ spec fine) l second.0)
      (λ (l : b < a).
      flipped one.name.0 other.name.0
      ∙ ap (λ (n : Name). is_same_name n one.name) (sym second.1) ∙ ap (is_same_name (get_or (class_names spec) b io)) (sym first.1)
      ∙ apart_from_distinct is_same_name (class_names spec) b a io (names_differ spec fine) l first.0)
      order)
      (cases_order a b)

  own_apart : (a : ℕ) (o : Option ClassTree) → class_at spec a ≡ o → IsDistinct is_same_variable (listed instance_variables o)
  own_apart a None e = nothing_differs is_same_variable
  own_apart a (Some class) e = class_apart class (members_differ spec fine a class e)

  own_across : (a b : ℕ) → nat_eq a b ≡ false → (o p : Option ClassTree) → class_at spec a ≡ o → class_at spec b ≡ p
      → Apart is_same_variable (listed instance_variables o) (listed instance_variables p)
  own_across a b f None p d e = tt
  own_across a b f (Some one) None d e = apart_nothing is_same_variable (instance_variables one)
  own_across a b f (Some one) (Some other) d e =
      classes_across one other (names_across a b one other d e f) (filter (λ (v : VariableTree). not (is_static v)) (class_variables one))
      (filter (λ (v : VariableTree). not (is_static v)) (class_variables other))

  -- no variable stands twice in a layout
  pub layout_apart : (k : ℕ) → IsDistinct is_same_variable (layout spec k)
  layout_apart k = flat_apart is_same_variable (own_variables spec) (λ a. own_apart a (class_at spec a) refl)
      (λ a b f. own_across a b f (class_at spec a) (class_at spec b) refl refl)
      (reverse (ancestors spec k))
      (IsDistinct-IsPermutation nat_eq flipped (ancestors spec k) (reverse (ancestors spec k)) (IsPermutation-reverse (ancestors spec k))
      (ancestors_apart (class_graph spec) k))
