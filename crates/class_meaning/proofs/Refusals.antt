-- Where the table of the classes refuses nothing: what holds of classes, superclasses, members and types.
use Rattle.std.proofs.Common.{if◌then◌else◌, ◌≡◌, ℕ, zero, suc, ◌+◌, ◌<◌, ◌≤◌, Bool, true, false, not, ◌||◌, ◌&&◌, ⊎_elim, List, [], ◌∷◌, ◌++◌, Option, Some, None, is_some, length, map, get_or, slice_get, nat_eq, nat_lt, eqb-true, refl, ap, sym, subst, ◌∙◌, cond, arith}
use Rattle.std.specs.List.{list_any, flat_map, AllByRecursion, IsDistinct, position, position_or_len}
use Rattle.std.specs.Option.{option_and_then}
use Rattle.std.proofs.lemmas.Bool.{cases_Bool, cases_lt}
use Rattle.std.proofs.lemmas.List.{get_or_past, length-map}
use Rattle.std.proofs.lemmas.List.Elements.{All-from_recursion, All-get_or}
use Rattle.std.proofs.lemmas.List.Quantifiers.{position-Some}
use Rattle.std.proofs.lemmas.Map.Keys.{IsDistinct-cons}
use Rattle.std.proofs.lemmas.Option.{slice_get-get_or}
use Rattle.vdm_kinds.specs.declared.name.Name.{Name}
use Rattle.vdm_kinds.specs.declared.name_at.NameAt.{NameAt}
use Rattle.vdm_kinds.specs.declared.place.Place.{Place}
use Rattle.vdm_kinds.specs.declared.spec_kind.SpecKind.{SpecKind}
use Rattle.vdm_kinds.specs.declared.spec_kind.SpecKind.TheVariants.{UnknownName, Duplicate, Cycle, WrongArity}
use Rattle.abstract_syntax.specs.Classes.{TypeDefTree, BlockTree, types, values, variables, functions, operations, thread_of, synchronisation, ClassTree, SpecTree, is_same_name}
use Rattle.expr_tree.specs.Alternatives.{body_alternatives}
use Rattle.graph_cycles.specs.Graphs.{Graph, successors, leads, is_on_cycle}
use Rattle.class_meaning.specs.Classes.{io_class, classes, class_at, class_names, class_number, class_graph, numbers_among, superclass_numbers}
use Rattle.class_meaning.specs.Members.{Member, of_type, of_value, of_variable, of_function, of_operation, class_members, members_in, member_name, member_name_place, member_place}
use Rattle.class_meaning.specs.Found.{type_named}
use Rattle.class_meaning.specs.Faults.{
  refused_if,
  is_among,
  typing_faults,
  has_its_patterns,
  differ_in_number,
  clashes,
  in_circle,
  is_own_alternative,
  member_faults,
  members_faults,
  superclass_faults,
  class_faults,
  classes_faults,
  table_faults,
  table_fault,
  number_faults,
  clash_faults,
  head_faults,
  begins_at_its_name,
}
use Rattle.class_meaning.specs.TypeGraph.{types_in, class_types, type_definitions, is_same_type, type_number, alternative_number, alternative_numbers, type_graph}
use Rattle.class_meaning.proofs.Numbers.{not_both, or_cases, or_not_left, or_not_right, any_append, flipped, and_left, and_right}
use Rattle.class_meaning.proofs.Walks.{first_step}

-- ---- lists that are empty

pub nothing_first : {A : Type 0} (xs : List A) → slice_get xs 0 ≡ None → xs ≡ []
nothing_first [] e = refl
nothing_first (x ∷ xs) e = absurd (cc)

pub nothing_before : {A : Type 0} (xs ys : List A) → xs ++ ys ≡ [] → xs ≡ []
nothing_before [] ys e = refl
nothing_before (x ∷ xs) ys e = absurd (cc)

pub nothing_behind : {A : Type 0} (xs ys : List A) → xs ++ ys ≡ [] → ys ≡ []
nothing_behind [] ys e = e
nothing_behind (x ∷ xs) ys e = absurd (cc)

not_refused : (b : Bool) (kind : SpecKind) (place : Place) → refused_if b kind place ≡ [] → b ≡ false
not_refused true kind place e = absurd (cc)
not_refused false kind place e = refl

not_false : (b : Bool) → not b ≡ false → b ≡ true
not_false true e = refl
not_false false e = sym e

-- ---- what holds of each element

module _ {A : Type 0} (P : A → Type 0) where
  pub each_append : (xs ys : List A) → AllByRecursion P xs → AllByRecursion P ys → AllByRecursion P (xs ++ ys)
  each_append [] ys h k = k
  each_append (x ∷ xs) ys h k = (h.0, each_append xs ys h.1 k)

  pub each_before : (xs ys : List A) → AllByRecursion P (xs ++ ys) → AllByRecursion P xs
  each_before [] ys h = tt
  each_before (x ∷ xs) ys h = (h.0, each_before xs ys h.1)

  pub each_behind : (xs ys : List A) → AllByRecursion P (xs ++ ys) → AllByRecursion P ys
  each_behind [] ys h = h
  each_behind (x ∷ xs) ys h = each_behind xs ys h.1

  pub each_weaker : (Q : A → Type 0) → ((x : A) → P x → Q x) → (xs : List A) → AllByRecursion P xs → AllByRecursion Q xs
  each_weaker Q f [] h = tt
  each_weaker Q f (x ∷ xs) h = (f x h.0, each_weaker Q f xs h.1)

pub nothing_differs : {A : Type 0} (same : A → A → Bool) → IsDistinct same []
unfolding IsDistinct
nothing_differs same = tt

-- ---- superclasses and members

superclasses_known : (spec : SpecTree) (superclasses : List NameAt) → superclass_faults spec superclasses ≡ []
    → AllByRecursion (λ (s : NameAt). is_some (class_number spec s.name) ≡ true) superclasses
superclasses_known spec [] e = tt
superclasses_known spec (s ∷ others) e = (
  not_false (is_some (class_number spec s.name))
      (not_refused (not (is_some (class_number spec s.name))) UnknownName s.place
      (nothing_before (refused_if (not (is_some (class_number spec s.name))) UnknownName s.place) (superclass_faults spec others) e)),
  superclasses_known spec others
      (nothing_behind (refused_if (not (is_some (class_number spec s.name))) UnknownName s.place) (superclass_faults spec others) e),
)

-- what member_faults refuses, one by one
pub record MemberStands (spec : SpecTree) (k : ℕ) (earlier : List Member) (member : Member) : Type 0 where
  pub patterns : has_its_patterns member ≡ true
  pub new : list_any (clashes member) earlier ≡ false
  pub no_circle : is_own_alternative spec member ≡ false
  pub typed : typing_faults spec k member ≡ []

-- of two lists in either order
both_empty : {A : Type 0} (b : Bool) (xs ys : List A) → (if b then ys ++ xs else xs ++ ys) ≡ [] → (xs ≡ []) × (ys ≡ [])
both_empty true xs ys e = (nothing_behind ys xs e, nothing_before ys xs e)
both_empty false xs ys e = (nothing_before xs ys e, nothing_behind xs ys e)

member_stands : (spec : SpecTree) (k : ℕ) (earlier : List Member) (member : Member) → member_faults spec k earlier member ≡ []
    → MemberStands spec k earlier member
member_stands spec k earlier member e =
    let circle = refused_if (is_own_alternative spec member) Cycle (member_name_place member) in
    let head : (number_faults member ≡ []) × (clash_faults earlier member ≡ []) =
    both_empty (begins_at_its_name member) (number_faults member) (clash_faults earlier member)
    (nothing_before (head_faults earlier member) (circle ++ typing_faults spec k member) e) in
    let two : circle ++ typing_faults spec k member ≡ [] = nothing_behind (head_faults earlier member) (circle ++ typing_faults spec k member) e in
    record {
      patterns = not_false (has_its_patterns member) (not_refused (not (has_its_patterns member)) WrongArity (member_place member) head.0);
      new = not_refused (list_any (clashes member) earlier) Duplicate (member_name_place member) head.1;
      no_circle = not_refused (is_own_alternative spec member) Cycle (member_name_place member)
          (nothing_before circle (typing_faults spec k member) two);
      typed = nothing_behind circle (typing_faults spec k member) two;
    }

each_member : (spec : SpecTree) (k : ℕ) (P : Member → Type 0)
    → ((earlier : List Member) (member : Member) → MemberStands spec k earlier member → P member)
    → (earlier members : List Member) → members_faults spec k earlier members ≡ [] → AllByRecursion P members
each_member spec k P f earlier [] e = tt
each_member spec k P f earlier (member ∷ members) e = (
  f earlier member (member_stands spec k earlier member
      (nothing_before (member_faults spec k earlier member) (members_faults spec k (earlier ++ member ∷ []) members) e)),
  each_member spec k P f (earlier ++ member ∷ []) members
      (nothing_behind (member_faults spec k earlier member) (members_faults spec k (earlier ++ member ∷ []) members) e),
)

same_numbers : (a b : Member) → differ_in_number a b ≡ differ_in_number b a
same_numbers (of_function a) (of_function b) = ap not (flipped (length a.patterns) (length b.patterns))
same_numbers (of_operation a) (of_operation b) = ap not (flipped (length a.patterns) (length b.patterns))
same_numbers (of_type a) b = other_first b
  where
    other_first : (b : Member) → false ≡ differ_in_number b (of_type a)
    other_first (of_type b) = refl
    other_first (of_value b) = refl
    other_first (of_variable b) = refl
    other_first (of_function b) = refl
    other_first (of_operation b) = refl
same_numbers (of_value a) b = other_first b
  where
    other_first : (b : Member) → false ≡ differ_in_number b (of_value a)
    other_first (of_type b) = refl
    other_first (of_value b) = refl
    other_first (of_variable b) = refl
    other_first (of_function b) = refl
    other_first (of_operation b) = refl
same_numbers (of_variable a) b = other_first b
  where
    other_first : (b : Member) → false ≡ differ_in_number b (of_variable a)
    other_first (of_type b) = refl
    other_first (of_value b) = refl
    other_first (of_variable b) = refl
    other_first (of_function b) = refl
    other_first (of_operation b) = refl
same_numbers (of_function a) (of_type b) = refl
same_numbers (of_function a) (of_value b) = refl
same_numbers (of_function a) (of_variable b) = refl
same_numbers (of_function a) (of_operation b) = refl
same_numbers (of_operation a) (of_type b) = refl
same_numbers (of_operation a) (of_value b) = refl
same_numbers (of_operation a) (of_variable b) = refl
same_numbers (of_operation a) (of_function b) = refl

pub clash_both : (a b : Member) → clashes a b ≡ clashes b a
clash_both a b =
    ap (λ (t : Bool). t && not (differ_in_number a b)) (flipped (member_name a).0 (member_name b).0)
    ∙ ap (λ (t : Bool). is_same_name (member_name b) (member_name a) && not t) (same_numbers a b)

-- each clashes with none of the earlier ones, and none with a later one
pub members_apart : (spec : SpecTree) (k : ℕ) (earlier members : List Member) → members_faults spec k earlier members ≡ []
    → AllByRecursion (λ (m : Member). list_any (clashes m) earlier ≡ false) members × IsDistinct clashes members
members_apart spec k earlier [] e = (tt, nothing_differs clashes)
members_apart spec k earlier (member ∷ members) e =
    let here = member_stands spec k earlier member
    (nothing_before (member_faults spec k earlier member) (members_faults spec k (earlier ++ member ∷ []) members) e) in
    let later = members_apart spec k (earlier ++ member ∷ []) members
    (nothing_behind (member_faults spec k earlier member) (members_faults spec k (earlier ++ member ∷ []) members) e) in (
      (
        here.new,
        each_weaker (λ (m : Member). list_any (clashes m) (earlier ++ member ∷ []) ≡ false) (λ (m : Member). list_any (clashes m) earlier ≡ false)
            (λ m f. or_not_left (list_any (clashes m) earlier) (list_any (clashes m) (member ∷ []))
            (sym (any_append (clashes m) earlier (member ∷ [])) ∙ f)) members later.0,
      ),
      IsDistinct-cons clashes member members
          (each_weaker (λ (m : Member). list_any (clashes m) (earlier ++ member ∷ []) ≡ false) (λ (m : Member). clashes member m ≡ false)
          (λ m f. clash_both member m ∙ or_not_left (clashes m member) false
          (or_not_right (list_any (clashes m) earlier) (list_any (clashes m) (member ∷ [])) (sym (any_append (clashes m) earlier (member ∷ [])) ∙ f)))
          members later.0)
          later.1,
    )

-- ---- classes

-- what class_faults refuses, one by one
pub record ClassStands (spec : SpecTree) (earlier : List Name) (k : ℕ) (class : ClassTree) : Type 0 where
  pub new : is_among class.name earlier ≡ false
  pub no_circle : is_on_cycle (class_graph spec) k ≡ false
  pub superclasses : superclass_faults spec class.superclasses ≡ []
  pub members : members_faults spec k [] (class_members class) ≡ []

class_stands : (spec : SpecTree) (earlier : List Name) (k : ℕ) (class : ClassTree) → class_faults spec earlier k class ≡ []
    → ClassStands spec earlier k class
class_stands spec earlier k class e =
    let double = refused_if (is_among class.name earlier) Duplicate class.name_place in
    let circle = refused_if (is_on_cycle (class_graph spec) k) Cycle class.name_place in
    let above = superclass_faults spec class.superclasses in
    let members = members_faults spec k [] (class_members class) in
    let one : circle ++ (above ++ members) ≡ [] = nothing_behind double (circle ++ (above ++ members)) e in
    let two : above ++ members ≡ [] = nothing_behind circle (above ++ members) one in
    record {
      new = not_refused (is_among class.name earlier) Duplicate class.name_place (nothing_before double (circle ++ (above ++ members)) e);
      no_circle = not_refused (is_on_cycle (class_graph spec) k) Cycle class.name_place (nothing_before circle (above ++ members) one);
      superclasses = nothing_before above members two;
      members = nothing_behind above members two;
    }

-- of the class at a place of a list whose first number is k
each_class : (spec : SpecTree) (P : ℕ → ClassTree → Type 0)
    → ((earlier : List Name) (k : ℕ) (class : ClassTree) → ClassStands spec earlier k class → P k class)
    → (earlier : List Name) (k : ℕ) (list : List ClassTree) → classes_faults spec earlier k list ≡ []
    → (at j : ℕ) (class : ClassTree) → at ≡ k + j → slice_get list j ≡ Some class → P at class
each_class spec P f earlier k [] e at j class l s = absurd (cc)
each_class spec P f earlier k (first ∷ others) e at zero class l s =
    let here : P k first = f earlier k first (class_stands spec earlier k first
    (nothing_before (class_faults spec earlier k first) (classes_faults spec (earlier ++ first.name ∷ []) (suc k) others) e)) in
    let same : first ≡ class = cc in
    let place : k ≡ at = omega arith in
    subst (λ (c : ClassTree). P at c) same (subst (λ (n : ℕ). P n first) place here)
each_class spec P f earlier k (first ∷ others) e at (suc j) class l s =
    each_class spec P f (earlier ++ first.name ∷ []) (suc k) others
    (nothing_behind (class_faults spec earlier k first) (classes_faults spec (earlier ++ first.name ∷ []) (suc k) others) e) at j class
    (omega arith) s

pub each_listed : (spec : SpecTree) (P : ClassTree → Type 0)
    → ((earlier : List Name) (k : ℕ) (class : ClassTree) → ClassStands spec earlier k class → P class)
    → (earlier : List Name) (k : ℕ) (list : List ClassTree) → classes_faults spec earlier k list ≡ [] → AllByRecursion P list
each_listed spec P f earlier k [] e = tt
each_listed spec P f earlier k (first ∷ others) e = (
  f earlier k first (class_stands spec earlier k first
      (nothing_before (class_faults spec earlier k first) (classes_faults spec (earlier ++ first.name ∷ []) (suc k) others) e)),
  each_listed spec P f (earlier ++ first.name ∷ []) (suc k) others
      (nothing_behind (class_faults spec earlier k first) (classes_faults spec (earlier ++ first.name ∷ []) (suc k) others) e),
)

names_apart : (spec : SpecTree) (earlier : List Name) (k : ℕ) (list : List ClassTree) → classes_faults spec earlier k list ≡ []
    → AllByRecursion (λ (name : Name). is_among name earlier ≡ false) (map (λ (class : ClassTree). class.name) list)
    × IsDistinct is_same_name (map (λ (class : ClassTree). class.name) list)
names_apart spec earlier k [] e = (tt, nothing_differs is_same_name)
names_apart spec earlier k (first ∷ others) e =
    let here = class_stands spec earlier k first
    (nothing_before (class_faults spec earlier k first) (classes_faults spec (earlier ++ first.name ∷ []) (suc k) others) e) in
    let names = map (λ (class : ClassTree). class.name) others in
    let later = names_apart spec (earlier ++ first.name ∷ []) (suc k) others
    (nothing_behind (class_faults spec earlier k first) (classes_faults spec (earlier ++ first.name ∷ []) (suc k) others) e) in (
      (
        here.new,
        each_weaker (λ (n : Name). is_among n (earlier ++ first.name ∷ []) ≡ false) (λ (n : Name). is_among n earlier ≡ false)
            (λ n f. or_not_left (is_among n earlier) (is_among n (first.name ∷ []))
            (sym (any_append (is_same_name n) earlier (first.name ∷ [])) ∙ f)) names later.0,
      ),
      IsDistinct-cons is_same_name first.name names
          (each_weaker (λ (n : Name). is_among n (earlier ++ first.name ∷ []) ≡ false) (λ (n : Name). is_same_name first.name n ≡ false)
          (λ n f. flipped first.name.0 n.0 ∙ or_not_left (is_same_name n first.name) false
          (or_not_right (is_among n earlier) (is_among n (first.name ∷ [])) (sym (any_append (is_same_name n) earlier (first.name ∷ [])) ∙ f)))
          names later.0)
          later.1,
    )

-- ---- nodes on circles

-- a node that something leads to is a successor of some node
last_step : (g : Graph) (n a b : ℕ) → leads n g a b ≡ true → (c : ℕ) × (list_any (nat_eq b) (successors g c) ≡ true)
last_step g zero a b t = not_both t refl
last_step g (suc n) a b t =
    let r = first_step g n a b t in
    ⊎_elim
    (λ (here : r.0 ≡ b). (a, subst (λ (x : ℕ). list_any (nat_eq x) (successors g a) ≡ true) here r.1))
    (λ (later : leads n g r.0 b ≡ true). last_step g n r.0 b later)
    r.2

made_by : {A : Type 0} (f : A → List ℕ) (xs : List A) (c b : ℕ) → list_any (nat_eq b) (get_or (map f xs) c []) ≡ true
    → (x : A) × (list_any (nat_eq b) (f x) ≡ true)
made_by f [] c b t = not_both t refl
made_by f (x ∷ xs) zero b t = (x, t)
made_by f (x ∷ xs) (suc c) b t = made_by f xs c b t

pub numbered_by : {A : Type 0} (h : A → Option ℕ) (xs : List A) (b : ℕ) → list_any (nat_eq b) (numbers_among (map h xs)) ≡ true
    → (x : A) × (h x ≡ Some b)
numbered_by h [] b t = not_both t refl
numbered_by {A = A} h (x ∷ xs) b t = by (h x) refl t (numbered_by h xs b)
  where
    by : (o : Option ℕ) → h x ≡ o → list_any (nat_eq b) (numbers_among (o ∷ map h xs)) ≡ true
        → (list_any (nat_eq b) (numbers_among (map h xs)) ≡ true → (y : A) × (h y ≡ Some b)) → (y : A) × (h y ≡ Some b)
    by None e t rest = rest t
    by (Some k) e t rest = ⊎_elim
        (λ (here : nat_eq b k ≡ true). (x, e ∙ ap Some (sym (eqb-true b k here))))
        (λ (later : list_any (nat_eq b) (numbers_among (map h xs)) ≡ true). rest later)
        (or_cases (nat_eq b k) (list_any (nat_eq b) (numbers_among (map h xs))) t)

came_from : {A : Type 0} (f : A → Option ℕ) (o : Option A) (b : ℕ) → option_and_then f o ≡ Some b → (x : A) × (f x ≡ Some b)
came_from f None b e = absurd (cc)
came_from f (Some x) b e = (x, e)

same_place : {A : Type 0} (p q : A → Bool) (xs : List A) → ((x : A) → p x ≡ q x) → position_or_len p xs ≡ position_or_len q xs
same_place p q [] each = refl
same_place p q (x ∷ xs) each =
    ap (λ (b : Bool). cond (not b) (1 + position_or_len p xs) 0) (each x)
    ∙ ap (λ (n : ℕ). cond (not (q x)) (1 + n) 0) (same_place p q xs each)

pub same_position : {A : Type 0} (p q : A → Bool) (xs : List A) → ((x : A) → p x ≡ q x) → position p xs ≡ position q xs
same_position p q xs each = ap (λ (n : ℕ). cond (nat_lt n (length xs)) (Some n) None) (same_place p q xs each)

same_types : (a b : TypeDefTree) → is_same_type a b ≡ true → (x : TypeDefTree) → is_same_type b x ≡ is_same_type a x
same_types a b t x =
    let class : a.class.0 ≡ b.class.0 = eqb-true a.class.0 b.class.0 (and_left (is_same_name a.class b.class) (is_same_name a.name b.name) t) in
    let name : a.name.0 ≡ b.name.0 = eqb-true a.name.0 b.name.0 (and_right (is_same_name a.class b.class) (is_same_name a.name b.name) t) in
    ap (λ (n : ℕ). nat_eq n x.class.0 && is_same_name b.name x.name) (sym class)
    ∙ ap (λ (n : ℕ). is_same_name a.class x.class && nat_eq n x.name.0) (sym name)

-- a number of a definition is also the number of the definition that stands there
number_again : (spec : SpecTree) (d : TypeDefTree) (i : ℕ) → type_number spec d ≡ Some i
    → (i < length (type_definitions spec)) × (type_number spec (get_or (type_definitions spec) i d) ≡ Some i)
number_again spec d i e =
    let at = position-Some (is_same_type d) (type_definitions spec) i d e in (
      at.0,
      same_position (is_same_type (get_or (type_definitions spec) i d)) (is_same_type d) (type_definitions spec)
          (same_types d (get_or (type_definitions spec) i d) at.1) ∙ e,
    )

-- ---- types

no_circle_in : (spec : SpecTree) (blocks : List BlockTree)
    → AllByRecursion (λ (m : Member). is_own_alternative spec m ≡ false) (flat_map members_in blocks)
    → AllByRecursion (λ (t : TypeDefTree). in_circle spec (type_number spec t) ≡ false) (flat_map types_in blocks)
no_circle_in spec [] all = tt
no_circle_in spec (block ∷ blocks) all =
    each_append (λ (t : TypeDefTree). in_circle spec (type_number spec t) ≡ false) (types_in block) (flat_map types_in blocks)
    (by block (each_before (λ (m : Member). is_own_alternative spec m ≡ false) (members_in block) (flat_map members_in blocks) all))
    (no_circle_in spec blocks (each_behind (λ (m : Member). is_own_alternative spec m ≡ false) (members_in block) (flat_map members_in blocks) all))
  where
    list : (ts : List TypeDefTree) → AllByRecursion (λ (m : Member). is_own_alternative spec m ≡ false) (map of_type ts)
        → AllByRecursion (λ (t : TypeDefTree). in_circle spec (type_number spec t) ≡ false) ts
    list [] all = tt
    list (t ∷ ts) all = (all.0, list ts all.1)

    by : (block : BlockTree) → AllByRecursion (λ (m : Member). is_own_alternative spec m ≡ false) (members_in block)
        → AllByRecursion (λ (t : TypeDefTree). in_circle spec (type_number spec t) ≡ false) (types_in block)
    by (types ts place) all = list ts all
    by (values vs place) all = tt
    by (variables vs place) all = tt
    by (functions fs place) all = tt
    by (operations os place) all = tt
    by (thread_of t place) all = tt
    by (synchronisation s place) all = tt

each_flat : {A B : Type 0} (P : B → Type 0) (f : A → List B) (xs : List A) → AllByRecursion (λ (x : A). AllByRecursion P (f x)) xs
    → AllByRecursion P (flat_map f xs)
each_flat P f [] all = tt
each_flat P f (x ∷ xs) all = each_append P (f x) (flat_map f xs) all.0 (each_flat P f xs all.1)

no_steps : (g : Graph) (n a b : ℕ) → successors g a ≡ [] → leads n g a b ≡ false
no_steps g zero a b e = refl
no_steps g (suc n) a b e = ap (λ (xs : List ℕ). list_any (λ (next : ℕ). nat_eq next b || leads n g next b) xs) e

-- ---- all together, of a specification of which nothing is refused

module _ (spec : SpecTree) (fine : table_fault spec ≡ None) where
  pub no_faults : table_faults spec ≡ []
  no_faults = nothing_first (table_faults spec) fine

  pub class_fine : (k : ℕ) (class : ClassTree) → class_at spec k ≡ Some class → (earlier : List Name) × ClassStands spec earlier k class
  class_fine k class e =
      each_class spec (λ (n : ℕ) (c : ClassTree). (earlier : List Name) × ClassStands spec earlier n c) (λ earlier n c s. (earlier, s))
      [] 0 (classes spec) no_faults k k class (omega arith) e

  pub names_differ : IsDistinct is_same_name (class_names spec)
  names_differ = (names_apart spec [] 0 (classes spec) no_faults).1

  pub superclasses_exist : (k : ℕ) (class : ClassTree) → class_at spec k ≡ Some class
      → AllByRecursion (λ (s : NameAt). is_some (class_number spec s.name) ≡ true) class.superclasses
  superclasses_exist k class e = superclasses_known spec class.superclasses (class_fine k class e).1.superclasses

  pub members_differ : (k : ℕ) (class : ClassTree) → class_at spec k ≡ Some class → IsDistinct clashes (class_members class)
  members_differ k class e = (members_apart spec k [] (class_members class) (class_fine k class e).1.members).1

  pub class_on_no_circle : (k : ℕ) → is_on_cycle (class_graph spec) k ≡ false
  class_on_no_circle k = ⊎_elim
      (λ (l : k < length (classes spec)).
      (class_fine k (get_or (classes spec) k io_class)
      (slice_get-get_or (classes spec) k io_class l)).1.no_circle)
      (λ (m : length (classes spec) ≤ k).
      no_steps (class_graph spec) (length (class_graph spec)) k k
      (get_or_past (class_graph spec) k [] (subst (λ (n : ℕ). n ≤ k) (sym (length-map (classes spec) (superclass_numbers spec))) m)))
      (cases_lt k (length (classes spec)))

  types_on_no_circle : AllByRecursion (λ (t : TypeDefTree). in_circle spec (type_number spec t) ≡ false) (type_definitions spec)
  types_on_no_circle = each_flat (λ (t : TypeDefTree). in_circle spec (type_number spec t) ≡ false) class_types (classes spec)
      (each_listed spec (λ (c : ClassTree). AllByRecursion (λ (t : TypeDefTree). in_circle spec (type_number spec t) ≡ false) (class_types c))
      (λ earlier k class s. no_circle_in spec class.blocks
      (each_member spec k (λ (m : Member). is_own_alternative spec m ≡ false) (λ before member m. m.no_circle) [] (class_members class) s.members))
      [] 0 (classes spec) no_faults)

  fine_at : (i : ℕ) (d : TypeDefTree)
      → (i < length (type_definitions spec)) × (type_number spec (get_or (type_definitions spec) i d) ≡ Some i)
      → is_on_cycle (type_graph spec) i ≡ false
  fine_at i d h =
      sym (ap (in_circle spec) h.1)
      ∙ All-get_or (λ (t : TypeDefTree). in_circle spec (type_number spec t) ≡ false) (type_definitions spec) i d h.0
      (All-from_recursion (λ (t : TypeDefTree). in_circle spec (type_number spec t) ≡ false) (type_definitions spec) types_on_no_circle)

  -- A node on a circle is led to, so its number is that of a definition: then the definition that stands there has this number too, and
  -- would be refused.
  pub type_on_no_circle : (i : ℕ) → is_on_cycle (type_graph spec) i ≡ false
  type_on_no_circle i = ⊎_elim
      (λ (t : is_on_cycle (type_graph spec) i ≡ true).
      let step = last_step (type_graph spec) (length (type_graph spec)) i i t in
      let from = made_by (alternative_numbers spec) (type_definitions spec) step.0 i step.1 in
      let by = numbered_by (alternative_number spec from.0) (body_alternatives from.0.body) i from.1 in
      let named = came_from (type_number spec) (type_named spec from.0.class by.0.class by.0.name) i by.1 in
      fine_at i named.0 (number_again spec named.0 i named.1))
      (λ f. f)
      (cases_Bool (is_on_cycle (type_graph spec) i))
