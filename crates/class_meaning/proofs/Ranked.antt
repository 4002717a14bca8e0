-- Where the table of the classes refuses nothing, each type has a greater number than its alternatives.
use Rattle.std.proofs.Common.{◌≡◌, ℕ, zero, suc, ◌+◌, ◌<◌, Bool, true, false, not, ◌&&◌, ◌⊎◌, inl, inr, ⊎_elim, List, [], ◌∷◌, ◌++◌, Option, Some, None, unwrap_or, length, map, get_or, slice_get, nat_eq, nat_lt, refl, ap, sym, subst, ◌∙◌, cond, arith, Contains}
use Rattle.std.specs.List.{list_any, flat_map, find, filter_map, cons_option, position_or_len, AllByRecursion, IsDistinct}
use Rattle.std.specs.Option.{option_and_then}
use Rattle.std.proofs.lemmas.Bool.{cond-true, lt-ltb}
use Rattle.std.proofs.lemmas.List.{get_or-map, length-map}
use Rattle.std.proofs.lemmas.List.Elements.{Contains-append_left, Contains-append_right, Contains-append_cases, filter_map-append}
use Rattle.std.proofs.lemmas.Map.Keys.{IsDistinct-head, IsDistinct-tail}
use Rattle.vdm_kinds.specs.declared.name.Name.{Name}
use Rattle.vdm_kinds.specs.declared.name_at.TypeName.{TypeName}
use Rattle.abstract_syntax.specs.Classes.{TypeDefTree, BlockTree, types, values, variables, functions, operations, thread_of, synchronisation, variables_among, ClassTree, SpecTree, is_same_name}
use Rattle.expr_tree.specs.Alternatives.{body_alternatives, IsRanked}
use Rattle.graph_cycles.specs.Graphs.{successors}
use Rattle.class_meaning.specs.Ancestors.{ancestors_in}
use Rattle.class_meaning.specs.Classes.{classes, class_at, class_number, numbers_among}
use Rattle.class_meaning.specs.Members.{Member, of_type, of_value, of_variable, of_function, of_operation, members_in, class_members, answers, own}
use Rattle.class_meaning.specs.Found.{own_in, found, type_of, defined_type, found_type, type_named}
use Rattle.class_meaning.specs.Faults.{clashes, table_fault}
use Rattle.class_meaning.specs.Laws.{HasOwnTypes, type_rank}
use Rattle.class_meaning.specs.TypeGraph.{types_in, class_types, type_definitions, is_same_type, type_number, alternative_number, alternative_numbers, type_graph}
use Rattle.class_meaning.specs.declared.ask.Ask.TheVariants.{AsType}
use Rattle.class_meaning.specs.declared.found.Found.{Found}
use Rattle.class_meaning.specs.declared.found.Found.TheVariants.{Nothing, One, Several}
use Rattle.class_meaning.proofs.Layouts.{Apart, apart_nothing, apart_more, append_apart, picked_apart}
use Rattle.class_meaning.proofs.Numbers.{or_left, or_right, itself, flipped}
use Rattle.class_meaning.proofs.Refusals.{nothing_differs, each_listed, members_apart, names_differ, no_faults}
use Rattle.class_meaning.proofs.Settled.{types_settle}
use Rattle.class_meaning.proofs.Walks.{fewer_above}

-- ---- what lists contain

at_head_or : {A : Type 0} (y : A) (xs : List A) (x : A) → Contains (y ∷ xs) x → (y ≡ x) ⊎ Contains xs x
at_head_or y xs x (zero, l, e) = inl e
at_head_or y xs x (suc k, l, e) = inr (k, omega (arith, l), e)

at_head : {A : Type 0} (y : A) (xs : List A) (x : A) → y ≡ x → Contains (y ∷ xs) x
at_head y xs x e = (0, omega arith, e)

behind_head : {A : Type 0} (y : A) (xs : List A) (x : A) → Contains xs x → Contains (y ∷ xs) x
behind_head y xs x c = (suc c.0, omega (arith, c.1), c.2)

in_nothing : {A : Type 0} (x : A) → Contains [] x → ⊥
in_nothing x c = omega (arith, c.1)

each_from : {A : Type 0} (P : A → Type 0) (xs : List A) → ((x : A) → Contains xs x → P x) → AllByRecursion P xs
each_from P [] f = tt
each_from P (x ∷ xs) f = (f x (at_head x xs x refl), each_from P xs (λ y c. f y (behind_head x xs y c)))

at_each : {A : Type 0} (P : A → Type 0) (xs : List A) (x : A) → AllByRecursion P xs → Contains xs x → P x
at_each P [] x all c = absurd (in_nothing x c)
at_each P (y ∷ xs) x all c = ⊎_elim (λ (e : y ≡ x). subst P e all.0) (λ (later : Contains xs x). at_each P xs x all.1 later) (at_head_or y xs x c)

in_slice : {A : Type 0} (xs : List A) (k : ℕ) (x : A) → slice_get xs k ≡ Some x → Contains xs x
in_slice [] k x e = absurd (cc)
in_slice (y ∷ xs) zero x e = let same : y ≡ x = cc in at_head y xs x same
in_slice (y ∷ xs) (suc k) x e = behind_head y xs x (in_slice xs k x e)

found_in : {A : Type 0} (p : A → Bool) (xs : List A) (x : A) → find p xs ≡ Some x → Contains xs x
found_in p [] x e = absurd (cc)
found_in p (y ∷ xs) x e = by (p y) e (found_in p xs x)
  where
    by : (b : Bool) → cond b (Some y) (find p xs) ≡ Some x → (find p xs ≡ Some x → Contains xs x) → Contains (y ∷ xs) x
    by true d rest = let same : y ≡ x = cc in at_head y xs x same
    by false d rest = behind_head y xs x (rest d)

in_flat : {A B : Type 0} (f : A → List B) (xs : List A) (x : A) (y : B) → Contains xs x → Contains (f x) y → Contains (flat_map f xs) y
in_flat f [] x y c d = absurd (in_nothing x c)
in_flat f (z ∷ xs) x y c d = ⊎_elim
    (λ (e : z ≡ x). Contains-append_left (f z) (flat_map f xs) y (subst (λ w. Contains (f w) y) (sym e) d))
    (λ (later : Contains xs x). Contains-append_right (f z) (flat_map f xs) y (in_flat f xs x y later d))
    (at_head_or z xs x c)

mapped : {A B : Type 0} (f : A → B) (xs : List A) (y : B) → Contains (map f xs) y → (x : A) × Contains xs x × (f x ≡ y)
mapped f [] y c = absurd (in_nothing y c)
mapped f (x ∷ xs) y c = ⊎_elim
    (λ (e : f x ≡ y). (x, at_head x xs x refl, e))
    (λ (later : Contains (map f xs) y). let r = mapped f xs y later in (r.0, behind_head x xs r.0 r.1, r.2))
    (at_head_or (f x) (map f xs) y c)

and_then_from : {A B : Type 0} (f : A → Option B) (o : Option A) (b : B) → option_and_then f o ≡ Some b → (x : A) × (o ≡ Some x) × (f x ≡ Some b)
and_then_from f None b e = absurd (cc)
and_then_from f (Some x) b e = (x, refl, e)

-- ---- what is found is one of the definitions

not_here : {A : Type 0} (f : A → Member) (d : TypeDefTree) → ((x : A) → f x ≡ of_type d → ⊥) → (xs : List A) → Contains (map f xs) (of_type d)
    → Contains [] d
not_here f d never xs c = let r = mapped f xs (of_type d) c in absurd (never r.0 r.2)

type_in_block : (block : BlockTree) (d : TypeDefTree) → Contains (members_in block) (of_type d) → Contains (types_in block) d
type_in_block (types ts place) d c =
    let r = mapped of_type ts (of_type d) c in
    let same : r.0 ≡ d = cc in
    subst (λ (t : TypeDefTree). Contains ts t) same r.1
type_in_block (values vs place) d c = not_here of_value d (λ x e. cc) vs c
type_in_block (variables vs place) d c = not_here of_variable d (λ x e. cc) (variables_among vs) c
type_in_block (functions fs place) d c = not_here of_function d (λ x e. cc) fs c
type_in_block (operations os place) d c = not_here of_operation d (λ x e. cc) os c
type_in_block (thread_of t place) d c = absurd (in_nothing (of_type d) c)
type_in_block (synchronisation s place) d c = absurd (in_nothing (of_type d) c)

type_in_blocks : (blocks : List BlockTree) (d : TypeDefTree) → Contains (flat_map members_in blocks) (of_type d)
    → Contains (flat_map types_in blocks) d
type_in_blocks [] d c = absurd (in_nothing (of_type d) c)
type_in_blocks (block ∷ blocks) d c = ⊎_elim
    (λ here. Contains-append_left (types_in block) (flat_map types_in blocks) d (type_in_block block d here))
    (λ later. Contains-append_right (types_in block) (flat_map types_in blocks) d (type_in_blocks blocks d later))
    (Contains-append_cases (members_in block) (flat_map members_in blocks) (of_type d) c)

is_type : (m : Member) (d : TypeDefTree) → type_of m ≡ Some d → m ≡ of_type d
is_type (of_type t) d e = let same : t ≡ d = cc in ap of_type same
is_type (of_value v) d e = absurd (cc)
is_type (of_variable v) d e = absurd (cc)
is_type (of_function f) d e = absurd (cc)
is_type (of_operation o) d e = absurd (cc)

defined_in : (spec : SpecTree) (name : Name) (a : Found) (d : TypeDefTree) → defined_type spec name a ≡ Some d → Contains (type_definitions spec) d
defined_in spec name Nothing d e = absurd (cc)
defined_in spec name Several d e = absurd (cc)
defined_in spec name (One k) d e =
    let member = and_then_from type_of (own_in spec (AsType name) k) d e in
    let class = and_then_from (λ (c : ClassTree). own c (AsType name)) (class_at spec k) member.0 member.1 in
    let inside : Contains (class_members class.0) (of_type d) = subst (Contains (class_members class.0)) (is_type member.0 d member.2)
    (found_in (answers (AsType name)) (class_members class.0) member.0 class.2) in
    in_flat class_types (classes spec) class.0 d (in_slice (classes spec) k class.0 class.1) (type_in_blocks class.0.blocks d inside)

pub named_in : (spec : SpecTree) (scope : Name) (class : Option Name) (name : Name) (d : TypeDefTree) → type_named spec scope class name ≡ Some d
    → Contains (type_definitions spec) d
named_in spec scope None name d e =
    let k = and_then_from (found_type spec name) (class_number spec scope) d e in
    defined_in spec name (found spec (AsType name) k.0) d k.2
named_in spec scope (Some class) name d e =
    let k = and_then_from (found_type spec name) (class_number spec class) d e in
    defined_in spec name (found spec (AsType name) k.0) d k.2

-- ---- no two definitions are the same

picked_types : (blocks : List BlockTree) → filter_map type_of (flat_map members_in blocks) ≡ flat_map types_in blocks
picked_types [] = refl
picked_types (block ∷ blocks) =
    filter_map-append type_of (members_in block) (flat_map members_in blocks)
    ∙ ap (λ (ts : List TypeDefTree). ts ++ filter_map type_of (flat_map members_in blocks)) (by block)
    ∙ ap (λ (ts : List TypeDefTree). types_in block ++ ts) (picked_types blocks)
  where
    all : (ts : List TypeDefTree) → filter_map type_of (map of_type ts) ≡ ts
    all [] = refl
    all (t ∷ ts) = ap (λ (us : List TypeDefTree). t ∷ us) (all ts)

    none : {A : Type 0} (f : A → Member) → ((x : A) → type_of (f x) ≡ None) → (xs : List A) → filter_map type_of (map f xs) ≡ []
    none f is [] = refl
    none f is (x ∷ xs) = ap (λ (o : Option TypeDefTree). cons_option o (filter_map type_of (map f xs))) (is x) ∙ none f is xs

    by : (block : BlockTree) → filter_map type_of (members_in block) ≡ types_in block
    by (types ts place) = all ts
    by (values vs place) = none of_value (λ x. refl) vs
    by (variables vs place) = none of_variable (λ x. refl) (variables_among vs)
    by (functions fs place) = none of_function (λ x. refl) fs
    by (operations os place) = none of_operation (λ x. refl) os
    by (thread_of t place) = refl
    by (synchronisation s place) = refl

and_false : (b c : Bool) → c ≡ false → (b && c) ≡ false
and_false true c f = f
and_false false c f = refl

and_true : (b : Bool) → (b && true) ≡ false → b ≡ false
and_true true g = g
and_true false g = refl

types_differ : (x y : Member) (t u : TypeDefTree) → type_of x ≡ Some t → type_of y ≡ Some u → clashes x y ≡ false → is_same_type t u ≡ false
types_differ x y t u d e f =
    let plain : clashes (of_type t) (of_type u) ≡ false =
    subst (λ (m : Member). clashes m (of_type u) ≡ false) (is_type x t d) (subst (λ (m : Member). clashes x m ≡ false) (is_type y u e) f) in
    and_false (is_same_name t.class u.class) (is_same_name t.name u.name) (and_true (is_same_name t.name u.name) plain)

class_types_apart : (class : ClassTree) → IsDistinct clashes (class_members class) → IsDistinct is_same_type (class_types class)
class_types_apart class h = subst (IsDistinct is_same_type) (picked_types class.blocks)
    (picked_apart clashes is_same_type type_of types_differ (class_members class) h)

abbrev HasOwn : ClassTree → Type 0
HasOwn class = AllByRecursion (λ (t : TypeDefTree). t.class ≡ class.name) (class_types class)

across : (one other : ClassTree) → is_same_name one.name other.name ≡ false → (ts us : List TypeDefTree)
    → AllByRecursion (λ (t : TypeDefTree). t.class ≡ one.name) ts → AllByRecursion (λ (t : TypeDefTree). t.class ≡ other.name) us
    → Apart is_same_type ts us
across one other f [] us h k = tt
across one other f (t ∷ ts) us h k = (against us k, across one other f ts us h.1 k)
  where
    against : (us : List TypeDefTree) → AllByRecursion (λ (u : TypeDefTree). u.class ≡ other.name) us
        → AllByRecursion (λ (u : TypeDefTree). is_same_type t u ≡ false) us
    against [] k = tt
    against (u ∷ us) k = (
      ap (λ (n : Name). is_same_name n u.class && is_same_name t.name u.name) h.0
          ∙ ap (λ (n : Name). is_same_name one.name n && is_same_name t.name u.name) k.0
          ∙ ap (λ (b : Bool). b && is_same_name t.name u.name) f,
      against us k.1,
    )

across_all : (one : ClassTree) (list : List ClassTree) → HasOwn one → AllByRecursion HasOwn list
    → AllByRecursion (λ (n : Name). is_same_name one.name n ≡ false) (map (λ (c : ClassTree). c.name) list)
    → Apart is_same_type (class_types one) (flat_map class_types list)
across_all one [] h k a = apart_nothing is_same_type (class_types one)
across_all one (other ∷ list) h k a = apart_more is_same_type (class_types one) (class_types other) (flat_map class_types list)
    (across one other a.0 (class_types one) (class_types other) h k.0)
    (across_all one list h k.1 a.1)

all_types_apart : (list : List ClassTree) → AllByRecursion HasOwn list → AllByRecursion (λ (c : ClassTree). IsDistinct clashes (class_members c)) list
    → IsDistinct is_same_name (map (λ (c : ClassTree). c.name) list) → IsDistinct is_same_type (flat_map class_types list)
all_types_apart [] h k a = nothing_differs is_same_type
all_types_apart (class ∷ list) h k a = append_apart is_same_type (class_types class) (flat_map class_types list)
    (class_types_apart class k.0)
    (all_types_apart list h.1 k.1 (IsDistinct-tail is_same_name class.name (map (λ (c : ClassTree). c.name) list) a))
    (across_all class list h.0 h.1 (IsDistinct-head is_same_name class.name (map (λ (c : ClassTree). c.name) list) a))

-- ---- the number of a definition

same_flipped : (t u : TypeDefTree) → is_same_type t u ≡ is_same_type u t
same_flipped t u = ap (λ (b : Bool). b && is_same_name t.name u.name) (flipped t.class.0 u.class.0)
    ∙ ap (λ (b : Bool). is_same_name u.class t.class && b) (flipped t.name.0 u.name.0)

same_itself : (t : TypeDefTree) → is_same_type t t ≡ true
same_itself t = ap (λ (b : Bool). b && is_same_name t.name t.name) (itself t.class.0) ∙ itself t.name.0

-- it stands at its number
record StandsAt (list : List TypeDefTree) (d : TypeDefTree) : Type 0 where
  pub place : ℕ
  pub within : place < length list
  pub first : position_or_len (is_same_type d) list ≡ place
  pub here : (x : TypeDefTree) → get_or list place x ≡ d

stands_at : (list : List TypeDefTree) (d : TypeDefTree) → IsDistinct is_same_type list → Contains list d → StandsAt list d
stands_at [] d a c = absurd (in_nothing d c)
stands_at (t ∷ list) d a c = ⊎_elim
    (λ (e : t ≡ d). record {
      place = 0;
      within = omega arith;
      first = ap (λ (b : Bool). cond (not b) (1 + position_or_len (is_same_type d) list) 0)
          (subst (λ (u : TypeDefTree). is_same_type d u ≡ true) (sym e) (same_itself d));
      here = λ x. e;
    })
    (λ (later : Contains list d).
    let r = stands_at list d (IsDistinct-tail is_same_type t list a) later in
    let other : is_same_type d t ≡ false = same_flipped d t
    ∙ at_each (λ (u : TypeDefTree). is_same_type t u ≡ false) list d (IsDistinct-head is_same_type t list a) later in
    record {
      place = suc r.place;
      within = omega (arith, r.within);
      first = ap (λ (b : Bool). cond (not b) (1 + position_or_len (is_same_type d) list) 0) other
          ∙ next (position_or_len (is_same_type d) list) r.place r.first;
      here = λ x. r.here x;
    })
    (at_head_or t list d c)
  where
    next : (m n : ℕ) → m ≡ n → 1 + m ≡ suc n
    next m n e = omega arith

numbered_here : (o : Option ℕ) (rest : List (Option ℕ)) (b : ℕ) → o ≡ Some b → list_any (nat_eq b) (numbers_among (o ∷ rest)) ≡ true
numbered_here None rest b e = absurd (cc)
numbered_here (Some k) rest b e =
    let same : b ≡ k = cc in or_left (nat_eq b k) (list_any (nat_eq b) (numbers_among rest)) (ap (nat_eq b) (sym same) ∙ itself b)

numbered_later : (o : Option ℕ) (rest : List (Option ℕ)) (b : ℕ) → list_any (nat_eq b) (numbers_among rest) ≡ true
    → list_any (nat_eq b) (numbers_among (o ∷ rest)) ≡ true
numbered_later None rest b t = t
numbered_later (Some k) rest b t = or_right (nat_eq b k) (list_any (nat_eq b) (numbers_among rest)) t

numbered_in : {A : Type 0} (h : A → Option ℕ) (xs : List A) (x : A) (b : ℕ) → Contains xs x → h x ≡ Some b
    → list_any (nat_eq b) (numbers_among (map h xs)) ≡ true
numbered_in h [] x b c e = absurd (in_nothing x c)
numbered_in h (y ∷ xs) x b c e = ⊎_elim
    (λ (same : y ≡ x). numbered_here (h y) (map h xs) b (ap h same ∙ e))
    (λ (later : Contains xs x). numbered_later (h y) (map h xs) b (numbered_in h xs x b later e))
    (at_head_or y xs x c)

module _ (spec : SpecTree) (fine : table_fault spec ≡ None) (own_types : HasOwnTypes spec) where
  pub definitions_apart : IsDistinct is_same_type (type_definitions spec)
  definitions_apart = all_types_apart (classes spec) (tt, own_types)
      (each_listed spec (λ (c : ClassTree). IsDistinct clashes (class_members c))
      (λ earlier k class s. (members_apart spec k [] (class_members class) s.members).1)
      [] 0 (classes spec) (no_faults spec fine))
      (names_differ spec fine)

  -- a definition has the number at which it stands
  numbered : (d : TypeDefTree) (s : StandsAt (type_definitions spec) d) → type_number spec d ≡ Some s.place
  numbered d s = ap (λ (n : ℕ). cond (nat_lt n (length (type_definitions spec))) (Some n) None) s.first
      ∙ cond-true (nat_lt s.place (length (type_definitions spec))) (Some s.place) None (lt-ltb s.place (length (type_definitions spec)) s.within)

  -- each alternative of a definition has fewer
  lower : (d : TypeDefTree) → StandsAt (type_definitions spec) d → (other : TypeName) → Contains (body_alternatives d.body) other
      → (next : TypeDefTree) → type_named spec d.class other.class other.name ≡ Some next → StandsAt (type_definitions spec) next
      → type_rank spec next < type_rank spec d
  lower d at other among next n there =
      let number : alternative_number spec d other ≡ Some there.place = ap (option_and_then (type_number spec)) n ∙ numbered next there in
      let listed : list_any (nat_eq there.place) (alternative_numbers spec d) ≡ true =
      numbered_in (alternative_number spec d) (body_alternatives d.body) other there.place among number in
      let row : successors (type_graph spec) at.place ≡ alternative_numbers spec d =
      get_or-map (alternative_numbers spec) (type_definitions spec) at.place d [] at.within ∙ ap (alternative_numbers spec) (at.here d) in
      let inside : at.place < length (type_graph spec) =
      subst (λ (n : ℕ). at.place < n) (sym (length-map (type_definitions spec) (alternative_numbers spec))) at.within in
      fewer next d there.place at.place (numbered next there) (numbered d at)
      (fewer_above (type_graph spec) at.place there.place (types_settle spec fine at.place inside) (ap (list_any (nat_eq there.place)) row ∙ listed))
    where
      fewer : (one two : TypeDefTree) (m n : ℕ) → type_number spec one ≡ Some m → type_number spec two ≡ Some n
          → length (ancestors_in (type_graph spec) m) < length (ancestors_in (type_graph spec) n) → type_rank spec one < type_rank spec two
      fewer one two m n e f l =
          subst (λ (o : Option ℕ). length (ancestors_in (type_graph spec) (unwrap_or o 0)) < type_rank spec two) (sym e)
          (subst (λ (o : Option ℕ). length (ancestors_in (type_graph spec) m) < length (ancestors_in (type_graph spec) (unwrap_or o 0))) (sym f) l)

  pub ranked : IsRanked (type_named spec) (type_rank spec)
  ranked scope class name d e =
      each_from
      (λ (other : TypeName). (next : TypeDefTree) → type_named spec d.class other.class other.name ≡ Some next
      → type_rank spec next < type_rank spec d)
      (body_alternatives d.body)
      (λ other among next n. lower d (stands_at (type_definitions spec) d definitions_apart (named_in spec scope class name d e)) other among next n
      (stands_at (type_definitions spec) next definitions_apart (named_in spec d.class other.class other.name next n)))
