-- Types are ranked, where nothing is refused.
use Rattle.std.proofs.Common.{◌≡◌, ℕ, zero, suc, ◌<◌, ◌≤◌, Bool, true, false, ⊎_elim, List, [], ◌∷◌, Option, Some, None, map, if◌then◌else◌, length, get_or, slice_get, max, nat_eq, eqb-true, refl, ap, sym, subst, ◌∙◌, arith}
use Rattle.std.specs.List.{AllByRecursion as Each, list_any, list_all}
use Rattle.std.specs.Option.{option_and_then}
use Rattle.std.proofs.Math.Nat.{le-max_left, le-max_right}
use Rattle.std.proofs.lemmas.List.{length-map}
use Rattle.vdm_kinds.specs.declared.name.Name.{Name}
use Rattle.vdm_kinds.specs.declared.name_at.TypeName.{TypeName}
use Rattle.abstract_syntax.specs.Classes.{TypeDefTree, variables_among, BlockTree, types, values, variables, functions, operations, thread_of, synchronisation, ClassTree, SpecTree, is_same_name}
use Rattle.expr_tree.specs.Alternatives.{IsRanked, body_alternatives}
use Rattle.graph_cycles.specs.Graphs.{Graph, successors, settles}
use Rattle.class_meaning.specs.Classes.{classes, class_at, class_number, numbers_among}
use Rattle.class_meaning.specs.Faults.{table_fault}
use Rattle.class_meaning.specs.Found.{own_in, found, found_type, defined_type, type_of, type_named}
use Rattle.class_meaning.specs.Members.{Member, of_type, of_value, of_variable, of_function, of_operation, class_members, members_in, answers, own}
use Rattle.class_meaning.specs.TypeGraph.{types_in, class_types, type_definitions, is_same_type, type_number, alternative_number, alternative_numbers, type_graph}
use Rattle.class_meaning.specs.declared.ask.Ask.TheVariants.{AsType}
use Rattle.class_meaning.specs.declared.found.Found.{Found}
use Rattle.class_meaning.specs.declared.found.Found.TheVariants.{Nothing, One, Several}
use Rattle.class_meaning.proofs.Numbers.{not_both, or_cases, or_left, or_right, and_left, and_right, and_both, itself, flipped, each_of, map_same}
use Rattle.class_meaning.proofs.Ranges.{type_number_below}
use Rattle.class_meaning.proofs.Refusals.{names_differ, members_differ}
use Rattle.class_meaning.proofs.Settled.{types_settle}
use Rattle.spec_table.specs.Among.{Among, among_map, among_mapped, among_flat, among_part, among_at, find_some, only_found, place_found, differ_or_same_by}
use Rattle.spec_table.specs.Answering.{answers_first, same_both}
use Rattle.member_meaning.specs.TypeRanks.{stand_in, has_its_types, types_stand, finder, greatest, height, height_at, type_rank}

-- ---- heights fall

at_most : (h : ℕ → ℕ) (xs : List ℕ) (b : ℕ) → list_any (nat_eq b) xs ≡ true → h b ≤ greatest (map h xs)
at_most h [] b is = not_both is refl
at_most h (x ∷ xs) b is = ⊎_elim
    (λ (e : nat_eq b x ≡ true). subst (λ (y : ℕ). h y ≤ max (h x) (greatest (map h xs))) (sym (eqb-true b x e)) (le-max_left (h x) (greatest (map h xs))))
    (λ (l : list_any (nat_eq b) xs ≡ true).
    let rest : h b ≤ greatest (map h xs) = at_most h xs b l in
    let more : greatest (map h xs) ≤ max (h x) (greatest (map h xs)) = le-max_right (h x) (greatest (map h xs)) in
    omega (arith, rest, more))
    (or_cases (nat_eq b x) (list_any (nat_eq b) xs) is)

module _ (g : Graph) where
  more_height : (n m a : ℕ) → n ≤ m → settles n g a ≡ true → height m g a ≡ height n g a
  more_height zero m a l t = not_both t refl
  more_height (suc n) zero a l t = absurd (omega arith)
  more_height (suc n) (suc m) a l t =
      ap (λ (hs : List ℕ). suc (greatest hs)) (map_same (height m g) (height n g) (successors g a)
      (λ b is. more_height n m b (omega arith) (each_of (settles n g) (successors g a) b t is)))

  pub height_falls : (n a b : ℕ) → settles n g a ≡ true → list_any (nat_eq b) (successors g a) ≡ true → height n g b < height n g a
  height_falls zero a b t is = not_both t refl
  height_falls (suc n) a b t is =
      let same : height (suc n) g b ≡ height n g b = more_height n (suc n) b (omega arith) (each_of (settles n g) (successors g a) b t is) in
      let bound : height n g b ≤ greatest (map (height n g) (successors g a)) = at_most (height n g) (successors g a) b is in
      let lower : height n g b < suc (greatest (map (height n g) (successors g a))) = omega (arith, bound) in
      subst (λ (x : ℕ). x < suc (greatest (map (height n g) (successors g a)))) (sym same) lower

-- ---- what is found stands in a class

came_from : {A B : Type 0} (f : A → Option B) (x : Option A) (b : B) → option_and_then f x ≡ Some b → (a : A) × (x ≡ Some a) × (f a ≡ Some b)
came_from f None b e = absurd (cc)
came_from f (Some a) b e = (a, refl, e)

is_type : (m : Member) (d : TypeDefTree) → type_of m ≡ Some d → m ≡ of_type d
is_type (of_type t) d e = let same : t ≡ d = cc in ap of_type same
is_type (of_value v) d e = absurd (cc)
is_type (of_variable v) d e = absurd (cc)
is_type (of_function f) d e = absurd (cc)
is_type (of_operation o) d e = absurd (cc)

defined : (spec : SpecTree) (name : Name) (f : Found) (d : TypeDefTree) → defined_type spec name f ≡ Some d
    → (o : ℕ) × (own_in spec (AsType name) o ≡ Some (of_type d))
defined spec name Nothing d e = absurd (cc)
defined spec name Several d e = absurd (cc)
defined spec name (One o) d e =
    let r = came_from type_of (own_in spec (AsType name) o) d e in
    (o, r.1 ∙ ap Some (is_type r.0 d r.2))

named_in : (spec : SpecTree) (name : Name) (k : Option ℕ) (d : TypeDefTree) → option_and_then (found_type spec name) k ≡ Some d
    → (o : ℕ) × (own_in spec (AsType name) o ≡ Some (of_type d))
named_in spec name k d e =
    let r = came_from (found_type spec name) k d e in
    defined spec name (found spec (AsType name) r.0) d r.2

named_somewhere : (spec : SpecTree) (scope : Name) (class : Option Name) (name : Name) (d : TypeDefTree) → type_named spec scope class name ≡ Some d
    → (o : ℕ) × (own_in spec (AsType name) o ≡ Some (of_type d))
named_somewhere spec scope None name d e = named_in spec name (class_number spec scope) d e
named_somewhere spec scope (Some class) name d e = named_in spec name (class_number spec class) d e

-- ---- types among members

other_block : (d : TypeDefTree) {A : Type 0} (f : A → Member) → ((a : A) → type_of (f a) ≡ None) → (xs : List A) {B : Type 0} → Among (of_type d) (map f xs) → B
other_block d f none xs h =
    let r = among_mapped f (of_type d) xs h in
    let e : None ≡ Some d = sym (none r.0) ∙ ap type_of r.2 in
    absurd (cc)

type_in_block : (d : TypeDefTree) (b : BlockTree) → Among (of_type d) (members_in b) → Among d (types_in b)
type_in_block d (types ts place) h =
    let r = among_mapped of_type (of_type d) ts h in
    let e : Some r.0 ≡ Some d = ap type_of r.2 in
    let same : r.0 ≡ d = cc in
    subst (λ (t : TypeDefTree). Among t ts) same r.1
type_in_block d (values vs place) h = other_block d of_value (λ v. refl) vs h
type_in_block d (variables items place) h = other_block d of_variable (λ v. refl) (variables_among items) h
type_in_block d (functions fs place) h = other_block d of_function (λ v. refl) fs h
type_in_block d (operations os place) h = other_block d of_operation (λ v. refl) os h
type_in_block d (thread_of t place) h = absurd h
type_in_block d (synchronisation s place) h = absurd h

block_member : (d : TypeDefTree) (b : BlockTree) → Among d (types_in b) → Among (of_type d) (members_in b)
block_member d (types ts place) h = among_map of_type d ts h
block_member d (values vs place) h = absurd h
block_member d (variables items place) h = absurd h
block_member d (functions fs place) h = absurd h
block_member d (operations os place) h = absurd h
block_member d (thread_of t place) h = absurd h
block_member d (synchronisation s place) h = absurd h

class_type : (d : TypeDefTree) (c : ClassTree) → Among (of_type d) (class_members c) → Among d (class_types c)
class_type d c h =
    let r = among_part members_in (of_type d) c.blocks h in
    among_flat types_in r.0 d c.blocks r.1 (type_in_block d r.0 r.2)

class_member : (d : TypeDefTree) (c : ClassTree) → Among d (class_types c) → Among (of_type d) (class_members c)
class_member d c h =
    let r = among_part types_in d c.blocks h in
    among_flat members_in r.0 (of_type d) c.blocks r.1 (block_member d r.0 r.2)

-- ---- a type is the only one of its class and name

all_among : {A : Type 0} (p : A → Bool) (xs : List A) (a : A) → list_all p xs ≡ true → Among a xs → p a ≡ true
all_among p [] a t h = absurd h
all_among p (x ∷ xs) a t h = ⊎_elim
    (λ (e : x ≡ a). subst (λ (y : _). p y ≡ true) e (and_left (p x) (list_all p xs) t))
    (λ (l : Among a xs). all_among p xs a (and_right (p x) (list_all p xs) t) l)
    h

module _ (spec : SpecTree) (fine : table_fault spec ≡ None) (stand : types_stand spec ≡ true) where
  of_its_class : (c : ClassTree) (d : TypeDefTree) → Among c (classes spec) → Among d (class_types c) → is_same_name d.class c.name ≡ true
  of_its_class c d h k =
      let r = among_part types_in d c.blocks k in
      all_among (λ (t : TypeDefTree). is_same_name t.class c.name) (types_in r.0) d
      (all_among (stand_in c.name) c.blocks r.0 (all_among has_its_types (classes spec) c stand h) r.1) r.2

  one_class : (c e : ClassTree) → Among c (classes spec) → Among e (classes spec) → is_same_name c.name e.name ≡ true → c ≡ e
  one_class c e h k s =
      differ_or_same_by (λ (class : ClassTree). class.name) is_same_name (classes spec) (names_differ spec fine) c e h k s
      (flipped e.name.0 c.name.0 ∙ s)

  one_type : (o : ℕ) (c : ClassTree) (d t : TypeDefTree) → class_at spec o ≡ Some c → Among d (class_types c) → Among t (class_types c)
      → is_same_name d.name t.name ≡ true → t ≡ d
  one_type o c d t at h k s =
      let apart = members_differ spec fine o c at in
      let first = answers_first c apart (AsType d.name) (of_type d) (class_member d c h) (itself d.name.0) in
      let second = answers_first c apart (AsType d.name) (of_type t) (class_member t c k) s in
      let e : Some t ≡ Some d = ap (option_and_then type_of) (sym second ∙ first) in
      cc

  -- a type of a class is found by its number
  numbered : (o : ℕ) (c : ClassTree) (d : TypeDefTree) → class_at spec o ≡ Some c → Among d (class_types c)
      → (i : ℕ) × (type_number spec d ≡ Some i) × (slice_get (type_definitions spec) i ≡ Some d)
  numbered o c d at h =
      let in_list : Among c (classes spec) = among_at (classes spec) o c at in
      place_found (is_same_type d) (type_definitions spec) d
      (only_found (is_same_type d) (type_definitions spec) d
      (λ t l s.
      let r = among_part class_types t (classes spec) l in
      let here : is_same_name d.class c.name ≡ true = of_its_class c d in_list h in
      let there : is_same_name t.class r.0.name ≡ true = of_its_class r.0 t r.1 r.2 in
      let classes_same : nat_eq d.class.0 t.class.0 ≡ true = and_left (is_same_name d.class t.class) (is_same_name d.name t.name) s in
      let back : nat_eq t.class.0 c.name.0 ≡ true = same_both d.class.0 t.class.0 c.name.0 classes_same here in
      let names_same : is_same_name r.0.name c.name ≡ true = same_both t.class.0 r.0.name.0 c.name.0 there back in
      let same : r.0 ≡ c = one_class r.0 c r.1 in_list names_same in
      one_type o c d t at h (subst (λ (x : ClassTree). Among t (class_types x)) same r.2)
      (and_right (is_same_name d.class t.class) (is_same_name d.name t.name) s))
      (among_flat class_types c d (classes spec) in_list h)
      (and_both (is_same_name d.class d.class) (is_same_name d.name d.name) (itself d.class.0) (itself d.name.0)))

  own_numbered : (o : ℕ) (name : Name) (d : TypeDefTree) → own_in spec (AsType name) o ≡ Some (of_type d)
      → (i : ℕ) × (type_number spec d ≡ Some i) × (slice_get (type_definitions spec) i ≡ Some d)
  own_numbered o name d e =
      let r = came_from (λ (class : ClassTree). own class (AsType name)) (class_at spec o) (of_type d) e in
      let s = find_some (answers (AsType name)) (class_members r.0) (of_type d) r.2 in
      numbered o r.0 d r.1 (class_type d r.0 s.0)

  named_number : (scope : Name) (class : Option Name) (name : Name) (d : TypeDefTree) → type_named spec scope class name ≡ Some d
      → (i : ℕ) × (type_number spec d ≡ Some i) × (slice_get (type_definitions spec) i ≡ Some d)
  named_number scope class name d e =
      let r = named_somewhere spec scope class name d e in
      own_numbered r.0 name d r.1

  -- ---- ranks fall

  row_of : (f : TypeDefTree → List ℕ) (ds : List TypeDefTree) (i : ℕ) (d : TypeDefTree) → slice_get ds i ≡ Some d → get_or (map f ds) i [] ≡ f d
  row_of f [] i d e = absurd (cc)
  row_of f (x ∷ ds) zero d e = let same : x ≡ d = cc in ap f same
  row_of f (x ∷ ds) (suc i) d e = row_of f ds i d e

  rank_falls : (d next : TypeDefTree) (i j : ℕ) → type_number spec d ≡ Some i → slice_get (type_definitions spec) i ≡ Some d → type_number spec next ≡ Some j
      → list_any (nat_eq j) (alternative_numbers spec d) ≡ true → type_rank spec next < type_rank spec d
  rank_falls d next i j di at nj is =
      let g = type_graph spec in
      let within : i < length g = subst (λ (n : ℕ). i < n) (sym (length-map (type_definitions spec) (alternative_numbers spec))) (type_number_below spec d i di) in
      let row : successors g i ≡ alternative_numbers spec d = row_of (alternative_numbers spec) (type_definitions spec) i d at in
      let lower : height (length g) g j < height (length g) g i =
      height_falls g (length g) i j (types_settle spec fine i within) (subst (λ (xs : List ℕ). list_any (nat_eq j) xs ≡ true) (sym row) is) in
      subst (λ (o : Option ℕ). height_at g o < type_rank spec d) (sym nj)
      (subst (λ (o : Option ℕ). height (length g) g j < height_at g o) (sym di) lower)

  among_numbers : (h : TypeName → Option ℕ) (ts : List TypeName) (P : TypeName → Type 0)
      → ((t : TypeName) → ((j : ℕ) → h t ≡ Some j → list_any (nat_eq j) (numbers_among (map h ts)) ≡ true) → P t) → Each P ts
  among_numbers h ts P f = over ts (λ t j in_ts. in_ts)
    where
      step : (o : Option ℕ) (rest : List (Option ℕ)) (j : ℕ) → list_any (nat_eq j) (numbers_among rest) ≡ true → list_any (nat_eq j) (numbers_among (o ∷ rest)) ≡ true
      step None rest j t = t
      step (Some k) rest j t = or_right (nat_eq j k) (list_any (nat_eq j) (numbers_among rest)) t

      first : (o : Option ℕ) (rest : List (Option ℕ)) (j : ℕ) → o ≡ Some j → list_any (nat_eq j) (numbers_among (o ∷ rest)) ≡ true
      first None rest j e = absurd (cc)
      first (Some k) rest j e =
          let same : k ≡ j = cc in
          or_left (nat_eq j k) (list_any (nat_eq j) (numbers_among rest)) (subst (λ (x : ℕ). nat_eq j x ≡ true) (sym same) (itself j))

      over : (us : List TypeName) → ((t : TypeName) (j : ℕ) → list_any (nat_eq j) (numbers_among (map h us)) ≡ true → list_any (nat_eq j) (numbers_among (map h ts)) ≡ true)
          → Each P us
      over [] keep = tt
      over (u ∷ us) keep = (
        f u (λ j e. keep u j (first (h u) (map h us) j e)),
        over us (λ t j is. keep t j (step (h u) (map h us) j is)),
      )

  named_falls : (scope : Name) (class : Option Name) (name : Name) (d : TypeDefTree) → type_named spec scope class name ≡ Some d
      → Each (λ (other : TypeName). (next : TypeDefTree) → type_named spec d.class other.class other.name ≡ Some next → type_rank spec next < type_rank spec d)
      (body_alternatives d.body)
  named_falls scope class name d e =
      let at = named_number scope class name d e in
      among_numbers (alternative_number spec d) (body_alternatives d.body)
      (λ (other : TypeName). (next : TypeDefTree) → type_named spec d.class other.class other.name ≡ Some next → type_rank spec next < type_rank spec d)
      (λ other is next n.
      let to = named_number d.class other.class other.name next n in
      let number : alternative_number spec d other ≡ Some to.0 = ap (option_and_then (type_number spec)) n ∙ to.1 in
      rank_falls d next at.0 to.0 at.1 at.2 to.1 (is to.0 number))

-- ---- all together

abbrev chosen : SpecTree → Bool → Name → Option Name → Name → Option TypeDefTree
chosen spec b scope class name = if b then type_named spec scope class name else None

by_stand : (spec : SpecTree) → table_fault spec ≡ None → (b : Bool) → types_stand spec ≡ b → IsRanked (chosen spec b) (type_rank spec)
by_stand spec fine true stand = named_falls spec fine stand
by_stand spec fine false stand = λ scope class name d e. absurd (cc)

-- the numbers fall from each type to its alternatives, where nothing is refused
pub ranked : (spec : SpecTree) → table_fault spec ≡ None → IsRanked (finder spec) (type_rank spec)
ranked spec fine = by_stand spec fine (types_stand spec) refl
