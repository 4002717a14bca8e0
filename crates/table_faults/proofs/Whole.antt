-- The first refusal, part by part, is the first of all that the meaning lists.
use Rattle.std.proofs.Common.{if◌then◌else◌, ◌≡◌, ℕ, suc, Bool, true, false, not, ◌&&◌, ◌||◌, is_some, List, [], ◌∷◌, ◌++◌, Option, Some, None, Result, Ok, Err, IfOk, slice_get, refl, ap, sym, ◌∙◌, append_assoc}
use Rattle.std.specs.List.{list_any, flat_map}
use Rattle.std.proofs.lemmas.List.Folds.{list_any-append}
use Rattle.vdm_kinds.specs.declared.name.Name.{Name}
use Rattle.vdm_kinds.specs.declared.name_at.NameAt.{NameAt}
use Rattle.vdm_kinds.specs.declared.name_at.TypeName.{TypeName}
use Rattle.vdm_kinds.specs.declared.place.Place.{Place}
use Rattle.vdm_kinds.specs.declared.spec_fault.SpecFault.{SpecFault}
use Rattle.vdm_kinds.specs.declared.spec_kind.SpecKind.{SpecKind}
use Rattle.vdm_kinds.specs.declared.spec_kind.SpecKind.TheVariants.{UnknownName, Duplicate, Cycle, WrongArity}
use Rattle.abstract_syntax.specs.Types.{
  TypeTree,
  TypeTrees,
  basic_type,
  quote_type,
  set_type,
  seq_type,
  seq1_type,
  map_type,
  inmap_type,
  optional_type,
  bracketed_type,
  named_type,
  product_type,
  union_type,
  no_types,
  one_type,
}
use Rattle.abstract_syntax.specs.Classes.{FieldTree, TypeBody, same_as, with_fields, ClassTree, SpecTree, is_same_name}
use Rattle.type_tree.specs.TypeView.{type_trees}
use Rattle.graph_cycles.specs.Graphs.{is_on_cycle}
use Rattle.class_meaning.specs.Classes.{classes, class_number, class_graph}
use Rattle.class_meaning.specs.Members.{Member, of_type, of_value, of_variable, of_function, of_operation, member_name, member_name_place, member_place, class_members}
use Rattle.class_meaning.specs.Faults.{
  qualified_faults,
  named_faults,
  type_faults,
  types_faults,
  is_among,
  field_faults,
  body_faults,
  optional_faults,
  has_its_patterns,
  is_own_alternative,
  typing_faults,
  differ_in_number,
  clashes,
  member_faults,
  number_faults,
  clash_faults,
  head_faults,
  begins_at_its_name,
  members_faults,
  superclass_faults,
  class_faults,
  classes_faults,
  table_fault,
}
use Rattle.class_meaning.specs.Faults as meant
use Rattle.table_faults.specs.Firsts.{
  or_behind,
  refused_if,
  qualified_fault,
  named_fault,
  type_fault,
  types_fault,
  with_name,
  no_names,
  field_fault,
  fields_fault,
  body_fault,
  optional_fault,
  typing_fault,
  shape_of,
  differ,
  Clashing,
  with_member,
  no_members,
  in_order,
  member_fault,
  members_fault,
  superclasses_fault,
  class_fault,
  classes_fault,
}

abbrev first : List SpecFault → Option SpecFault
first faults = slice_get faults 0

first_append : (xs ys : List SpecFault) → or_behind (first xs) (first ys) ≡ first (xs ++ ys)
first_append [] ys = refl
first_append (x ∷ xs) ys = refl

joined : (a b : Option SpecFault) (xs ys : List SpecFault) → a ≡ first xs → b ≡ first ys → or_behind a b ≡ first (xs ++ ys)
joined a b xs ys e f = (λ i. or_behind (e i) (f i)) ∙ first_append xs ys

first_if : (refused : Bool) (kind : SpecKind) (place : Place) → refused_if refused kind place ≡ first (meant.refused_if refused kind place)
first_if true kind place = refl
first_if false kind place = refl

-- a test in front
tested : (refused : Bool) (kind : SpecKind) (place : Place) (rest : Option SpecFault) (faults : List SpecFault)
    → rest ≡ first faults → or_behind (refused_if refused kind place) rest ≡ first (meant.refused_if refused kind place ++ faults)
tested refused kind place rest faults e = joined (refused_if refused kind place) rest (meant.refused_if refused kind place) faults (first_if refused kind place) e

or_false : (b : Bool) → (b || false) ≡ b
or_false true = refl
or_false false = refl

names_more : (known : Name → Bool) (earlier : List Name) (name : Name) → ((other : Name) → known other ≡ is_among other earlier) → (other : Name)
    → with_name known name other ≡ is_among other (earlier ++ name ∷ [])
names_more known earlier name same other =
    ap (λ (b : Bool). b || is_same_name other name) (same other)
    ∙ ap (λ (b : Bool). is_among other earlier || b) (sym (or_false (is_same_name other name)))
    ∙ sym (list_any-append (is_same_name other) earlier (name ∷ []))

module _ (spec : SpecTree) (k : ℕ) where
  -- ---- names of types

  qualified_is : (t : TypeName) (place : Place) (owner : Option ℕ) → qualified_fault spec t place owner ≡ first (qualified_faults spec t place owner)
  qualified_is t place None = refl
  qualified_is t place (Some owner) = first_if _ _ _

  named_is : (t : TypeName) (place : Place) (class : Option Name) → named_fault spec k t place class ≡ first (named_faults spec k t place class)
  named_is t place None = first_if _ _ _
  named_is t place (Some class) = qualified_is t place (class_number spec class)

  mutual
    type_is : (t : TypeTree) → type_fault spec k t ≡ first (type_faults spec k t)
    type_is (basic_type basic place) = refl
    type_is (quote_type name place) = refl
    type_is (set_type element place) = type_is element
    type_is (seq_type element place) = type_is element
    type_is (seq1_type element place) = type_is element
    type_is (map_type key value place) =
        joined (type_fault spec k key) (type_fault spec k value) (type_faults spec k key) (type_faults spec k value) (type_is key) (type_is value)
    type_is (inmap_type key value place) =
        joined (type_fault spec k key) (type_fault spec k value) (type_faults spec k key) (type_faults spec k value) (type_is key) (type_is value)
    type_is (optional_type inner place) = type_is inner
    type_is (bracketed_type inner place) = type_is inner
    type_is (named_type t place) = named_is t place t.class
    type_is (product_type factors place) = types_is factors
    type_is (union_type alternatives place) = types_is alternatives

    types_is : (ts : TypeTrees) → types_fault spec k ts ≡ first (types_faults spec k ts)
    types_is no_types = refl
    types_is (one_type t ts) =
        joined (type_fault spec k t) (types_fault spec k ts) (type_faults spec k t) (types_faults spec k ts) (type_is t) (types_is ts)

  listed : (ts : List TypeTree) → types_faults spec k (type_trees ts) ≡ flat_map (type_faults spec k) ts
  listed [] = refl
  listed (t ∷ ts) = ap (λ (faults : List SpecFault). type_faults spec k t ++ faults) (listed ts)

  each_is : (ts : List TypeTree) → types_fault spec k (type_trees ts) ≡ first (flat_map (type_faults spec k) ts)
  each_is ts = types_is (type_trees ts) ∙ ap first (listed ts)

  -- ---- definitions

  fields_are : (known : Name → Bool) (earlier : List Name) → ((name : Name) → known name ≡ is_among name earlier) → (fields : List FieldTree)
      → fields_fault spec k known fields ≡ first (field_faults spec k earlier fields)
  fields_are known earlier same [] = refl
  fields_are known earlier same (field ∷ fields) =
      let own = meant.refused_if (is_among field.name earlier) Duplicate field.name_place in
      let rest = field_faults spec k (earlier ++ field.name ∷ []) fields in
      let one : field_fault spec k known field ≡ first (own ++ type_faults spec k field.declared) =
      ap (λ (b : Bool). or_behind (refused_if b Duplicate field.name_place) (type_fault spec k field.declared)) (same field.name)
      ∙ tested (is_among field.name earlier) Duplicate field.name_place (type_fault spec k field.declared) (type_faults spec k field.declared) (type_is field.declared) in
      joined (field_fault spec k known field) (fields_fault spec k (with_name known field.name) fields) (own ++ type_faults spec k field.declared) rest one
      (fields_are (with_name known field.name) (earlier ++ field.name ∷ []) (names_more known earlier field.name same) fields)
      ∙ ap first (append_assoc own (type_faults spec k field.declared) rest)

  body_is : (body : TypeBody) → body_fault spec k body ≡ first (body_faults spec k body)
  body_is (same_as declared) = type_is declared
  body_is (with_fields fields) = fields_are no_names [] (λ name. refl) fields

  optional_is : (declared : Option TypeTree) → optional_fault spec k declared ≡ first (optional_faults spec k declared)
  optional_is None = refl
  optional_is (Some declared) = type_is declared

  typing_is : (m : Member) → typing_fault spec k m ≡ first (typing_faults spec k m)
  typing_is (of_type t) = body_is t.body
  typing_is (of_value v) = optional_is v.declared
  typing_is (of_variable v) = type_is v.declared
  typing_is (of_function f) = joined _ _ (flat_map (type_faults spec k) f.parameters) (type_faults spec k f.result_type) (each_is f.parameters) (type_is f.result_type)
  typing_is (of_operation o) =
      joined _ _ (flat_map (type_faults spec k) o.parameters) (optional_faults spec k o.result_type) (each_is o.parameters) (optional_is o.result_type)

  differ_is : (a b : Member) → differ (shape_of a) (shape_of b) ≡ differ_in_number a b
  differ_is (of_function f) (of_function g) = refl
  differ_is (of_function f) (of_type _) = refl
  differ_is (of_function f) (of_value _) = refl
  differ_is (of_function f) (of_variable _) = refl
  differ_is (of_function f) (of_operation _) = refl
  differ_is (of_operation o) (of_operation p) = refl
  differ_is (of_operation o) (of_type _) = refl
  differ_is (of_operation o) (of_value _) = refl
  differ_is (of_operation o) (of_variable _) = refl
  differ_is (of_operation o) (of_function _) = refl
  differ_is (of_type t) b = refl
  differ_is (of_value v) b = refl
  differ_is (of_variable v) b = refl

  abbrev IsTestOf : Clashing → List Member → Type 0
  IsTestOf known earlier = (m : Member) → known (member_name m) (shape_of m) ≡ list_any (clashes m) earlier

  ordered : (b : Bool) (number clash : Option SpecFault) (numbers clashed : List SpecFault) → number ≡ first numbers → clash ≡ first clashed
      → in_order b number clash ≡ first (if b then clashed ++ numbers else numbers ++ clashed)
  ordered true number clash numbers clashed e f = joined clash number clashed numbers f e
  ordered false number clash numbers clashed e f = joined number clash numbers clashed e f

  member_is : (known : Clashing) (earlier : List Member) → IsTestOf known earlier → (m : Member)
      → member_fault spec k known m ≡ first (member_faults spec k earlier m)
  member_is known earlier same m =
      let number = refused_if (not (has_its_patterns m)) WrongArity (member_place m) in
      let clash = refused_if (known (member_name m) (shape_of m)) Duplicate (member_name_place m) in
      let clash_is : clash ≡ first (clash_faults earlier m) =
      ap (λ (b : Bool). refused_if b Duplicate (member_name_place m)) (same m)
      ∙ first_if (list_any (clashes m) earlier) Duplicate (member_name_place m) in
      let head : in_order (begins_at_its_name m) number clash ≡ first (head_faults earlier m) =
      ordered (begins_at_its_name m) number clash (number_faults m) (clash_faults earlier m)
      (first_if (not (has_its_patterns m)) WrongArity (member_place m)) clash_is in
      joined (in_order (begins_at_its_name m) number clash)
      (or_behind (refused_if (is_own_alternative spec m) Cycle (member_name_place m)) (typing_fault spec k m)) (head_faults earlier m)
      (meant.refused_if (is_own_alternative spec m) Cycle (member_name_place m) ++ typing_faults spec k m) head
      (tested (is_own_alternative spec m) Cycle (member_name_place m) (typing_fault spec k m) (typing_faults spec k m) (typing_is m))

  test_more : (known : Clashing) (earlier : List Member) → IsTestOf known earlier → (m : Member)
      → IsTestOf (with_member known (member_name m) (shape_of m)) (earlier ++ m ∷ [])
  test_more known earlier same m other =
      ap (λ (b : Bool). b || (is_same_name (member_name other) (member_name m) && not (differ (shape_of other) (shape_of m)))) (same other)
      ∙ ap (λ (b : Bool). list_any (clashes other) earlier || (is_same_name (member_name other) (member_name m) && not b)) (differ_is other m)
      ∙ ap (λ (b : Bool). list_any (clashes other) earlier || b) (sym (or_false (clashes other m)))
      ∙ sym (list_any-append (clashes other) earlier (m ∷ []))

  members_are : (known : Clashing) (earlier : List Member) → IsTestOf known earlier → (members : List Member)
      → members_fault spec k known members ≡ first (members_faults spec k earlier members)
  members_are known earlier same [] = refl
  members_are known earlier same (m ∷ members) =
      joined _ _ (member_faults spec k earlier m) (members_faults spec k (earlier ++ m ∷ []) members) (member_is known earlier same m)
      (members_are (with_member known (member_name m) (shape_of m)) (earlier ++ m ∷ []) (test_more known earlier same m) members)

-- ---- classes

superclasses_are : (spec : SpecTree) (superclasses : List NameAt) → superclasses_fault spec superclasses ≡ first (superclass_faults spec superclasses)
superclasses_are spec [] = refl
superclasses_are spec (s ∷ superclasses) =
    tested (not (is_some (class_number spec s.name))) UnknownName s.place (superclasses_fault spec superclasses) (superclass_faults spec superclasses)
    (superclasses_are spec superclasses)

class_is : (spec : SpecTree) (known : Name → Bool) (earlier : List Name) (k : ℕ) → ((name : Name) → known name ≡ is_among name earlier) → (class : ClassTree)
    → class_fault spec known k class ≡ first (class_faults spec earlier k class)
class_is spec known earlier k same class =
    let inner = or_behind (superclasses_fault spec class.superclasses) (members_fault spec k no_members (class_members class)) in
    let inners = superclass_faults spec class.superclasses ++ members_faults spec k [] (class_members class) in
    let circle = or_behind (refused_if (is_on_cycle (class_graph spec) k) Cycle class.name_place) inner in
    let circles = meant.refused_if (is_on_cycle (class_graph spec) k) Cycle class.name_place ++ inners in
    let in_inners : inner ≡ first inners =
    joined (superclasses_fault spec class.superclasses) (members_fault spec k no_members (class_members class))
    (superclass_faults spec class.superclasses) (members_faults spec k [] (class_members class))
    (superclasses_are spec class.superclasses) (members_are spec k no_members [] (λ m. refl) (class_members class)) in
    let in_circles : circle ≡ first circles =
    tested (is_on_cycle (class_graph spec) k) Cycle class.name_place inner inners in_inners in
    ap (λ (b : Bool). or_behind (refused_if b Duplicate class.name_place) circle) (same class.name)
    ∙ tested (is_among class.name earlier) Duplicate class.name_place circle circles in_circles

classes_are : (spec : SpecTree) (known : Name → Bool) (earlier : List Name) (k : ℕ) → ((name : Name) → known name ≡ is_among name earlier)
    → (list : List ClassTree) → classes_fault spec known k list ≡ first (classes_faults spec earlier k list)
classes_are spec known earlier k same [] = refl
classes_are spec known earlier k same (class ∷ others) =
    joined _ _ (class_faults spec earlier k class) (classes_faults spec (earlier ++ class.name ∷ []) (suc k) others)
    (class_is spec known earlier k same class)
    (classes_are spec (with_name known class.name) (earlier ++ class.name ∷ []) (suc k) (names_more known earlier class.name same) others)

pub whole : (spec : SpecTree) → classes_fault spec no_names 0 (classes spec) ≡ table_fault spec
whole spec = classes_are spec no_names [] 0 (λ name. refl) (classes spec)

pub told_whole : {E : Type 0} (spec : SpecTree) (told : Result (Option SpecFault) E)
    → IfOk told (λ fault. fault ≡ classes_fault spec no_names 0 (classes spec)) → IfOk told (λ fault. fault ≡ table_fault spec)
told_whole spec (Ok fault) is = is ∙ whole spec
told_whole spec (Err e) is = is
