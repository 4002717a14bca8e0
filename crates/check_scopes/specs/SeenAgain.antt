-- A type that is seen is seen again by its own class and name.
use Rattle.std.proofs.Common.{◌≡◌, ℕ, ◌<◌, Bool, true, false, ⊎_elim, List, [], ◌∷◌, Option, Some, None, is_some, map, length, get_or, slice_get, cond, nat_eq, refl, ap, sym, subst, ◌∙◌}
use Rattle.std.specs.List.{list_all, flat_map}
use Rattle.std.specs.Option.{option_and_then}
use Rattle.std.proofs.lemmas.List.{get_or-map}
use Rattle.std.proofs.lemmas.Option.{slice_get_within, slice_get-get_or}
use Rattle.vdm_kinds.specs.NameList.{io}
use Rattle.vdm_kinds.specs.declared.access.Level.{Level}
use Rattle.vdm_kinds.specs.declared.access.Level.TheVariants.{Private, Protected, Public}
use Rattle.vdm_kinds.specs.declared.name.Name.{Name}
use Rattle.abstract_syntax.specs.Classes.{
  TypeDefTree,
  BlockTree,
  types,
  values,
  variables,
  variables_among,
  functions,
  operations,
  thread_of,
  synchronisation,
  ClassTree,
  SpecTree,
  is_same_name,
}
use Rattle.class_meaning.proofs.Agreeing.{found_own}
use Rattle.class_meaning.proofs.Numbers.{and_left, and_right, itself}
use Rattle.class_meaning.proofs.Settled.{classes_settle}
use Rattle.class_meaning.proofs.Walks.{ancestors_has_itself}
use Rattle.class_meaning.specs.Calls.{is_visible}
use Rattle.class_meaning.specs.Classes.{io_class, classes, class_at, class_number, class_graph, name_of_class}
use Rattle.class_meaning.specs.Faults.{table_fault}
use Rattle.class_meaning.specs.Found.{own_in, found, defined_type, found_type, type_named, type_of}
use Rattle.class_meaning.specs.Members.{Member, of_type, of_value, of_variable, of_function, of_operation, members_in, class_members, answers, own}
use Rattle.class_meaning.specs.TypeGraph.{types_in}
use Rattle.class_meaning.specs.declared.ask.Ask.TheVariants.{AsType}
use Rattle.class_meaning.specs.declared.found.Found.{Found}
use Rattle.class_meaning.specs.declared.found.Found.TheVariants.{Nothing, One, Several}
use Rattle.class_checks.specs.TypeNames.{sees, seen_from, seen_type, stand_in, has_its_types, types_stand}
use Rattle.spec_table.proofs.Numbering.{number_at}
use Rattle.spec_table.specs.Among.{Among, find_some, among_mapped, among_part, among_at}
use Rattle.check_scopes.specs.Seen.{names_equal, from_seen}

-- ---- what an option came from

from_some : {A B : Type 0} (f : A → Option B) (o : Option A) (b : B) → option_and_then f o ≡ Some b → (a : A) × (o ≡ Some a) × (f a ≡ Some b)
from_some f None b e = absurd (cc)
from_some f (Some a) b e = (a, refl, e)

is_type : (m : Member) (d : TypeDefTree) → type_of m ≡ Some d → m ≡ of_type d
is_type (of_type t) d e = let same : t ≡ d = cc in ap of_type same
is_type (of_value v) d e = absurd (cc)
is_type (of_variable v) d e = absurd (cc)
is_type (of_function f) d e = absurd (cc)
is_type (of_operation o) d e = absurd (cc)

-- ---- where a type that is found stands

defined_at : (spec : SpecTree) (name : Name) (f : Found) (d : TypeDefTree) → defined_type spec name f ≡ Some d
    → (o : ℕ) × (own_in spec (AsType name) o ≡ Some (of_type d))
defined_at spec name Nothing d e = absurd (cc)
defined_at spec name Several d e = absurd (cc)
defined_at spec name (One o) d e =
    let r = from_some type_of (own_in spec (AsType name) o) d e in
    (o, r.1 ∙ ap Some (is_type r.0 d r.2))

found_at : (spec : SpecTree) (name : Name) (k : Option ℕ) (d : TypeDefTree) → option_and_then (found_type spec name) k ≡ Some d
    → (o : ℕ) × (own_in spec (AsType name) o ≡ Some (of_type d))
found_at spec name k d e =
    let r = from_some (found_type spec name) k d e in
    defined_at spec name (found spec (AsType name) r.0) d r.2

named_at : (spec : SpecTree) (scope : Name) (class : Option Name) (name : Name) (d : TypeDefTree) → type_named spec scope class name ≡ Some d
    → (o : ℕ) × (own_in spec (AsType name) o ≡ Some (of_type d))
named_at spec scope None name d e = found_at spec name (class_number spec scope) d e
named_at spec scope (Some class) name d e = found_at spec name (class_number spec class) d e

-- ---- its class

not_type : (d : TypeDefTree) {A B : Type 0} (f : A → Member) → ((a : A) → type_of (f a) ≡ None) → (xs : List A) → Among (of_type d) (map f xs) → B
not_type d f none xs h =
    let r = among_mapped f (of_type d) xs h in
    let e : None ≡ Some d = sym (none r.0) ∙ ap type_of r.2 in
    absurd (cc)

among_types : (d : TypeDefTree) (b : BlockTree) → Among (of_type d) (members_in b) → Among d (types_in b)
among_types d (types ts place) h =
    let r = among_mapped of_type (of_type d) ts h in
    let e : Some r.0 ≡ Some d = ap type_of r.2 in
    let same : r.0 ≡ d = cc in
    subst (λ (t : TypeDefTree). Among t ts) same r.1
among_types d (values vs place) h = not_type d of_value (λ v. refl) vs h
among_types d (variables items place) h = not_type d of_variable (λ v. refl) (variables_among items) h
among_types d (functions fs place) h = not_type d of_function (λ v. refl) fs h
among_types d (operations os place) h = not_type d of_operation (λ v. refl) os h
among_types d (thread_of t place) h = absurd h
among_types d (synchronisation s place) h = absurd h

module _ {A : Type 0} (p : A → Bool) where
  passes : (xs : List A) (a : A) → list_all p xs ≡ true → Among a xs → p a ≡ true
  passes [] a all h = absurd h
  passes (x ∷ xs) a all h = ⊎_elim
      (λ (e : x ≡ a). subst (λ (y : A). p y ≡ true) e (and_left (p x) (list_all p xs) all))
      (λ (l : Among a xs). passes xs a (and_right (p x) (list_all p xs) all) l)
      h

record Stands (spec : SpecTree) (d : TypeDefTree) : Type 0 where
  number : ℕ
  class : ClassTree
  at : class_at spec number ≡ Some class
  answers_so : own class (AsType d.name) ≡ Some (of_type d)
  in_it : d.class ≡ class.name

stands : (spec : SpecTree) (name : Name) (o : ℕ) (d : TypeDefTree) → types_stand spec ≡ true → own_in spec (AsType name) o ≡ Some (of_type d) → Stands spec d
stands spec name o d stand e =
    let r = from_some (λ (class : ClassTree). own class (AsType name)) (class_at spec o) (of_type d) e in
    let f = find_some (answers (AsType name)) (class_members r.0) (of_type d) r.2 in
    let named : name ≡ d.name = names_equal name d.name f.1 in
    let block = among_part members_in (of_type d) r.0.blocks f.0 in
    let own_types : has_its_types r.0 ≡ true = passes has_its_types (classes spec) r.0 stand (among_at (classes spec) o r.0 r.1) in
    let in_block : stand_in r.0.name block.0 ≡ true = passes (stand_in r.0.name) r.0.blocks block.0 own_types block.1 in
    let here : is_same_name d.class r.0.name ≡ true =
    passes (λ (t : TypeDefTree). is_same_name t.class r.0.name) (types_in block.0) d in_block (among_types d block.0 block.2) in
    record {
      number = o;
      class = r.0;
      at = r.1;
      answers_so = subst (λ (n : Name). own r.0 (AsType n) ≡ Some (of_type d)) named r.2;
      in_it = names_equal d.class r.0.name here;
    }

-- ---- it is found again

visible_to_itself : (spec : SpecTree) (o : ℕ) (level : Level) → is_visible spec (Some o) o level ≡ true
visible_to_itself spec o Public = refl
visible_to_itself spec o Private = itself o
visible_to_itself spec o Protected = ancestors_has_itself (class_graph spec) o

module _ (spec : SpecTree) (fine : table_fault spec ≡ None) (d : TypeDefTree) (s : Stands spec d) where
  own_answer : own_in spec (AsType d.name) s.number ≡ Some (of_type d)
  own_answer = ap (option_and_then (λ (class : ClassTree). own class (AsType d.name))) s.at ∙ s.answers_so

  within : s.number < length (classes spec)
  within = slice_get_within (classes spec) s.number s.class s.at

  its_number : class_number spec d.class ≡ Some s.number
  its_number =
      let got : Some s.class ≡ Some (get_or (classes spec) s.number io_class) = sym s.at ∙ slice_get-get_or (classes spec) s.number io_class within in
      let same : s.class ≡ get_or (classes spec) s.number io_class = cc in
      let there : d.class ≡ name_of_class spec s.number =
      s.in_it ∙ ap (λ (c : ClassTree). c.name) same ∙ sym (get_or-map (λ (c : ClassTree). c.name) (classes spec) s.number io_class io within) in
      number_at spec fine d.class s.number within (subst (λ (n : Name). is_same_name d.class n ≡ true) there (itself d.class.0))

  found_here : found spec (AsType d.name) s.number ≡ One s.number
  found_here = found_own spec (AsType d.name) s.number (classes_settle spec fine s.number) (ap is_some own_answer)

  named_again : type_named spec d.class None d.name ≡ Some d
  named_again =
      ap (option_and_then (found_type spec d.name)) its_number
      ∙ ap (defined_type spec d.name) found_here
      ∙ ap (option_and_then type_of) own_answer

  seen_here : sees spec (class_number spec d.class) (class_number spec d.class) d ≡ true
  seen_here = (λ i. sees spec (its_number i) (its_number i) d) ∙ visible_to_itself spec s.number d.access.level

  seen_again : seen_from spec d.class (type_named spec d.class None d.name) ≡ Some d
  seen_again = ap (seen_from spec d.class) named_again ∙ ap (λ (b : Bool). cond b (Some d) None) seen_here

none_some : {A B : Type 0} {a : A} → None ≡ Some a → B
none_some e = absurd (cc)

by_stand : (spec : SpecTree) → table_fault spec ≡ None → (stand : Bool) → types_stand spec ≡ stand
    → (scope : Name) (class : Option Name) (name : Name) (d : TypeDefTree)
    → cond stand (seen_from spec scope (type_named spec scope class name)) None ≡ Some d
    → cond stand (seen_from spec d.class (type_named spec d.class None d.name)) None ≡ Some d
by_stand spec fine false e scope class name d f = none_some f
by_stand spec fine true e scope class name d f =
    let r = named_at spec scope class name d (from_seen spec scope (type_named spec scope class name) d f) in
    seen_again spec fine d (stands spec name r.0 d e r.1)

pub finds_again : (spec : SpecTree) → table_fault spec ≡ None → (scope : Name) (class : Option Name) (name : Name) (d : TypeDefTree)
    → seen_type spec scope class name ≡ Some d → seen_type spec d.class None d.name ≡ Some d
finds_again spec fine scope class name d e = by_stand spec fine (types_stand spec) refl scope class name d e
