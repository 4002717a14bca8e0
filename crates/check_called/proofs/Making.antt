-- `mk_T`: what is refused of its name spoils it.
use Rattle.std.specs.Prelude.{◌≡◌, ℕ, Bool, true, false, ◌||◌, not, nat_eq, if◌then◌else◌, is_some, List, [], ◌∷◌, map, Option, Some, None, length}
use Rattle.std.specs.List.{list_any}
use Rattle.std.proofs.Common.{refl, ap, sym, ◌∙◌}
use Rattle.vdm_kinds.specs.declared.name.Name.{Name}
use Rattle.vdm_kinds.specs.declared.name_at.TypeName.{TypeName}
use Rattle.vdm_kinds.specs.declared.place.Place.{Place}
use Rattle.vdm_kinds.specs.declared.spec_fault.SpecFault.{SpecFault}
use Rattle.vdm_kinds.specs.declared.spec_kind.SpecKind.{SpecKind}
use Rattle.vdm_kinds.specs.declared.spec_kind.SpecKind.TheVariants.{UnknownName, NotVisible, WrongArity}
use Rattle.abstract_syntax.specs.Classes.{FieldTree, SpecTree, TypeDefTree}
use Rattle.class_meaning.specs.Classes.{class_number}
use Rattle.class_meaning.specs.Found.{type_of}
use Rattle.class_meaning.specs.declared.ask.Ask.TheVariants.{AsType}
use Rattle.member_meaning.specs.Meaning.{Meant, unknown, ambiguous, meant, meaning}
use Rattle.form_meaning.specs.Forms.{FormTree, FormTrees, any_form, one_form}
use Rattle.class_checks.specs.Callees.{Callee as CalleeTree}
use Rattle.class_checks.specs.Expressions.{fields_wanted, wants_unless}
use Rattle.class_checks.specs.Results.{form_unless, refused_if, spoils}
use Rattle.class_checks.specs.TypeNames.{
  definition_faults,
  fields_made,
  form_of,
  in_class_faults,
  is_class,
  meant_faults,
  name_faults,
  name_faults_behind,
  or_else_faults,
  record_faults,
  record_name_faults,
  record_type,
}
use Rattle.type_forms.specs.Tree.{form_trees}
use Rattle.check_steps.specs.Below.check_calls.specs.Calling.{Calls}
use Rattle.check_steps.specs.Below.check_calls.specs.declared.callee.Callee.{Callee}
use Rattle.check_steps.specs.Below.check_types.specs.Refusing.{Refused, refused_as, refused_by, refuses}
use Rattle.check_called.specs.Offers.{Offer, nothing_offered, offered}

-- ---- the forms of the fields

pub wanted : (spec : SpecTree) (class : Name) (fields : List FieldTree)
    → form_trees (map (λ (f : FieldTree). form_of spec class f.declared) fields) ≡ fields_wanted spec class fields
wanted spec class [] = refl
wanted spec class (field ∷ fields) = ap (one_form (form_of spec class field.declared)) (wanted spec class fields)

-- ---- each refusal spoils what is made

abbrev spoiling : List SpecFault → Bool
spoiling = list_any (λ (r : SpecFault). spoils r.kind)

by_one : (refused : Bool) (kind : SpecKind) (place : Place) → spoils kind ≡ true
    → refuses (refused_if refused kind place) ≡ spoiling (refused_if refused kind place)
by_one true kind place is = ap (λ (b : Bool). b || false) (sym is)
by_one false kind place is = refl

by_either : (xs ys : List SpecFault) → refuses xs ≡ spoiling xs → refuses ys ≡ spoiling ys
    → refuses (or_else_faults xs ys) ≡ spoiling (or_else_faults xs ys)
by_either [] ys e f = f
by_either (x ∷ xs) ys e f = e

module _ (spec : SpecTree) (from : Option ℕ) (t : TypeName) (place : Place) where
  by_definition : (owner : ℕ) (d : Option TypeDefTree)
      → refuses (definition_faults spec from t place owner d) ≡ spoiling (definition_faults spec from t place owner d)
  by_definition owner None = refl
  by_definition owner (Some d) = by_one _ NotVisible t.name_place refl

  by_meant : (or_class : Bool) (m : Meant) → refuses (meant_faults spec from t place or_class m) ≡ spoiling (meant_faults spec from t place or_class m)
  by_meant or_class unknown = by_one (not or_class) UnknownName t.name_place refl
  by_meant or_class ambiguous = refl
  by_meant or_class (meant owner member) = by_definition owner (type_of member)

  by_class : (or_class : Bool) (k : Option ℕ) → refuses (in_class_faults spec from t place or_class k) ≡ spoiling (in_class_faults spec from t place or_class k)
  by_class or_class None = refl
  by_class or_class (Some k) = by_meant or_class (meaning spec (AsType t.name) k)

module _ (spec : SpecTree) (scope : Name) (t : TypeName) (place : Place) where
  by_name : (class : Option Name) → refuses (name_faults_behind spec scope t place class) ≡ spoiling (name_faults_behind spec scope t place class)
  by_name None = by_class spec (class_number spec scope) t place (is_class spec t.name) (class_number spec scope)
  by_name (Some class) = by_class spec (class_number spec scope) t place false (class_number spec class)

  pub by_record : (n : ℕ) → refuses (record_faults spec scope t n place) ≡ spoiling (record_faults spec scope t n place)
  by_record n =
      by_either (record_name_faults spec scope t place)
      (refused_if (not (nat_eq n (length (fields_made spec (record_type spec scope t))))) WrongArity place)
      (by_either (name_faults spec scope t place)
      (refused_if (not (is_some (record_type spec scope t))) UnknownName t.name_place)
      (by_name t.class)
      (by_one _ UnknownName t.name_place refl))
      (by_one _ WrongArity place refl)

-- ---- what is called

module _ (spec : SpecTree) (first later : Option SpecFault) (wants : FormTrees) (form : FormTree) where
  abbrev callee_of : List SpecFault → CalleeTree
  callee_of refusals = record { refusals = refusals; wants = wants_unless spec refusals wants; result = form_unless refusals form }

  pub spoilt_callee : (refusals : List SpecFault) (r : Bool) (callee : Callee) → r ≡ true → refuses refusals ≡ spoiling refusals
      → refused_by first refusals ≡ refused_as later r → offered callee ≡ nothing_offered
      → Calls first later callee (callee_of refusals)
  spoilt_callee [] r callee is spoil told offers =
      let none : false ≡ r = ap (λ (x : Refused). x.some) told in
      absurd (cc)
  spoilt_callee (x ∷ xs) r callee is spoil told offers = λ i. record {
    wants = (ap (λ (o : Offer). o.wants) (sym offers)) i;
    gives = (ap (λ (b : Bool). if b then any_form else form) (sym spoil) ∙ ap (λ (o : Offer). o.gives) (sym offers)) i;
    first = (ap (λ (x : Refused). x.first) told) i;
  }

  pub known_callee : (refusals : List SpecFault) (r : Bool) (callee : Callee) → r ≡ false → refused_by first refusals ≡ refused_as later r
      → offered callee ≡ record { wants = wants; gives = form }
      → Calls first later callee (callee_of refusals)
  known_callee [] r callee is told offers = λ i. record {
    wants = (ap (λ (o : Offer). o.wants) (sym offers)) i;
    gives = (ap (λ (o : Offer). o.gives) (sym offers)) i;
    first = (ap (λ (x : Refused). x.first) told) i;
  }
  known_callee (x ∷ xs) r callee is told offers =
      let some : true ≡ r = ap (λ (x : Refused). x.some) told in
      absurd (cc)
