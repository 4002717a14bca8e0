-- What is called, from what was noted of it.
use Rattle.std.proofs.Common.{◌≡◌, ℕ, Bool, true, false, not, ◌||◌, ◌&&◌, nat_eq, if◌then◌else◌, List, [], ◌∷◌, ◌++◌, Option, Some, map, refl, ap, sym, ◌∙◌}
use Rattle.std.specs.List.{list_any}
use Rattle.std.specs.Option.{option_and_then}
use Rattle.vdm_kinds.specs.declared.name.Name.{Name}
use Rattle.vdm_kinds.specs.declared.place.Place.{Place}
use Rattle.vdm_kinds.specs.declared.spec_fault.SpecFault.{SpecFault}
use Rattle.vdm_kinds.specs.declared.spec_kind.SpecKind.{SpecKind}
use Rattle.vdm_kinds.specs.declared.spec_kind.SpecKind.TheVariants.{NoCommonValue, WrongArity}
use Rattle.abstract_syntax.specs.Classes.{ClassTree, SpecTree}
use Rattle.class_meaning.specs.Members.{Member, of_type, of_value, of_variable, of_function, of_operation}
use Rattle.class_meaning.proofs.Numbers.{any_append}
use Rattle.form_meaning.specs.Forms.{FormTree, FormTrees, any_form, no_forms, one_form}
use Rattle.form_meaning.specs.Parts.{at_argument, taken}
use Rattle.class_checks.specs.Callees.{callee, refused_callee, key_want, parameter_forms, value_callee, by_class, by_constructor}
use Rattle.class_checks.specs.Members.{read_member, unknown_here, unseen, variable_faults, declared_form}
use Rattle.class_checks.specs.Operators.{sequence_or_map}
use Rattle.class_checks.specs.Results.{refusal, refused_if, spoils, form_unless, first_of, first_among}
use Rattle.class_checks.specs.Scopes.{ScopeTree}
use Rattle.class_checks.specs.TypeNames.{form_of, opened, meets}
use Rattle.class_meaning.specs.Classes.{class_at, class_number, name_of_class}
use Rattle.class_meaning.specs.Found.{own_in}
use Rattle.class_meaning.specs.declared.ask.Ask.TheVariants.{Called as CalledBy}
use Rattle.check_fields.specs.Below.spec_table.specs.Members.{own_member}
use Rattle.type_forms.specs.Tree.{form_trees}
use Rattle.type_tree.specs.TypeView.{type_view}
use Rattle.type_tree.specs.declared.type_expr.TypeExpr.{TypeExpr}
use Rattle.check_fields.specs.Below.check_scopes.specs.Told.{first_among-++}
use Rattle.check_calls.specs.Calling.{Called, Calls}
use Rattle.check_names.specs.Noting.{Note, note, noted_as}
use Rattle.check_calls.specs.declared.callee.Callee.{Callee}
use Rattle.check_names.proofs.Notes.{named_known, unless_any}

abbrev does_spoil : SpecFault → Bool
does_spoil refused = spoils refused.kind

pub calls_of : (before after : Option SpecFault) (s : Bool) (xs : List SpecFault) (wants : FormTrees) (form : FormTree) (c : Callee)
    → note before xs ≡ noted_as after s → form_trees c.wants.items ≡ wants → c.result ≡ (if s then any_form else form) → Calls before after c (callee xs wants form)
calls_of before after s xs wants form c e w r = λ i. record {
  wants = sym w i;
  gives = (ap (λ (n : Note). if n.spoiled then any_form else form) e ∙ sym r) i;
  first = ap (λ (n : Note). n.first) e i;
}

pub refused_calls : (before after : Option SpecFault) (kind : SpecKind) (place : Place) (c : Callee) → after ≡ first_of before (refusal kind place)
    → form_trees c.wants.items ≡ no_forms → c.result ≡ any_form → Calls before after c (refused_callee (refusal kind place ∷ []))
refused_calls before after kind place c e w r = λ i. record {
  wants = sym w i;
  gives = (unless_any (spoils kind || false) ∙ sym r) i;
  first = sym e i;
}

-- ---- parameters

pub forms_listed : (spec : SpecTree) (owner : ℕ) (ts : List TypeExpr)
    → form_trees (map (λ (t : TypeExpr). form_of spec (name_of_class spec owner) (type_view t)) ts) ≡ parameter_forms spec owner (map type_view ts)
forms_listed spec owner [] = refl
forms_listed spec owner (t ∷ ts) = ap (one_form (form_of spec (name_of_class spec owner) (type_view t))) (forms_listed spec owner ts)

-- ---- a value that is looked up in

unfit_spoils_nothing : (b : Bool) (place : Place) → list_any does_spoil (refused_if b NoCommonValue place) ≡ false
unfit_spoils_nothing true place = refl
unfit_spoils_nothing false place = refl

found_there : (s wrong m : Bool) (form : FormTree) (look : FormTree → FormTree) → look any_form ≡ any_form → (if s then any_form else form) ≡ form
    → (if (s || (false || wrong)) then any_form else (if m then look form else any_form)) ≡ (if (m && not wrong) then look form else any_form)
found_there true true true form look anything known = refl
found_there true true false form look anything known = refl
found_there true false true form look anything known = sym anything ∙ ap look known
found_there true false false form look anything known = refl
found_there false true true form look anything known = refl
found_there false true false form look anything known = refl
found_there false false true form look anything known = refl
found_there false false false form look anything known = refl

module _ (spec : SpecTree) (form : FormTree) (head place : Place) (n : ℕ) (earlier : List SpecFault) where
  abbrev unfit : List SpecFault
  unfit = refused_if (not (meets spec form sequence_or_map)) NoCommonValue head

  abbrev miscounted : List SpecFault
  miscounted = refused_if (not (nat_eq n 1)) WrongArity place

  abbrev there : FormTree → FormTree
  there f = opened spec (taken at_argument f)

  spoiled_by : (wrong : Bool) → list_any does_spoil miscounted ≡ wrong
      → list_any does_spoil (earlier ++ (unfit ++ miscounted)) ≡ (list_any does_spoil earlier || (false || wrong))
  spoiled_by wrong e =
      any_append does_spoil earlier (unfit ++ miscounted)
      ∙ ap (λ (b : Bool). list_any does_spoil earlier || b)
      (any_append does_spoil unfit miscounted
      ∙ ap (λ (b : Bool). b || list_any does_spoil miscounted) (unfit_spoils_nothing (not (meets spec form sequence_or_map)) head)
      ∙ ap (λ (b : Bool). false || b) e)

  pub value_calls : (before entry middle after : Option SpecFault) (fits wrong : Bool) (c : Callee) → first_among before earlier ≡ entry
      → form_unless earlier form ≡ form → fits ≡ meets spec form sequence_or_map → middle ≡ first_among entry (refused_if (not fits) NoCommonValue head)
      → note middle miscounted ≡ noted_as after wrong → form_trees c.wants.items ≡ one_form (key_want spec form) no_forms
      → c.result ≡ (if (fits && not wrong) then there form else any_form) → Calls before after c (value_callee spec earlier form head n place)
  value_calls before entry middle after fits wrong c e known fit m noted_there w r = λ i. record {
    wants = sym w i;
    gives = (ap (λ (b : Bool). if b then any_form else (if meets spec form sequence_or_map then there form else any_form))
        (spoiled_by wrong (ap (λ (k : Note). k.spoiled) noted_there))
        ∙ found_there (list_any does_spoil earlier) wrong (meets spec form sequence_or_map) form there refl known
        ∙ ap (λ (b : Bool). if (b && not wrong) then there form else any_form) (sym fit)
        ∙ sym r) i;
    first = (first_among-++ before earlier (unfit ++ miscounted)
        ∙ ap (λ (o : Option SpecFault). first_among o (unfit ++ miscounted)) e
        ∙ first_among-++ entry unfit miscounted
        ∙ ap (λ (b : Bool). first_among (first_among entry (refused_if (not b) NoCommonValue head)) miscounted) (sym fit)
        ∙ ap (λ (o : Option SpecFault). first_among o miscounted) (sym m)
        ∙ ap (λ (k : Note). k.first) noted_there) i;
  }

-- what is read of a member is of any form where the name is spoiled
pub member_known : (spec : SpecTree) (scope : ScopeTree) (place : Place) (own : Bool) (owner : ℕ) (member : Member)
    → form_unless (read_member spec scope place own owner member).refusals (read_member spec scope place own owner member).form ≡ (read_member spec scope place own owner member).form
member_known spec scope place own owner (of_variable v) =
    named_known (variable_faults spec scope place own owner v.access) (form_of spec (name_of_class spec owner) v.declared)
member_known spec scope place own owner (of_value v) = named_known (unseen spec scope place owner v.access) (declared_form spec owner v.declared)
member_known spec scope place own owner (of_type t) = named_known (unknown_here spec scope place) any_form
member_known spec scope place own owner (of_function f) = named_known (unknown_here spec scope place) any_form
member_known spec scope place own owner (of_operation o) = named_known (unknown_here spec scope place) any_form

-- ---- new objects

-- what is refused behind what was refused before
pub later_calls : (before middle after : Option SpecFault) (xs : List SpecFault) (kind : SpecKind) (place : Place) (c : Callee) → first_among before xs ≡ middle
    → Calls middle after c (refused_callee (refusal kind place ∷ [])) → Calls before after c (refused_callee (xs ++ refusal kind place ∷ []))
later_calls before middle after xs kind place c e calls = λ i. record {
  wants = ap (λ (k : Called). k.wants) calls i;
  gives = (unless_any (list_any does_spoil (xs ++ refusal kind place ∷ [])) ∙ sym (unless_any (spoils kind || false)) ∙ ap (λ (k : Called). k.gives) calls) i;
  first = (first_among-++ before xs (refusal kind place ∷ []) ∙ ap (λ (o : Option SpecFault). first_of o (refusal kind place)) e
      ∙ ap (λ (k : Called). k.first) calls) i;
}

-- the constructor that a class itself has
pub made_of : (spec : SpecTree) (scope : ScopeTree) (class_place place : Place) (n k : ℕ) (name : Name) (class : ClassTree) (own : Option Member)
    → class_at spec k ≡ Some class → own ≡ own_member spec name (CalledBy class.name n) → class_number spec name ≡ Some k
    → by_class spec scope class_place place n k (class_at spec k) ≡ by_constructor spec scope class_place place n k class own
made_of spec scope class_place place n k name class own at is e =
    ap (by_class spec scope class_place place n k) at
    ∙ ap (by_constructor spec scope class_place place n k class) (sym (is ∙ ap (option_and_then (own_in spec (CalledBy class.name n))) e))
