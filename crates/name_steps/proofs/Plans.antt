-- The plans of names and applications.
use Rattle.std.proofs.Common.{◌≡◌, ℕ, List, Option, Some, None, Result, Ok, Err, IfOk, refl, ap, sym, ◌∙◌}
use Rattle.vdm_kinds.specs.declared.member.OpRef.{OpRef}
use Rattle.vdm_kinds.specs.declared.member.VarRef.{VarRef}
use Rattle.vdm_kinds.specs.declared.name.Name.{Name}
use Rattle.vdm_kinds.specs.declared.place.Place.{Place}
use Rattle.abstract_syntax.specs.Expressions.{ExprTree, ExprTrees, named, qualified, select, select_of_class}
use Rattle.node_meaning.specs.Wanted.{Wanted}
use Rattle.node_meaning.specs.Envs.{Locals, Here, object_class}
use Rattle.abstract_syntax.specs.Values.{ValueTree, object, record_of, value_trees}
use Rattle.node_meaning.specs.Expressions.{application, applied_or_called, arguments_of, called_of_class, called_through, class_for, field_applied, member_applied, name_applied, qualified_applied, read_member, selected_of_class}
use Rattle.node_meaning.specs.Names.{function_in, operation_in, operation_reached, own_named, variable_in}
use Rattle.node_meaning.specs.Needs.{Setting}
use Rattle.node_meaning.specs.Records.{field_value}
use Rattle.name_steps.specs.Applied.{applied_tree, applied_plan}

-- what holds of a result that is handed on
pub if_ok : {A E : Type 0} {P Q : A → Type 0} (r : Result A E) → IfOk r P → ((a : A) → P a → Q a) → IfOk r Q
if_ok (Ok a) h from = from a h
if_ok (Err e) h from = tt

module _ (setting : Setting) (here : Here) (place : Place) (locals : Locals) where
  -- what an application does follows from what is applied
  pub by_applied : (head : ExprTree) (arguments : ExprTrees) (wanted : Wanted) →
      applied_plan setting here head (applied_tree head) arguments place wanted locals ≡ application setting here head arguments place wanted locals
  by_applied (named name name_place) arguments wanted = refl
  by_applied (qualified class name name_place class_place) arguments wanted = refl
  by_applied (select target name name_place dot) arguments wanted = refl
  by_applied (select_of_class target class class_place name name_place dot) arguments wanted = refl
  by_applied _ arguments wanted = refl

-- what a name means with so many arguments
module _ (setting : Setting) (here : Here) (head : ExprTree) (arguments : ExprTrees) (place : Place) (wanted : Wanted) (locals : Locals) where
  pub named_by_count : (name : Name) (n : ℕ) (function op : Option OpRef) → n ≡ arguments_of arguments →
      function ≡ function_in setting.spec here.scope name n → op ≡ own_named setting.spec here.scope (object_class here.me here.own) name n →
      applied_or_called setting here head arguments function op place wanted locals ≡ name_applied setting here head name arguments place wanted None locals
  named_by_count name n function op counted found reached =
      ap (λ (f : Option OpRef). applied_or_called setting here head arguments f op place wanted locals) found ∙
      ap (λ (o : Option OpRef). applied_or_called setting here head arguments (function_in setting.spec here.scope name n) o place wanted locals) reached ∙
      ap (λ (k : ℕ). applied_or_called setting here head arguments (function_in setting.spec here.scope name k)
      (own_named setting.spec here.scope (object_class here.me here.own) name k) place wanted locals) counted

  pub qualified_by_count : (class name : Name) (n : ℕ) (function op : Option OpRef) → n ≡ arguments_of arguments →
      function ≡ function_in setting.spec (Some class) name n → op ≡ operation_in setting.spec (Some class) name n →
      applied_or_called setting here head arguments function op place wanted locals ≡ qualified_applied setting here head class name arguments place wanted locals
  qualified_by_count class name n function op counted found reached =
      ap (λ (f : Option OpRef). applied_or_called setting here head arguments f op place wanted locals) found ∙
      ap (λ (o : Option OpRef). applied_or_called setting here head arguments (function_in setting.spec (Some class) name n) o place wanted locals) reached ∙
      ap (λ (k : ℕ). applied_or_called setting here head arguments (function_in setting.spec (Some class) name k)
      (operation_in setting.spec (Some class) name k) place wanted locals) counted

-- ---- members of values

module _ (setting : Setting) (here : Here) (arguments : ExprTrees) (place : Place) (wanted : Wanted) (locals : Locals) where
  pub called_object : (name : Name) (dot : Place) (number : ℕ) (class : Name) (n : ℕ) (op : Option OpRef) (var : Option VarRef) (target : ValueTree) →
      n ≡ arguments_of arguments → op ≡ operation_reached setting.spec here.scope class name n → var ≡ variable_in setting.spec (Some class) name →
      target ≡ object number class →
      member_applied setting here arguments dot place wanted number class op var locals ≡ called_through setting here name arguments dot place wanted target locals
  called_object name dot number class n op var target counted reached found is =
      ap (λ (o : Option OpRef). member_applied setting here arguments dot place wanted number class o var locals) reached ∙
      ap (λ (v : Option VarRef). member_applied setting here arguments dot place wanted number class
      (operation_reached setting.spec here.scope class name n) v locals) found ∙
      ap (λ (k : ℕ). member_applied setting here arguments dot place wanted number class
      (operation_reached setting.spec here.scope class name k) (variable_in setting.spec (Some class) name) locals) counted ∙
      ap (λ (t : ValueTree). called_through setting here name arguments dot place wanted t locals) (sym is)

  pub called_object_of_class : (class name : Name) (dot : Place) (number : ℕ) (own : Name) (n : ℕ) (above : Option Name) (op : Option OpRef)
      (var : Option VarRef) (target : ValueTree) → n ≡ arguments_of arguments → above ≡ class_for setting.spec own class →
      op ≡ operation_in setting.spec above name n → var ≡ variable_in setting.spec above name → target ≡ object number own →
      member_applied setting here arguments dot place wanted number own op var locals ≡ called_of_class setting here class name arguments dot place wanted target locals
  called_object_of_class class name dot number own n above op var target counted descends called found is =
      ap (λ (o : Option OpRef). member_applied setting here arguments dot place wanted number own o var locals) called ∙
      ap (λ (v : Option VarRef). member_applied setting here arguments dot place wanted number own (operation_in setting.spec above name n) v locals) found ∙
      ap (λ (k : ℕ). member_applied setting here arguments dot place wanted number own
      (operation_in setting.spec above name k) (variable_in setting.spec above name) locals) counted ∙
      ap (λ (a : Option Name). member_applied setting here arguments dot place wanted number own
      (operation_in setting.spec a name (arguments_of arguments)) (variable_in setting.spec a name) locals) descends ∙
      ap (λ (t : ValueTree). called_of_class setting here class name arguments dot place wanted t locals) (sym is)

  pub called_field : (name : Name) (dot : Place) (class type : Name) (vs ws : List ValueTree) (target : ValueTree) → vs ≡ ws →
      target ≡ record_of class type (value_trees ws) →
      field_applied here arguments place dot (field_value setting.spec name class type (value_trees vs)) locals ≡
      called_through setting here name arguments dot place wanted target locals
  called_field name dot class type vs ws target same is =
      ap (λ (us : List ValueTree). field_applied here arguments place dot (field_value setting.spec name class type (value_trees us)) locals) same ∙
      ap (λ (t : ValueTree). called_through setting here name arguments dot place wanted t locals) (sym is)

-- what a name means in the class of another name, as a variable of an object
pub selected_object_of_class : (setting : Setting) (place : Place) (locals : Locals) (class name : Name) (number : ℕ) (own : Name) (above : Option Name) (target : ValueTree) →
    above ≡ class_for setting.spec own class → target ≡ object number own →
    read_member setting place number (variable_in setting.spec above name) locals ≡ selected_of_class setting place class name target locals
selected_object_of_class setting place locals class name number own above target descends is =
    ap (λ (a : Option Name). read_member setting place number (variable_in setting.spec a name) locals) descends ∙
    ap (λ (t : ValueTree). selected_of_class setting place class name t locals) (sym is)
