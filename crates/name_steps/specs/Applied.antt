-- What is applied, which decides on what an application does.
use Rattle.vdm_kinds.specs.declared.name.Name.{Name}
use Rattle.vdm_kinds.specs.declared.place.Place.{Place}
use Rattle.abstract_syntax.specs.Expressions.{ExprTree, ExprTrees, named, qualified, select, select_of_class}
use Rattle.expr_tree.specs.View.{boxed_view}
use Rattle.node_meaning.specs.Wanted.{Wanted}
use Rattle.node_meaning.specs.Envs.{Locals, Here, local_named}
use Rattle.node_meaning.specs.Expressions.{name_applied, qualified_applied, looked_up}
use Rattle.node_meaning.specs.Needs.{Setting}
use Rattle.node_meaning.specs.Tasks.{Code, evaluated}
use Rattle.eval_data.specs.declared.selected.Selected.{Selected}
use Rattle.eval_data.specs.declared.selected.Selected.TheVariants.{Member as SelectedMember, OfClass}
use Rattle.eval_data.specs.Steps.{called_selected}
use Rattle.name_steps.specs.declared.applied.Applied.{Applied}
use Rattle.name_steps.specs.declared.applied.Applied.TheVariants.{Name as AName, Qualified, Member, Value}

pub data AppliedTree : Type 0 where
  -- a name
  a_name : Name → AppliedTree
  -- what a name means in the class of another name, which stands first
  a_qualified : Name → Name → AppliedTree
  -- what is selected at the place of the value that an expression gives
  a_member : ExprTree → Selected → Place → AppliedTree
  -- the value of any other expression
  a_value : AppliedTree

abbrev pub applied_tree : ExprTree → AppliedTree
applied_tree (named name place) = a_name name
applied_tree (qualified class name name_place class_place) = a_qualified class name
applied_tree (select target name name_place dot) = a_member target (SelectedMember name) dot
applied_tree (select_of_class target class class_place name name_place dot) = a_member target (OfClass class name) dot
applied_tree _ = a_value

abbrev pub applied_view : Applied → AppliedTree
applied_view (AName name) = a_name name
applied_view (Qualified class name) = a_qualified class name
applied_view (Member target what dot) = a_member (boxed_view target.now) what dot
applied_view Value = a_value

abbrev pub applied_plan : Setting → Here → ExprTree → AppliedTree → ExprTrees → Place → Wanted → Locals → Code
applied_plan setting here head (a_name name) arguments place wanted locals =
    name_applied setting here head name arguments place wanted (local_named locals name) locals
applied_plan setting here head (a_qualified class name) arguments place wanted locals =
    qualified_applied setting here head class name arguments place wanted locals
applied_plan setting here head (a_member target what dot) arguments place wanted locals =
    evaluated here locals target place (called_selected setting here what arguments dot place wanted)
applied_plan setting here head a_value arguments place wanted locals = looked_up here head arguments place locals
