-- The pure trees that definitions, classes and specifications of the program are.
use Rattle.std.specs.Prelude.{map, option_map}
use Rattle.abstract_syntax.specs.Classes.{ValueDefTree, VariableTree, VariableItem as VariableItemTree, variable_item, invariant_item, Body as BodyTree, written, not_yet_specified, subclass_responsibility, FunctionTree, OperationTree, PhaseTree, ThreadTree, periodic, procedural, SyncTree, permission, mutex_all, mutex_of, BlockTree, types, values, variables, functions, operations, thread_of, synchronisation, ClassTree, SpecTree}
use Rattle.vdm_tree.specs.declared.class_def.ValueDef.{ValueDef}
use Rattle.vdm_tree.specs.declared.class_def.VarDef.{VarDef}
use Rattle.vdm_tree.specs.declared.class_def.VariableItem.{VariableItem}
use Rattle.vdm_tree.specs.declared.class_def.VariableItem.TheVariants.{Variable, Invariant}
use Rattle.vdm_tree.specs.declared.class_def.Body.{Body}
use Rattle.vdm_tree.specs.declared.class_def.Body.TheVariants.{Written, NotYetSpecified, SubclassResponsibility}
use Rattle.vdm_tree.specs.declared.class_def.FunctionDef.{FunctionDef}
use Rattle.vdm_tree.specs.declared.class_def.OpDef.{OpDef}
use Rattle.vdm_tree.specs.declared.class_def.Block.{Block}
use Rattle.vdm_tree.specs.declared.class_def.Block.TheVariants.{
  Types,
  Values,
  Variables,
  Functions,
  Operations,
  Thread as ThreadBlock,
  Sync as SyncBlock,
}
use Rattle.vdm_tree.specs.declared.class_def.ClassDef.{ClassDef}
use Rattle.vdm_tree.specs.declared.sync.Phase.{Phase}
use Rattle.vdm_tree.specs.declared.sync.Thread.{Thread}
use Rattle.vdm_tree.specs.declared.sync.Thread.TheVariants.{Periodic, Procedural}
use Rattle.vdm_tree.specs.declared.sync.Sync.{Sync}
use Rattle.vdm_tree.specs.declared.sync.Sync.TheVariants.{Permission, MutexAll, MutexOf}
use Rattle.vdm_tree.specs.declared.spec.Spec.{Spec}
use Rattle.type_tree.specs.TypeView.{type_view, type_views}
use Rattle.expr_tree.specs.View.{boxed_view, pattern_views}
use Rattle.expr_tree.specs.TypeDefView.{type_def_view}
use Rattle.vdm_tree.specs.StmtView.{boxed_stmt}

-- ---- values and variables

abbrev pub value_def_view : ValueDef → ValueDefTree
value_def_view v = record {
  access = v.access;
  name = v.name;
  name_place = v.name_place;
  declared = option_map type_view v.declared;
  value = boxed_view v.value;
  place = v.place;
}

abbrev pub variable_view : VarDef → VariableTree
variable_view v = record {
  access = v.access;
  name = v.name;
  name_place = v.name_place;
  declared = type_view v.declared;
  initial = option_map boxed_view v.initial;
  place = v.place;
}

abbrev pub variable_item_view : VariableItem → VariableItemTree
variable_item_view (Variable v) = variable_item (variable_view v)
variable_item_view (Invariant condition place) = invariant_item (boxed_view condition) place

-- ---- functions and operations

abbrev pub body_view : {A B : Type 0} → (A → B) → Body A → BodyTree B
body_view view (Written body) = written (view body)
body_view view NotYetSpecified = not_yet_specified
body_view view SubclassResponsibility = subclass_responsibility

abbrev pub function_view : FunctionDef → FunctionTree
function_view f = record {
  access = f.access;
  name = f.name;
  name_place = f.name_place;
  parameters = type_views f.parameters.items;
  result_type = type_view f.result_type;
  patterns = pattern_views f.patterns.items;
  body = body_view boxed_view f.body;
  pre = option_map boxed_view f.pre;
  post = option_map boxed_view f.post;
  measure = option_map boxed_view f.measure;
  place = f.place;
}

abbrev pub operation_view : OpDef → OperationTree
operation_view o = record {
  access = o.access;
  name = o.name;
  name_place = o.name_place;
  parameters = type_views o.parameters.items;
  result_type = option_map type_view o.result_type;
  patterns = pattern_views o.patterns.items;
  body = body_view boxed_stmt o.body;
  pre = option_map boxed_view o.pre;
  post = option_map boxed_view o.post;
  place = o.place;
}

-- ---- threads and synchronisation

abbrev pub phase_view : Phase → PhaseTree
phase_view p = record { jitter = boxed_view p.jitter; delay = boxed_view p.delay; offset = boxed_view p.offset }

abbrev pub thread_view : Thread → ThreadTree
thread_view (Periodic period phase name name_place place) = periodic (boxed_view period) (option_map phase_view phase) name name_place place
thread_view (Procedural body) = procedural (boxed_stmt body)

abbrev pub sync_view : Sync → SyncTree
sync_view (Permission name name_place condition place) = permission name name_place (boxed_view condition) place
sync_view (MutexAll place) = mutex_all place
sync_view (MutexOf names place) = mutex_of names.items place

-- ---- classes

abbrev pub block_view : Block → BlockTree
block_view (Types definitions place) = types (map type_def_view definitions.items) place
block_view (Values definitions place) = values (map value_def_view definitions.items) place
block_view (Variables items place) = variables (map variable_item_view items.items) place
block_view (Functions definitions place) = functions (map function_view definitions.items) place
block_view (Operations definitions place) = operations (map operation_view definitions.items) place
block_view (ThreadBlock thread place) = thread_of (thread_view thread) place
block_view (SyncBlock clauses place) = synchronisation (map sync_view clauses.items) place

abbrev pub class_view : ClassDef → ClassTree
class_view c = record {
  name = c.name;
  name_place = c.name_place;
  superclasses = c.superclasses.items;
  blocks = map block_view c.blocks.items;
  place = c.place;
}

abbrev pub spec_view : Spec → SpecTree
spec_view s = record { classes = map class_view s.classes.items }
