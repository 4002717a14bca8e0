-- What the program evaluates of the invariants of an object.
use Rattle.std.specs.Prelude.{Bool, true, false, List, [], Some, None}
use Rattle.std.specs.List.{list_all}
use Rattle.vdm_kinds.specs.declared.name.Name.{Name}
use Rattle.abstract_syntax.specs.Classes.{VariableItem, variable_item, invariant_item, SpecTree}
use Rattle.abstract_syntax.specs.Expressions.{ExprTree}
use Rattle.abstract_syntax.specs.Values.{ValueTree, boolean}
use Rattle.class_meaning.specs.Objects.{listed}
use Rattle.stmt_meaning.specs.Keeping.{class_conditions, guard_units, is_kept}
use Rattle.spec_table.specs.Meanings.{class_named}
use Rattle.eval_data.specs.declared.here.Held.{Held}
use Rattle.eval_data.specs.declared.need.Need.{Need}
use Rattle.eval_data.specs.declared.need.Need.TheVariants.{Read}
use Rattle.expr_eval.specs.Evaluations.{evaluation}
use Rattle.expr_eval.specs.declared.env.Env.{Env}
use Rattle.expr_eval.specs.declared.turn.Turn.{Turn}
use Rattle.expr_eval.specs.declared.turn.Turn.TheVariants.{Needs, Value, Fault}

-- ---- one condition

abbrev pub is_read : Need → Bool
is_read (Read object var) = true
is_read _ = false

abbrev pub is_true : ValueTree → Bool
is_true (boolean b) = b
is_true _ = false

-- whether it holds, by the first turn of its evaluation
abbrev pub is_kept_by : Turn → Bool
is_kept_by (Needs need) = is_read need
is_kept_by (Value v) = is_true v
is_kept_by (Fault kind place) = false

-- whether a condition holds that stands there
abbrev pub holds_in : SpecTree → Env → ExprTree → Bool
holds_in spec env condition = is_kept (evaluation spec env 0 condition [] guard_units)

-- ---- those of a class

abbrev pub item_holds : SpecTree → Env → VariableItem → Bool
item_holds spec env (variable_item v) = true
item_holds spec env (invariant_item condition place) = holds_in spec env condition

abbrev pub all_hold_in : SpecTree → Env → List ExprTree → Bool
all_hold_in spec env conditions = list_all (holds_in spec env) conditions

-- the conditions of the class of a name
abbrev pub own_conditions : SpecTree → Name → List ExprTree
own_conditions spec class = listed class_conditions (class_named spec class)

-- ---- those of all classes of an object

-- where an object of its own class stands that holds this, before it is known in which class
abbrev pub standing : Name → Held → Env
standing own held = record { scope = None; own = Some own; me = None; locals = []; held = Some held }

-- whether those of the class hold, which stand in it
abbrev pub own_hold : SpecTree → Env → Name → Bool
own_hold spec env class = all_hold_in spec (record env { scope = Some class }) (own_conditions spec class)

abbrev pub line_holds : SpecTree → Env → List Name → Bool
line_holds spec env classes = list_all (own_hold spec env) classes
