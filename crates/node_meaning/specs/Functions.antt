-- Applications of functions, and class values: a class value is evaluated where it is named, like a function without parameters.
use Rattle.std.specs.Prelude.{Bool, true, false, List, [], ◌∷◌, ◌++◌, Option, Some, None}
use Rattle.std.specs.List.{flat_map}
use Rattle.vdm_kinds.specs.declared.member.OpRef.{OpRef}
use Rattle.vdm_kinds.specs.declared.member.VarRef.{VarRef}
use Rattle.vdm_kinds.specs.declared.name.Name.{Name}
use Rattle.vdm_kinds.specs.declared.place.Place.{Place}
use Rattle.vdm_kinds.specs.declared.run_fault.RunFault.TheVariants.{NoMatch, Pre, Post, TypeFault, Undefined}
use Rattle.vdm_values.specs.declared.slot.Slot.TheVariants.{Held}
use Rattle.abstract_syntax.specs.Values.{ValueTree}
use Rattle.abstract_syntax.specs.Types.{TypeTree}
use Rattle.abstract_syntax.specs.Expressions.{ExprTree, ExprTrees}
use Rattle.abstract_syntax.specs.Classes.{Body, written, ValueDefTree, FunctionTree, SpecTree}
use Rattle.pattern_meaning.specs.Brackets.{given_in}
use Rattle.node_meaning.specs.Envs.{Locals, Nest, Here, inside_class, result_name}
use Rattle.node_meaning.specs.Fitting.{arguments_typed, fitted_maybe, typed}
use Rattle.node_meaning.specs.Matching.{decided, exprs_of, met}
use Rattle.node_meaning.specs.Names.{function_definition, value_definition}
use Rattle.node_meaning.specs.Strict.{collected}
use Rattle.node_meaning.specs.Tasks.{Code, fault, value, evaluated}

-- ---- applications

-- An application that is being evaluated: the function and its class, the place of the application, the tests of types round it, and the
-- locals of the node, which the function does not see.
pub record Applying : Type 0 where
  pub class : Name
  pub function : FunctionTree
  pub place : Place
  pub nest : Nest
  pub outer : Locals

abbrev pub body_here : Applying → Here
body_here a = inside_class a.class a.nest

-- whether `post` holds of the result, and then the locals of the node again
abbrev pub post_decided : Applying → ValueTree → Bool → Locals → Code
post_decided a v true inner = value v a.outer
post_decided a v false inner = fault Post a.place

abbrev pub post_of : Applying → Option ExprTree → ValueTree → Locals → Code
post_of a None v inner = value v a.outer
post_of a (Some post) v inner = decided (body_here a) (inner ++ (result_name, Held v) ∷ []) post a.place (post_decided a v)

-- the result is tested, and then `post` follows
abbrev pub result_given : SpecTree → Applying → ValueTree → Locals → Code
result_given spec a v inner = typed spec a.nest (Some a.class) a.function.result_type a.place (post_of a a.function.post) v inner

-- a function that is not specified is undefined at its application
abbrev pub body_of : SpecTree → Applying → Body ExprTree → Locals → Code
body_of spec a (written body) inner = evaluated (body_here a) inner body a.place (result_given spec a)
body_of spec a _ inner = fault Undefined a.place

abbrev pub pre_decided : SpecTree → Applying → Bool → Locals → Code
pre_decided spec a true inner = body_of spec a a.function.body inner
pre_decided spec a false inner = fault Pre a.place

abbrev pub pre_of : SpecTree → Applying → Option ExprTree → Locals → Code
pre_of spec a None inner = body_of spec a a.function.body inner
pre_of spec a (Some pre) inner = decided (body_here a) inner pre a.place (pre_decided spec a)

-- the parameters meet the arguments, with the values of the expressions in brackets in their patterns; then `pre` follows
abbrev pub bound : SpecTree → Applying → List ValueTree → List ValueTree → Locals → Code
bound spec a vs given inner =
    met spec (Some a.class) a.place a.function.patterns vs (pre_of spec a a.function.pre) (λ missed. fault NoMatch a.place) given inner

abbrev pub binds : SpecTree → Applying → List ValueTree → Code
binds spec a vs = collected (body_here a) a.place (exprs_of (flat_map given_in a.function.patterns)) [] (bound spec a vs) []

-- a function of a class begins, where the node at the place has these locals
abbrev pub begun : SpecTree → Name → FunctionTree → Place → Nest → List ValueTree → Locals → Code
begun spec class f place nest vs locals =
    binds spec (record { class = class; function = f; place = place; nest = nest; outer = locals }) vs

-- the arguments are tested first, each at its own place
abbrev pub applied_to : SpecTree → OpRef → Option FunctionTree → Place → Nest → ExprTrees → List ValueTree → Locals → Code
applied_to spec ref None place nest arguments vs locals = fault TypeFault place
applied_to spec ref (Some f) place nest arguments vs locals =
    arguments_typed spec nest (Some ref.class) f.parameters arguments vs (begun spec ref.class f place nest vs) locals

-- behind the values of the arguments
abbrev pub applied : SpecTree → OpRef → Place → Nest → ExprTrees → List ValueTree → Locals → Code
applied spec ref place nest arguments vs locals = applied_to spec ref (function_definition spec ref) place nest arguments vs locals

-- the arguments of a function, and then the function
abbrev pub application_of : SpecTree → Here → OpRef → ExprTrees → Place → Locals → Code
application_of spec here ref arguments place locals =
    collected here place arguments [] (applied spec ref place here.nest arguments) locals

-- ---- class values

-- a class value of a class is tested where it is named, among the locals of the node again
abbrev pub value_given : SpecTree → Name → Option TypeTree → Place → Nest → Locals → ValueTree → Locals → Code
value_given spec class declared place nest outer v inner = fitted_maybe spec nest (Some class) declared place v outer

abbrev pub class_value_of : SpecTree → Name → Option ValueDefTree → Place → Nest → Locals → Code
class_value_of spec class None place nest locals = fault Undefined place
class_value_of spec class (Some d) place nest locals =
    evaluated (inside_class class nest) [] d.value place (value_given spec class d.declared place nest locals)

abbrev pub class_value : SpecTree → VarRef → Place → Nest → Locals → Code
class_value spec ref place nest locals = class_value_of spec ref.class (value_definition spec ref) place nest locals
