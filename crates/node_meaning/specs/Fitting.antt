-- How values fit declared types: the shape first, and then the invariants, each of which is evaluated.
use Rattle.std.specs.Prelude.{ℕ, Bool, true, false, nat_lt, if◌then◌else◌, List, [], ◌∷◌, Option, Some, None}
use Rattle.vdm_kinds.specs.declared.member.VarRef.{VarRef}
use Rattle.vdm_kinds.specs.declared.name.Name.{Name}
use Rattle.vdm_kinds.specs.declared.place.Place.{Place}
use Rattle.vdm_kinds.specs.declared.run_fault.RunFault.TheVariants.{NoMatch, StepLimit, TypeFault, TypeInvariant, Undefined}
use Rattle.vdm_values.specs.declared.slot.Slot.{Slot}
use Rattle.vdm_values.specs.declared.slot.Slot.TheVariants.{Unset, Held}
use Rattle.abstract_syntax.specs.Values.{ValueTree, boolean}
use Rattle.abstract_syntax.specs.Types.{TypeTree}
use Rattle.abstract_syntax.specs.Expressions.{ExprTrees, one_expr, expr_place}
use Rattle.abstract_syntax.specs.Classes.{InvariantTree, TypeDefTree, VariableTree, SpecTree}
use Rattle.class_meaning.specs.Ancestors.{is_ancestor}
use Rattle.class_meaning.specs.Classes.{class_number}
use Rattle.member_meaning.specs.TypeRanks.{finder, type_rank}
use Rattle.plans.specs.Plans.{bind}
use Rattle.type_meaning.specs.Shapes.{tests_of}
use Rattle.type_meaning.specs.Tests.{Fitting, fits, wrong_type, wrong_invariant, Decision, decided, asks, fitting}
use Rattle.node_meaning.specs.Envs.{Locals, Nest, no_nest, deeper, Here, inside_class, type_scope}
use Rattle.node_meaning.specs.Matching.{decided as condition, meets}
use Rattle.node_meaning.specs.Names.{variable_definition}
use Rattle.node_meaning.specs.Tasks.{Code, fault, value, with_value}

-- ---- how a value fits

-- whether the class of the second number is the first one or one of its ancestors; where there is no such class it is not
abbrev pub descends_by : SpecTree → Option ℕ → Option ℕ → Bool
descends_by spec (Some k) (Some a) = is_ancestor spec k a
descends_by spec _ _ = false

abbrev pub descends : SpecTree → Name → Name → Bool
descends spec class other = descends_by spec (class_number spec class) (class_number spec other)

-- how a value fits a type in the class of a node, by asking which invariants hold
abbrev pub fitting_in : SpecTree → Option Name → TypeTree → ValueTree → Decision Fitting
fitting_in spec scope t v = fitting (tests_of (finder spec) (descends spec) (type_rank spec) v (type_scope scope) t)

-- ---- invariants

-- The pattern of an invariant meets the value, and its condition says whether it holds. A type without one is never asked for it.
abbrev pub invariant_of : SpecTree → Here → Place → Option InvariantTree → ValueTree → (Bool → Locals → Code) → Code
invariant_of spec here place None v further = fault Undefined place
invariant_of spec here place (Some invariant) v further =
    meets spec here place invariant.pattern (λ inner. condition here inner invariant.condition place further) (λ inner. fault NoMatch place) v []

-- The invariant of a type is evaluated in its class, for a test at the place. At most sixteen are tested inside each other.
abbrev pub invariant_asked : SpecTree → Nest → Place → TypeDefTree → ValueTree → (Bool → Locals → Code) → Code
invariant_asked spec nest place d v further =
    if nat_lt nest.depth 16 then invariant_of spec (inside_class d.class (deeper nest place)) place d.invariant v further
    else fault StepLimit place

-- what follows where an invariant holds, and where it does not
abbrev pub by_holding : Code → Code → Bool → Locals → Code
by_holding met unmet true inner = met
by_holding met unmet false inner = unmet

-- what is done once it is decided how a value fits
abbrev pub fit_then : SpecTree → Nest → Place → (Fitting → Code) → Decision Fitting → Code
fit_then spec nest place further (decided found) = further found
fit_then spec nest place further (asks d v met unmet) =
    invariant_asked spec nest place d v (by_holding (fit_then spec nest place further met) (fit_then spec nest place further unmet))

-- ---- one value

-- the value where it fits; else the fault stands at the place
abbrev pub if_fits : Place → ValueTree → Locals → Fitting → Code
if_fits place v locals fits = value v locals
if_fits place v locals wrong_type = fault TypeFault place
if_fits place v locals wrong_invariant = fault TypeInvariant place

-- whether it fits, as a value
abbrev pub as_answer : Locals → Fitting → Code
as_answer locals fits = value (boolean true) locals
as_answer locals wrong_type = value (boolean false) locals
as_answer locals wrong_invariant = value (boolean false) locals

-- a value that is tested against a type in the class of a node
abbrev pub fitted : SpecTree → Nest → Option Name → TypeTree → Place → ValueTree → Locals → Code
fitted spec nest scope t place v locals = fit_then spec nest place (if_fits place v locals) (fitting_in spec scope t v)

-- ... where a type is given
abbrev pub fitted_maybe : SpecTree → Nest → Option Name → Option TypeTree → Place → ValueTree → Locals → Code
fitted_maybe spec nest scope None place v locals = value v locals
fitted_maybe spec nest scope (Some t) place v locals = fitted spec nest scope t place v locals

-- a value is tested, and then used
abbrev pub typed : SpecTree → Nest → Option Name → TypeTree → Place → (ValueTree → Locals → Code) → ValueTree → Locals → Code
typed spec nest scope t place further v locals = bind (fitted spec nest scope t place v locals) (with_value place further)

abbrev pub typed_maybe : SpecTree → Nest → Option Name → Option TypeTree → Place → (ValueTree → Locals → Code) → ValueTree → Locals → Code
typed_maybe spec nest scope t place further v locals = bind (fitted_maybe spec nest scope t place v locals) (with_value place further)

-- ---- several values

-- arguments against the types of parameters, in a class, in order: each is tested at its own place
abbrev pub arguments_typed : SpecTree → Nest → Option Name → List TypeTree → ExprTrees → List ValueTree → (Locals → Code) → Locals → Code
arguments_typed spec nest scope (t ∷ ts) (one_expr tree trees) (v ∷ vs) further locals =
    typed spec nest scope t (expr_place tree) (λ fitting_v after. arguments_typed spec nest scope ts trees vs further after) v locals
arguments_typed spec nest scope _ _ _ further locals = further locals

-- what a variable holds against its type, in its class; what was given no value is not tested
abbrev pub slot_typed : SpecTree → Place → Name → Option VariableTree → Slot → (Locals → Code) → Locals → Code
slot_typed spec place class (Some variable) (Held v) further locals =
    typed spec no_nest (Some class) variable.declared place (λ fitting_v after. further after) v locals
slot_typed spec place class (Some variable) Unset further locals = further locals
slot_typed spec place class None slot further locals = further locals

-- each variable's slot, in order
abbrev pub slots_typed : SpecTree → Place → List VarRef → List Slot → (Locals → Code) → Locals → Code
slots_typed spec place (var ∷ vars) (slot ∷ slots) further locals =
    slot_typed spec place var.class (variable_definition spec var) slot (slots_typed spec place vars slots further) locals
slots_typed spec place _ _ further locals = further locals
