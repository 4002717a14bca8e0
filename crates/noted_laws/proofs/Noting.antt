-- Values, parts in turn, tests and patterns: what a thread does for them it asks by questions that entries answer.
use Rattle.std.proofs.Common.{◌∷◌, ◌++◌, [], Bool, true, false, if◌then◌else◌, nat_lt, List, Option, Some, None, Result, Ok, Err, ℕ}
use Rattle.vdm_kinds.specs.declared.member.VarRef.{VarRef}
use Rattle.vdm_kinds.specs.declared.name.Name.{Name}
use Rattle.vdm_kinds.specs.declared.place.Place.{Place}
use Rattle.vdm_kinds.specs.declared.run_fault.RunFault.{RunFault}
use Rattle.vdm_kinds.specs.declared.run_fault.RunFault.TheVariants.{NoMatch, SizeLimit, StepLimit}
use Rattle.vdm_values.specs.declared.slot.Slot.{Slot}
use Rattle.vdm_values.specs.declared.slot.Slot.TheVariants.{Unset, Held}
use Rattle.abstract_syntax.specs.Types.{TypeTree}
use Rattle.abstract_syntax.specs.Values.{ValueTree, boolean}
use Rattle.abstract_syntax.specs.Expressions.{ExprTree, ExprTrees, no_exprs, one_expr, expr_place, PatternTree}
use Rattle.abstract_syntax.specs.Classes.{InvariantTree, VariableTree, SpecTree}
use Rattle.type_meaning.specs.Tests.{Fitting, fits, wrong_type, wrong_invariant, Decision, decided as known, asks}
use Rattle.pattern_meaning.specs.Bindings.{Binding}
use Rattle.pattern_meaning.specs.Brackets.{given_in}
use Rattle.run_journal.specs.declared.question.Question.{Question}
use Rattle.run_journal.specs.declared.question.Question.TheVariants.{Print}
use Rattle.plans.specs.Plans.{finish, fail, ask, part, become}
use Rattle.node_meaning.specs.Envs.{Here, Locals, Nest, no_nest, deeper, inside_class, bound_locals}
use Rattle.node_meaning.specs.Fitting.{arguments_typed, as_answer, by_holding, fit_then, fitted, fitted_maybe, fitting_in, if_fits, invariant_of, slot_typed, slots_typed, typed, typed_maybe}
use Rattle.node_meaning.specs.Matching.{are_within_limits, bound_or, decided, exprs_of, first_match, meets, met, on_truth}
use Rattle.node_meaning.specs.Names.{variable_definition}
use Rattle.node_meaning.specs.Strict.{Strict, collected, made_of, make, strict}
use Rattle.node_meaning.specs.Tasks.{Declared, all_among, among, placed, Code, Flow, gave, next, returned, exited, Query, noted, printing, needed, fault, value_or_fault, with_value, evaluated, cut_to}
use Rattle.stmt_meaning.specs.Calls.{values_typed}
use Rattle.noted_laws.proofs.OnlyAsked.{AsksOnly, bind-asks}

-- what is printed is never asked for as a text: that is made of values where the thread stands
abbrev pub IsNoPrint : Question → Type 0
IsNoPrint (Print text) = ⊥
IsNoPrint _ = Unit {0}

-- an entry answers it: it is no need as such
abbrev pub IsNoted : Query → Type 0
IsNoted (noted question) = IsNoPrint question
IsNoted (printing vs) = Unit {0}
IsNoted (needed need) = ⊥

abbrev pub Notes : Code → Type 0
Notes code = AsksOnly IsNoted code

-- what is done with locals, or with something and locals
abbrev pub Onward : (Locals → Code) → Type 0
Onward further = (locals : Locals) → Notes (further locals)

abbrev pub OnwardWith : {X : Type 0} → (X → Locals → Code) → Type 0
OnwardWith {X} further = (x : X) (locals : Locals) → Notes (further x locals)

pub notes-if : (b : Bool) (p q : Code) → Notes p → Notes q → Notes (if b then p else q)
notes-if true p q h k = h
notes-if false p q h k = k

-- ---- values

pub notes-value_or_fault : (place : Place) (result : Result ValueTree RunFault) → Onward (value_or_fault place result)
notes-value_or_fault place (Ok v) locals = tt
notes-value_or_fault place (Err kind) locals = tt

pub notes-with_value : (place : Place) (further : ValueTree → Locals → Code) → OnwardWith further → (flow : Flow) → Notes (with_value place further flow)
notes-with_value place further h (gave (Held v) locals) = h v locals
notes-with_value place further h (gave Unset locals) = tt
notes-with_value place further h (next locals) = tt
notes-with_value place further h (returned slot locals) = tt
notes-with_value place further h (exited v from locals) = tt

pub notes-evaluated : (here : Here) (locals : Locals) (tree : ExprTree) (place : Place) (further : ValueTree → Locals → Code) → OnwardWith further → Notes (evaluated here locals tree place further)
notes-evaluated here locals tree place further h = notes-with_value place further h

pub notes-cut_to : (count : ℕ) (flow : Flow) → Notes (cut_to count flow)
notes-cut_to count (gave slot locals) = tt
notes-cut_to count (next locals) = tt
notes-cut_to count (returned slot locals) = tt
notes-cut_to count (exited v from locals) = tt

-- ---- parts in turn

pub notes-collected : (here : Here) (place : Place) (trees : ExprTrees) (done : List ValueTree) (further : List ValueTree → Locals → Code) → OnwardWith further → Onward (collected here place trees done further)
notes-collected here place no_exprs done further h locals = h done locals
notes-collected here place (one_expr tree trees) done further h locals =
    notes-evaluated here locals tree place (λ v after. collected here place trees (done ++ v ∷ []) further after) (λ v. notes-collected here place trees (done ++ v ∷ []) further h)

pub notes-make : (what : Strict) (place : Place) → OnwardWith (make what place)
notes-make what place vs = notes-value_or_fault place (made_of what vs)

pub notes-strict : (here : Here) (what : Strict) (place : Place) (trees : ExprTrees) → Onward (strict here what place trees)
notes-strict here what place trees = notes-collected here place trees [] (make what place) (notes-make what place)

-- ---- conditions and patterns

pub notes-on_truth : (place : Place) (further : Bool → Locals → Code) → OnwardWith further → OnwardWith (on_truth place further)
notes-on_truth place further h (boolean b) locals = h b locals
notes-on_truth place further h v locals = tt

pub notes-decided : (here : Here) (locals : Locals) (condition : ExprTree) (place : Place) (further : Bool → Locals → Code) → OnwardWith further → Notes (decided here locals condition place further)
notes-decided here locals condition place further h = notes-evaluated here locals condition place (on_truth place further) (notes-on_truth place further h)

pub notes-bound_or : (place : Place) (binding : Option Binding) (matched missed : Locals → Code) → Onward matched → Onward missed → Onward (bound_or place binding matched missed)
notes-bound_or place None matched missed h k locals = k locals
notes-bound_or place (Some binding) matched missed h k locals =
    notes-if (are_within_limits binding) (matched (locals ++ bound_locals binding)) (fault SizeLimit place) (h (locals ++ bound_locals binding)) tt

pub notes-meets : (spec : SpecTree) (here : Here) (place : Place) (pattern : PatternTree) (matched missed : Locals → Code) → Onward matched → Onward missed → OnwardWith (meets spec here place pattern matched missed)
notes-meets spec here place pattern matched missed h k v =
    notes-collected here place (exprs_of (given_in pattern)) [] (met spec here.scope place (pattern ∷ []) (v ∷ []) matched missed)
    (λ given. notes-bound_or place (first_match spec here.scope (pattern ∷ []) given (v ∷ [])) matched missed h k)

-- ---- tests of types

module _ (spec : SpecTree) (nest : Nest) where
  notes-invariant_of : (here : Here) (place : Place) (found : Option InvariantTree) (v : ValueTree) (further : Bool → Locals → Code) → OnwardWith further → Notes (invariant_of spec here place found v further)
  notes-invariant_of here place None v further h = tt
  notes-invariant_of here place (Some invariant) v further h =
      notes-meets spec here place invariant.pattern (λ inner. decided here inner invariant.condition place further) (λ inner. fault NoMatch place)
      (λ inner. notes-decided here inner invariant.condition place further h) (λ inner. tt) v []

  notes-by_holding : (met unmet : Code) → Notes met → Notes unmet → OnwardWith (by_holding met unmet)
  notes-by_holding met unmet h k true inner = h
  notes-by_holding met unmet h k false inner = k

  notes-fit_then : (place : Place) (further : Fitting → Code) → ((found : Fitting) → Notes (further found)) → (decision : Decision Fitting) → Notes (fit_then spec nest place further decision)
  notes-fit_then place further h (known found) = h found
  notes-fit_then place further h (asks d v met unmet) =
      let goes = by_holding (fit_then spec nest place further met) (fit_then spec nest place further unmet) in
      let here = inside_class d.class (deeper nest place) in
      notes-if (nat_lt nest.depth 16) (invariant_of spec here place d.invariant v goes) (fault StepLimit place)
      (notes-invariant_of here place d.invariant v goes
      (notes-by_holding (fit_then spec nest place further met) (fit_then spec nest place further unmet) (notes-fit_then place further h met) (notes-fit_then place further h unmet)))
      tt

  notes-if_fits : (place : Place) (v : ValueTree) (locals : Locals) (found : Fitting) → Notes (if_fits place v locals found)
  notes-if_fits place v locals fits = tt
  notes-if_fits place v locals wrong_type = tt
  notes-if_fits place v locals wrong_invariant = tt

  notes-as_answer : (locals : Locals) (found : Fitting) → Notes (as_answer locals found)
  notes-as_answer locals fits = tt
  notes-as_answer locals wrong_type = tt
  notes-as_answer locals wrong_invariant = tt

  module _ (scope : Option Name) where
    -- whether a value fits, as a value
    pub notes-fit_value : (t : TypeTree) (place : Place) → OnwardWith (λ v locals. fit_then spec nest place (as_answer locals) (fitting_in spec scope t v))
    notes-fit_value t place v locals = notes-fit_then place (as_answer locals) (notes-as_answer locals) (fitting_in spec scope t v)

    pub notes-fitted : (t : TypeTree) (place : Place) → OnwardWith (fitted spec nest scope t place)
    notes-fitted t place v locals = notes-fit_then place (if_fits place v locals) (notes-if_fits place v locals) (fitting_in spec scope t v)

    pub notes-fitted_maybe : (t : Option TypeTree) (place : Place) → OnwardWith (fitted_maybe spec nest scope t place)
    notes-fitted_maybe None place v locals = tt
    notes-fitted_maybe (Some t) place v locals = notes-fitted t place v locals

    pub notes-typed : (t : TypeTree) (place : Place) (further : ValueTree → Locals → Code) → OnwardWith further → OnwardWith (typed spec nest scope t place further)
    notes-typed t place further h v locals =
        bind-asks IsNoted (fitted spec nest scope t place v locals) (with_value place further) (notes-fitted t place v locals) (notes-with_value place further h)

    pub notes-typed_maybe : (t : Option TypeTree) (place : Place) (further : ValueTree → Locals → Code) → OnwardWith further → OnwardWith (typed_maybe spec nest scope t place further)
    notes-typed_maybe t place further h v locals =
        bind-asks IsNoted (fitted_maybe spec nest scope t place v locals) (with_value place further) (notes-fitted_maybe t place v locals) (notes-with_value place further h)

    pub notes-arguments_typed : (types : List TypeTree) (trees : ExprTrees) (vs : List ValueTree) (further : Locals → Code) → Onward further → Onward (arguments_typed spec nest scope types trees vs further)
    notes-arguments_typed (t ∷ ts) (one_expr tree trees) (v ∷ vs) further h locals =
        notes-typed t (expr_place tree) (λ fitting_v after. arguments_typed spec nest scope ts trees vs further after) (λ fitting_v. notes-arguments_typed ts trees vs further h) v locals
    notes-arguments_typed _ _ _ further h locals = h locals

pub notes-values_typed : (spec : SpecTree) (scope : Option Name) (types : List TypeTree) (places : List Place) (vs : List ValueTree) (further : Locals → Code) → Onward further → Onward (values_typed spec scope types places vs further)
notes-values_typed spec scope (t ∷ ts) (place ∷ places) (v ∷ vs) further h locals =
    notes-typed spec no_nest scope t place (λ fitting_v after. values_typed spec scope ts places vs further after)
    (λ fitting_v. notes-values_typed spec scope ts places vs further h) v locals
notes-values_typed spec scope _ _ _ further h locals = h locals

module _ (spec : SpecTree) (place : Place) where
  notes-slot_typed : (class : Name) (variable : Option VariableTree) (slot : Slot) (further : Locals → Code) → Onward further → Onward (slot_typed spec place class variable slot further)
  notes-slot_typed class (Some variable) (Held v) further h locals =
      notes-typed spec no_nest (Some class) variable.declared place (λ fitting_v after. further after) (λ fitting_v. h) v locals
  notes-slot_typed class (Some variable) Unset further h locals = h locals
  notes-slot_typed class None slot further h locals = h locals

  pub notes-slots_typed : (vars : List VarRef) (slots : List Slot) (further : Locals → Code) → Onward further → Onward (slots_typed spec place vars slots further)
  notes-slots_typed (var ∷ vars) (slot ∷ slots) further h =
      notes-slot_typed var.class (variable_definition spec var) slot (slots_typed spec place vars slots further) (notes-slots_typed vars slots further h)
  notes-slots_typed _ _ further h = h

-- ---- what is put round a plan

-- wherever the faults stand
pub notes-placed : (nest : Nest) (code : Code) → Notes code → Notes (placed nest code)
notes-placed nest (finish flow) h = tt
notes-placed nest (fail f) h = tt
notes-placed nest (ask query further) h = (h.0, λ a. notes-placed nest (further a) (h.1 a))
notes-placed nest (part task further) h = λ flow. notes-placed nest (further flow) (h flow)
notes-placed nest (become task) h = tt

-- among whatever local variables
notes-all_among : (outer : Declared) (code : Code) → Notes code → Notes (all_among outer code)
notes-all_among outer (finish flow) h = tt
notes-all_among outer (fail f) h = tt
notes-all_among outer (ask query further) h = (h.0, λ a. notes-all_among outer (further a) (h.1 a))
notes-all_among outer (part task further) h = λ flow. notes-all_among outer (further flow) (h flow)
notes-all_among outer (become task) h = tt

pub notes-among : (outer : Declared) (code : Code) → Notes code → Notes (among outer code)
notes-among [] code h = h
notes-among (d ∷ outer) code h = notes-all_among (d ∷ outer) code h
