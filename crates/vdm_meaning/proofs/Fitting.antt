-- Tests of values against types keep the rules: they ask nothing but what the invariants ask, and what follows them stands behind those.
use Rattle.std.proofs.Common.{[], ◌∷◌, Bool, List, None, Option, Some, false, nat_lt, true}
use Rattle.std.specs.List.{AllByRecursion as Each}
use Rattle.vdm_kinds.specs.declared.member.VarRef.{VarRef}
use Rattle.vdm_kinds.specs.declared.name.Name.{Name}
use Rattle.vdm_kinds.specs.declared.place.Place.{Place}
use Rattle.vdm_kinds.specs.declared.run_fault.RunFault.TheVariants.{NoMatch, StepLimit, TypeFault, TypeInvariant, Undefined}
use Rattle.vdm_values.specs.declared.slot.Slot.{Slot}
use Rattle.vdm_values.specs.declared.slot.Slot.TheVariants.{Unset, Held as Holds}
use Rattle.abstract_syntax.specs.Classes.{InvariantTree, SpecTree, TypeDefTree, VariableTree}
use Rattle.abstract_syntax.specs.Expressions.{ExprTrees, expr_place, one_expr}
use Rattle.abstract_syntax.specs.Types.{TypeTree}
use Rattle.abstract_syntax.specs.Values.{ValueTree, boolean}
use Rattle.member_meaning.specs.TypeRanks.{finder, type_rank}
use Rattle.type_meaning.specs.Shapes.{tests_of}
use Rattle.type_meaning.specs.Tests.{Decision, Fitting, asks, decided, fits, wrong_invariant, wrong_type}
use Rattle.run_journal.specs.declared.entry.Entry.{Entry}
use Rattle.plans.specs.Plans.{bind}
use Rattle.vdm_legal.proofs.Known.{IsKnown, IsKnownSlot, IsThere}
use Rattle.vdm_legal.proofs.Sanity.{IsWithin, within-self, within-then}
use Rattle.node_meaning.specs.Envs.{Here, Locals, Nest, deeper, inside_class, no_nest, type_scope}
use Rattle.node_meaning.specs.Tasks.{Code, fault, with_value}
use Rattle.node_meaning.specs.Names.{variable_definition}
use Rattle.node_meaning.specs.Matching.{decided as condition}
use Rattle.node_meaning.specs.Fitting.{arguments_typed, as_answer, by_holding, descends, fit_then, fitted, fitted_maybe, fitting_in, if_fits, invariant_asked, invariant_of, slot_typed, slots_typed, typed, typed_maybe}
use Rattle.vdm_meaning.proofs.Rules.{IsSafe}
use Rattle.vdm_meaning.proofs.Parts.{EachKnown, Goes, GoesWith, IsAt, at-behind, at-inside, at-later, at-start, goes-later, may-fail, safe-bind, safe-if, safe-value, safe-with_value, slots-on, values-on, value-on}
use Rattle.vdm_meaning.proofs.Matching.{IsAny, safe-decided, safe-meets}
use Rattle.vdm_meaning.proofs.TestedValues.{EachAsked, asked-wider, fitting-asked, tests_of-keeps}
use Rattle.stmt_meaning.specs.Calls.{values_typed}

-- ---- invariants

-- each value of which an invariant is asked is known
abbrev IsAsked : SpecTree → List Entry → Decision Fitting → Type 0
IsAsked spec entries = EachAsked (IsKnown spec entries)

fitting-known : (spec : SpecTree) (now : List Entry) (scope : Option Name) (t : TypeTree) (v : ValueTree) → IsKnown spec now v → IsAsked spec now (fitting_in spec scope t v)
fitting-known spec now scope t v known =
    fitting-asked (IsKnown spec now) (tests_of (finder spec) (descends spec) (type_rank spec) v (type_scope scope) t)
    (tests_of-keeps (IsThere spec now) (finder spec) (descends spec) (type_rank spec) v known (type_scope scope) t)

module _ (spec : SpecTree) (first : List Entry) where
  safe-invariant_of : (now : List Entry) (class : Name) (nest : Nest) (place : Place) (found : Option InvariantTree) (v : ValueTree) (further : Bool → Locals → Code) → IsAt spec first now (inside_class class nest) [] → IsKnown spec now v → GoesWith IsAny spec first (inside_class class nest) now further → IsSafe spec first now (invariant_of spec (inside_class class nest) place found v further)
  safe-invariant_of now class nest place None v further is_at known goes = may-fail spec Undefined place is_at.may
  safe-invariant_of now class nest place (Some invariant) v further is_at known goes =
      let here = inside_class class nest in
      safe-meets spec first now here place invariant.pattern (λ inner. condition here inner invariant.condition place further) (λ inner. fault NoMatch place) v [] is_at known
      (λ later inner w at_later.
      safe-decided spec first later here inner invariant.condition place further at_later (goes-later IsAny spec first here now later further w goes))
      (λ later inner w at_later. may-fail spec NoMatch place at_later.may)

  safe-invariant_asked : {here : Here} {locals : Locals} (now : List Entry) (nest : Nest) (place : Place) (d : TypeDefTree) (v : ValueTree) (further : Bool → Locals → Code) → IsAt spec first now here locals → IsKnown spec now v → GoesWith IsAny spec first (inside_class d.class (deeper nest place)) now further → IsSafe spec first now (invariant_asked spec nest place d v further)
  safe-invariant_asked now nest place d v further is_at known goes =
      safe-if spec first now (nat_lt nest.depth 16) (invariant_of spec (inside_class d.class (deeper nest place)) place d.invariant v further) (fault StepLimit place)
      (safe-invariant_of now d.class (deeper nest place) place d.invariant v further (at-inside d.class (deeper nest place) is_at) known goes)
      (may-fail spec StepLimit place is_at.may)

  safe-by_holding : (now : List Entry) (met unmet : Code) (b : Bool) (inner : Locals) → IsSafe spec first now met → IsSafe spec first now unmet → IsSafe spec first now (by_holding met unmet b inner)
  safe-by_holding now met unmet true inner h k = h
  safe-by_holding now met unmet false inner h k = k

  module _ (here : Here) (locals : Locals) (nest : Nest) (place : Place) where
    -- what is done with how a value fits keeps the rules behind any later entries
    abbrev Decides : List Entry → (Fitting → Code) → Type 0
    Decides now further = (later : List Entry) (found : Fitting) → IsWithin spec now later → IsAt spec first later here locals → IsSafe spec first later (further found)

    pub safe-fit_then : (decision : Decision Fitting) (now : List Entry) (further : Fitting → Code) → IsAt spec first now here locals → IsAsked spec now decision → Decides now further → IsSafe spec first now (fit_then spec nest place further decision)
    safe-fit_then (decided found) now further is_at known goes = goes now found (within-self now) is_at
    safe-fit_then (asks d v met unmet) now further is_at known goes =
        safe-invariant_asked now nest place d v (by_holding (fit_then spec nest place further met) (fit_then spec nest place further unmet)) is_at known.0 (λ later b inner w at_later any.
        let at_then = at-later is_at w at_later.may.sane in
        let wider = asked-wider (IsKnown spec now) (IsKnown spec later) (value-on now later w) in
        let goes_then : Decides later further = λ end found x at_end. goes end found (within-then now later end w x) at_end in
        safe-by_holding later (fit_then spec nest place further met) (fit_then spec nest place further unmet) b inner
        (safe-fit_then met later further at_then (wider met known.1) goes_then)
        (safe-fit_then unmet later further at_then (wider unmet known.2) goes_then))

-- ---- one value

module _ (spec : SpecTree) where
  safe-if_fits : {first now : List Entry} {here : Here} {locals : Locals} (place : Place) (v : ValueTree) (found : Fitting) → IsAt spec first now here locals → IsKnown spec now v → IsSafe spec first now (if_fits place v locals found)
  safe-if_fits place v fits is_at known = safe-value spec v is_at known
  safe-if_fits place v wrong_type is_at known = may-fail spec TypeFault place is_at.may
  safe-if_fits place v wrong_invariant is_at known = may-fail spec TypeInvariant place is_at.may

  pub safe-as_answer : {first now : List Entry} {here : Here} {locals : Locals} (found : Fitting) → IsAt spec first now here locals → IsSafe spec first now (as_answer locals found)
  safe-as_answer fits is_at = safe-value spec (boolean true) is_at tt
  safe-as_answer wrong_type is_at = safe-value spec (boolean false) is_at tt
  safe-as_answer wrong_invariant is_at = safe-value spec (boolean false) is_at tt

  module _ (first now : List Entry) (here : Here) (locals : Locals) (is_at : IsAt spec first now here locals) (nest : Nest) (scope : Option Name) (place : Place) (v : ValueTree) (known : IsKnown spec now v) where
    -- whether the value fits, as a value
    pub safe-fit_value : (t : TypeTree) → IsSafe spec first now (fit_then spec nest place (as_answer locals) (fitting_in spec scope t v))
    safe-fit_value t =
        safe-fit_then spec first here locals nest place (fitting_in spec scope t v) now (as_answer locals) is_at (fitting-known spec now scope t v known)
        (λ later found w at_later. safe-as_answer found at_later)

    pub safe-fitted : (t : TypeTree) → IsSafe spec first now (fitted spec nest scope t place v locals)
    safe-fitted t =
        safe-fit_then spec first here locals nest place (fitting_in spec scope t v) now (if_fits place v locals) is_at (fitting-known spec now scope t v known)
        (λ later found w at_later. safe-if_fits place v found at_later (value-on now later w v known))

    pub safe-fitted_maybe : (t : Option TypeTree) → IsSafe spec first now (fitted_maybe spec nest scope t place v locals)
    safe-fitted_maybe None = safe-value spec v is_at known
    safe-fitted_maybe (Some t) = safe-fitted t

module _ (spec : SpecTree) (first : List Entry) (here : Here) where
  -- the test of a value, and what is done with the value
  safe-behind_test : (now : List Entry) (locals : Locals) (place : Place) (test : Code) (further : ValueTree → Locals → Code) → IsAt spec first now here locals → IsSafe spec now now test → GoesWith (IsKnown spec) spec first here now further → IsSafe spec first now (bind test (with_value place further))
  safe-behind_test now locals place test further is_at safe goes =
      safe-bind spec now first (with_value place further)
      (λ later flow w leaves.
      safe-with_value spec place further flow (at-later is_at w leaves.0) leaves.1
      (λ v after known others. goes later v after w (at-behind is_at w leaves.0 after others) known))
      test now safe

  pub safe-typed : (now : List Entry) (locals : Locals) (nest : Nest) (scope : Option Name) (t : TypeTree) (place : Place) (further : ValueTree → Locals → Code) (v : ValueTree) → IsAt spec first now here locals → IsKnown spec now v → GoesWith (IsKnown spec) spec first here now further → IsSafe spec first now (typed spec nest scope t place further v locals)
  safe-typed now locals nest scope t place further v is_at known goes =
      safe-behind_test now locals place (fitted spec nest scope t place v locals) further is_at
      (safe-fitted spec now now here locals (at-start is_at.may) nest scope place v known t) goes

  pub safe-typed_maybe : (now : List Entry) (locals : Locals) (nest : Nest) (scope : Option Name) (t : Option TypeTree) (place : Place) (further : ValueTree → Locals → Code) (v : ValueTree) → IsAt spec first now here locals → IsKnown spec now v → GoesWith (IsKnown spec) spec first here now further → IsSafe spec first now (typed_maybe spec nest scope t place further v locals)
  safe-typed_maybe now locals nest scope t place further v is_at known goes =
      safe-behind_test now locals place (fitted_maybe spec nest scope t place v locals) further is_at
      (safe-fitted_maybe spec now now here locals (at-start is_at.may) nest scope place v known t) goes

  -- ---- several values

  pub safe-arguments_typed : (types : List TypeTree) (trees : ExprTrees) (vs : List ValueTree) (now : List Entry) (nest : Nest) (scope : Option Name) (further : Locals → Code) (locals : Locals) → IsAt spec first now here locals → EachKnown spec now vs → Goes spec first here now further → IsSafe spec first now (arguments_typed spec nest scope types trees vs further locals)
  safe-arguments_typed (t ∷ ts) (one_expr tree trees) (v ∷ vs) now nest scope further locals is_at known goes =
      safe-typed now locals nest scope t (expr_place tree) (λ fitting_v after. arguments_typed spec nest scope ts trees vs further after) v is_at known.0 (λ later w after x at_later also.
      safe-arguments_typed ts trees vs later nest scope further after at_later (values-on now later x vs known.1)
      (λ end others y. goes end others (within-then now later end x y)))
  safe-arguments_typed _ _ _ now nest scope further locals is_at known goes = goes now locals (within-self now) is_at

  pub safe-values_typed : (types : List TypeTree) (places : List Place) (vs : List ValueTree) (now : List Entry) (scope : Option Name) (further : Locals → Code) (locals : Locals) → IsAt spec first now here locals → EachKnown spec now vs → Goes spec first here now further → IsSafe spec first now (values_typed spec scope types places vs further locals)
  safe-values_typed (t ∷ ts) (place ∷ places) (v ∷ vs) now scope further locals is_at known goes =
      safe-typed now locals no_nest scope t place (λ fitting_v after. values_typed spec scope ts places vs further after) v is_at known.0 (λ later w after x at_later also.
      safe-values_typed ts places vs later scope further after at_later (values-on now later x vs known.1)
      (λ end others y. goes end others (within-then now later end x y)))
  safe-values_typed _ _ _ now scope further locals is_at known goes = goes now locals (within-self now) is_at

  safe-slot_typed : (now : List Entry) (place : Place) (class : Name) (variable : Option VariableTree) (slot : Slot) (further : Locals → Code) (locals : Locals) → IsAt spec first now here locals → IsKnownSlot spec now slot → Goes spec first here now further → IsSafe spec first now (slot_typed spec place class variable slot further locals)
  safe-slot_typed now place class (Some variable) (Holds v) further locals is_at known goes =
      safe-typed now locals no_nest (Some class) variable.declared place (λ fitting_v after. further after) v is_at known (λ later w after x at_later also.
      goes later after x at_later)
  safe-slot_typed now place class (Some variable) Unset further locals is_at known goes = goes now locals (within-self now) is_at
  safe-slot_typed now place class None slot further locals is_at known goes = goes now locals (within-self now) is_at

  pub safe-slots_typed : (vars : List VarRef) (slots : List Slot) (now : List Entry) (place : Place) (further : Locals → Code) (locals : Locals) → IsAt spec first now here locals → Each (IsKnownSlot spec now) slots → Goes spec first here now further → IsSafe spec first now (slots_typed spec place vars slots further locals)
  safe-slots_typed (var ∷ vars) (slot ∷ slots) now place further locals is_at known goes =
      safe-slot_typed now place var.class (variable_definition spec var) slot (slots_typed spec place vars slots further) locals is_at known.0 (λ later after w at_later.
      safe-slots_typed vars slots later place further after at_later (slots-on now later w slots known.1)
      (λ end others x. goes end others (within-then now later end w x)))
  safe-slots_typed _ _ now place further locals is_at known goes = goes now locals (within-self now) is_at
