-- Applications of functions and class values keep the rules; the locals of the node stay known.
use Rattle.std.proofs.Common.{◌++◌, ◌∷◌, [], Bool, List, None, Option, Some, false, true}
use Rattle.std.specs.List.{flat_map}
use Rattle.vdm_kinds.specs.declared.member.OpRef.{OpRef}
use Rattle.vdm_kinds.specs.declared.member.VarRef.{VarRef}
use Rattle.vdm_kinds.specs.declared.name.Name.{Name}
use Rattle.vdm_kinds.specs.declared.place.Place.{Place}
use Rattle.vdm_kinds.specs.declared.run_fault.RunFault.TheVariants.{NoMatch, Post, Pre, TypeFault, Undefined}
use Rattle.vdm_values.specs.declared.slot.Slot.TheVariants.{Held}
use Rattle.abstract_syntax.specs.Classes.{Body, FunctionTree, SpecTree, ValueDefTree, written}
use Rattle.abstract_syntax.specs.Expressions.{ExprTree, ExprTrees}
use Rattle.abstract_syntax.specs.Values.{ValueTree}
use Rattle.pattern_meaning.specs.Brackets.{given_in}
use Rattle.run_journal.specs.declared.entry.Entry.{Entry}
use Rattle.vdm_legal.proofs.Known.{IsKnown}
use Rattle.node_meaning.specs.Envs.{Here, Locals, Nest, inside_class, result_name}
use Rattle.node_meaning.specs.Functions.{Applying, application_of, applied, applied_to, binds, begun, body_here, body_of, bound, class_value, class_value_of, post_decided, post_of, pre_decided, pre_of, result_given, value_given}
use Rattle.node_meaning.specs.Matching.{exprs_of, first_match}
use Rattle.node_meaning.specs.Names.{function_definition, value_definition}
use Rattle.node_meaning.specs.Tasks.{fault}
use Rattle.vdm_meaning.proofs.Rules.{AreKnown, IsSafe}
use Rattle.vdm_meaning.proofs.Parts.{EachKnown, IsAt, at-among, at-inside, at-more, locals-on, may-fail, safe-evaluated, safe-value, values-on, value-on}
use Rattle.vdm_meaning.proofs.Strict.{safe-collected}
use Rattle.vdm_meaning.proofs.Matching.{match-known, safe-bound_or, safe-decided}
use Rattle.vdm_meaning.proofs.Fitting.{safe-arguments_typed, safe-fitted_maybe, safe-typed}

module _ (spec : SpecTree) (first : List Entry) where
  module _ (a : Applying) where
    -- ---- behind the body

    safe-post_decided : (now : List Entry) (v : ValueTree) (b : Bool) (inner : Locals) → IsAt spec first now (body_here a) inner → AreKnown spec now a.outer → IsKnown spec now v → IsSafe spec first now (post_decided a v b inner)
    safe-post_decided now v true inner is_at outer known = safe-value spec v (at-among is_at a.outer outer) known
    safe-post_decided now v false inner is_at outer known = may-fail spec Post a.place is_at.may

    safe-post_of : (now : List Entry) (post : Option ExprTree) (v : ValueTree) (inner : Locals) → IsAt spec first now (body_here a) inner → AreKnown spec now a.outer → IsKnown spec now v → IsSafe spec first now (post_of a post v inner)
    safe-post_of now None v inner is_at outer known = safe-value spec v (at-among is_at a.outer outer) known
    safe-post_of now (Some post) v inner is_at outer known =
        safe-decided spec first now (body_here a) (inner ++ (result_name, Held v) ∷ []) post a.place (post_decided a v)
        (at-more is_at result_name (Held v) known)
        (λ later b after w at_later any.
        safe-post_decided later v b after at_later (locals-on now later w a.outer outer) (value-on now later w v known))

    safe-result_given : (now : List Entry) (v : ValueTree) (inner : Locals) → IsAt spec first now (body_here a) inner → AreKnown spec now a.outer → IsKnown spec now v → IsSafe spec first now (result_given spec a v inner)
    safe-result_given now v inner is_at outer known =
        safe-typed spec first (body_here a) now inner a.nest (Some a.class) a.function.result_type a.place (post_of a a.function.post) v is_at known (λ later result after w at_later also.
        safe-post_of later a.function.post result after at_later (locals-on now later w a.outer outer) also)

    -- ---- before it

    safe-body_of : (now : List Entry) (body : Body ExprTree) (inner : Locals) → IsAt spec first now (body_here a) inner → AreKnown spec now a.outer → IsSafe spec first now (body_of spec a body inner)
    safe-body_of now (written body) inner is_at outer =
        safe-evaluated spec first now (body_here a) inner body a.place (result_given spec a) is_at (λ later v after w at_later known.
        safe-result_given later v after at_later (locals-on now later w a.outer outer) known)
    safe-body_of now _ inner is_at outer = may-fail spec Undefined a.place is_at.may

    safe-pre_decided : (now : List Entry) (b : Bool) (inner : Locals) → IsAt spec first now (body_here a) inner → AreKnown spec now a.outer → IsSafe spec first now (pre_decided spec a b inner)
    safe-pre_decided now true inner is_at outer = safe-body_of now a.function.body inner is_at outer
    safe-pre_decided now false inner is_at outer = may-fail spec Pre a.place is_at.may

    safe-pre_of : (now : List Entry) (pre : Option ExprTree) (inner : Locals) → IsAt spec first now (body_here a) inner → AreKnown spec now a.outer → IsSafe spec first now (pre_of spec a pre inner)
    safe-pre_of now None inner is_at outer = safe-body_of now a.function.body inner is_at outer
    safe-pre_of now (Some pre) inner is_at outer =
        safe-decided spec first now (body_here a) inner pre a.place (pre_decided spec a) is_at (λ later b after w at_later any.
        safe-pre_decided later b after at_later (locals-on now later w a.outer outer))

    safe-bound : (now : List Entry) (vs given : List ValueTree) (inner : Locals) → IsAt spec first now (body_here a) inner → AreKnown spec now a.outer → EachKnown spec now vs → IsSafe spec first now (bound spec a vs given inner)
    safe-bound now vs given inner is_at outer known =
        safe-bound_or spec first now (body_here a) a.place (first_match spec (Some a.class) a.function.patterns given vs)
        (pre_of spec a a.function.pre) (λ missed. fault NoMatch a.place) inner is_at
        (match-known spec now (Some a.class) a.function.patterns given vs known)
        (λ later after w at_later. safe-pre_of later a.function.pre after at_later (locals-on now later w a.outer outer))
        (λ later after w at_later. may-fail spec NoMatch a.place at_later.may)

    safe-binds : (now : List Entry) (vs : List ValueTree) → IsAt spec first now (body_here a) [] → AreKnown spec now a.outer → EachKnown spec now vs → IsSafe spec first now (binds spec a vs)
    safe-binds now vs is_at outer known =
        safe-collected spec first now (body_here a) a.place (exprs_of (flat_map given_in a.function.patterns)) [] (bound spec a vs) [] is_at tt (λ later given after w at_later also.
        safe-bound later vs given after at_later (locals-on now later w a.outer outer) (values-on now later w vs known))

  safe-applied_to : (now : List Entry) (here : Here) (ref : OpRef) (found : Option FunctionTree) (place : Place) (nest : Nest) (arguments : ExprTrees) (vs : List ValueTree) (locals : Locals) → IsAt spec first now here locals → EachKnown spec now vs → IsSafe spec first now (applied_to spec ref found place nest arguments vs locals)
  safe-applied_to now here ref None place nest arguments vs locals is_at known = may-fail spec TypeFault place is_at.may
  safe-applied_to now here ref (Some f) place nest arguments vs locals is_at known =
      safe-arguments_typed spec first here f.parameters arguments vs now nest (Some ref.class) (begun spec ref.class f place nest vs) locals is_at known (λ later after w at_later.
      safe-binds (record { class = ref.class; function = f; place = place; nest = nest; outer = after }) later vs (at-inside ref.class nest at_later) at_later.may.known (values-on now later w vs known))

  pub safe-application_of : (now : List Entry) (here : Here) (ref : OpRef) (arguments : ExprTrees) (place : Place) (locals : Locals) → IsAt spec first now here locals → IsSafe spec first now (application_of spec here ref arguments place locals)
  safe-application_of now here ref arguments place locals is_at =
      safe-collected spec first now here place arguments [] (applied spec ref place here.nest arguments) locals is_at tt (λ later vs after w at_later known.
      safe-applied_to later here ref (function_definition spec ref) place here.nest arguments vs after at_later known)

  -- ---- class values

  safe-class_value_of : (now : List Entry) (here : Here) (class : Name) (found : Option ValueDefTree) (place : Place) (nest : Nest) (locals : Locals) → IsAt spec first now here locals → IsSafe spec first now (class_value_of spec class found place nest locals)
  safe-class_value_of now here class None place nest locals is_at = may-fail spec Undefined place is_at.may
  safe-class_value_of now here class (Some d) place nest locals is_at =
      safe-evaluated spec first now (inside_class class nest) [] d.value place (value_given spec class d.declared place nest locals) (at-inside class nest is_at) (λ later v after w at_later known.
      safe-fitted_maybe spec first later (inside_class class nest) locals (at-among at_later locals (locals-on now later w locals is_at.may.known)) nest (Some class) place v known d.declared)

  pub safe-class_value : (now : List Entry) (here : Here) (ref : VarRef) (place : Place) (nest : Nest) (locals : Locals) → IsAt spec first now here locals → IsSafe spec first now (class_value spec ref place nest locals)
  safe-class_value now here ref place nest locals is_at = safe-class_value_of now here ref.class (value_definition spec ref) place nest locals is_at
