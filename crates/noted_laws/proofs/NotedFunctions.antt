-- Applications of functions and class values ask, in a thread, questions that entries answer.
use Rattle.std.proofs.Common.{◌∷◌, ◌++◌, [], true, false, List, Option, Some, None}
use Rattle.std.specs.List.{flat_map}
use Rattle.vdm_kinds.specs.declared.member.OpRef.{OpRef}
use Rattle.vdm_kinds.specs.declared.member.VarRef.{VarRef}
use Rattle.vdm_kinds.specs.declared.name.Name.{Name}
use Rattle.vdm_kinds.specs.declared.place.Place.{Place}
use Rattle.vdm_kinds.specs.declared.run_fault.RunFault.TheVariants.{NoMatch}
use Rattle.vdm_values.specs.declared.slot.Slot.TheVariants.{Held}
use Rattle.abstract_syntax.specs.Values.{ValueTree}
use Rattle.abstract_syntax.specs.Expressions.{ExprTree, ExprTrees}
use Rattle.abstract_syntax.specs.Classes.{Body, written, FunctionTree, ValueDefTree, SpecTree}
use Rattle.pattern_meaning.specs.Brackets.{given_in}
use Rattle.node_meaning.specs.Envs.{Here, Nest, inside_class, result_name}
use Rattle.node_meaning.specs.Functions.{Applying, application_of, applied, applied_to, begun, binds, body_here, body_of, bound, class_value, class_value_of, post_decided, post_of, pre_decided, pre_of, result_given, value_given}
use Rattle.node_meaning.specs.Matching.{exprs_of, first_match}
use Rattle.node_meaning.specs.Names.{function_definition, value_definition}
use Rattle.node_meaning.specs.Tasks.{fault}
use Rattle.noted_laws.proofs.Noting.{Notes, Onward, OnwardWith, notes-bound_or, notes-collected, notes-decided, notes-evaluated, notes-arguments_typed, notes-fitted_maybe, notes-typed}

module _ (spec : SpecTree) where
  module _ (a : Applying) where
    -- ---- behind the body

    notes-post_decided : (v : ValueTree) → OnwardWith (post_decided a v)
    notes-post_decided v true inner = tt
    notes-post_decided v false inner = tt

    notes-post_of : (post : Option ExprTree) → OnwardWith (post_of a post)
    notes-post_of None v inner = tt
    notes-post_of (Some post) v inner = notes-decided (body_here a) (inner ++ (result_name, Held v) ∷ []) post a.place (post_decided a v) (notes-post_decided v)

    notes-result_given : OnwardWith (result_given spec a)
    notes-result_given =
        notes-typed spec a.nest (Some a.class) a.function.result_type a.place (post_of a a.function.post) (notes-post_of a.function.post)

    -- ---- before it

    notes-body_of : (body : Body ExprTree) → Onward (body_of spec a body)
    notes-body_of (written body) inner = notes-evaluated (body_here a) inner body a.place (result_given spec a) notes-result_given
    notes-body_of _ inner = tt

    notes-pre_decided : OnwardWith (pre_decided spec a)
    notes-pre_decided true inner = notes-body_of a.function.body inner
    notes-pre_decided false inner = tt

    notes-pre_of : (pre : Option ExprTree) → Onward (pre_of spec a pre)
    notes-pre_of None inner = notes-body_of a.function.body inner
    notes-pre_of (Some pre) inner = notes-decided (body_here a) inner pre a.place (pre_decided spec a) notes-pre_decided

    notes-bound : (vs : List ValueTree) → OnwardWith (bound spec a vs)
    notes-bound vs given =
        notes-bound_or a.place (first_match spec (Some a.class) a.function.patterns given vs) (pre_of spec a a.function.pre) (λ missed. fault NoMatch a.place)
        (notes-pre_of a.function.pre) (λ missed. tt)

    notes-binds : (vs : List ValueTree) → Notes (binds spec a vs)
    notes-binds vs = notes-collected (body_here a) a.place (exprs_of (flat_map given_in a.function.patterns)) [] (bound spec a vs) (notes-bound vs) []

  notes-applied_to : (ref : OpRef) (found : Option FunctionTree) (place : Place) (nest : Nest) (arguments : ExprTrees) → OnwardWith (applied_to spec ref found place nest arguments)
  notes-applied_to ref None place nest arguments vs locals = tt
  notes-applied_to ref (Some f) place nest arguments vs locals =
      notes-arguments_typed spec nest (Some ref.class) f.parameters arguments vs (begun spec ref.class f place nest vs)
      (λ after. notes-binds (record { class = ref.class; function = f; place = place; nest = nest; outer = after }) vs) locals

  pub notes-application_of : (here : Here) (ref : OpRef) (arguments : ExprTrees) (place : Place) → Onward (application_of spec here ref arguments place)
  notes-application_of here ref arguments place =
      notes-collected here place arguments [] (applied spec ref place here.nest arguments)
      (notes-applied_to ref (function_definition spec ref) place here.nest arguments)

  -- ---- class values

  notes-class_value_of : (class : Name) (found : Option ValueDefTree) (place : Place) (nest : Nest) → Onward (class_value_of spec class found place nest)
  notes-class_value_of class None place nest locals = tt
  notes-class_value_of class (Some d) place nest locals =
      notes-evaluated (inside_class class nest) [] d.value place (value_given spec class d.declared place nest locals)
      (λ v inner. notes-fitted_maybe spec nest (Some class) d.declared place v locals)

  pub notes-class_value : (ref : VarRef) (place : Place) (nest : Nest) → Onward (class_value spec ref place nest)
  notes-class_value ref place nest = notes-class_value_of ref.class (value_definition spec ref) place nest
