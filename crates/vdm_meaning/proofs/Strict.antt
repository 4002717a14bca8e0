-- Nodes that are strict in their parts keep the rules, and make known values of known ones.
use Rattle.std.proofs.Common.{◌++◌, ◌∷◌, [], Err, IfOk, IfSome, List, None, Ok, Option, Result, Some, negsuc, suc, zero, ℕ, ℤ}
use Rattle.std.specs.Prelude.{pos}
use Rattle.std.specs.List.{AllByRecursion as Each}
use Rattle.vdm_kinds.specs.declared.name.Name.{Name}
use Rattle.vdm_kinds.specs.declared.place.Place.{Place}
use Rattle.vdm_kinds.specs.declared.run_fault.RunFault.{RunFault}
use Rattle.abstract_syntax.specs.Expressions.{ExprTrees, no_exprs, one_expr}
use Rattle.abstract_syntax.specs.Classes.{SpecTree}
use Rattle.abstract_syntax.specs.ValueSets.{set_value}
use Rattle.abstract_syntax.specs.Values.{ValueTree, sequence, token, tuple, value_list, value_trees}
use Rattle.value_operators.specs.Operators.{applied_one, applied_two}
use Rattle.value_operators.specs.Sequences.{at_position, subsequence}
use Rattle.value_operators.specs.Outcomes.{Outcome, sized}
use Rattle.value_parts.specs.Objects.{EachObject, EachObjectOnBoth}
use Rattle.value_parts.proofs.Everywhere.{each_append, each_at}
use Rattle.value_parts.proofs.Gathered.{gathered, listed, set_keeps, sized_keeps}
use Rattle.value_parts.proofs.MapObjects.{joined_keeps}
use Rattle.value_parts.proofs.SequenceObjects.{subsequence_keeps}
use Rattle.value_parts.proofs.OperatorObjects.{applied_one_keeps, applied_two_keeps}
use Rattle.run_journal.specs.declared.entry.Entry.{Entry}
use Rattle.vdm_legal.proofs.Known.{IsKnown, IsThere}
use Rattle.vdm_legal.proofs.Sanity.{within-self}
use Rattle.node_meaning.specs.Envs.{Here, Locals}
use Rattle.node_meaning.specs.Tasks.{Code, value_or_fault}
use Rattle.node_meaning.specs.Strict.{Strict, a_component, a_map, a_sequence, a_set, a_subsequence, a_token, a_tuple, collected, component, made_of, make, of_one, of_three, of_two, one_operand, pairs_in, strict, there, two_operands}
use Rattle.vdm_meaning.proofs.Rules.{IsSafe}
use Rattle.vdm_meaning.proofs.Parts.{EachKnown, GoesWith, IsAt, goes-later, may-fail, safe-evaluated, safe-value, values-on}

-- ---- what is made has no object but those of the values

module _ (P : ℕ → Name → Type 0) where
  pairs_keep : (vs : List ValueTree) → Each (EachObject P) vs → Each (EachObjectOnBoth P) (pairs_in vs)
  pairs_keep (k ∷ v ∷ vs) h = ((h.0, h.1.0), pairs_keep vs h.1.1)
  pairs_keep _ h = tt

  there_keeps : (o : Option ValueTree) → IfSome o (EachObject P) → IfOk (there o) (EachObject P)
  there_keeps (Some v) h = h
  there_keeps None h = tt

  at_position_keeps : (vs : List ValueTree) (n : ℤ) → Each (EachObject P) vs → IfSome (at_position vs n) (EachObject P)
  at_position_keeps vs (pos zero) h = tt
  at_position_keeps vs (pos (suc k)) h = each_at (EachObject P) vs k h
  at_position_keeps vs (negsuc k) h = tt

  component_keeps : (n : ℤ) (v : ValueTree) → EachObject P v → IfOk (component n v) (EachObject P)
  component_keeps n (tuple vs) h = there_keeps (at_position (value_list vs) n) (at_position_keeps (value_list vs) n (listed P vs h))
  component_keeps n v h = tt

  of_one_keeps : (f : ValueTree → Outcome) → ((a : ValueTree) → EachObject P a → IfOk (f a) (EachObject P))
      → (vs : List ValueTree) → Each (EachObject P) vs → IfOk (of_one f vs) (EachObject P)
  of_one_keeps f k (a ∷ []) h = k a h.0
  of_one_keeps f k _ h = tt

  of_two_keeps : (f : ValueTree → ValueTree → Outcome) → ((a b : ValueTree) → EachObject P a → EachObject P b → IfOk (f a b) (EachObject P))
      → (vs : List ValueTree) → Each (EachObject P) vs → IfOk (of_two f vs) (EachObject P)
  of_two_keeps f k (a ∷ b ∷ []) h = k a b h.0 h.1.0
  of_two_keeps f k _ h = tt

  -- of three the first alone has parts in what is made
  of_three_keeps : (f : ValueTree → ValueTree → ValueTree → Outcome) → ((a b c : ValueTree) → EachObject P a → IfOk (f a b c) (EachObject P))
      → (vs : List ValueTree) → Each (EachObject P) vs → IfOk (of_three f vs) (EachObject P)
  of_three_keeps f k (a ∷ b ∷ c ∷ []) h = k a b c h.0
  of_three_keeps f k _ h = tt

  pub made_keeps : (what : Strict) (vs : List ValueTree) → Each (EachObject P) vs → IfOk (made_of what vs) (EachObject P)
  made_keeps (one_operand operator) = of_one_keeps (applied_one operator) (applied_one_keeps P operator)
  made_keeps (two_operands operator) = of_two_keeps (applied_two operator) (applied_two_keeps P operator)
  made_keeps a_set = λ vs h. sized_keeps P (set_value vs) (set_keeps P vs h)
  made_keeps a_sequence = λ vs h. sized_keeps P (sequence (value_trees vs)) (gathered P vs h)
  made_keeps a_tuple = λ vs h. sized_keeps P (tuple (value_trees vs)) (gathered P vs h)
  made_keeps a_map = λ vs h. joined_keeps P (pairs_in vs) (pairs_keep vs h)
  made_keeps a_token = of_one_keeps (λ a. sized (token a)) (λ a h. sized_keeps P (token a) h)
  made_keeps a_subsequence = of_three_keeps subsequence (subsequence_keeps P)
  made_keeps (a_component n) = of_one_keeps (component n) (component_keeps n)

-- ---- plans

module _ (spec : SpecTree) where
  pub safe-value_or_fault : {first now : List Entry} {here : Here} {locals : Locals} (place : Place) (result : Result ValueTree RunFault) → IsAt spec first now here locals → IfOk result (IsKnown spec now) → IsSafe spec first now (value_or_fault place result locals)
  safe-value_or_fault place (Ok v) is_at known = safe-value spec v is_at known
  safe-value_or_fault place (Err kind) is_at known = may-fail spec kind place is_at.may

  pub safe-make : {first now : List Entry} {here : Here} {locals : Locals} (what : Strict) (place : Place) (vs : List ValueTree) → IsAt spec first now here locals → EachKnown spec now vs → IsSafe spec first now (make what place vs locals)
  safe-make {now = now} what place vs is_at known = safe-value_or_fault place (made_of what vs) is_at (made_keeps (IsThere spec now) what vs known)

  -- parts from left to right, and what is done with their values
  pub safe-collected : (first now : List Entry) (here : Here) (place : Place) (trees : ExprTrees) (done : List ValueTree) (further : List ValueTree → Locals → Code) (locals : Locals) → IsAt spec first now here locals → EachKnown spec now done → GoesWith (EachKnown spec) spec first here now further → IsSafe spec first now (collected here place trees done further locals)
  safe-collected first now here place no_exprs done further locals is_at known goes = goes now done locals (within-self now) is_at known
  safe-collected first now here place (one_expr tree trees) done further locals is_at known goes =
      safe-evaluated spec first now here locals tree place (λ v after. collected here place trees (done ++ v ∷ []) further after) is_at (λ later v after w at_later also.
      safe-collected first later here place trees (done ++ v ∷ []) further after at_later (each_append (IsKnown spec later) done (v ∷ []) (values-on now later w done known) (also, tt))
      (goes-later (EachKnown spec) spec first here now later further w goes))

  pub safe-strict : (first now : List Entry) (here : Here) (what : Strict) (place : Place) (trees : ExprTrees) (locals : Locals) → IsAt spec first now here locals → IsSafe spec first now (strict here what place trees locals)
  safe-strict first now here what place trees locals is_at =
      safe-collected first now here place trees [] (make what place) locals is_at tt (λ later vs after w at_later known. safe-make what place vs at_later known)
