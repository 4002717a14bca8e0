-- Nodes that evaluate all their parts, from left to right, and give what one function makes of the values.
use Rattle.std.specs.Prelude.{ℤ, List, [], ◌∷◌, ◌++◌, Option, Some, None, Ok, Err}
use Rattle.vdm_kinds.specs.declared.operator.Operator.{Operator}
use Rattle.vdm_kinds.specs.declared.place.Place.{Place}
use Rattle.vdm_kinds.specs.declared.run_fault.RunFault.TheVariants.{TypeFault}
use Rattle.abstract_syntax.specs.Expressions.{ExprTrees, no_exprs, one_expr, MapletTrees, no_maplets, one_maplet}
use Rattle.abstract_syntax.specs.Values.{ValueTree, token, tuple, sequence, value_trees, value_list}
use Rattle.abstract_syntax.specs.ValueSets.{Entry, set_value}
use Rattle.value_operators.specs.Maps.{joined as map_joined}
use Rattle.value_operators.specs.Operators.{applied_one, applied_two}
use Rattle.value_operators.specs.Outcomes.{Outcome, sized}
use Rattle.value_operators.specs.Sequences.{at_position, subsequence}
use Rattle.node_meaning.specs.Envs.{Locals, Here}
use Rattle.node_meaning.specs.Tasks.{Code, evaluated, value_or_fault}

-- ---- what is made of the values

pub data Strict : Type 0 where
  -- an operator before its operand
  one_operand : Operator → Strict
  -- an operator between two, a range, a look-up
  two_operands : Operator → Strict
  -- `{a, b}`
  a_set : Strict
  -- `[a, b]`
  a_sequence : Strict
  -- `mk_(a, b)`
  a_tuple : Strict
  -- `{a |-> b, c |-> d}`: keys and values in turn
  a_map : Strict
  -- `mk_token(a)`
  a_token : Strict
  -- `q(i, ..., j)`
  a_subsequence : Strict
  -- `t.#1`
  a_component : ℤ → Strict

-- keys and values in turn as pairs
abbrev pub pairs_in : List ValueTree → List Entry
pairs_in (k ∷ v ∷ vs) = (k, v) ∷ pairs_in vs
pairs_in _ = []

abbrev pub there : Option ValueTree → Outcome
there (Some v) = Ok v
there None = Err TypeFault

-- past the length of the tuple there is nothing, and of what is no tuple neither
abbrev pub component : ℤ → ValueTree → Outcome
component n (tuple vs) = there (at_position (value_list vs) n)
component n v = Err TypeFault

-- what is made of so many values; of another number nothing is
abbrev pub of_one : (ValueTree → Outcome) → List ValueTree → Outcome
of_one f (a ∷ []) = f a
of_one f _ = Err TypeFault

abbrev pub of_two : (ValueTree → ValueTree → Outcome) → List ValueTree → Outcome
of_two f (a ∷ b ∷ []) = f a b
of_two f _ = Err TypeFault

abbrev pub of_three : (ValueTree → ValueTree → ValueTree → Outcome) → List ValueTree → Outcome
of_three f (a ∷ b ∷ c ∷ []) = f a b c
of_three f _ = Err TypeFault

abbrev pub made_of : Strict → List ValueTree → Outcome
made_of (one_operand operator) = of_one (applied_one operator)
made_of (two_operands operator) = of_two (applied_two operator)
made_of a_set = λ vs. sized (set_value vs)
made_of a_sequence = λ vs. sized (sequence (value_trees vs))
made_of a_tuple = λ vs. sized (tuple (value_trees vs))
made_of a_map = λ vs. map_joined (pairs_in vs)
made_of a_token = of_one (λ a. sized (token a))
made_of a_subsequence = of_three subsequence
made_of (a_component n) = of_one (component n)

-- ---- parts from left to right

-- the values of expressions behind those that came, and what is done with all of them
abbrev pub collected : Here → Place → ExprTrees → List ValueTree → (List ValueTree → Locals → Code) → Locals → Code
collected here place no_exprs done further locals = further done locals
collected here place (one_expr tree trees) done further locals =
    evaluated here locals tree place (λ v after. collected here place trees (done ++ v ∷ []) further after)

-- ... with one value more
abbrev pub with_others : Here → Place → ExprTrees → List ValueTree → (List ValueTree → Locals → Code) → ValueTree → Locals → Code
with_others here place trees done further v locals = collected here place trees (done ++ v ∷ []) further locals

-- the value that is made of all, or the fault at the node's place
abbrev pub make : Strict → Place → List ValueTree → Locals → Code
make what place vs locals = value_or_fault place (made_of what vs) locals

-- a node that is strict in these parts
abbrev pub strict : Here → Strict → Place → ExprTrees → Locals → Code
strict here what place trees locals = collected here place trees [] (make what place) locals

-- keys and values in text order
abbrev pub maplet_exprs : MapletTrees → ExprTrees
maplet_exprs no_maplets = no_exprs
maplet_exprs (one_maplet key held maplets) = one_expr key (one_expr held (maplet_exprs maplets))
