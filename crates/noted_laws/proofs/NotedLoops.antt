-- Loops: a thread asks for them by questions that entries answer.
use Rattle.std.proofs.Common.{◌∷◌, ◌++◌, [], Option, Some, None, List, false, length, true, zero, ℕ, ℤ}
use Rattle.std.specs.Prelude.{pos}
use Rattle.vdm_kinds.specs.declared.name.Name.{Name}
use Rattle.vdm_kinds.specs.declared.place.Place.{Place}
use Rattle.vdm_values.specs.declared.slot.Slot.TheVariants.{Held as Holds}
use Rattle.abstract_syntax.specs.Values.{ValueTree, number, set_of, sequence as sequence_of, value_list}
use Rattle.abstract_syntax.specs.Expressions.{ExprTree, PatternTree}
use Rattle.abstract_syntax.specs.Statements.{StmtTree}
use Rattle.abstract_syntax.specs.Classes.{SpecTree}
use Rattle.plans.specs.Plans.{finish, become}
use Rattle.stmt_meaning.specs.Loops.{while_round, while_decided, is_passed, rounds_from, next_number, counted, on_number, counts_by, counts_to, counts_on, element_round, each_element, each_of_set, each_of_sequence}
use Rattle.node_meaning.specs.Envs.{Locals, Here, at}
use Rattle.node_meaning.specs.Tasks.{round_in, counts, Counting, Flow, next, Code}
use Rattle.noted_laws.proofs.Noting.{Notes, Onward, OnwardWith, notes-evaluated, notes-if, notes-meets}
use Rattle.noted_laws.proofs.NotedFlows.{notes-unless_ended, notes-unless_ended_cut}

module _ (here : Here) where
  pub notes-while_decided : (condition : ExprTree) (body : StmtTree) (place : Place) → OnwardWith (while_decided here condition body place)
  notes-while_decided condition body place true locals = notes-unless_ended (while_round here condition body place) (λ after. tt)
  notes-while_decided condition body place false locals = tt

  notes-rounds_from : (counting : Counting) → Onward (rounds_from here counting)
  notes-rounds_from counting locals =
      notes-if (is_passed counting) (finish (next locals)) (become (round_in (at here (locals ++ (counting.name, Holds (number counting.at)) ∷ [])) [] (counts counting))) tt tt

  pub notes-counted : (counting : Counting) (flow : Flow) → Notes (counted here counting flow)
  notes-counted counting = notes-unless_ended_cut (rounds_from here (next_number counting)) (notes-rounds_from (next_number counting)) counting.count

  pub notes-on_number : (place : Place) (further : ℤ → Locals → Code) → OnwardWith further → OnwardWith (on_number place further)
  notes-on_number place further h (number z) locals = h z locals
  notes-on_number place further h v locals = tt

  notes-counts_by : (name : Name) (body : StmtTree) (place : Place) (from last : ℤ) → OnwardWith (counts_by here name body place from last)
  notes-counts_by name body place from last (pos zero) locals = tt
  notes-counts_by name body place from last step locals =
      notes-rounds_from (record { name = name; count = length locals; at = from; step = step; last = last; body = body }) locals

  notes-counts_to : (name : Name) (by : Option ExprTree) (body : StmtTree) (place : Place) (from : ℤ) → OnwardWith (counts_to here name by body place from)
  notes-counts_to name None body place from last locals = notes-counts_by name body place from last (pos 1) locals
  notes-counts_to name (Some by) body place from last locals =
      notes-evaluated here locals by place (on_number place (counts_by here name body place from last))
      (notes-on_number place (counts_by here name body place from last) (notes-counts_by name body place from last))

  pub notes-counts_on : (name : Name) (last : ExprTree) (by : Option ExprTree) (body : StmtTree) (place : Place) → OnwardWith (counts_on here name last by body place)
  notes-counts_on name last by body place from locals =
      notes-evaluated here locals last place (on_number place (counts_to here name by body place from))
      (notes-on_number place (counts_to here name by body place from) (notes-counts_to name by body place from))

-- ---- the elements of a set or a sequence

module _ (spec : SpecTree) (here : Here) (place : Place) (pattern : PatternTree) (body : StmtTree) where
  notes-each_element : (count : ℕ) (vs : List ValueTree) → Onward (each_element spec here place pattern body count vs)
  notes-each_element count [] locals = tt
  notes-each_element count (v ∷ vs) locals =
      let others = each_element spec here place pattern body count vs in
      notes-meets spec here place pattern (element_round here count body others) others
      (λ after. notes-unless_ended_cut others (notes-each_element count vs) count) (notes-each_element count vs) v locals

  pub notes-each_of_set : OnwardWith (each_of_set spec here place pattern body)
  notes-each_of_set (set_of vs) locals = notes-each_element (length locals) (value_list vs) locals
  notes-each_of_set v locals = tt

  pub notes-each_of_sequence : OnwardWith (each_of_sequence spec here place pattern body)
  notes-each_of_sequence (sequence_of vs) locals = notes-each_element (length locals) (value_list vs) locals
  notes-each_of_sequence v locals = tt
