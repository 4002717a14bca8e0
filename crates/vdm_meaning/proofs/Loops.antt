-- Loops keep the rules of journals, in each round.
use Rattle.std.proofs.Common.{◌++◌, ◌∷◌, [], Bool, List, None, Option, Some, false, length, true, zero, ℕ, ℤ}
use Rattle.std.specs.Prelude.{pos}
use Rattle.vdm_kinds.specs.declared.name.Name.{Name}
use Rattle.vdm_kinds.specs.declared.place.Place.{Place}
use Rattle.vdm_kinds.specs.declared.run_fault.RunFault.TheVariants.{TypeFault}
use Rattle.vdm_values.specs.declared.slot.Slot.TheVariants.{Held}
use Rattle.abstract_syntax.specs.Classes.{SpecTree}
use Rattle.abstract_syntax.specs.Values.{ValueTree, number, sequence as sequence_of, set_of, value_list}
use Rattle.abstract_syntax.specs.Expressions.{ExprTree, PatternTree}
use Rattle.abstract_syntax.specs.Statements.{StmtTree}
use Rattle.value_parts.proofs.Gathered.{listed}
use Rattle.run_journal.specs.declared.entry.Entry.{Entry}
use Rattle.plans.specs.Plans.{become, finish}
use Rattle.vdm_legal.proofs.Known.{IsKnown, IsThere}
use Rattle.vdm_legal.proofs.Sanity.{within-then}
use Rattle.node_meaning.specs.Envs.{Here, Locals, at}
use Rattle.node_meaning.specs.Tasks.{Code, Counting, Flow, counts, evaluated, next, round_in, while_true}
use Rattle.stmt_meaning.specs.Loops.{counted, counts_by, counts_on, counts_to, each_element, each_of_sequence, each_of_set, element_round, is_passed, next_number, on_number, rounds_from, while_decided, while_round}
use Rattle.vdm_meaning.proofs.Rules.{GivesKnown, IsSafe}
use Rattle.vdm_meaning.proofs.Parts.{EachKnown, Goes, IsAt, at-later, at-more, may-fail, safe-evaluated, safe-finish, safe-if, safe-become_task, values-on}
use Rattle.vdm_meaning.proofs.Matching.{safe-meets}
use Rattle.vdm_meaning.proofs.Flows.{safe-unless_ended, safe-unless_ended_cut}

-- ---- rounds

module _ (spec : SpecTree) (first : List Entry) (here : Here) where
  pub safe-while_round : (now : List Entry) (condition : ExprTree) (body : StmtTree) (place : Place) (locals : Locals) → IsAt spec first now here locals → IsSafe spec first now (while_round here condition body place locals)
  safe-while_round now condition body place locals is_at = safe-become_task spec (round_in (at here locals) [] (while_true condition body place)) is_at is_at.may

  pub safe-while_decided : (now : List Entry) (condition : ExprTree) (body : StmtTree) (place : Place) (b : Bool) (locals : Locals) → IsAt spec first now here locals → IsSafe spec first now (while_decided here condition body place b locals)
  safe-while_decided now condition body place true locals is_at = (
    is_at.may,
    λ later flow w leaves.
        safe-unless_ended spec first here later locals (while_round here condition body place) flow (at-later is_at w leaves.0) leaves.1
        (λ end after x at_end. safe-while_round end condition body place after at_end),
  )
  safe-while_decided now condition body place false locals is_at = safe-finish spec (next locals) is_at is_at.may.known

  safe-rounds : (now : List Entry) (counting : Counting) (locals : Locals) → IsAt spec first now here locals → IsSafe spec first now (rounds_from here counting locals)
  safe-rounds now counting locals is_at =
      let inner : Locals = locals ++ (counting.name, Held (number counting.at)) ∷ [] in
      let at_inner = at-more is_at counting.name (Held (number counting.at)) tt in
      safe-if spec first now (is_passed counting) (finish (next locals)) (become (round_in (at here inner) [] (counts counting)))
      (safe-finish spec (next locals) is_at is_at.may.known)
      (safe-become_task spec (round_in (at here inner) [] (counts counting)) at_inner at_inner.may)

  pub safe-counted : (now : List Entry) (locals : Locals) (counting : Counting) (flow : Flow) → IsAt spec first now here locals → GivesKnown spec now flow → IsSafe spec first now (counted here counting flow)
  safe-counted now locals counting flow is_at known =
      safe-unless_ended_cut spec first here now locals counting.count (rounds_from here (next_number counting)) flow is_at known (λ later after w at_later.
      safe-rounds later (next_number counting) after at_later)

-- ---- the numbers of a loop

module _ (spec : SpecTree) (first : List Entry) (here : Here) (place : Place) where
  safe-on_number : {now : List Entry} {locals : Locals} (further : ℤ → Locals → Code) (v : ValueTree) → IsAt spec first now here locals → ((z : ℤ) → IsSafe spec first now (further z locals)) → IsSafe spec first now (on_number place further v locals)
  safe-on_number further (number z) is_at goes = goes z
  safe-on_number further v is_at goes = may-fail spec TypeFault place is_at.may

  -- an expression whose value has to be a number
  pub safe-numbered : (now : List Entry) (locals : Locals) (tree : ExprTree) (further : ℤ → Locals → Code) → IsAt spec first now here locals → ((later : List Entry) (z : ℤ) (after : Locals) → IsAt spec first later here after → IsSafe spec first later (further z after)) → IsSafe spec first now (evaluated here locals tree place (on_number place further))
  safe-numbered now locals tree further is_at goes =
      safe-evaluated spec first now here locals tree place (on_number place further) is_at (λ later v after w at_later known.
      safe-on_number further v at_later (λ z. goes later z after at_later))

  module _ (name : Name) (body : StmtTree) where
    safe-counts_by : (now : List Entry) (from last step : ℤ) (locals : Locals) → IsAt spec first now here locals → IsSafe spec first now (counts_by here name body place from last step locals)
    safe-counts_by now from last (pos zero) locals is_at = may-fail spec TypeFault place is_at.may
    safe-counts_by now from last step locals is_at =
        safe-rounds spec first here now (record { name = name; count = length locals; at = from; step = step; last = last; body = body }) locals is_at

    safe-counts_to : (now : List Entry) (by : Option ExprTree) (from last : ℤ) (locals : Locals) → IsAt spec first now here locals → IsSafe spec first now (counts_to here name by body place from last locals)
    safe-counts_to now None from last locals is_at = safe-counts_by now from last (pos 1) locals is_at
    safe-counts_to now (Some by) from last locals is_at =
        safe-numbered now locals by (counts_by here name body place from last) is_at (λ later step after at_later.
        safe-counts_by later from last step after at_later)

    pub safe-counts_on : (now : List Entry) (last : ExprTree) (by : Option ExprTree) (from : ℤ) (locals : Locals) → IsAt spec first now here locals → IsSafe spec first now (counts_on here name last by body place from locals)
    safe-counts_on now last by from locals is_at =
        safe-numbered now locals last (counts_to here name by body place from) is_at (λ later z after at_later.
        safe-counts_to later by from z after at_later)

-- ---- the elements of a set or a sequence

module _ (spec : SpecTree) (first : List Entry) (here : Here) (place : Place) (pattern : PatternTree) (body : StmtTree) where
  safe-element_round : (now : List Entry) (count : ℕ) (others : Locals → Code) (locals : Locals) → IsAt spec first now here locals → Goes spec first here now others → IsSafe spec first now (element_round here count body others locals)
  safe-element_round now count others locals is_at goes = (
    is_at.may,
    λ later flow w leaves.
        safe-unless_ended_cut spec first here later locals count others flow (at-later is_at w leaves.0) leaves.1
        (λ end after x at_end. goes end after (within-then now later end w x) at_end),
  )

  safe-each_element : (vs : List ValueTree) (now : List Entry) (count : ℕ) (locals : Locals) → IsAt spec first now here locals → EachKnown spec now vs → IsSafe spec first now (each_element spec here place pattern body count vs locals)
  safe-each_element [] now count locals is_at known = safe-finish spec (next locals) is_at is_at.may.known
  safe-each_element (v ∷ vs) now count locals is_at known =
      let others = each_element spec here place pattern body count vs in
      safe-meets spec first now here place pattern (element_round here count body others) others v locals is_at known.0
      (λ later after w at_later.
      safe-element_round later count others after at_later (λ end inner x at_end.
      safe-each_element vs end count inner at_end (values-on now end (within-then now later end w x) vs known.1)))
      (λ later after w at_later. safe-each_element vs later count after at_later (values-on now later w vs known.1))

  pub safe-each_of_set : (now : List Entry) (v : ValueTree) (locals : Locals) → IsAt spec first now here locals → IsKnown spec now v → IsSafe spec first now (each_of_set spec here place pattern body v locals)
  safe-each_of_set now (set_of vs) locals is_at known = safe-each_element (value_list vs) now (length locals) locals is_at (listed (IsThere spec now) vs known)
  safe-each_of_set now v locals is_at known = may-fail spec TypeFault place is_at.may

  pub safe-each_of_sequence : (now : List Entry) (v : ValueTree) (locals : Locals) → IsAt spec first now here locals → IsKnown spec now v → IsSafe spec first now (each_of_sequence spec here place pattern body v locals)
  safe-each_of_sequence now (sequence_of vs) locals is_at known = safe-each_element (value_list vs) now (length locals) locals is_at (listed (IsThere spec now) vs known)
  safe-each_of_sequence now v locals is_at known = may-fail spec TypeFault place is_at.may
