-- Loops.
use Rattle.std.specs.Prelude.{ℕ, ℤ, pos, zero, ◌+ℤ◌, int_lt, Bool, true, false, if◌then◌else◌, List, [], ◌∷◌, ◌++◌, length, Option, Some, None}
use Rattle.vdm_kinds.specs.declared.place.Place.{Place}
use Rattle.vdm_kinds.specs.declared.name.Name.{Name}
use Rattle.vdm_kinds.specs.declared.run_fault.RunFault.TheVariants.{TypeFault}
use Rattle.vdm_values.specs.declared.slot.Slot.TheVariants.{Held}
use Rattle.abstract_syntax.specs.Values.{ValueTree, number, set_of, sequence as sequence_of, value_list}
use Rattle.abstract_syntax.specs.Expressions.{ExprTree, PatternTree}
use Rattle.abstract_syntax.specs.Statements.{StmtTree}
use Rattle.abstract_syntax.specs.Classes.{SpecTree}
use Rattle.plans.specs.Plans.{finish, part, become}
use Rattle.node_meaning.specs.Envs.{Locals, Here, at}
use Rattle.node_meaning.specs.Matching.{meets}
use Rattle.node_meaning.specs.Tasks.{stmt_in, round_in, while_true, counts, Counting, Flow, next, Code, fault, evaluated}
use Rattle.stmt_meaning.specs.Flows.{unless_ended, unless_ended_cut}

-- ---- `while`

-- the condition once more, and what follows it
abbrev pub while_round : Here → ExprTree → StmtTree → Place → Locals → Code
while_round here condition body place locals = become (round_in (at here locals) [] (while_true condition body place))

abbrev pub while_decided : Here → ExprTree → StmtTree → Place → Bool → Locals → Code
while_decided here condition body place true locals =
    part (stmt_in (at here locals) [] body) (unless_ended (while_round here condition body place))
while_decided here condition body place false locals = finish (next locals)

-- ---- `for` over numbers

-- whether the number stands behind the last one, in the direction of the steps
abbrev pub is_passed : Counting → Bool
is_passed counting = if int_lt (pos 0) counting.step then int_lt counting.last counting.at else int_lt counting.at counting.last

-- the rounds from this number on, each with the number as a local
abbrev pub rounds_from : Here → Counting → Locals → Code
rounds_from here counting locals =
    if is_passed counting then finish (next locals)
    else become (round_in (at here (locals ++ (counting.name, Held (number counting.at)) ∷ [])) [] (counts counting))

abbrev pub next_number : Counting → Counting
next_number counting = record counting { at = counting.at +ℤ counting.step }

-- behind the body of a round the next one follows, unless the body ended
abbrev pub counted : Here → Counting → Flow → Code
counted here counting = unless_ended_cut counting.count (rounds_from here (next_number counting))

-- what is done with a number; any other value is a fault at the statement
abbrev pub on_number : Place → (ℤ → Locals → Code) → ValueTree → Locals → Code
on_number place further (number n) locals = further n locals
on_number place further v locals = fault TypeFault place

-- the loop, once its numbers are known; steps of 0 lead nowhere
abbrev pub counts_by : Here → Name → StmtTree → Place → ℤ → ℤ → ℤ → Locals → Code
counts_by here name body place first last (pos zero) locals = fault TypeFault place
counts_by here name body place first last step locals =
    rounds_from here (record { name = name; count = length locals; at = first; step = step; last = last; body = body }) locals

-- the steps are of 1 where nothing else is said
abbrev pub counts_to : Here → Name → Option ExprTree → StmtTree → Place → ℤ → ℤ → Locals → Code
counts_to here name None body place first last locals = counts_by here name body place first last (pos 1) locals
counts_to here name (Some by) body place first last locals =
    evaluated here locals by place (on_number place (counts_by here name body place first last))

abbrev pub counts_on : Here → Name → ExprTree → Option ExprTree → StmtTree → Place → ℤ → Locals → Code
counts_on here name last by body place first locals =
    evaluated here locals last place (on_number place (counts_to here name by body place first))

-- ---- `for` over a set or a sequence

-- the body among what the pattern binds, and then the further elements
abbrev pub element_round : Here → ℕ → StmtTree → (Locals → Code) → Locals → Code
element_round here count body others locals = part (stmt_in (at here locals) [] body) (unless_ended_cut count others)

-- the elements in order; one that the pattern does not match is passed over
abbrev pub each_element : SpecTree → Here → Place → PatternTree → StmtTree → ℕ → List ValueTree → Locals → Code
each_element spec here place pattern body count [] locals = finish (next locals)
each_element spec here place pattern body count (v ∷ vs) locals =
    meets spec here place pattern (element_round here count body (each_element spec here place pattern body count vs))
    (each_element spec here place pattern body count vs) v locals

-- any other value is a fault at the statement
abbrev pub each_of_set : SpecTree → Here → Place → PatternTree → StmtTree → ValueTree → Locals → Code
each_of_set spec here place pattern body (set_of vs) locals = each_element spec here place pattern body (length locals) (value_list vs) locals
each_of_set spec here place pattern body v locals = fault TypeFault place

abbrev pub each_of_sequence : SpecTree → Here → Place → PatternTree → StmtTree → ValueTree → Locals → Code
each_of_sequence spec here place pattern body (sequence_of vs) locals =
    each_element spec here place pattern body (length locals) (value_list vs) locals
each_of_sequence spec here place pattern body v locals = fault TypeFault place
