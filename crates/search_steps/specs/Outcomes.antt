-- What is done with the choice at which a search has come.
use Rattle.std.specs.Prelude.{ℕ, zero, suc, Option, Some, None}
use Rattle.vdm_kinds.specs.declared.place.Place.{Place}
use Rattle.vdm_kinds.specs.declared.run_fault.RunFault.TheVariants.{NotUnique}
use Rattle.abstract_syntax.specs.Classes.{SpecTree}
use Rattle.abstract_syntax.specs.Values.{ValueTree}
use Rattle.node_meaning.specs.Choosing.{condition_of, tried, exhausted}
use Rattle.node_meaning.specs.Envs.{Locals}
use Rattle.node_meaning.specs.Tasks.{Code, fault, value}
use Rattle.eval_data.specs.declared.search.Search.{Search}
use Rattle.eval_data.specs.Parts.{chooser_of, search_of, first_choice}
use Rattle.eval_data.specs.Steps.{choose_behind}
use Rattle.bind_steps.specs.declared.attempt.Attempt.{Attempt}
use Rattle.bind_steps.specs.declared.attempt.Attempt.TheVariants.{Matched as Matches, Missed, Fault as Faulty}
use Rattle.search_steps.specs.declared.found.Found.{Found}
use Rattle.search_steps.specs.declared.found.Found.TheVariants.{Exhausted, Matched, Fault}

-- the search among the choices that are left, with the values that it collected
abbrev pub choices_from : SpecTree → Search → Locals → Code
choices_from spec search = choose_behind spec search 0 search.done.items

-- no choice is left, or the patterns match the first choice with a fault or without
abbrev pub found_code : SpecTree → Search → Found → Locals → Code
found_code spec search Exhausted locals = exhausted (chooser_of search.chooser) search.place search.done.items locals
found_code spec search Matched locals =
    tried (search_of search) (condition_of (chooser_of search.chooser)) (first_choice search) search.done.items
    (choose_behind spec search 1) locals
found_code spec search (Fault kind) locals = fault kind search.place

-- ... or the first choice is passed over
abbrev pub turn_code : SpecTree → Search → Option Found → Locals → Code
turn_code spec search (Some found) locals = found_code spec search found locals
turn_code spec search None locals = choose_behind spec search 1 search.done.items locals

-- what a match comes to
abbrev pub found_of : Attempt → Option Found
found_of Matches = Some Matched
found_of Missed = None
found_of (Faulty kind) = Some (Fault kind)

-- the last value that was collected, if there is no other before it
abbrev pub alone : Place → ValueTree → ℕ → Locals → Code
alone place v zero locals = value v locals
alone place v (suc n) locals = fault NotUnique place
