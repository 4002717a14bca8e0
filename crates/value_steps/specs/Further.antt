-- What comes of the parts of a node, and of a condition: the plan of each.
use Rattle.std.specs.Prelude.{Bool, Option, Some, None}
use Rattle.vdm_kinds.specs.declared.place.Place.{Place}
use Rattle.vdm_kinds.specs.declared.run_fault.RunFault.TheVariants.{TypeFault}
use Rattle.node_meaning.specs.Choosing.{by_truth}
use Rattle.node_meaning.specs.Envs.{Locals}
use Rattle.node_meaning.specs.Functions.{pre_decided, post_decided}
use Rattle.node_meaning.specs.Needs.{Setting}
use Rattle.node_meaning.specs.Tasks.{Code, fault}
use Rattle.eval_data.specs.Parts.{here_of, search_of, first_choice, applying_of}
use Rattle.eval_data.specs.Steps.{code_of, then_of, choose_behind, told}
use Rattle.value_steps.specs.declared.decisions.Decided.{Decided}
use Rattle.value_steps.specs.declared.decisions.Decided.TheVariants.{Known, Chosen, Pre, Post, Invariant}
use Rattle.value_steps.specs.declared.gathering.Gathered.{Gathered}
use Rattle.value_steps.specs.declared.gathering.Gathered.TheVariants.{Part, All}

-- a part is still to come, or all values are there and something is done with them
abbrev pub gathered_code : Setting → Locals → Gathered → Code
gathered_code setting locals (Part step) = code_of setting locals step
gathered_code setting locals (All here place values what) = then_of setting what (here_of here) place values.items locals

-- what is done with a truth value, where the value is one
abbrev pub where_truth : Place → (Bool → Locals → Code) → Option Bool → Locals → Code
where_truth place further None locals = fault TypeFault place
where_truth place further (Some b) locals = further b locals

-- the step is known, a choice fulfils its condition or does not, a function's `pre` or `post` is true or not, or an invariant holds or not
abbrev pub decided_code : Setting → Locals → Decided → Code
decided_code setting locals (Known step) = code_of setting locals step
decided_code setting locals (Chosen search b) =
    by_truth (search_of search.value) (first_choice search.value) search.value.done.items (choose_behind setting.spec search.value 1) b locals
decided_code setting locals (Pre a b) = pre_decided setting.spec (applying_of a.value) b locals
decided_code setting locals (Post a v b) = post_decided (applying_of a.value) v b locals
decided_code setting locals (Invariant a b) = told setting.spec a.value b locals
