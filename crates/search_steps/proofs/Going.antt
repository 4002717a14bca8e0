-- A search goes on: from one choice to the next.
use Rattle.std.proofs.Common.{◌≡◌, ℕ, List, [], ◌∷◌, drop, take, get_or, Result, Ok, Err, IfOk, refl, ap, sym, ◌∙◌}
use Rattle.vdm_kinds.specs.declared.halt.OutOfMemory.{OutOfMemory}
use Rattle.abstract_syntax.specs.Classes.{SpecTree}
use Rattle.abstract_syntax.specs.Values.{ValueTree}
use Rattle.node_meaning.specs.Choosing.{choose, condition_of, next_choice, tried}
use Rattle.node_meaning.specs.Envs.{Locals}
use Rattle.node_meaning.specs.Matching.{bound_or, first_match}
use Rattle.node_meaning.specs.Needs.{Setting}
use Rattle.node_meaning.specs.Tasks.{Code}
use Rattle.eval_data.specs.Parts.{chooser_of, patterns_at, search_of}
use Rattle.eval_data.specs.Steps.{choose_behind, code_of}
use Rattle.eval_data.specs.declared.search.Search.{Search}
use Rattle.eval_data.specs.declared.step.Step.{Step}
use Rattle.bind_steps.specs.Attempts.{attempted}
use Rattle.bind_steps.specs.declared.attempt.Attempt.{Attempt}
use Rattle.bind_steps.specs.declared.attempt.Attempt.TheVariants.{Matched, Missed, Fault}
use Rattle.search_steps.specs.Outcomes.{choices_from, found_of, turn_code}

-- what the patterns come to with the first choice
came_to : (spec : SpecTree) (search : Search) (vs : List ValueTree) (attempt : Attempt) (after : Locals)
    → search.choices ≡ vs ∷ drop 1 search.choices
    → attempted search.place attempt
    (tried (search_of search) (condition_of (chooser_of search.chooser)) vs search.done.items (choose spec (search_of search) (drop 1 search.choices)))
    (choose spec (search_of search) (drop 1 search.choices) search.done.items) after
    ≡ turn_code spec search (found_of attempt) after
came_to spec search vs Matched after e =
    ap (λ (first : List ValueTree). tried (search_of search) (condition_of (chooser_of search.chooser)) first search.done.items
    (choose spec (search_of search) (drop 1 search.choices)) after) (sym (ap (λ (cs : List (List ValueTree)). get_or cs 0 []) e))
came_to spec search vs Missed after e = refl
came_to spec search vs (Fault kind) after e = refl

pub turned : (spec : SpecTree) (search : Search) (vs : List ValueTree) (attempt : Attempt) (before after : Locals)
    → search.choices ≡ vs ∷ drop 1 search.choices
    → ((matched missed : Locals → Code) → attempted search.place attempt matched missed after
    ≡ bound_or search.place (first_match spec search.here.scope (patterns_at search.patterns.items) search.given vs) matched missed before)
    → choices_from spec search before ≡ turn_code spec search (found_of attempt) after
turned spec search vs attempt before after e h =
    ap (λ (cs : List (List ValueTree)). choose spec (search_of search) cs search.done.items before) e ∙
    sym (h (tried (search_of search) (condition_of (chooser_of search.chooser)) vs search.done.items (choose spec (search_of search) (drop 1 search.choices)))
    (choose spec (search_of search) (drop 1 search.choices) search.done.items)) ∙
    came_to spec search vs attempt after e

-- with these values, and without the locals of the choice
pub gone_on : (spec : SpecTree) (s t : Search) (n : ℕ) (values : List ValueTree) (before cut after : Locals) (r : Result Step OutOfMemory)
    → ((spec : SpecTree) → choose_behind spec t 0 ≡ choose_behind spec s n)
    → t.done.items ≡ values → t.count ≡ s.count → cut ≡ take t.count before
    → IfOk r (λ step. (setting : Setting) → setting.spec ≡ spec → code_of setting after step ≡ choose_behind setting.spec t 0 t.done.items cut)
    → IfOk r (λ step. (setting : Setting) → setting.spec ≡ spec → code_of setting after step ≡ next_choice (search_of s) (choose_behind setting.spec s n) values before)
gone_on spec s t n values before cut after (Ok step) behind done count gone is = λ setting same.
    is setting same ∙
    ap (λ (further : List ValueTree → Locals → Code). further t.done.items cut) (behind setting.spec) ∙
    ap (λ (vs : List ValueTree). choose_behind setting.spec s n vs cut) done ∙
    ap (λ (l : Locals). choose_behind setting.spec s n values l) (gone ∙ ap (λ (m : ℕ). take m before) count)
gone_on spec s t n values before cut after (Err e) behind done count gone is = tt
