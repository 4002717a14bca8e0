use Rattle.std.proofs.Common.{ap, refl, sym, ◌∙◌}
use Rattle.expr_tree.specs.View.{boxed_view}
use Rattle.plans.specs.Plans.{part}
use Rattle.node_meaning.specs.Envs.{at}
use Rattle.node_meaning.specs.Tasks.{expr_in}
use Rattle.eval_data.specs.declared.search.Sets.{Sets}
use Rattle.eval_data.specs.Parts.{here_of}
use Rattle.eval_data.specs.Steps.{frame_then}
use Rattle.search_steps.specs.Gathering.{sets_from}
use Rattle.search_steps.proofs.Sources.{only_set}
use Rattle.search_steps.proofs.kinds.first_frame.Goals as goal

pub returns : goal.returns
returns c = λ setting locals.
    let made : Sets = record { here = c.args.here; place = c.args.place; sources = c.in_ok-vec.field-0; at = 0; lists = c.new.result; patterns = c.args.patterns; chooser = c.args.chooser } in
    sym (ap (λ (sets : Sets). part (expr_in (at (here_of sets.here) locals) (boxed_view c.args.source.set.now)) (frame_then setting c.set_frame.result)) c.in_ok-new.ensures.ok)
    ∙ c.set_frame.ensures setting locals
    ∙ ap (λ (sets : Sets). sets_from setting.spec sets locals) c.in_ok-new.ensures.ok
    ∙ only_set setting.spec made c.args.source locals c.in_ok-vec.ensures.items refl c.new.ensures.items
