use Rattle.std.proofs.Common.{slice_get, ap, sym, ◌∙◌}
use Rattle.eval_data.specs.declared.search.Sets.{Sets}
use Rattle.search_steps.proofs.Results.{if_ok}
use Rattle.search_steps.proofs.Sources.{sets_end}
use Rattle.search_steps.proofs.sets.next_set.Goals as goal

pub returns-in-None : goal.returns-in-None
returns-in-None c =
    if_ok c.all_sets.result c.all_sets.ensures
    (λ s is setting e. is setting e
    ∙ sets_end setting.spec c.args.sets.value c.args.locals.now.items
    (ap (λ (s : Sets). slice_get s.sources.items s.at) (sym c.deref.ensures) ∙ sym c.next_source.ensures ∙ c.in-None.is))
