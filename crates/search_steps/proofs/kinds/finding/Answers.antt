use Rattle.std.proofs.Common.{List, Bor, ◌++◌, ap, ◌∙◌}
use Rattle.expr_tree.specs.View.{bind_view, maybe_view}
use Rattle.expr_tree.specs.declared.pattern.Bind.{Bind}
use Rattle.expr_tree.specs.declared.pattern.Pattern.{Pattern}
use Rattle.node_meaning.specs.Choosing.{finds}
use Rattle.eval_data.specs.Parts.{here_of, patterns_at, source_of}
use Rattle.search_steps.specs.Gathering.{bind_patterns, bind_source}
use Rattle.search_steps.proofs.Binds.{one_chosen}
use Rattle.search_steps.proofs.kinds.finding.Goals as goal

pub returns : goal.returns
returns c = λ setting locals.
    c.in_ok-frame.ensures setting locals
    ∙ one_chosen setting.spec (here_of c.args.here) c.args.place (finds (maybe_view c.args.condition.now)) locals (bind_view c.args.bind.now.value)
    (source_of c.source_in-source.result) (patterns_at c.in_ok-patterns.patterns.items)
    (c.source_in-source.ensures ∙ ap (λ (b : Bind). bind_source (bind_view b)) c.deref-2.ensures)
    (c.in_ok-patterns.ensures
    ∙ ap (λ (ps : List (Bor Pattern)). patterns_at ps ++ bind_patterns (bind_view c.deref.result.now)) c.new.ensures.items
    ∙ ap (λ (b : Bind). bind_patterns (bind_view b)) c.deref.ensures)
