use Rattle.std.proofs.Common.{◌∙◌, rules}
use Rattle.eval_data.specs.Parts.{here_of, chooser_of, patterns_at}
use Rattle.search_steps.proofs.Bracketed.{brackets_first, search_at_once}
use Rattle.search_steps.proofs.Results.{if_ok}
use Rattle.search_steps.proofs.searching.behind_sets.Goals as goal

pub returns : goal.returns
returns c =
    if_ok c.searches.result c.searches.ensures
    (λ s is setting e. is setting e
    ∙ search_at_once setting.spec (here_of c.args.here) c.args.place (patterns_at c.args.patterns.items) (chooser_of c.args.chooser)
    c.args.lists.items c.args.locals.now.items c.in_ok-found.found.items c.new-done.result.items (search rules) (search rules) (search rules))

pub returns-in-Some : goal.returns-in-Some
returns-in-Some c = λ setting e.
    c.in_ok-step-in-Some.ensures setting c.args.locals.now.items
    ∙ brackets_first setting.spec (here_of c.args.here) c.args.place (patterns_at c.args.patterns.items) (chooser_of c.args.chooser) c.args.lists.items
    c.args.locals.now.items c.in_ok-found.found.items c.in-Some.first.now c.new-done.result.items (search rules) (search rules) (search rules)
