use Rattle.std.proofs.Common.{ap, sym, ◌∙◌, refl, option_map}
use Rattle.patterns.specs.Todos.{subject_tree}
use Rattle.patterns.proofs.Steps.{goes_by_test, goes_bound}
use Rattle.patterns.proofs.search.Search.bind.Goals as goal

pub returns-in-Some : goal.returns-in-Some
returns-in-Some c = λ types.
    goes_by_test types _ _ (c.args.name, subject_tree c.args.subject) _ c.requires
    (sym (ap (option_map subject_tree) c.in-Some.is) ∙ c.find.ensures) c.is.ensures

pub returns-in_ok-push-in-None : goal.returns-in_ok-push-in-None
returns-in_ok-push-in-None c = λ types.
    goes_bound types _ _ (c.args.name, subject_tree c.args.subject) c.in_ok-push-in-None.ensures refl refl refl c.requires
    (sym (ap (option_map subject_tree) c.in-None.is) ∙ c.find.ensures)
