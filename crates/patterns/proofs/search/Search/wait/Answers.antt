use Rattle.std.proofs.Common.{◌∷◌, ap, ◌∙◌, refl}
use Rattle.patterns.specs.Todos.{todo_of}
use Rattle.patterns.specs.Search.{choices_in}
use Rattle.patterns.proofs.search.Search.wait.Goals as goal

pub returns : goal.returns
returns c =
    record {
      work = refl;
      given = refl;
      binding = refl;
      others =
          c.in_ok-push-2.ensures ∙
          (λ i. record {
            todos = (c.in_ok-push.ensures ∙ ap (λ rest. todo_of c.args.todo ∷ rest) c.in_ok-work.ensures) i;
            given = c.args.self.now.given.now;
            kept = c.len-kept.ensures i;
          } ∷ choices_in c.args.self.now.others);
    }
