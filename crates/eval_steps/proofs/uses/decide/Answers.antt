use Rattle.std.proofs.Common.{refl, ◌∙◌}
use Rattle.eval_steps.proofs.Results.{if_ok}
use Rattle.eval_steps.specs.Settings.{set}
use Rattle.eval_steps.proofs.uses.decide.Goals as goal

pub returns-in-Chosen : goal.returns-in-Chosen
returns-in-Chosen c =
    if_ok c.choice_decided.result c.choice_decided.ensures (λ s is asker.
    is (set c.args.table.now asker) refl ∙ c.in-Chosen.ensures (set c.args.table.now asker) c.args.locals.now.items)

pub returns-in-Pre : goal.returns-in-Pre
returns-in-Pre c = λ asker.
    c.pre_decided.ensures (set c.args.table.now asker) c.args.locals.now.items
    ∙ c.in-Pre.ensures (set c.args.table.now asker) c.args.locals.now.items

pub returns-in-Post : goal.returns-in-Post
returns-in-Post c = λ asker.
    c.post_decided.ensures (set c.args.table.now asker)
    ∙ c.in-Post.ensures (set c.args.table.now asker) c.args.locals.now.items

pub returns-in-Invariant : goal.returns-in-Invariant
returns-in-Invariant c =
    if_ok c.told.result c.told.ensures (λ s is asker.
    is asker ∙ c.in-Invariant.ensures (set c.args.table.now asker) c.args.locals.now.items)
