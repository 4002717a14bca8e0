use Rattle.std.proofs.Common.{◌++◌, ◌∷◌, [], ap, ◌∙◌}
use Rattle.plain_state.specs.Entered.{journal}
use Rattle.plain_state.proofs.Entries.{new-entered}
use Rattle.plain_state.proofs.store.Store.make.Goals as goal

pub returns-clause-entered : goal.returns-clause-entered
returns-clause-entered c =
    new-entered _ _ _ _ _ _ _ c.in_ok-object.ensures (c.in_ok-enter.ensures.ok ∙ ap (λ e. journal c.args.self.now ++ e ∷ []) c.new.ensures)
