use Rattle.plain_state.proofs.Results.{same_ok}
use Rattle.plain_state.proofs.store.Store.held.Goals as goal

pub returns : goal.returns
returns c = same_ok c.slot_of.result _ _ c.holding.ensures c.slot_of.ensures
