use Rattle.plain_state.proofs.Finding.{first-got}
use Rattle.plain_state.proofs.store.Store.first.Goals as goal

pub returns-in-Some : goal.returns-in-Some
returns-in-Some c =
    let found = c.in-Some.ensures.lookup in
    first-got c.args.self.now.entries c.args.self.now.firsts.items c.deref.result.now c.args.object c.in-Some.number.now c.deref.ensures.value
    c.args.self.now.finds_firsts found.3.0 found.1
