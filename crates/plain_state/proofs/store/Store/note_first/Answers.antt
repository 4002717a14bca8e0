use Rattle.std.proofs.Common.{◌≤◌, length, rules}
use Rattle.std.specs.Result.{is_ok}
use Rattle.vdm_legal.specs.Order.{above_all}
use Rattle.plain_state.proofs.Finding.{firsts-noted}
use Rattle.plain_state.proofs.store.Store.note_first.Goals as goal

pub invariant_of-self-clause-finds_firsts : goal.invariant_of-self-clause-finds_firsts
invariant_of-self-clause-finds_firsts c =
    let fresh : above_all c.args.self.now.entries ≤ length c.args.self.now.firsts.items = search rules in
    firsts-noted c.args.self.now.entries c.args.self.now.firsts.items c.args.self.now.finds_firsts c.push.new.self.items
    c.len-then-object-len.result (is_ok c.push.result) fresh c.len-then-object-len.ensures c.push.ensures.items
