use Rattle.std.proofs.Common.{sym, ap, subst, ◌∙◌, arith}
use Rattle.std.specs.HashMap.{get}
use Rattle.vdm_legal.specs.Order.{above_all}
use Rattle.plain_state.specs.Found.{FindsFirsts, FindsWrites, same_place}
use Rattle.plain_state.proofs.Finding.{firsts-more, writes-more}
use Rattle.plain_state.proofs.Numbers.{above-more}
use Rattle.plain_state.proofs.store.Store.push.Goals as goal

pub invariant_of-self-then-above-self : goal.invariant_of-self-then-above-self
invariant_of-self-then-above-self c = record {
  is_above = omega (arith, ap above_all c.in_ok-push.ensures.ok, above-more c.args.self.now.entries c.args.entry, c.args.self.now.is_above);
  finds_firsts = firsts-more c.args.self.now.entries _ c.args.entry c.args.self.now.firsts.items c.in_ok-push.ensures.ok c.args.self.now.finds_firsts;
  finds_writes = writes-more c.args.self.now.entries _ c.args.entry (get same_place c.args.self.now.writes) c.in_ok-push.ensures.ok c.args.self.now.finds_writes c.requires;
}

pub invariant_of-self-else-above-self : goal.invariant_of-self-else-above-self
invariant_of-self-else-above-self c = record {
  is_above = omega (arith, ap above_all c.in_ok-push.ensures.ok, above-more c.args.self.now.entries c.args.entry, c.args.self.now.is_above);
  finds_firsts = firsts-more c.args.self.now.entries _ c.args.entry c.args.self.now.firsts.items c.in_ok-push.ensures.ok c.args.self.now.finds_firsts;
  finds_writes = writes-more c.args.self.now.entries _ c.args.entry (get same_place c.args.self.now.writes) c.in_ok-push.ensures.ok c.args.self.now.finds_writes c.requires;
}

pub invariant_of-self : goal.invariant_of-self
invariant_of-self c = record {
  is_above = c.args.self.now.is_above ∙ ap above_all (sym c.in_err-push.ensures.err);
  finds_firsts = subst (λ xs. FindsFirsts c.args.self.now.firsts.items xs) (sym c.in_err-push.ensures.err) c.args.self.now.finds_firsts;
  finds_writes = subst (λ xs. FindsWrites c.args.self.now.writes xs) (sym c.in_err-push.ensures.err) c.args.self.now.finds_writes;
}
