use Rattle.std.proofs.Common.{◌++◌, ap, sym, ◌∙◌, subst, arith}
use Rattle.std.specs.Prelude.{All}
use Rattle.turn_lock.specs.Passes.{IsAt, IsIdle, all_own}
use Rattle.turn_lock.proofs.Piles.{all_popped, own_push, own_joined}
use Rattle.turn_lock.proofs.dealing.gather.Goals as goal

pub loop-other-init : goal.loop-other-init
loop-other-init g c =
    let pass = c.in-Some.field-0 in
    let popped = c.in-Some.ensures.items in
    let both = all_popped (λ p. IsAt c.args.top.now.table_id p × IsIdle p) c.pop.new.self.items pass (subst (All (λ p. IsAt c.args.top.now.table_id p × IsIdle p)) popped c.requires.each) in record {
      at = both.1.0;
      idle = both.1.1;
      alive = let one = pass.alone in omega arith;
      rest = both.0;
      all = let one = pass.alone in omega (arith, c.in-Some.ensures.len);
      own = sym (own_push c.pop.new.self.items pass) ∙ ap all_own (sym popped);
    }

pub loop-other-preserved : goal.loop-other-preserved
loop-other-preserved g c =
    let pass = c.in-Some-pop.field-0 in
    let inv = c.loop-other.invariant in
    let popped = c.in-Some-pop.ensures.items in
    let both = all_popped (λ p. IsAt c.args.top.now.table_id p × IsIdle p) c.pop-in-loop-other.new.self.items pass (subst (All (λ p. IsAt c.args.top.now.table_id p × IsIdle p)) popped inv.rest) in
    let joined = c.join_one.ensures.1 in
    let passes = ap (λ m. m.0.passes) joined in record {
      at = c.join_one.ensures.0 ∙ inv.at;
      idle = (ap (λ m. m.0.stage) joined, ap (λ m. m.1) joined);
      alive = let one = pass.alone in omega (arith, inv.alive);
      rest = both.0;
      all = let one = pass.alone in omega (arith, c.in-Some-pop.ensures.len, inv.all);
      own = ap (λ m. all_own c.pop-in-loop-other.new.self.items ++ m.0.own) joined ∙ own_joined c.pop-in-loop-other.new.self.items pass c.loop-other.seat.me.0.own
          ∙ ap (λ items. all_own items ++ c.loop-other.seat.me.0.own) (sym popped) ∙ inv.own;
    }
