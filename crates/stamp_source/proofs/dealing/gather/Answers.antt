use Rattle.std.proofs.Common.{◌++◌, ap, sym, ◌∙◌, subst, arith}
use Rattle.std.specs.Prelude.{All}
use Rattle.stamp_source.specs.Passes.{IsAt, all_numbers}
use Rattle.stamp_source.proofs.Piles.{all_popped, numbers_push, numbers_joined}
use Rattle.stamp_source.proofs.dealing.gather.Goals as goal

pub loop-other-init : goal.loop-other-init
loop-other-init c =
    let pass = c.in-Some.field-0 in
    let popped = c.in-Some.ensures.items in
    let both = all_popped (IsAt c.args.top.now.table_id) c.pop.new.self.items pass (subst (All (IsAt c.args.top.now.table_id)) popped c.requires.each) in record {
      at = both.1.0;
      bare = both.1.1;
      alive = let one = pass.alone in omega arith;
      rest = both.0;
      all = let one = pass.alone in omega (arith, c.in-Some.ensures.len);
      numbers = sym (numbers_push c.pop.new.self.items pass) ∙ ap all_numbers (sym popped);
    }

pub loop-other-preserved : goal.loop-other-preserved
loop-other-preserved c =
    let pass = c.in-Some-pop.field-0 in
    let inv = c.loop-other.invariant in
    let popped = c.in-Some-pop.ensures.items in
    let both = all_popped (IsAt c.args.top.now.table_id) c.pop-in-loop-other.new.self.items pass (subst (All (IsAt c.args.top.now.table_id)) popped inv.rest) in
    let joined = c.join_one.ensures.1 in
    let passes = ap (λ m. m.0.passes) joined in record {
      at = c.join_one.ensures.0 ∙ inv.at;
      bare = ap (λ m. m.1) joined;
      alive = let one = pass.alone in omega (arith, inv.alive);
      rest = both.0;
      all = let one = pass.alone in omega (arith, c.in-Some-pop.ensures.len, inv.all);
      numbers = ap (λ m. all_numbers c.pop-in-loop-other.new.self.items ++ m.0.numbers) joined ∙ numbers_joined c.pop-in-loop-other.new.self.items pass c.loop-other.seat.me.0.numbers
          ∙ ap (λ items. all_numbers items ++ c.loop-other.seat.me.0.numbers) (sym popped) ∙ inv.numbers;
    }
