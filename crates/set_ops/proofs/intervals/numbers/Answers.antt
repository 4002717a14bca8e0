use Rattle.std.proofs.Common.{◌≡◌, ◌++◌, ◌∷◌, [], ◌+ℤ◌, ◌≤ℤ◌, ◌<ℤ◌, pos, sym, ◌∙◌, subst, rules, to_z, of_z}
use Rattle.std.specs.Int.{w128}
use Rattle.std.proofs.lemmas.Int.{to_z-of_z}
use Rattle.abstract_syntax.specs.Values.{number}
use Rattle.value_operators.specs.Members.{numbers_from, count_from_to}
use Rattle.set_ops.proofs.Numbered.{made_more, next_le}
use Rattle.set_ops.proofs.intervals.numbers.Goals as goal

pub loop-next-preserved : goal.loop-next-preserved
loop-next-preserved c =
    let after : to_z w128 (of_z w128 c.after-next.result) ≡ c.loop-next.next +ℤ pos 1 = search (rules, to_z-of_z) in
    let end : to_z w128 (of_z w128 c.args.n) ≡ c.args.n = search (rules, to_z-of_z) in
    let start : to_z w128 (of_z w128 c.args.m) ≡ c.args.m = search (rules, to_z-of_z) in
    let less : c.loop-next.next <ℤ c.args.n = search (rules, to_z-of_z) in
    let pushed : c.push.new.self.items ≡ c.loop-next.made.items ++ number c.loop-next.next ∷ [] = search (rules, to_z-of_z) in
    let before : c.loop-next.made.items ++ numbers_from c.loop-next.next (count_from_to c.loop-next.next c.args.n) ≡ numbers_from c.args.m (count_from_to c.args.m c.args.n) = search (rules, to_z-of_z) in
    record {
      whole = (λ i. c.push.new.self.items ++ numbers_from (after i) (count_from_to (after i) (end i)))
          ∙ made_more c.args.m c.args.n c.loop-next.next c.loop-next.made.items c.push.new.self.items less pushed before
          ∙ (λ i. numbers_from (sym start i) (count_from_to (sym start i) (sym end i)));
      within = subst (λ x. x ≤ℤ to_z w128 (of_z w128 c.args.n)) (sym after) (subst (λ x. (c.loop-next.next +ℤ pos 1) ≤ℤ x) (sym end) (next_le c.loop-next.next c.args.n less));
    }
