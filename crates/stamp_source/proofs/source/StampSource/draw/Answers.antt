use Rattle.std.proofs.Common.{◌∷◌, [], length, ap, ◌∙◌, sym, subst, rules, arith, length-append}
use mathlib.Core.Option.{none}
use Rattle.atomic_table.specs.Table.{step}
use Rattle.stamp_source.specs.Numbers.{IsRising}
use Rattle.stamp_source.proofs.Drawing.{draws, rising_push}
use Rattle.stamp_source.proofs.source.StampSource.draw.Goals as goal

pub fetch_add-number-requires : goal.fetch_add-number-requires
fetch_add-number-requires c =
    let pass = c.args.pass.now in (
      c.requires.pass.0,
      search rules,
      draws _ _ _ _ (step c.args.self.now.board.shared.table_id.slots 0 1 0 none) pass.alone (let count = pass.counted in omega arith),
    )

pub invariant_of-pass : goal.invariant_of-pass
invariant_of-pass c =
    let pass = c.args.pass.now in
    let told = c.fetch_add-number.ensures.2 in
    let view = ap (λ m. m.0) told.now_is in
    let long = ap (λ v. length v.numbers) view ∙ length-append pass.seat.me.0.numbers (c.fetch_add-number.result ∷ []) in
    let each = ap (λ v. v.about.each) view in record {
      alone = ap (λ v. v.passes) view ∙ pass.alone;
      counted = let count = pass.counted in let left = c.requires.left in omega arith;
      rising = subst IsRising (sym (ap (λ v. v.numbers) view)) (rising_push pass.seat.me.0.numbers c.fetch_add-number.result pass.rising told.above);
    }
