use Rattle.std.proofs.Common.{true≢false, sym, ◌∙◌, arith, rules}
use Rattle.abstract_syntax.specs.SameBy.{same_by-decides}
use Rattle.abstract_syntax.specs.ValueCode.{value_code}
use Rattle.vdm_sets.proofs.Neighbours.{conflict, no_conflict, apart_more}
use Rattle.vdm_sets.proofs.map.has_conflict.Goals as goal

pub returns-then-eq : goal.returns-then-eq
returns-then-eq c = (
  λ t. conflict c.args.pairs.now c.loop-i.i c.index-pairs-i.result c.index-pairs-i-in-loop-i.result c.requires (omega arith) c.loop-i-test.true
      c.index-pairs-i.is c.index-pairs-i-in-loop-i.is ((same_by-decides value_code _ _).0 (sym c.eq.ensures ∙ c.if-eq.true)),
  λ h. search rules,
)

pub loop-i-preserved : goal.loop-i-preserved
loop-i-preserved c =
    apart_more c.args.pairs.now c.loop-i.i c.index-pairs-i.result c.index-pairs-i-in-loop-i.result (omega arith) c.loop-i-test.true
    (λ e. true≢false (sym ((same_by-decides value_code _ _).1 e) ∙ sym c.eq.ensures ∙ c.if-eq.false))
    c.loop-i.invariant

pub returns : goal.returns
returns c = (λ t. search rules, λ h. absurd (no_conflict c.args.pairs.now c.requires (λ k d g. c.loop-i.invariant k d (omega arith)) h))
