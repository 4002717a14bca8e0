use Rattle.std.proofs.Common.{sym, ◌∙◌}
use Rattle.plain_state.proofs.LastWrites.{pair-found, pair-passed}
use Rattle.plain_state.proofs.writes.written_in.Goals as goal

pub returns-then-is_same_variable : goal.returns-then-is_same_variable
returns-then-is_same_variable c =
    pair-found _ c.args.pairs.now _ _ _ c.in-Some.ensures.cases.0 c.loop-pair.invariant (sym c.is_same_variable.ensures ∙ c.if-is_same_variable.true)

pub loop-pair-preserved : goal.loop-pair-preserved
loop-pair-preserved c =
    pair-passed _ c.args.pairs.now _ _ _ c.in-Some.ensures.cases.0 c.loop-pair.invariant (sym c.is_same_variable.ensures ∙ c.if-is_same_variable.false)
