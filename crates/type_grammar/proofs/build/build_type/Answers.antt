use Rattle.type_grammar.proofs.Stacks.{tokens-refused}
use Rattle.type_grammar.proofs.build.build_type.Goals as goal

pub returns-in_default : goal.returns-in_default
returns-in_default c = tokens-refused c.args.tokens.now c.loop-token.token-index c.token-item.result _ c.step.new.frames.items _ _ c.loop-token-test.true c.token-item.is c.in_default.not-Some c.in_ok-next.ensures c.loop-token.invariant
