use Rattle.type_grammar.proofs.Stacks.{union-is}
use Rattle.type_grammar.proofs.nodes.union_of.Goals as goal

pub returns : goal.returns
returns c = union-is c.args.alternatives.items _ _ c.args.last _ _ c.union.ensures c.in_ok-push.ensures.items c.first_place-place.ensures c.deref.ensures.value
