use Rattle.type_grammar.proofs.Stacks.{product-is}
use Rattle.type_grammar.proofs.nodes.product_of.Goals as goal

pub returns : goal.returns
returns c = product-is c.args.factors.items _ _ c.args.last _ _ c.product.ensures c.in_ok-push.ensures.items c.first_place-place.ensures c.deref.ensures.value
