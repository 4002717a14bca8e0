use Rattle.class_grammar.proofs.Texts.{front-built}
use Rattle.class_grammar.proofs.specs.front_spec.Goals as goal

pub returns : goal.returns
returns c = front-built c.build_spec.result c.args.count c.args.tokens.items c.truncate.new.self.items c.truncate.ensures.items c.build_spec.ensures
