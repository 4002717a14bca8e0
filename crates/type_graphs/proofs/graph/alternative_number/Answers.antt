use Rattle.std.proofs.Common.{ap, ◌∙◌}
use Rattle.std.specs.Option.{option_and_then}
use Rattle.class_index.specs.Lists.{spec_of}
use Rattle.class_meaning.specs.TypeGraph.{type_number}
use Rattle.type_graphs.proofs.graph.alternative_number.Goals as goal

pub returns : goal.returns
returns c =
    c.number.ensures (spec_of c.args.list.now) c.requires.numbers
    ∙ ap (option_and_then (type_number (spec_of c.args.list.now))) c.in_ok-found.ensures
