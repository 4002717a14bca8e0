use Rattle.std.proofs.Common.{◌≡◌, sym, ◌∙◌}
use Rattle.class_index.specs.Lists.{spec_of}
use Rattle.class_meaning.specs.declared.found.Found.TheVariants.{One, Nothing, Several}
use Rattle.type_graphs.proofs.Meant.{found_is}
use Rattle.type_graphs.proofs.named.found_type.Goals as goal

pub returns-in-One : goal.returns-in-One
returns-in-One c =
    c.own_type.ensures
    ∙ found_is (spec_of c.args.list.now) c.args.k c.args.name (One c.in-One.owner) (c.in-One.ensures (spec_of c.args.list.now) c.requires)

pub returns-in-Nothing : goal.returns-in-Nothing
returns-in-Nothing c =
    found_is (spec_of c.args.list.now) c.args.k c.args.name Nothing (c.in-Nothing.ensures (spec_of c.args.list.now) c.requires)

pub returns-in-Several : goal.returns-in-Several
returns-in-Several c =
    found_is (spec_of c.args.list.now) c.args.k c.args.name Several (c.in-Several.ensures (spec_of c.args.list.now) c.requires)
