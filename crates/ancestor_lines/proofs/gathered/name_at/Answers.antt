use Rattle.std.proofs.Common.{sym, length}
use Rattle.std.proofs.lemmas.Bool.{ltb-true}
use Rattle.ancestor_lines.proofs.Gathering.{name_there}
use Rattle.ancestor_lines.proofs.gathered.name_at.Goals as goal

pub returns-in-Some : goal.returns-in-Some
returns-in-Some c =
    let found = c.in-Some.ensures.lookup in
    name_there c.args.classes.now c.args.k c.in-Some.class.now (ltb-true c.args.k (length c.args.classes.now) (sym found.0)) found.1
