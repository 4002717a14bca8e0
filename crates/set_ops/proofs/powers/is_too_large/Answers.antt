use Rattle.std.proofs.Common.{◌<◌, rules}
use Rattle.set_ops.proofs.Subsets.{many_members, many_nodes}
use Rattle.set_ops.proofs.powers.is_too_large.Goals as goal

pub returns-then-members-gt-MOST_MEMBERS : goal.returns-then-members-gt-MOST_MEMBERS
returns-then-members-gt-MOST_MEMBERS c = λ t. many_members c.args.members.now c.requires.0 (search rules)

pub returns : goal.returns
returns c = λ t.
    let large : 399998 < c.doubled.result = search (rules, t) in
    many_nodes c.args.members.now c.args.nodes c.doubled.result c.requires.0 c.requires.1 c.doubled.ensures large
