use Rattle.std.proofs.Common.{◌<◌, length, rules, sym}
use Rattle.stmt_parts.proofs.Trees.{only-many}
use Rattle.stmt_parts.proofs.targets.only.Goals as goal

pub returns-then-len-gt1 : goal.returns-then-len-gt1
returns-then-len-gt1 c =
    let many : 1 < length c.args.arguments.now.items = search rules in sym (only-many c.args.arguments.now.items many)
