use Rattle.std.proofs.Common.{◌-◌, rules}
use Rattle.search_steps.proofs.Copied.{last_copy}
use Rattle.search_steps.proofs.copies.with_copies.Goals as goal

pub returns : goal.returns
returns c =
    last_copy c.args.lists.items c.in_ok-all.all.items c.push.new.self.items (c.args.count - 1) c.args.count c.args.values (search rules)
    (search rules) (search rules)
