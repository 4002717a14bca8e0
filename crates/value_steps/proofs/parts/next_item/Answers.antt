use Rattle.std.proofs.Common.{◌<◌, length, rules}
use Rattle.value_steps.proofs.FirstItem.{first_item}
use Rattle.value_steps.proofs.parts.next_item.Goals as goal

pub returns : goal.returns
returns c =
    let there : c.args.from < length c.args.items.now.items = search rules in
    first_item c.args.items.now.items c.args.from c.index.result.now there c.index.ensures
