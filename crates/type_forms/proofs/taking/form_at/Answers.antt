use Rattle.std.proofs.Common.{ap, ◌∙◌}
use Rattle.type_forms.specs.Taking.{form_or_none}
use Rattle.type_forms.proofs.Lists.{form_found, item_at}
use Rattle.type_forms.proofs.taking.form_at.Goals as goal

pub returns : goal.returns
returns c = ap form_or_none (item_at c.args.forms.now c.args.n c.get.result c.get.ensures.lookup) ∙ form_found c.args.forms.now c.args.n
