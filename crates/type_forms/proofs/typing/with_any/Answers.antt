use Rattle.std.proofs.Common.{◌∙◌}
use Rattle.type_forms.proofs.Lists.{any_joined}
use Rattle.type_forms.proofs.typing.with_any.Goals as goal

pub returns : goal.returns
returns c = c.any.ensures ∙ any_joined c.args.known
