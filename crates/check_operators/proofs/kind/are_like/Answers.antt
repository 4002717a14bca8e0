use Rattle.std.proofs.Common.{◌∙◌}
use Rattle.check_scopes.specs.Told.{spec_in}
use Rattle.type_forms.specs.Tree.{alt_trees}
use Rattle.check_operators.proofs.OfKinds.{not_any, when_any}
use Rattle.check_operators.proofs.kind.are_like.Goals as goal

pub returns-then-is_any : goal.returns-then-is_any
returns-then-is_any c = when_any (spec_in c.args.setting) c.args.kind (alt_trees c.args.alternatives.now) c.if-is_any.ensures

pub returns-else-is_any : goal.returns-else-is_any
returns-else-is_any c =
    c.some_like.ensures ∙ not_any (spec_in c.args.setting) c.args.kind (alt_trees c.args.alternatives.now) c.if-is_any.ensures
