use Rattle.expr_tree.specs.View.{pattern_view}
use Rattle.class_checks.specs.Patterns.{binds}
use Rattle.check_types.specs.Below.check_scopes.specs.Told.{spec_in, types_in}
use Rattle.check_patterns.proofs.Waiting.{found_through}
use Rattle.check_patterns.proofs.bound.with_first.Goals as goal

pub returns : goal.returns
returns c =
    found_through (spec_in c.args.setting) (types_in c.args.setting) c.with_pattern.result c.in_ok-binding.binding c.args.binding _ _
    (c.in_ok-binding.ensures.behind (spec_in c.args.setting) (types_in c.args.setting)
    (binds (spec_in c.args.setting) (types_in c.args.setting) c.args.form (pattern_view c.args.pattern.now)))
    c.with_pattern.ensures
