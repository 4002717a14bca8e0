use Rattle.std.proofs.Common.{List, ap, ◌∙◌}
use Rattle.expr_tree.specs.declared.pattern.Pattern.{Pattern}
use Rattle.expr_tree.specs.View.{pattern_views, pattern_trees}
use Rattle.shared_names.specs.Maps.{held}
use Rattle.class_checks.specs.Patterns.{bindings_of, scopes_behind}
use Rattle.check_types.specs.Below.check_scopes.specs.Told.{scope_at, spec_in, types_in}
use Rattle.check_patterns.specs.Shown.{bindings_in}
use Rattle.check_patterns.proofs.ScopeTurns.{same_scopes}
use Rattle.check_patterns.proofs.several.scopes_behind.Goals as goal

pub returns : goal.returns
returns c =
    same_scopes c.scopes_of.result c.args.setting _ _
    (ap (scopes_behind (scope_at c.args.setting (held c.args.locals.now)))
    (ap bindings_in c.as_slice-2.ensures.value
    ∙ c.in_ok-bindings.ensures
    ∙ ap (λ (ps : List Pattern). bindings_of (spec_in c.args.setting) (types_in c.args.setting) c.args.form.now (pattern_trees (pattern_views ps))) c.as_slice.ensures.value))
    (c.scopes_of.ensures c.args.setting)
