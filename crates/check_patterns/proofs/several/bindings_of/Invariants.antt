use Rattle.std.proofs.Common.{◌≡◌, ◌++◌, drop}
use Rattle.expr_tree.specs.View.{pattern_views, pattern_trees}
use Rattle.class_checks.specs.Patterns.{bindings_of}
use Rattle.check_types.specs.Below.check_scopes.specs.Told.{spec_in, types_in}
use Rattle.check_patterns.specs.Shown.{bindings_in}
use Rattle.check_patterns.proofs.several.bindings_of.Given as goal

abbrev pub invariant-loop-pattern : goal.invariant-loop-pattern
invariant-loop-pattern l =
    bindings_in l.bindings.items ++ bindings_of (spec_in l.setting) (types_in l.setting) l.form (pattern_trees (pattern_views (drop l.pattern-index l.patterns)))
    ≡ bindings_of (spec_in l.setting) (types_in l.setting) l.form (pattern_trees (pattern_views l.patterns))
