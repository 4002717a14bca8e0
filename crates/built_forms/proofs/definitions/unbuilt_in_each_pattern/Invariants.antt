use Rattle.std.proofs.Common.{◌≡◌, drop}
use Rattle.text_phases.specs.Built.{unbuilt_in_each_pattern}
use Rattle.expr_tree.specs.View.{pattern_views}
use Rattle.built_forms.proofs.definitions.unbuilt_in_each_pattern.Given as goal

-- the patterns so far are built, so that the rest decides
abbrev pub invariant-loop-pattern : goal.invariant-loop-pattern
invariant-loop-pattern l = unbuilt_in_each_pattern (pattern_views (drop l.pattern-index l.patterns)) ≡ unbuilt_in_each_pattern (pattern_views l.patterns)
