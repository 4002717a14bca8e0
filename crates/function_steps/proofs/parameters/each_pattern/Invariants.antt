use Rattle.std.proofs.Common.{◌≡◌, ◌++◌, map, drop}
use Rattle.expr_tree.specs.View.{pattern_view}
use Rattle.eval_data.specs.Parts.{patterns_at}
use Rattle.function_steps.proofs.parameters.each_pattern.Given as goal

abbrev pub invariant-loop-pattern : goal.invariant-loop-pattern
invariant-loop-pattern l = patterns_at l.found.items ++ map pattern_view (drop l.pattern-index l.patterns) ≡ map pattern_view l.patterns
