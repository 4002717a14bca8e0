use Rattle.std.proofs.Common.{◌≡◌, drop}
use Rattle.class_checks.specs.Shapes.{some_alt}
use Rattle.spec_checks.specs.Statements.{is_object}
use Rattle.type_forms.specs.Tree.{alt_trees}
use Rattle.stmt_simple.proofs.threads.some_object.Given as goal

abbrev pub invariant-loop-alternative : goal.invariant-loop-alternative
invariant-loop-alternative l =
    some_alt is_object (alt_trees (drop l.alternative-index l.alternatives)) ≡ some_alt is_object (alt_trees l.alternatives)
