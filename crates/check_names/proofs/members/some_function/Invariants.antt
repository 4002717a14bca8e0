use Rattle.std.proofs.Common.{◌≡◌, map, drop}
use Rattle.std.specs.List.{list_any}
use Rattle.class_meaning.specs.Members.{of_function}
use Rattle.class_checks.specs.Callees.{is_called}
use Rattle.vdm_tree.specs.ClassView.{function_view}
use Rattle.check_names.proofs.members.some_function.Given as goal

abbrev pub invariant-loop-definition : goal.invariant-loop-definition
invariant-loop-definition l =
    list_any (is_called l.name) (map of_function (map function_view (drop l.definition-index l.definitions)))
    ≡ list_any (is_called l.name) (map of_function (map function_view l.definitions))
