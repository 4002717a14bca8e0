use Rattle.std.proofs.Common.{◌≡◌, map, drop}
use Rattle.text_phases.specs.Built.{unbuilt_in_functions}
use Rattle.vdm_tree.specs.ClassView.{function_view}
use Rattle.built_forms.proofs.definitions.unbuilt_in_functions.Given as goal

-- the functions so far are built, so that the rest decides
abbrev pub invariant-loop-function : goal.invariant-loop-function
invariant-loop-function l = unbuilt_in_functions (map function_view (drop l.function-index l.functions)) ≡ unbuilt_in_functions (map function_view l.functions)
