use Rattle.std.proofs.Common.{◌≡◌, map, drop}
use Rattle.text_phases.specs.Built.{unbuilt_in_values}
use Rattle.vdm_tree.specs.ClassView.{value_def_view}
use Rattle.built_forms.proofs.definitions.unbuilt_in_values.Given as goal

-- the values so far are built, so that the rest decides
abbrev pub invariant-loop-defined : goal.invariant-loop-defined
invariant-loop-defined l = unbuilt_in_values (map value_def_view (drop l.defined-index l.values)) ≡ unbuilt_in_values (map value_def_view l.values)
