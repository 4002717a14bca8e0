use Rattle.std.proofs.Common.{◌≡◌, map, drop}
use Rattle.text_phases.specs.Built.{unbuilt_in_types}
use Rattle.expr_tree.specs.TypeDefView.{type_def_view}
use Rattle.built_forms.proofs.definitions.unbuilt_in_types.Given as goal

-- the types so far are built, so that the rest decides
abbrev pub invariant-loop-defined : goal.invariant-loop-defined
invariant-loop-defined l = unbuilt_in_types (map type_def_view (drop l.defined-index l.types)) ≡ unbuilt_in_types (map type_def_view l.types)
