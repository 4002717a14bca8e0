use Rattle.std.proofs.Common.{◌≡◌, map, drop}
use Rattle.text_phases.specs.Built.{unbuilt_in_locals}
use Rattle.vdm_tree.specs.StmtView.{dcl_view}
use Rattle.built_forms.proofs.targets.unbuilt_in_locals.Given as goal

-- the dcls so far are built, so that the rest decides
abbrev pub invariant-loop-dcl : goal.invariant-loop-dcl
invariant-loop-dcl l = unbuilt_in_locals (map dcl_view (drop l.dcl-index l.dcls)) ≡ unbuilt_in_locals (map dcl_view l.dcls)
