use Rattle.std.proofs.Common.{◌≡◌, map, drop}
use Rattle.text_phases.specs.Built.{unbuilt_in_each_local}
use Rattle.vdm_tree.specs.StmtView.{local_view}
use Rattle.built_forms.proofs.targets.unbuilt_in_each_local.Given as goal

-- the locals so far are built, so that the rest decides
abbrev pub invariant-loop-local : goal.invariant-loop-local
invariant-loop-local l = unbuilt_in_each_local (map local_view (drop l.local-index l.locals)) ≡ unbuilt_in_each_local (map local_view l.locals)
