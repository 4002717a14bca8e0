use Rattle.std.proofs.Common.{◌≡◌, map, drop}
use Rattle.text_phases.specs.Built.{unbuilt_in_classes}
use Rattle.vdm_tree.specs.ClassView.{class_view}
use Rattle.built_forms.proofs.classes.unbuilt_in_classes.Given as goal

-- the classes so far are built, so that the rest decides
abbrev pub invariant-loop-class : goal.invariant-loop-class
invariant-loop-class l = unbuilt_in_classes (map class_view (drop l.class-index l.classes)) ≡ unbuilt_in_classes (map class_view l.classes)
