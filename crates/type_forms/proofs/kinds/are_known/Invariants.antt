use Rattle.std.proofs.Common.{◌≡◌, drop}
use Rattle.type_forms.specs.Plain.{are_known}
use Rattle.type_forms.specs.Tree.{alt_trees}
use Rattle.type_forms.proofs.kinds.are_known.Given as goal

abbrev pub invariant-loop-other : goal.invariant-loop-other
invariant-loop-other l = are_known (alt_trees l.alts) (alt_trees (drop l.other-index l.others)) ≡ are_known (alt_trees l.alts) (alt_trees l.others)
