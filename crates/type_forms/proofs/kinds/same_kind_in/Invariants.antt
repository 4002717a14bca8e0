use Rattle.std.proofs.Common.{◌≡◌, drop}
use Rattle.form_meaning.specs.Forms.{same_kind_in}
use Rattle.type_forms.specs.Tree.{alt_of, alt_trees}
use Rattle.type_forms.proofs.kinds.same_kind_in.Given as goal

abbrev pub invariant-loop-other : goal.invariant-loop-other
invariant-loop-other l = same_kind_in (alt_of l.alt) (alt_trees (drop l.other-index l.others)) ≡ same_kind_in (alt_of l.alt) (alt_trees l.others)
