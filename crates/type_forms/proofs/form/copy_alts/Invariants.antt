use Rattle.std.proofs.Common.{◌≡◌, drop}
use Rattle.form_meaning.specs.Forms.{followed_by}
use Rattle.type_forms.specs.Tree.{alt_trees}
use Rattle.type_forms.proofs.form.copy_alts.Given as goal

abbrev pub invariant-loop-alt : goal.invariant-loop-alt
invariant-loop-alt l = followed_by (alt_trees l.copies.items) (alt_trees (drop l.alt-index l.alts)) ≡ alt_trees l.alts
