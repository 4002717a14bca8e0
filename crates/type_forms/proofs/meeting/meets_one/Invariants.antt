use Rattle.std.proofs.Common.{◌≡◌, drop}
use Rattle.form_meaning.specs.Meeting.{meets_one}
use Rattle.type_forms.specs.Tree.{alt_of, alt_trees}
use Rattle.type_forms.proofs.meeting.meets_one.Given as goal

abbrev pub invariant-loop-other : goal.invariant-loop-other
invariant-loop-other g l =
    meets_one (g.N.TypeNames.descends l.names) l.classes (alt_of l.alternative) (alt_trees (drop l.other-index l.others))
    ≡ meets_one (g.N.TypeNames.descends l.names) l.classes (alt_of l.alternative) (alt_trees l.others)
