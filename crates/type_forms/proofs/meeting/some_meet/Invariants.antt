use Rattle.std.proofs.Common.{◌≡◌, drop}
use Rattle.form_meaning.specs.Meeting.{some_meet}
use Rattle.type_forms.specs.Tree.{alt_trees}
use Rattle.type_forms.proofs.meeting.some_meet.Given as goal

abbrev pub invariant-loop-alternative : goal.invariant-loop-alternative
invariant-loop-alternative g l =
    some_meet (g.N.TypeNames.descends l.names) l.classes (alt_trees (drop l.alternative-index l.alternatives)) (alt_trees l.others)
    ≡ some_meet (g.N.TypeNames.descends l.names) l.classes (alt_trees l.alternatives) (alt_trees l.others)
