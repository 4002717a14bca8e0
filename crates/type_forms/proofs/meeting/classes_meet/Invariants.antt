use Rattle.std.proofs.Common.{◌≡◌, drop}
use Rattle.form_meaning.specs.Meeting.{classes_meet}
use Rattle.type_forms.proofs.meeting.classes_meet.Given as goal

abbrev pub invariant-loop-class : goal.invariant-loop-class
invariant-loop-class g l =
    classes_meet (g.N.TypeNames.descends l.names) (drop l.class-index l.classes) l.a l.b
    ≡ classes_meet (g.N.TypeNames.descends l.names) l.classes l.a l.b
