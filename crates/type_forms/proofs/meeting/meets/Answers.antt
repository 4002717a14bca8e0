use Rattle.std.proofs.Common.{◌∙◌}
use Rattle.type_forms.proofs.Members.{meets_by_all}
use Rattle.type_forms.proofs.meeting.meets.Goals as goal

pub returns : goal.returns
returns g c classes all =
    c.forms_meet.ensures
    ∙ meets_by_all (g.N.TypeNames.descends c.args.names.now) c.all_classes.result.now classes c.args.form.now c.args.other.now
    c.all_classes.ensures all
