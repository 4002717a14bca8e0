use Rattle.std.proofs.Common.{refl}
use Rattle.check_named.specs.Below.check_scopes.specs.Told.{first_in}
use Rattle.check_named.specs.Below.check_frames.specs.Steps.{told_next}
use Rattle.type_check.proofs.exprs.expr_next.Goals as goal

pub returns-in-Plain : goal.returns-in-Plain
returns-in-Plain c =
    told_next c.args.here.setting c.plain_next.result (first_in c.args.refusals.now) _ _ refl c.plain_next.ensures

pub returns-in-Selections : goal.returns-in-Selections
returns-in-Selections c =
    told_next c.args.here.setting c.selection_next.result (first_in c.args.refusals.now) _ _ refl c.selection_next.ensures

pub returns-in-Inside : goal.returns-in-Inside
returns-in-Inside c =
    told_next c.args.here.setting c.inside_next.result (first_in c.args.refusals.now) _ _ refl c.inside_next.ensures

pub returns-in-Choices : goal.returns-in-Choices
returns-in-Choices c =
    told_next c.args.here.setting c.choice_next.result (first_in c.args.refusals.now) _ _ refl c.choice_next.ensures

pub returns-in-Parts : goal.returns-in-Parts
returns-in-Parts c =
    told_next c.args.here.setting c.parts_next.result (first_in c.args.refusals.now) _ _ refl c.parts_next.ensures
