use Rattle.std.proofs.Common.{ap, ◌∙◌}
use Rattle.expr_tree.specs.View.{view_of}
use Rattle.class_checks.specs.Expressions.{check}
use Rattle.check_frames.specs.Below.check_scopes.specs.Told.{spec_in}
use Rattle.check_frames.specs.Meant.{scope_here}
use Rattle.check_frames.specs.Steps.{onward}
use Rattle.check_bound.proofs.Views.{view-Cases, view-DefIn, view-IfElse, view-Iota, view-LetIn}
use Rattle.check_bound.proofs.choices.choice_next.Goals as goal

pub returns-in-LetIn : goal.returns-in-LetIn
returns-in-LetIn c =
    onward c.args.here.setting c.let_next.result _ _ (ap (check (spec_in c.args.here.setting) (scope_here c.args.here)) (ap view_of c.in-LetIn.is ∙ view-LetIn _ _ _)) (c.let_next.ensures _)

pub returns-in-DefIn : goal.returns-in-DefIn
returns-in-DefIn c =
    onward c.args.here.setting c.def_next.result _ _ (ap (check (spec_in c.args.here.setting) (scope_here c.args.here)) (ap view_of c.in-DefIn.is ∙ view-DefIn _ _ _ _)) (c.def_next.ensures _)

pub returns-in-IfElse : goal.returns-in-IfElse
returns-in-IfElse c =
    onward c.args.here.setting c.if_else_next.result _ _ (ap (check (spec_in c.args.here.setting) (scope_here c.args.here)) (ap view_of c.in-IfElse.is ∙ view-IfElse _ _ _ _ _)) (c.if_else_next.ensures _)

pub returns-in-Cases : goal.returns-in-Cases
returns-in-Cases c =
    onward c.args.here.setting c.subject_next.result _ _ (ap (check (spec_in c.args.here.setting) (scope_here c.args.here)) (ap view_of c.in-Cases.is ∙ view-Cases _ _ _ _)) (c.subject_next.ensures _)

pub returns-in-Iota : goal.returns-in-Iota
returns-in-Iota c =
    onward c.args.here.setting c.iota_next.result _ _ (ap (check (spec_in c.args.here.setting) (scope_here c.args.here)) (ap view_of c.in-Iota.is ∙ view-Iota _ _ _)) (c.iota_next.ensures _)
