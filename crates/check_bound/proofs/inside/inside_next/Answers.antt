use Rattle.std.proofs.Common.{ap, ◌∙◌}
use Rattle.expr_tree.specs.View.{view_of}
use Rattle.class_checks.specs.Expressions.{check}
use Rattle.check_frames.specs.Below.check_scopes.specs.Told.{spec_in}
use Rattle.check_frames.specs.Meant.{scope_here}
use Rattle.check_frames.specs.Steps.{onward}
use Rattle.check_bound.proofs.Views.{view-Exists, view-ExistsOne, view-ForAll, view-LetBe, view-MapComprehension, view-SequenceComprehension, view-SetComprehension}
use Rattle.check_bound.proofs.inside.inside_next.Goals as goal

pub returns-in-SetComprehension : goal.returns-in-SetComprehension
returns-in-SetComprehension c =
    onward c.args.here.setting c.set_of_next.result _ _ (ap (check (spec_in c.args.here.setting) (scope_here c.args.here)) (ap view_of c.in-SetComprehension.is ∙ view-SetComprehension _ _ _ _)) (c.set_of_next.ensures _)

pub returns-in-MapComprehension : goal.returns-in-MapComprehension
returns-in-MapComprehension c =
    onward c.args.here.setting c.map_of_next.result _ _ (ap (check (spec_in c.args.here.setting) (scope_here c.args.here)) (ap view_of c.in-MapComprehension.is ∙ view-MapComprehension _ _ _ _ _)) (c.map_of_next.ensures _)

pub returns-in-SequenceComprehension : goal.returns-in-SequenceComprehension
returns-in-SequenceComprehension c =
    onward c.args.here.setting c.sequence_of_next.result _ _ (ap (check (spec_in c.args.here.setting) (scope_here c.args.here)) (ap view_of c.in-SequenceComprehension.is ∙ view-SequenceComprehension _ _ _ _ _)) (c.sequence_of_next.ensures _)

pub returns-in-LetBe : goal.returns-in-LetBe
returns-in-LetBe c =
    onward c.args.here.setting c.let_be_next.result _ _ (ap (check (spec_in c.args.here.setting) (scope_here c.args.here)) (ap view_of c.in-LetBe.is ∙ view-LetBe _ _ _ _)) (c.let_be_next.ensures _)

pub returns-in-ForAll : goal.returns-in-ForAll
returns-in-ForAll c =
    onward c.args.here.setting c.for_all_next.result _ _ (ap (check (spec_in c.args.here.setting) (scope_here c.args.here)) (ap view_of c.in-ForAll.is ∙ view-ForAll _ _ _)) (c.for_all_next.ensures _)

pub returns-in-Exists : goal.returns-in-Exists
returns-in-Exists c =
    onward c.args.here.setting c.exists_next.result _ _ (ap (check (spec_in c.args.here.setting) (scope_here c.args.here)) (ap view_of c.in-Exists.is ∙ view-Exists _ _ _)) (c.exists_next.ensures _)

pub returns-in-ExistsOne : goal.returns-in-ExistsOne
returns-in-ExistsOne c =
    onward c.args.here.setting c.exists_one_next.result _ _ (ap (check (spec_in c.args.here.setting) (scope_here c.args.here)) (ap view_of c.in-ExistsOne.is ∙ view-ExistsOne _ _ _)) (c.exists_one_next.ensures _)
