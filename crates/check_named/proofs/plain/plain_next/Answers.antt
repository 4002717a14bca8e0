use Rattle.std.proofs.Common.{ap, ◌∙◌}
use Rattle.expr_tree.specs.View.{view_of}
use Rattle.class_checks.specs.Expressions.{check}
use Rattle.check_steps.specs.Below.check_scopes.specs.Told.{spec_in}
use Rattle.check_steps.specs.Below.check_frames.specs.Meant.{scope_here}
use Rattle.check_steps.specs.Below.check_frames.specs.Steps.{onward}
use Rattle.check_named.proofs.Views.{view-Bracketed, view-EmptyMap, view-Literal}
use Rattle.check_named.proofs.plain.plain_next.Goals as goal

pub returns-in-Bracketed : goal.returns-in-Bracketed
returns-in-Bracketed c =
    onward c.args.here.setting c.bracketed_next.result _ _ (ap (check (spec_in c.args.here.setting) (scope_here c.args.here)) (ap view_of c.in-Bracketed.is ∙ view-Bracketed _ _)) (c.bracketed_next.ensures _)

pub returns-in-EmptyMap : goal.returns-in-EmptyMap
returns-in-EmptyMap c =
    onward c.args.here.setting c.empty_map_next.result _ _ (ap (check (spec_in c.args.here.setting) (scope_here c.args.here)) (ap view_of c.in-EmptyMap.is ∙ view-EmptyMap _)) (c.empty_map_next.ensures _)

pub returns-in-Literal : goal.returns-in-Literal
returns-in-Literal c =
    onward c.args.here.setting c.literal_next.result _ _ (ap (check (spec_in c.args.here.setting) (scope_here c.args.here)) (ap view_of c.in-Literal.is ∙ view-Literal _ _)) (c.literal_next.ensures _)
