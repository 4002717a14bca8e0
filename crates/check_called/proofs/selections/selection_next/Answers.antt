use Rattle.std.proofs.Common.{ap, sym, ◌∙◌}
use Rattle.vdm_kinds.specs.declared.name_at.NameAt.{NameAt}
use Rattle.abstract_syntax.specs.Expressions.{select, select_of_class}
use Rattle.expr_tree.specs.View.{view_of}
use Rattle.class_checks.specs.Expressions.{check}
use Rattle.check_steps.specs.Below.check_scopes.specs.Told.{spec_in}
use Rattle.check_steps.specs.Below.check_frames.specs.Meant.{scope_here}
use Rattle.check_steps.specs.Below.check_frames.specs.Steps.{onward}
use Rattle.check_called.proofs.Views.{view-Select, view-SelectOfClass}
use Rattle.check_called.proofs.selections.selection_next.Goals as goal

pub returns-in-Select : goal.returns-in-Select
returns-in-Select c =
    onward c.args.here.setting c.read_next.result _ _
    (ap (check (spec_in c.args.here.setting) (scope_here c.args.here)) (ap view_of c.in-Select.is ∙ view-Select _ _ _ _)
    ∙ ap (λ (n : NameAt). check (spec_in c.args.here.setting) (scope_here c.args.here) (select (view_of c.in-Select.target.value) n.name n.place c.in-Select.field-3)) (sym c.named_at.ensures))
    (c.read_next.ensures c.in-Select.field-3)

pub returns-in-SelectOfClass : goal.returns-in-SelectOfClass
returns-in-SelectOfClass c =
    onward c.args.here.setting c.read_of_class_next.result _ _
    (ap (check (spec_in c.args.here.setting) (scope_here c.args.here)) (ap view_of c.in-SelectOfClass.is ∙ view-SelectOfClass _ _ _ _ _ _)
    ∙ (λ i. check (spec_in c.args.here.setting) (scope_here c.args.here) (select_of_class (view_of c.in-SelectOfClass.target.value) (sym c.named_at-class.ensures i).name (sym c.named_at-class.ensures i).place (sym c.named_at-in-SelectOfClass.ensures i).name (sym c.named_at-in-SelectOfClass.ensures i).place c.in-SelectOfClass.field-5)))
    (c.read_of_class_next.ensures c.in-SelectOfClass.field-5)
