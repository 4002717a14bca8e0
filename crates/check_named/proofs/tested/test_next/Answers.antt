use Rattle.std.proofs.Common.{ap, sym, ◌∙◌}
use Rattle.vdm_kinds.specs.declared.name_at.NameAt.{NameAt}
use Rattle.abstract_syntax.specs.Expressions.{is_of_base_class, is_of_class}
use Rattle.expr_tree.specs.View.{view_of}
use Rattle.class_checks.specs.Expressions.{check}
use Rattle.check_steps.specs.Below.check_scopes.specs.Told.{first_in, spec_in}
use Rattle.check_steps.specs.Below.check_frames.specs.Meant.{scope_here}
use Rattle.check_steps.specs.Below.check_frames.specs.Steps.{told_onward}
use Rattle.check_named.proofs.Views.{view-IsOfBaseClass, view-IsOfClass, view-IsOfNamed, view-IsOfType}
use Rattle.check_named.proofs.tested.test_next.Goals as goal

pub returns-in-IsOfType : goal.returns-in-IsOfType
returns-in-IsOfType c =
    told_onward c.args.here.setting c.of_type_next.result (first_in c.args.refusals.now) (first_in c.of_type_next.new.refusals) _ _ (ap (check (spec_in c.args.here.setting) (scope_here c.args.here)) (ap view_of c.in-IsOfType.is ∙ view-IsOfType _ _ _)) (c.of_type_next.ensures _)

pub returns-in-IsOfNamed : goal.returns-in-IsOfNamed
returns-in-IsOfNamed c =
    told_onward c.args.here.setting c.of_named_next.result (first_in c.args.refusals.now) (first_in c.of_named_next.new.refusals) _ _ (ap (check (spec_in c.args.here.setting) (scope_here c.args.here)) (ap view_of c.in-IsOfNamed.is ∙ view-IsOfNamed _ _ _)) c.of_named_next.ensures

pub returns-in-IsOfClass : goal.returns-in-IsOfClass
returns-in-IsOfClass c =
    told_onward c.args.here.setting c.of_class_next.result (first_in c.args.refusals.now) (first_in c.of_class_next.new.refusals) _ _
    (ap (check (spec_in c.args.here.setting) (scope_here c.args.here)) (ap view_of c.in-IsOfClass.is ∙ view-IsOfClass _ _ _ _)
    ∙ ap (λ (n : NameAt). check (spec_in c.args.here.setting) (scope_here c.args.here) (is_of_class n.name n.place (view_of c.in-IsOfClass.tested.value) c.in-IsOfClass.field-3)) (sym c.named_at.ensures))
    (c.of_class_next.ensures c.in-IsOfClass.field-3)

pub returns-in-IsOfBaseClass : goal.returns-in-IsOfBaseClass
returns-in-IsOfBaseClass c =
    told_onward c.args.here.setting c.of_base_class_next.result (first_in c.args.refusals.now) (first_in c.of_base_class_next.new.refusals) _ _
    (ap (check (spec_in c.args.here.setting) (scope_here c.args.here)) (ap view_of c.in-IsOfBaseClass.is ∙ view-IsOfBaseClass _ _ _ _)
    ∙ ap (λ (n : NameAt). check (spec_in c.args.here.setting) (scope_here c.args.here) (is_of_base_class n.name n.place (view_of c.in-IsOfBaseClass.tested.value) c.in-IsOfBaseClass.field-3)) (sym c.named_at-in-IsOfBaseClass.ensures))
    (c.of_base_class_next.ensures c.in-IsOfBaseClass.field-3)
