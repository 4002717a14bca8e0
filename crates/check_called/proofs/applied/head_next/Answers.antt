use Rattle.std.proofs.Common.{ap, length, sym, ◌∙◌}
use Rattle.vdm_kinds.specs.declared.name_at.NameAt.{NameAt}
use Rattle.abstract_syntax.specs.Expressions.{expr_place}
use Rattle.class_checks.specs.Callees.{named_callee, qualified_callee}
use Rattle.class_checks.specs.Expressions.{check}
use Rattle.class_checks.specs.Results.{after}
use Rattle.check_steps.specs.Below.check_scopes.specs.Told.{first_in, spec_in}
use Rattle.check_steps.specs.Below.check_calls.specs.declared.callee.Call.{Call}
use Rattle.check_steps.specs.Below.check_frames.specs.Meant.{boxed, called_with, scope_here, target_check, target_of_class_check}
use Rattle.check_steps.specs.Below.check_frames.specs.Steps.{told_next, told_onward}
use Rattle.check_steps.specs.Below.check_frames.specs.declared.rest.Rest.TheVariants.{Items}
use Rattle.check_steps.specs.Below.check_frames.specs.declared.way.Way.{Way}
use Rattle.check_steps.specs.Below.check_frames.specs.declared.way.Way.TheVariants.{Applied}
use Rattle.check_called.proofs.Called.{given_arguments, other_applied, select_applied, select_of_class_applied}
use Rattle.check_called.specs.Heads.{head_applied}
use Rattle.check_called.specs.declared.head.Head.{Head}
use Rattle.check_called.proofs.applied.head_next.Goals as goal

pub returns-in-Name : goal.returns-in-Name
returns-in-Name c =
    told_onward c.args.here.setting c.named_next.result (first_in c.args.refusals.now) (first_in c.named_next.new.refusals) _ _
    (ap (λ (h : Head). head_applied (spec_in c.args.here.setting) (scope_here c.args.here) h (expr_place (boxed c.args.applied)) (check (spec_in c.args.here.setting) (scope_here c.args.here) (boxed c.args.applied)) (length c.args.arguments.now) c.args.place (given_arguments c.args.here.setting (scope_here c.args.here) c.args.arguments)) c.in-Name.is
    ∙ ap (λ (n : NameAt). called_with c.args.here.setting (scope_here c.args.here) (Items c.args.arguments) (named_callee (spec_in c.args.here.setting) (scope_here c.args.here) n.name n.place (length c.args.arguments.now) c.args.place)) (sym c.named_at-named.ensures))
    c.named_next.ensures

pub returns-in-Qualified : goal.returns-in-Qualified
returns-in-Qualified c =
    told_onward c.args.here.setting c.qualified_next.result (first_in c.args.refusals.now) (first_in c.qualified_next.new.refusals) _ _
    (ap (λ (h : Head). head_applied (spec_in c.args.here.setting) (scope_here c.args.here) h (expr_place (boxed c.args.applied)) (check (spec_in c.args.here.setting) (scope_here c.args.here) (boxed c.args.applied)) (length c.args.arguments.now) c.args.place (given_arguments c.args.here.setting (scope_here c.args.here) c.args.arguments)) c.in-Qualified.is
    ∙ ap (λ (n : NameAt). called_with c.args.here.setting (scope_here c.args.here) (Items c.args.arguments) (qualified_callee (spec_in c.args.here.setting) (scope_here c.args.here) c.in-Qualified.class n.name n.place c.in-Qualified.head_place (length c.args.arguments.now) c.args.place)) (sym c.named_at-named-in-Qualified.ensures)
    ∙ ap (λ (m : Call). called_with c.args.here.setting (scope_here c.args.here) (Items c.args.arguments) (qualified_callee (spec_in c.args.here.setting) (scope_here c.args.here) c.in-Qualified.class c.named_at-named-in-Qualified.result.name c.named_at-named-in-Qualified.result.place m.head_place m.count m.place)) (sym c.call_of-call.ensures))
    c.qualified_next.ensures

pub returns-in-Select : goal.returns-in-Select
returns-in-Select c =
    told_next c.args.here.setting c.selected_next.result (first_in c.args.refusals.now) _ _
    (ap (λ (h : Head). head_applied (spec_in c.args.here.setting) (scope_here c.args.here) h (expr_place (boxed c.args.applied)) (check (spec_in c.args.here.setting) (scope_here c.args.here) (boxed c.args.applied)) (length c.args.arguments.now) c.args.place (given_arguments c.args.here.setting (scope_here c.args.here) c.args.arguments)) c.in-Select.is
    ∙ select_applied c.args.here.setting (scope_here c.args.here) c.in-Select.target c.in-Select.name c.in-Select.name_place c.in-Select.dot (expr_place (boxed c.args.applied)) (check (spec_in c.args.here.setting) (scope_here c.args.here) (boxed c.args.applied)) c.args.arguments c.args.place
    ∙ ap (λ (n : NameAt). after (check (spec_in c.args.here.setting) (scope_here c.args.here) (boxed c.in-Select.target)) (target_check c.args.here.setting (scope_here c.args.here) (expr_place (boxed c.in-Select.target)) n.name n.place (Applied c.in-Select.dot c.args.arguments c.args.place))) (sym c.named_at.ensures)
    ∙ ap (λ (w : Way). after (check (spec_in c.args.here.setting) (scope_here c.args.here) (boxed c.in-Select.target)) (target_check c.args.here.setting (scope_here c.args.here) (expr_place (boxed c.in-Select.target)) c.named_at.result.name c.named_at.result.place w)) (sym c.applied_at-way.ensures))
    c.selected_next.ensures

pub returns-in-SelectOfClass : goal.returns-in-SelectOfClass
returns-in-SelectOfClass c =
    told_next c.args.here.setting c.selected_of_class_next.result (first_in c.args.refusals.now) _ _
    (ap (λ (h : Head). head_applied (spec_in c.args.here.setting) (scope_here c.args.here) h (expr_place (boxed c.args.applied)) (check (spec_in c.args.here.setting) (scope_here c.args.here) (boxed c.args.applied)) (length c.args.arguments.now) c.args.place (given_arguments c.args.here.setting (scope_here c.args.here) c.args.arguments)) c.in-SelectOfClass.is
    ∙ select_of_class_applied c.args.here.setting (scope_here c.args.here) c.in-SelectOfClass.target c.in-SelectOfClass.class c.in-SelectOfClass.class_place c.in-SelectOfClass.name c.in-SelectOfClass.name_place c.in-SelectOfClass.dot (expr_place (boxed c.args.applied)) (check (spec_in c.args.here.setting) (scope_here c.args.here) (boxed c.args.applied)) c.args.arguments c.args.place
    ∙ (λ i. after (check (spec_in c.args.here.setting) (scope_here c.args.here) (boxed c.in-SelectOfClass.target)) (target_of_class_check c.args.here.setting (scope_here c.args.here) (expr_place (boxed c.in-SelectOfClass.target))
    (sym c.named_at-class.ensures i).name (sym c.named_at-class.ensures i).place (sym c.named_at-in-SelectOfClass.ensures i).name (sym c.named_at-in-SelectOfClass.ensures i).place (sym c.applied_at-way-in-SelectOfClass.ensures i))))
    c.selected_of_class_next.ensures

pub returns-in-Other : goal.returns-in-Other
returns-in-Other c =
    told_next c.args.here.setting c.value_next.result (first_in c.args.refusals.now) _ _ (ap (λ (h : Head). head_applied (spec_in c.args.here.setting) (scope_here c.args.here) h (expr_place (boxed c.args.applied)) (check (spec_in c.args.here.setting) (scope_here c.args.here) (boxed c.args.applied)) (length c.args.arguments.now) c.args.place (given_arguments c.args.here.setting (scope_here c.args.here) c.args.arguments)) c.in-Other.is ∙ other_applied c.args.here.setting (scope_here c.args.here) (boxed c.args.applied) c.args.arguments c.args.place) c.value_next.ensures
