use Rattle.std.proofs.Common.{List, ap, sym, ◌∙◌}
use Rattle.vdm_kinds.specs.declared.name_at.NameAt.{NameAt}
use Rattle.abstract_syntax.specs.Expressions.{history}
use Rattle.expr_tree.specs.View.{view_of}
use Rattle.class_checks.specs.Expressions.{check}
use Rattle.check_steps.specs.Below.check_scopes.specs.Told.{first_in, spec_in, told}
use Rattle.check_steps.specs.Below.check_names.proofs.Notes.{if_ok}
use Rattle.check_steps.specs.Below.check_frames.specs.Meant.{scope_here}
use Rattle.check_named.proofs.Begun.{named_begun, old_begun}
use Rattle.check_named.proofs.Views.{view-History, view-Name, view-Old, view-Qualified, view-Result, view-SelfObject, view-Time}
use Rattle.check_named.proofs.names.name_form.Goals as goal

pub returns-in-Name : goal.returns-in-Name
returns-in-Name c =
    if_ok c.read_name.result c.read_name.ensures (λ form told_so. ap (told (first_in c.args.refusals.now)) (ap (check (spec_in c.args.here.setting) (scope_here c.args.here)) (ap view_of c.in-Name.is ∙ view-Name _ _) ∙ named_begun c.args.here.setting (scope_here c.args.here) _ _) ∙ told_so)

pub returns-in-Old : goal.returns-in-Old
returns-in-Old c =
    if_ok c.read_old.result c.read_old.ensures (λ form told_so. ap (told (first_in c.args.refusals.now)) (ap (check (spec_in c.args.here.setting) (scope_here c.args.here)) (ap view_of c.in-Old.is ∙ view-Old _ _) ∙ old_begun c.args.here.setting (scope_here c.args.here) _ _) ∙ told_so)

pub returns-in-Qualified : goal.returns-in-Qualified
returns-in-Qualified c =
    if_ok c.qualified_form.result c.qualified_form.ensures (λ form told_so. ap (told (first_in c.args.refusals.now)) (ap (check (spec_in c.args.here.setting) (scope_here c.args.here)) (ap view_of c.in-Qualified.is ∙ view-Qualified _ _ _ _)) ∙ told_so)

pub returns-in-SelfObject : goal.returns-in-SelfObject
returns-in-SelfObject c =
    if_ok c.self_form.result c.self_form.ensures (λ form told_so. ap (told (first_in c.args.refusals.now)) (ap (check (spec_in c.args.here.setting) (scope_here c.args.here)) (ap view_of c.in-SelfObject.is ∙ view-SelfObject _)) ∙ told_so)

pub returns-in-Result : goal.returns-in-Result
returns-in-Result c =
    if_ok c.result_form.result c.result_form.ensures (λ form told_so. ap (told (first_in c.args.refusals.now)) (ap (check (spec_in c.args.here.setting) (scope_here c.args.here)) (ap view_of c.in-Result.is ∙ view-Result _)) ∙ told_so)

pub returns-in-Time : goal.returns-in-Time
returns-in-Time c =
    if_ok c.time_form.result c.time_form.ensures (λ form told_so. ap (told (first_in c.args.refusals.now)) (ap (check (spec_in c.args.here.setting) (scope_here c.args.here)) (ap view_of c.in-Time.is ∙ view-Time _)) ∙ told_so)

pub returns-in-History : goal.returns-in-History
returns-in-History c =
    if_ok c.count_form.result (c.count_form.ensures _) (λ form told_so. ap (told (first_in c.args.refusals.now)) (ap (check (spec_in c.args.here.setting) (scope_here c.args.here)) (ap view_of c.in-History.is ∙ view-History _ _ _)
    ∙ ap (λ (ns : List NameAt). check (spec_in c.args.here.setting) (scope_here c.args.here) (history c.in-History.field-0 ns c.in-History.place)) (sym c.as_slice.ensures.value)) ∙ told_so)
