use Rattle.std.proofs.Common.{ap, sym, ◌∙◌}
use Rattle.abstract_syntax.specs.Statements.{target_place}
use Rattle.form_meaning.specs.Forms.{FormTree}
use Rattle.shared_names.specs.Maps.{held}
use Rattle.vdm_tree.specs.StmtView.{target_view}
use Rattle.class_checks.specs.Results.{refusing}
use Rattle.spec_checks.specs.Targets.{Written, steps_in, target_steps}
use Rattle.target_steps.specs.Below.check_scopes.specs.Told.{first_in}
use Rattle.target_steps.specs.Below.check_frames.specs.Meant.{spec_here}
use Rattle.target_steps.specs.Below.stmt_scopes.specs.Refused.{if_ok, refused}
use Rattle.target_steps.specs.Below.stmt_scopes.specs.Standing.{stands_here}
use Rattle.stmt_targets.specs.Naming.{written_as}
use Rattle.stmt_targets.proofs.Writing.{told_written}
use Rattle.stmt_targets.proofs.targets.target_form.Goals as goal

pub returns : goal.returns
returns c =
    let spec = spec_here c.args.stands.here in
    let scope = stands_here c.args.stands in
    let target = target_view c.args.target.now in
    let names = held c.args.stands.here.locals.now in
    let old = first_in c.args.refusals.now in
    let middle = first_in c.written_form.new.refusals in
    if_ok c.form_behind.result c.form_behind.ensures (λ found is rest.
    ap (λ (w : Written). refused old (refusing w.refusals (steps_in spec scope (target_place target) w.form (target_steps target) rest))) (sym c.target_named-named.ensures.named)
    ∙ told_written (written_as c.args.stands.here.setting names c.target_named-named.result) c.in_ok-form.form old middle
    (λ (f : FormTree). steps_in spec scope (target_place target) f (target_steps target) rest) (c.in_ok-form.ensures names)
    ∙ (λ i. refused middle (steps_in spec scope (sym c.place_of_target.ensures i) c.in_ok-form.form (sym c.steps_of.ensures i) rest))
    ∙ is rest)
