use Rattle.std.proofs.Common.{Bool, not, ap, ◌∙◌}
use Rattle.vdm_kinds.specs.declared.place.Place.{Place}
use Rattle.vdm_kinds.specs.declared.spec_kind.SpecKind.TheVariants.{NoCommonValue}
use Rattle.expr_tree.specs.View.{view_of}
use Rattle.form_meaning.specs.Forms.{FormTree}
use Rattle.class_checks.specs.Results.{first_among, refused_if}
use Rattle.class_checks.specs.Shapes.{any_or_some}
use Rattle.spec_checks.specs.Statements.{is_object}
use Rattle.stmt_targets.specs.Below.check_scopes.specs.Told.{first_in}
use Rattle.stmt_targets.specs.Below.check_frames.specs.Meant.{spec_here}
use Rattle.stmt_targets.specs.Below.stmt_scopes.specs.Standing.{stands_here}
use Rattle.stmt_simple.proofs.Begun.{start_begun}
use Rattle.stmt_simple.proofs.Noted.{noted_value}
use Rattle.stmt_simple.proofs.threads.refuse_start.Goals as goal

pub returns : goal.returns
returns c = λ place.
    noted_value (spec_here c.args.stands.here) (stands_here c.args.stands)
    (λ (p : Place) (form : FormTree). refused_if (not (any_or_some is_object form)) NoCommonValue p)
    c.args.object.now.value c.deref.result.now c.place_of.result c.in_ok-form.form
    (first_in c.args.refusals.now) (first_in c.form_here.new.refusals) (first_in c.refuse_if.new.self) _
    c.deref.ensures c.place_of.ensures c.in_ok-form.ensures
    (c.refuse_if.ensures
    ∙ ap (λ (b : Bool). first_among (first_in c.form_here.new.refusals) (refused_if (not b) NoCommonValue c.place_of.result)) c.may_be_object-fits.ensures)
    (start_begun (spec_here c.args.stands.here) (stands_here c.args.stands) (view_of c.args.object.now.value) place)
