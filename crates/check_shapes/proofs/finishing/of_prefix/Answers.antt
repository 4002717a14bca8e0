use Rattle.std.proofs.Common.{◌≡◌, ◌∙◌, ap, map, subst, IfOk}
use Rattle.form_meaning.specs.Forms.{FormTree}
use Rattle.class_checks.specs.Operators.{Source, gives_of_one, is_source, takes_from}
use Rattle.class_checks.specs.Shapes.{unfit}
use Rattle.check_fields.specs.Below.check_scopes.specs.Told.{spec_in}
use Rattle.check_shapes.specs.ShapeView.{seen_view}
use Rattle.check_shapes.proofs.Gathered.{gone, stays}
use Rattle.check_shapes.proofs.finishing.of_prefix.Goals as goal

pub returns-then-is_unfit : goal.returns-then-is_unfit
returns-then-is_unfit c =
    c.any.ensures
    ∙ gone (takes_from c.args.sign) (map seen_view c.args.done.now) _
    (c.if-is_unfit.ensures
    ∙ ap (λ (s : Source). unfit (is_source s) 0 (map seen_view c.args.done.now)) c.source.ensures)

pub returns : goal.returns
returns c =
    subst (λ (t : FormTree). IfOk c.of_one.result (λ f. f ≡ t))
    (c.way_of_one.ensures (spec_in c.args.setting) c.in_ok-operand.operand
    ∙ ap (gives_of_one (spec_in c.args.setting) c.args.sign) (c.in_ok-operand.ensures)
    ∙ stays (takes_from c.args.sign) (map seen_view c.args.done.now) _
    (c.if-is_unfit.ensures
    ∙ ap (λ (s : Source). unfit (is_source s) 0 (map seen_view c.args.done.now)) c.source.ensures))
    c.of_one.ensures
