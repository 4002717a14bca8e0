use Rattle.std.proofs.Common.{◌≡◌, ◌∙◌, ℕ, Bool, ap, map, subst, IfOk}
use Rattle.form_meaning.specs.Forms.{FormTree}
use Rattle.form_meaning.specs.Parts.{taken}
use Rattle.class_checks.specs.Shapes.{takes_first, unfit, kept}
use Rattle.check_fields.specs.Below.check_scopes.specs.Told.{spec_in}
use Rattle.check_shapes.specs.ShapeView.{names_of, seen_view}
use Rattle.check_shapes.proofs.Gathered.{gone, stays}
use Rattle.check_shapes.proofs.Turns.{left_first}
use Rattle.check_shapes.proofs.finishing.of_changed.Goals as goal

pub returns-then-is_unfit : goal.returns-then-is_unfit
returns-then-is_unfit c =
    c.any.ensures
    ∙ gone takes_first (map seen_view c.args.done.now) _
    (c.if-is_unfit.ensures
    ∙ ap (λ (takes : ℕ → Bool). unfit takes 0 (map seen_view c.args.done.now)) left_first)

pub returns : goal.returns
returns c =
    subst (λ (t : FormTree). IfOk c.taken_by.result (λ f. f ≡ t))
    (ap (taken (kept (spec_in c.args.setting) (names_of c.args.fields.now))) (c.in_ok-target.ensures)
    ∙ stays takes_first (map seen_view c.args.done.now) _
    (c.if-is_unfit.ensures
    ∙ ap (λ (takes : ℕ → Bool). unfit takes 0 (map seen_view c.args.done.now)) left_first))
    c.taken_by.ensures
