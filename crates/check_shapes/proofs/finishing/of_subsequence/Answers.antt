use Rattle.std.proofs.Common.{◌≡◌, ◌∙◌, ℕ, Bool, ap, map, subst, IfOk}
use Rattle.form_meaning.specs.Forms.{FormTree}
use Rattle.form_meaning.specs.Parts.{item, taken}
use Rattle.class_checks.specs.Operators.{sequence_with}
use Rattle.class_checks.specs.Shapes.{takes_first, unfit}
use Rattle.check_shapes.specs.ShapeView.{seen_view}
use Rattle.check_shapes.proofs.Gathered.{gone, stays}
use Rattle.check_shapes.proofs.Turns.{left_first}
use Rattle.check_shapes.proofs.finishing.of_subsequence.Goals as goal

pub returns-then-is_unfit : goal.returns-then-is_unfit
returns-then-is_unfit c spec =
    c.any.ensures
    ∙ gone takes_first (map seen_view c.args.done.now) _
    (c.if-is_unfit.ensures
    ∙ ap (λ (takes : ℕ → Bool). unfit takes 0 (map seen_view c.args.done.now)) left_first)

pub returns : goal.returns
returns c spec =
    subst (λ (t : FormTree). IfOk c.sequence_of.result (λ f. f ≡ t))
    (ap (λ (f : FormTree). sequence_with (taken item f)) (c.in_ok-target.ensures)
    ∙ stays takes_first (map seen_view c.args.done.now) _
    (c.if-is_unfit.ensures
    ∙ ap (λ (takes : ℕ → Bool). unfit takes 0 (map seen_view c.args.done.now)) left_first))
    c.sequence_of.ensures
