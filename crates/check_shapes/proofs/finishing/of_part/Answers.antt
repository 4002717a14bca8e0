use Rattle.std.proofs.Common.{◌≡◌, ◌∙◌, ℕ, Bool, ap, map, subst, IfOk, rules, to_z, of_z}
use Rattle.std.specs.Int.{w128}
use Rattle.std.proofs.lemmas.Int.{to_z-of_z}
use Rattle.form_meaning.specs.Forms.{FormTree}
use Rattle.form_meaning.specs.Parts.{taken}
use Rattle.class_checks.specs.TypeNames.{opened}
use Rattle.class_checks.specs.Shapes.{takes_first, unfit, part_numbered}
use Rattle.check_fields.specs.Below.check_scopes.specs.Told.{spec_in}
use Rattle.check_shapes.specs.ShapeView.{seen_view}
use Rattle.check_shapes.proofs.Gathered.{gone, stays}
use Rattle.check_shapes.proofs.Turns.{left_first}
use Rattle.check_shapes.proofs.finishing.of_part.Goals as goal

pub returns-then-is_unfit : goal.returns-then-is_unfit
returns-then-is_unfit c =
    c.any.ensures
    ∙ gone takes_first (map seen_view c.args.done.now) _
    (c.if-is_unfit.ensures
    ∙ ap (λ (takes : ℕ → Bool). unfit takes 0 (map seen_view c.args.done.now)) left_first)

pub returns : goal.returns
returns c =
    let same : to_z w128 (of_z w128 c.args.number) ≡ c.args.number = search (rules, to_z-of_z) in
    subst (λ (t : FormTree). IfOk c.opened.result (λ f. f ≡ t))
    (ap (opened (spec_in c.args.setting))
    (c.in_ok-part.ensures
    ∙ (λ i. taken (part_numbered (same i)) (c.in_ok-target.ensures i)))
    ∙ stays takes_first (map seen_view c.args.done.now) _
    (c.if-is_unfit.ensures
    ∙ ap (λ (takes : ℕ → Bool). unfit takes 0 (map seen_view c.args.done.now)) left_first))
    c.opened.ensures
