use Rattle.std.proofs.Common.{subst, IfOk, ◌≡◌, ◌∙◌, Some, None}
use Rattle.form_meaning.specs.Forms.{FormTree}
use Rattle.check_shapes.proofs.Places.{seen_lookup}
use Rattle.check_shapes.proofs.gathering.seen_at.Goals as goal

pub returns-in-Some : goal.returns-in-Some
returns-in-Some c =
    subst (λ (t : FormTree). IfOk c.copy.result (λ f. f ≡ t))
    (seen_lookup c.args.done.now c.args.others (Some c.in-Some.seen) c.in-Some.ensures.lookup)
    c.copy.ensures

pub returns-in-None : goal.returns-in-None
returns-in-None c = c.any.ensures ∙ seen_lookup c.args.done.now c.args.others None c.in-None.ensures.lookup
