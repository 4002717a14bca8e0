use Rattle.std.proofs.Common.{◌≡◌, subst, IfOk}
use Rattle.form_meaning.specs.Forms.{FormTree}
use Rattle.class_checks.specs.Operators.{map_with}
use Rattle.check_shapes.proofs.finishing.of_map.Goals as goal

pub returns : goal.returns
returns c spec =
    subst (λ (t : FormTree). IfOk c.map_with-2.result (λ f. f ≡ t))
    (λ i. map_with (c.in_ok-keys.ensures i) (c.in_ok-values_seen.ensures i))
    c.map_with-2.ensures
