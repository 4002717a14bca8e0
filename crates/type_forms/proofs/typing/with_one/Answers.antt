use Rattle.std.proofs.Common.{ap, ◌∙◌}
use Rattle.type_forms.specs.Tree.{alt_of, alt_trees}
use Rattle.type_forms.proofs.Nothing.{ok_same, new_put_behind, unknown_as}
use Rattle.type_forms.proofs.typing.with_one.Goals as goal

pub returns-else-is_known : goal.returns-else-is_known
returns-else-is_known c =
    ok_same c.with_new.result _ _
    (new_put_behind (alt_of c.args.alt) (alt_trees c.args.alternatives.value.items)
    (unknown_as (alt_of c.args.alt) c.as_slice.result.now c.args.alternatives.value.items
    (c.as_slice.ensures.value ∙ ap (λ v. v.items) c.deref.ensures) c.if-is_known.ensures))
    c.with_new.ensures
