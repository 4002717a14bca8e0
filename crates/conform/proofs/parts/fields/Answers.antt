use Rattle.std.proofs.Common.{ap, sym, ◌∙◌}
use Rattle.vdm_values.specs.Tree.{tree_of}
use Rattle.conform.proofs.Lists.{fields_found}
use Rattle.conform.proofs.parts.fields.Goals as goal

pub returns-then-is_of : goal.returns-then-is_of
returns-then-is_of c =
    fields_found _ _ _ _ _ _ _ (c.node.ensures.tree ∙ ap tree_of c.in-Rec.is) c.as_slice.ensures.value (sym c.is_of.ensures ∙ c.if-is_of.true)
