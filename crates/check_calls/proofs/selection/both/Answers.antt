use Rattle.std.proofs.Common.{sym, ◌∙◌}
use Rattle.class_checks.specs.Callees.{wants_joined}
use Rattle.type_forms.specs.Tree.{form_trees}
use Rattle.check_calls.proofs.selection.both.Goals as goal

pub returns : goal.returns
returns c = λ i. record {
  wants = sym
      (c.in_ok-wants.ensures ∙ (λ j. wants_joined (form_trees (c.as_slice.ensures.value j)) (form_trees (c.as_slice-2.ensures.value j)))) i;
  gives = sym c.in_ok-result.ensures i;
  first = sym c.either_first.ensures i;
}
