use Rattle.std.proofs.Common.{◌≡◌, replicate, length, subst, sym, ap, ◌∙◌, rules}
use Rattle.std.specs.List.{list_all}
use Rattle.bind_choices.specs.Choices.{choices_left, AreIndices, has_values}
use Rattle.bind_choices.proofs.Starts.{first_indices, all_left}
use Rattle.bind_choices.proofs.choices.Choices.of.Goals as goal

all_at_first : (c : goal.In_ok-indices) → c.in_ok-indices.indices.items ≡ replicate (length c.args.lists.items) 0
all_at_first c = search rules

tests_all : (c : goal.In_ok-indices) → c.all_have_values-has_next.result ≡ list_all has_values c.args.lists.items
tests_all c = c.all_have_values-has_next.ensures ∙ ap (list_all has_values) c.as_slice.ensures.value

pub invariant_of-result : goal.invariant_of-result
invariant_of-result c = λ next.
    subst (AreIndices c.args.lists.items) (sym (all_at_first c)) (first_indices c.args.lists.items (sym (tests_all c) ∙ next))

pub returns : goal.returns
returns c =
    ap (λ indices. choices_left c.args.lists.items indices c.all_have_values-has_next.result) (all_at_first c) ∙
    all_left c.args.lists.items c.all_have_values-has_next.result (tests_all c)
