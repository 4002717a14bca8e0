use Rattle.std.proofs.Common.{◌≡◌, ◌≤ℤ◌, ◌<ℤ◌, ◌≤◌, ◌-ℤ◌, unsigned_abs, ap, sym, ◌∙◌, subst, rules}
use Rattle.std.proofs.lemmas.Int.{to_z-of_z}
use Rattle.std.specs.List.Sorted.{IsStrictlySortedBy}
use Rattle.abstract_syntax.specs.Values.{set_of, value_trees}
use Rattle.abstract_syntax.specs.ValueOrder.{value_order}
use Rattle.value_operators.specs.Members.{numbers_from, count_from_to}
use Rattle.value_operators.specs.Outcomes.{Gives, sized}
use Rattle.value_operators.proofs.Consecutive.{numbers_rise}
use Rattle.set_ops.proofs.Numbered.{interval_is, interval_large, interval_empty}
use Rattle.set_ops.proofs.intervals.from_to.Goals as goal

pub new-requires-then-m-n : goal.new-requires-then-m-n
new-requires-then-m-n c = subst (IsStrictlySortedBy value_order) (sym c.new.ensures.items) (numbers_rise c.args.m 0)

pub returns-then-m-n : goal.returns-then-m-n
returns-then-m-n c =
    let less : c.args.n <ℤ c.args.m = search (rules, to_z-of_z) in
    subst (λ v. Gives c.sized.result (sized v))
    (c.new-then-m-n.ensures ∙ ap (λ vs. set_of (value_trees vs)) c.new.ensures.items ∙ sym (interval_empty c.args.m c.args.n less))
    c.sized.ensures

pub returns-then-abs_diff-ge-MOST_NUMBERS : goal.returns-then-abs_diff-ge-MOST_NUMBERS
returns-then-abs_diff-ge-MOST_NUMBERS c =
    let ahead : c.args.m ≤ℤ c.args.n = search (rules, to_z-of_z) in
    let far : 199999 ≤ unsigned_abs (c.args.n -ℤ c.args.m) = search (rules, to_z-of_z) in
    interval_large c.args.m c.args.n ahead far

pub new-requires-2 : goal.new-requires-2
new-requires-2 c =
    let made : c.in_ok-members.members.items ≡ numbers_from c.args.m (count_from_to c.args.m c.args.n) = search (rules, to_z-of_z) in
    subst (IsStrictlySortedBy value_order) (sym made) (numbers_rise c.args.m (count_from_to c.args.m c.args.n))

pub returns : goal.returns
returns c =
    let made : c.in_ok-members.members.items ≡ numbers_from c.args.m (count_from_to c.args.m c.args.n) = search (rules, to_z-of_z) in
    subst (λ v. Gives c.sized-2.result (sized v))
    (c.new-2.ensures ∙ ap (λ vs. set_of (value_trees vs)) made ∙ sym (interval_is c.args.m c.args.n))
    c.sized-2.ensures
