use Rattle.std.proofs.Common.{◌≡◌, ap, sym, ◌∙◌, rules}
use Rattle.expr_tree.specs.View.{view_of}
use Rattle.spec_checks.specs.Definitions.{literal_number}
use Rattle.part_checks.specs.Below.check_named.proofs.Views.{view-Literal}
use Rattle.sync_checks.proofs.numbers.literal_number.Goals as goal

pub returns-in-Literal : goal.returns-in-Literal
returns-in-Literal c = λ spec class.
    let at : c.as_ref.result.now ≡ c.args.expr.now.value = search (rules, c.as_ref.ensures) in
    c.whole_number.ensures spec class c.in-Literal.field-1
    ∙ ap (literal_number spec class) (sym (ap view_of (sym at ∙ c.in-Literal.is) ∙ view-Literal _ _))
