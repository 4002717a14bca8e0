use Rattle.std.proofs.Common.{sym, subst, ◌∙◌}
use Rattle.expr_tree.specs.View.{pattern_view}
use Rattle.stmt_openings.specs.Openings.{Opens}
use Rattle.stmt_openings.proofs.LetLists.{let-bound, let-defined}
use Rattle.stmt_openings.proofs.Regroup.{let-bind, let-definitions}
use Rattle.stmt_openings.proofs.lets.let_opening.Goals as goal

pub returns-then-begins_definition : goal.returns-then-begins_definition
returns-then-begins_definition c = λ one.
    let pattern = pattern_view c.in_ok-pattern.pattern.value in
    let behind = c.boxed_pattern.new.self in
    subst (λ read. Opens c.defined_opening.result one read c.defined_opening.new.source)
    (sym (let-definitions one c.args.place c.args.source.now behind pattern c.in_ok-pattern.ensures.given (sym c.begins_definition.ensures ∙ c.if-begins_definition.true)
    ∙ let-defined one c.args.place pattern behind)) (c.defined_opening.ensures one)

pub returns-else-begins_definition : goal.returns-else-begins_definition
returns-else-begins_definition c = λ one.
    let pattern = pattern_view c.in_ok-pattern.pattern.value in
    let behind = c.boxed_pattern.new.self in
    subst (λ read. Opens c.bound_opening.result one read c.bound_opening.new.source)
    (sym (let-bind one c.args.place c.args.source.now behind pattern c.in_ok-pattern.ensures.given (sym c.begins_definition.ensures ∙ c.if-begins_definition.false)
    ∙ let-bound one c.args.place pattern behind)) (c.bound_opening.ensures one)
