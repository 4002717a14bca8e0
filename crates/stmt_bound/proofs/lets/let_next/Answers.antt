use Rattle.std.proofs.Common.{List, ap, map, sym, ◌∙◌}
use Rattle.vdm_kinds.specs.declared.name.Name.{Name}
use Rattle.expr_tree.specs.View.{defined_trees, defined_view}
use Rattle.expr_tree.specs.declared.parts.Defined.{Defined}
use Rattle.vdm_tree.specs.StmtView.{boxed_stmt}
use Rattle.class_checks.specs.Expressions.{defined_in}
use Rattle.class_checks.specs.Scopes.{ScopeTree}
use Rattle.spec_checks.specs.Statements.{check_stmt, moved}
use Rattle.spec_checks.specs.Targets.{defined_names}
use Rattle.stmt_pending.specs.Below.check_scopes.specs.Told.{first_in}
use Rattle.stmt_pending.specs.Below.check_frames.specs.Meant.{at, spec_here}
use Rattle.stmt_pending.specs.Below.stmt_scopes.specs.Refused.{refused}
use Rattle.stmt_pending.specs.Below.stmt_scopes.specs.Standing.{standing_of, stands_here}
use Rattle.stmt_pending.specs.Steps.{next_inside}
use Rattle.stmt_bound.proofs.Begun.{let_begun}
use Rattle.stmt_bound.proofs.lets.let_next.Goals as goal

pub returns : goal.returns
returns c = λ place.
    let spec = spec_here c.args.stands.here in
    let scope = stands_here c.args.stands in
    let body = boxed_stmt c.args.body.now in
    let later = first_in c.inside_definitions.new.refusals in
    next_inside c.args.stands.here.setting c.args.stands.returned.now c.next_in.result
    (moved scope (at c.args.stands.here.setting c.in_ok-locals.locals) c.as_slice.result.now) (standing_of c.args.stands c.in_ok-inside.inside) body later _
    (ap (refused (first_in c.args.refusals.now)) (let_begun spec scope (defined_trees (map defined_view c.args.definitions.now.items)) body place)
    ∙ ap (λ (ds : List Defined). refused (first_in c.args.refusals.now) (defined_in spec scope.within (defined_trees (map defined_view ds))
    (λ (within : ScopeTree). check_stmt spec (moved scope within (defined_names (defined_trees (map defined_view ds)))) body))) (sym c.as_slice-definitions.ensures.value)
    ∙ c.in_ok-locals.ensures (λ (within : ScopeTree). check_stmt spec (moved scope within (defined_names (defined_trees (map defined_view c.as_slice-definitions.result.now)))) body)
    ∙ ap (λ (names : List Name). refused later (check_stmt spec (moved scope (at c.args.stands.here.setting c.in_ok-locals.locals) names) body)) (sym (c.as_slice.ensures.value ∙ c.in_ok-names.ensures)))
    c.in_ok-inside.ensures
    (c.next_in.ensures c.args.stands.here.setting c.args.stands.returned.now)
