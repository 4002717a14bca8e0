use Rattle.std.proofs.Common.{ap, option_map, ◌∙◌}
use Rattle.expr_tree.specs.View.{boxed_view}
use Rattle.spec_checks.specs.Statements.{maybe_of, moved}
use Rattle.stmt_scopes.specs.Below.check_patterns.specs.Shown.{patterns_of}
use Rattle.stmt_scopes.specs.Below.check_scopes.specs.Told.{first_in}
use Rattle.stmt_scopes.specs.Below.check_frames.specs.Meant.{at, spec_here}
use Rattle.stmt_scopes.specs.Refused.{if_ok}
use Rattle.stmt_scopes.specs.Standing.{standing_of, stands_here}
use Rattle.stmt_exprs.proofs.Behinds.{bind_told}
use Rattle.stmt_exprs.proofs.binding.inside_condition.Goals as goal

pub returns : goal.returns
returns c =
    let scope = stands_here c.args.stands in
    let within = at c.args.stands.here.setting c.in_ok-locals.locals in
    if_ok c.moved.result c.moved.ensures (λ standing is rest.
    bind_told (spec_here c.args.stands.here) scope (standing_of c.args.stands standing) within (patterns_of c.args.patterns) (boxed_view c.args.set.now)
    (maybe_of (option_map boxed_view c.args.condition.now)) (first_in c.args.refusals.now) (first_in c.inside_elements.new.refusals)
    (first_in c.refuse_condition_in.new.refusals) rest c.in_ok-locals.ensures c.in_ok-refuse_condition_in.ensures
    (is ∙ ap (moved scope within) (c.as_slice.ensures.value ∙ c.in_ok-names.ensures)))
