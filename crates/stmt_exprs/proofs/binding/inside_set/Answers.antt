use Rattle.std.proofs.Common.{ap, sym, ◌∙◌}
use Rattle.class_checks.specs.Scopes.{ScopeTree}
use Rattle.spec_checks.specs.Statements.{moved}
use Rattle.spec_checks.specs.Targets.{StmtScope, patterns_names}
use Rattle.stmt_scopes.specs.Below.check_patterns.specs.Shown.{patterns_of}
use Rattle.stmt_scopes.specs.Below.check_scopes.specs.Told.{first_in}
use Rattle.stmt_scopes.specs.Below.check_frames.specs.Meant.{at}
use Rattle.stmt_scopes.specs.Refused.{if_ok, refused}
use Rattle.stmt_scopes.specs.Standing.{stands_here}
use Rattle.stmt_exprs.proofs.binding.inside_set.Goals as goal

pub returns : goal.returns
returns c =
    let scope = stands_here c.args.stands in
    if_ok c.moved.result c.moved.ensures (λ standing is rest.
    c.in_ok-locals.ensures (λ (within : ScopeTree). rest (moved scope within (patterns_names (patterns_of c.args.patterns))))
    ∙ ap (λ (s : StmtScope). refused (first_in c.inside_elements.new.refusals) (rest s))
    (sym (is ∙ ap (moved scope (at c.args.stands.here.setting c.in_ok-locals.locals)) (c.as_slice.ensures.value ∙ c.in_ok-names.ensures))))
