use Rattle.std.proofs.Common.{Bool, List, ◌++◌, ap, ◌∙◌}
use Rattle.shared_names.specs.Maps.{held}
use Rattle.class_checks.specs.Patterns.{scope_if, with_each}
use Rattle.class_checks.specs.Scopes.{ScopeTree}
use Rattle.check_types.specs.Below.check_scopes.specs.Told.{scope_at}
use Rattle.check_patterns.specs.Shown.{bindings_in}
use Rattle.check_patterns.proofs.ScopeTurns.{same_scopes}
use Rattle.check_patterns.proofs.several.scopes_of.Goals as goal

pub returns : goal.returns
returns c = λ setting.
    same_scopes c.with_each.result setting _ _
    (ap (λ (made : List ScopeTree). made ++ with_each (scope_at setting (held c.args.locals.now)) (bindings_in c.args.bindings.now))
    (c.in_ok-scopes.ensures setting ∙ ap (λ (b : Bool). scope_if b (scope_at setting (held c.args.locals.now))) c.some_empty.ensures))
    (c.with_each.ensures setting)
