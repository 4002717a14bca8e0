use Rattle.std.proofs.Common.{List, [], ◌∷◌, ◌++◌, map, ap, ◌∙◌}
use Rattle.shared_names.specs.Maps.{held}
use Rattle.check_types.specs.Below.check_scopes.specs.Told.{scope_at}
use Rattle.class_checks.specs.Patterns.{with_each}
use Rattle.check_patterns.specs.Shown.{local_view, scopes_at}
use Rattle.check_patterns.specs.declared.local_form.LocalForm.{LocalForm as Local}
use Rattle.check_patterns.proofs.ScopeTurns.{scope_turn}
use Rattle.check_patterns.proofs.several.with_each.Goals as goal

pub loop-found-preserved : goal.loop-found-preserved
loop-found-preserved c = λ setting.
    scope_turn (scope_at setting (held c.args.locals.now)) c.args.bindings.now c.loop-found.found-index c.found-item.result
    (scopes_at setting c.loop-found.scopes.items) (scopes_at setting c.in_ok-scopes.scopes.items) _ c.found-item.is c.loop-found-test.true
    (c.in_ok-scopes.ensures setting
    ∙ ap (λ (fs : List Local). scopes_at setting c.loop-found.scopes.items ++ with_each (scope_at setting (held c.args.locals.now)) (map local_view fs ∷ [])) c.as_slice.ensures.value)
    (c.loop-found.invariant setting)
