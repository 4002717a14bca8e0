use Rattle.std.proofs.Common.{List, ap, map, sym, ◌∙◌}
use Rattle.class_checks.specs.Scopes.{LocalForm, Locals, all_bound, inside}
use Rattle.shared_names.specs.Maps.{held}
use Rattle.stmt_scopes.specs.Below.check_patterns.specs.Shown.{local_view}
use Rattle.stmt_scopes.specs.Below.check_patterns.specs.declared.local_form.LocalForm.{LocalForm as Local}
use Rattle.stmt_scopes.specs.Below.check_scopes.specs.Told.{first_in, scope_at}
use Rattle.stmt_scopes.specs.Below.check_frames.specs.Meant.{scope_here}
use Rattle.stmt_scopes.specs.Refused.{if_ok, refused}
use Rattle.stmt_exprs.proofs.binding.inside_elements.Goals as goal

pub returns : goal.returns
returns c =
    if_ok c.inside.result c.inside.ensures (λ all is rest.
    c.in_ok-found.ensures (λ (found : List LocalForm). rest (inside (scope_here c.args.here) found))
    ∙ ap (λ (names : Locals). refused (first_in c.elements_found.new.refusals) (rest (scope_at c.args.here.setting names)))
    (sym (is ∙ ap (λ (ls : List Local). all_bound (map local_view ls) (held c.args.here.locals.now)) c.as_slice.ensures.value)))
