use Rattle.std.proofs.Common.{List, ap, map, ◌∙◌}
use Rattle.class_checks.specs.Scopes.{LocalForm, all_bound}
use Rattle.shared_names.specs.Maps.{held}
use Rattle.check_steps.specs.Below.check_scopes.specs.Told.{scope_at}
use Rattle.check_steps.specs.Below.check_names.proofs.Notes.{if_ok}
use Rattle.check_steps.specs.Below.check_patterns.specs.declared.local_form.LocalForm.{LocalForm as Local}
use Rattle.check_steps.specs.Below.check_patterns.specs.Shown.{local_view}
use Rattle.check_binds.proofs.definitions.inside_pattern.Goals as goal

pub returns : goal.returns
returns c =
    if_ok c.inside.result c.inside.ensures (λ all told_so. ap (scope_at c.args.here.setting)
    (told_so ∙ ap (λ (ls : List Local). all_bound (map local_view ls) (held c.args.here.locals.now)) c.as_slice.ensures.value ∙ ap (λ (fs : List LocalForm). all_bound fs (held c.args.here.locals.now)) c.in_ok-found.ensures))
