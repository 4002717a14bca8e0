use Rattle.std.proofs.Common.{List, ap, map, ◌∙◌}
use Rattle.class_checks.specs.Scopes.{all_bound}
use Rattle.shared_names.specs.Maps.{held}
use Rattle.check_steps.specs.Below.check_patterns.specs.declared.local_form.LocalForm.{LocalForm as Local}
use Rattle.check_steps.specs.Below.check_patterns.specs.Shown.{local_view}
use Rattle.check_steps.specs.Below.check_frames.specs.Steps.{onward}
use Rattle.check_steps.specs.Scoped.{inside_found}
use Rattle.check_series.proofs.binding.inside_all_next.Goals as goal

pub returns : goal.returns
returns c =
    onward c.args.here.setting c.inside_next.result _ _ (inside_found c.args.here.setting c.args.within (map local_view c.args.found.items) (held c.args.here.locals.now) (held c.in_ok-locals.locals) (c.in_ok-locals.ensures ∙ ap (λ (ls : List Local). all_bound (map local_view ls) (held c.args.here.locals.now)) c.as_slice.ensures.value)) c.inside_next.ensures
