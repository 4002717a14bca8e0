use Rattle.std.proofs.Common.{List, ap, map, refl, ◌++◌, ◌∙◌}
use Rattle.form_meaning.specs.Forms.{FormTree}
use Rattle.class_checks.specs.Patterns.{binds_each}
use Rattle.class_checks.specs.Scopes.{all_bound}
use Rattle.shared_names.specs.Maps.{held}
use Rattle.check_steps.specs.Below.check_scopes.specs.Told.{spec_in, types_in}
use Rattle.check_steps.specs.Below.check_patterns.specs.declared.local_form.LocalForm.{LocalForm as Local}
use Rattle.check_steps.specs.Below.check_patterns.specs.Shown.{local_view, patterns_of}
use Rattle.check_steps.specs.Below.check_frames.specs.Meant.{boxed}
use Rattle.check_steps.specs.Below.check_frames.specs.Steps.{onward}
use Rattle.check_binds.proofs.Bracketed.{iota_first}
use Rattle.check_binds.proofs.sets.iota_next.Goals as goal

pub returns : goal.returns
returns c =
    onward c.args.here.setting c.givens_next.result _ _
    (iota_first c.args.here.setting (held c.args.here.locals.now) (patterns_of c.args.patterns) (map local_view c.in_ok-found.found.items) (boxed c.args.condition) c.args.form c.in_ok-elements.elements (held c.in_ok-locals.locals) _ _
    c.in_ok-exprs.ensures c.in_ok-elements.ensures
    (c.in_ok-found.ensures
    ∙ ap (λ (before : List Local). map local_view before ++ binds_each (spec_in c.args.here.setting) (types_in c.args.here.setting) c.in_ok-elements.elements (patterns_of c.args.patterns)) c.new.ensures.items
    ∙ ap (λ (f : FormTree). binds_each (spec_in c.args.here.setting) (types_in c.args.here.setting) f (patterns_of c.args.patterns)) c.in_ok-elements.ensures)
    (c.in_ok-locals.ensures ∙ ap (λ (ls : List Local). all_bound (map local_view ls) (held c.args.here.locals.now)) c.as_slice.ensures.value) refl)
    c.givens_next.ensures
