use Rattle.std.proofs.Common.{ap, refl, sym, ◌∙◌}
use Rattle.form_meaning.specs.Forms.{FormTree}
use Rattle.class_checks.specs.Members.{may_not_count, uncounted}
use Rattle.class_checks.specs.Operators.{number}
use Rattle.class_checks.specs.Results.{first_among, gives, refusing}
use Rattle.shared_names.specs.Maps.{held}
use Rattle.check_steps.specs.Below.check_scopes.specs.Told.{first_in, spec_in, told, told_refusing}
use Rattle.check_steps.specs.Below.check_names.proofs.Notes.{if_ok}
use Rattle.check_steps.specs.Below.check_frames.specs.Meant.{scope_here}
use Rattle.check_named.proofs.Begun.{history_begun}
use Rattle.check_named.proofs.names.count_form.Goals as goal

pub returns : goal.returns
returns c =
    λ counter. let later = first_in c.history.new.refusals in
    let first = (first_in c.args.refusals.now) in
    let refused = may_not_count (spec_in c.args.here.setting) (scope_here c.args.here) c.args.place c.args.here.setting.scope.now.reach in
    let others = uncounted (spec_in c.args.here.setting) (scope_here c.args.here) c.args.names.now in
    if_ok c.form.result c.form.ensures (λ form is.
    ap (told first) (history_begun c.args.here.setting (scope_here c.args.here) counter c.args.names.now c.args.place)
    ∙ told_refusing first (first_among first refused) refused (refusing others (gives number)) refl
    ∙ told_refusing (first_among first refused) later others (gives number) (c.history.ensures (held c.args.here.locals.now))
    ∙ ap (λ (f : FormTree). told later (gives f)) (sym is))
