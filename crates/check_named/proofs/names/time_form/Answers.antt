use Rattle.std.proofs.Common.{ap, sym, ◌∙◌}
use Rattle.form_meaning.specs.Forms.{FormTree}
use Rattle.class_checks.specs.Members.{beyond}
use Rattle.class_checks.specs.Operators.{number}
use Rattle.class_checks.specs.Results.{gives}
use Rattle.shared_names.specs.Maps.{held}
use Rattle.check_steps.specs.Below.check_scopes.specs.Told.{first_in, spec_in, told, told_refusing}
use Rattle.check_steps.specs.Below.check_names.proofs.Notes.{if_ok}
use Rattle.check_steps.specs.Below.check_names.specs.Noting.{Note}
use Rattle.check_steps.specs.Below.check_frames.specs.Meant.{scope_here}
use Rattle.check_named.proofs.Begun.{time_begun}
use Rattle.check_named.proofs.names.time_form.Goals as goal

pub returns : goal.returns
returns c =
    let later = first_in c.beyond.new.refusals in
    if_ok c.form.result c.form.ensures (λ form is.
    ap (told (first_in c.args.refusals.now)) (time_begun c.args.here.setting (scope_here c.args.here) c.args.place)
    ∙ told_refusing (first_in c.args.refusals.now) later (beyond (spec_in c.args.here.setting) (scope_here c.args.here) c.args.place c.args.here.setting.scope.now.reach) (gives number) (sym (ap (λ (n : Note). n.first) (c.beyond.ensures (held c.args.here.locals.now))))
    ∙ ap (λ (f : FormTree). told later (gives f)) (sym is))
