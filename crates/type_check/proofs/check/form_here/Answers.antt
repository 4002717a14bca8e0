use Rattle.std.proofs.Common.{List, ap, sym, ◌∙◌}
use Rattle.check_named.specs.Below.check_scopes.specs.Told.{first_in, told}
use Rattle.check_named.specs.Below.check_names.proofs.Notes.{if_ok}
use Rattle.check_named.specs.Below.check_frames.specs.Meant.{next_check, under}
use Rattle.check_named.specs.Below.check_frames.specs.declared.step.Frame.{Frame}
use Rattle.type_check.proofs.check.form_here.Goals as goal

pub returns : goal.returns
returns c =
    let middle = first_in c.expr_next.new.refusals in
    if_ok c.run.result c.run.ensures (λ form told_so.
    c.in_ok-next.ensures
    ∙ ap (λ (fs : List Frame). told middle (under c.args.here.setting fs (next_check c.args.here.setting c.in_ok-next.next))) (sym c.new-frames.ensures.items)
    ∙ told_so)
