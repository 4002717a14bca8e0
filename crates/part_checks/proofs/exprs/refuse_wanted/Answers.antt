use Rattle.definition_scopes.specs.Below.check_scopes.specs.Told.{first_in}
use Rattle.type_check.specs.Below.check_frames.specs.Meant.{scope_here, spec_here}
use Rattle.part_checks.proofs.Wanted.{wanted_told}
use Rattle.part_checks.proofs.exprs.refuse_wanted.Goals as goal

pub returns : goal.returns
returns c =
    wanted_told (spec_here c.args.here) (scope_here c.args.here) c.args.wanted.now c.args.expr.now.value c.deref.result.now c.deref-2.result.now
    c.place.result c.in_ok-form.form (first_in c.args.refusals.now) (first_in c.form_here.new.refusals) (first_in c.want_like.new.refusals)
    c.deref.ensures c.deref-2.ensures c.in_ok-form.ensures c.place.ensures c.want_like.ensures
