use Rattle.check_fields.specs.Below.check_scopes.specs.Told.{spec_in}
use Rattle.check_calls.proofs.Callees.{value_calls}
use Rattle.check_calls.proofs.looked_up.value_callee.Goals as goal

pub returns : goal.returns
returns c =
    λ before earlier e known. value_calls (spec_in c.args.setting) c.args.form.now c.args.call.head_place c.args.call.place c.args.call.count earlier
    before _ _ _ c.in_ok-fits.fits c.spoiled_if-wrong.result (record { wants = c.in_ok-wants.wants; result = c.in_ok-result.result }) e known c.in_ok-fits.ensures c.refuse_if.ensures c.spoiled_if-wrong.ensures c.in_ok-wants.ensures
    c.in_ok-result.ensures
