use Rattle.std.proofs.Common.{◌∙◌, sym}
use Rattle.record_steps.proofs.AtPlaces.{found_here, found_later}
use Rattle.record_steps.proofs.placing.place_of.Goals as goal

pub returns-then-is_same_name : goal.returns-then-is_same_name
returns-then-is_same_name c =
    sym (found_here c.args.name c.args.fields.now c.loop-place.place c.index-fields-place.result c.loop-place-test.true c.index-fields-place.is
    (sym c.is_same_name.ensures ∙ c.if-is_same_name.true)) ∙ c.loop-place.invariant

pub loop-place-preserved : goal.loop-place-preserved
loop-place-preserved c =
    sym (found_later c.args.name c.args.fields.now c.loop-place.place c.index-fields-place.result c.loop-place-test.true c.index-fields-place.is
    (sym c.is_same_name.ensures ∙ c.if-is_same_name.false)) ∙ c.loop-place.invariant
