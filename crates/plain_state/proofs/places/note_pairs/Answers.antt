use Rattle.std.proofs.Common.{take}
use Rattle.std.specs.HashMap.{get}
use Rattle.plain_state.specs.Found.{same_place}
use Rattle.plain_state.proofs.Noting.{others-noted, pair-noted, take-more}
use Rattle.plain_state.proofs.places.note_pairs.Goals as goal

pub loop-pair-preserved : goal.loop-pair-preserved
loop-pair-preserved c =
    let old = get same_place c.loop-pair.writes in
    let now = get same_place c.insert.new.self in
    record {
      noted = pair-noted c.args.number c.args.object c.pair-item.result c.place_of.result c.place_of.ensures old now c.in_ok-insert.ensures.updates.0 (take c.loop-pair.pair-index c.args.pairs.now) _
          (take-more c.args.pairs.now c.loop-pair.pair-index c.pair-item.result c.loop-pair-test.true c.pair-item.is) c.loop-pair.invariant.noted;
      others = others-noted c.args.number c.args.object c.pair-item.result c.place_of.result c.place_of.ensures old now c.in_ok-insert.ensures.updates.0 (get same_place c.args.writes.now) c.loop-pair.invariant.others;
    }
