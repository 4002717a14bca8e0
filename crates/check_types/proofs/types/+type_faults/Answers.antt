use Rattle.std.proofs.Common.{arith}
use Rattle.check_scopes.specs.Told.{first_in, spec_in, types_in}
use Rattle.check_types.proofs.TypeTurns.{type_step, type_end, map_told, inmap_told, product_told, union_told}
use Rattle.check_types.proofs.types.+type_faults.Goals as goal

pub returns-in-Map : goal.returns-in-Map
returns-in-Map t c =
    map_told (spec_in c.args.setting) (types_in c.args.setting) c.args.declared.now (first_in c.args.refusals.now)
    (first_in c.type_faults-in-Map-2.new.refusals) c.in-Map.key c.in-Map.value c.in-Map.field-2
    c.deref-in-Map.result.now c.deref-in-Map-2.result.now (first_in c.type_faults-in-Map.new.refusals) c.in-Map.is
    c.deref-in-Map.ensures c.deref-in-Map-2.ensures c.type_faults-in-Map.ensures c.type_faults-in-Map-2.ensures

pub returns-in-InMap : goal.returns-in-InMap
returns-in-InMap t c =
    inmap_told (spec_in c.args.setting) (types_in c.args.setting) c.args.declared.now (first_in c.args.refusals.now)
    (first_in c.type_faults-in-InMap-2.new.refusals) c.in-InMap.key c.in-InMap.value c.in-InMap.field-2
    c.deref-in-InMap.result.now c.deref-in-InMap-2.result.now (first_in c.type_faults-in-InMap.new.refusals) c.in-InMap.is
    c.deref-in-InMap.ensures c.deref-in-InMap-2.ensures c.type_faults-in-InMap.ensures c.type_faults-in-InMap-2.ensures

pub loop-factor-preserved : goal.loop-factor-preserved
loop-factor-preserved t c =
    type_step (spec_in c.args.setting) (types_in c.args.setting) c.deref-factor-items.result.now c.loop-factor.factor-index c.factor-item.result
    (first_in c.loop-factor.refusals) (first_in c.type_faults-in-loop-factor.new.refusals) _ c.factor-item.is c.loop-factor-test.true c.type_faults-in-loop-factor.ensures c.loop-factor.invariant

pub returns-after-loop-factor : goal.returns-after-loop-factor
returns-after-loop-factor t c =
    product_told (spec_in c.args.setting) (types_in c.args.setting) c.args.declared.now (first_in c.args.refusals.now) (first_in c.loop-factor.refusals)
    c.in-Product.factors c.in-Product.field-1 c.deref-factor-items.result.now c.in-Product.is c.deref-factor-items.ensures.value
    (type_end (spec_in c.args.setting) (types_in c.args.setting) c.deref-factor-items.result.now c.loop-factor.factor-index (first_in c.loop-factor.refusals) _
    (omega (arith, c.loop-factor-test.false)) c.loop-factor.invariant)

pub loop-alternative-preserved : goal.loop-alternative-preserved
loop-alternative-preserved t c =
    type_step (spec_in c.args.setting) (types_in c.args.setting) c.deref-alternative-items.result.now c.loop-alternative.alternative-index c.alternative-item.result
    (first_in c.loop-alternative.refusals) (first_in c.type_faults-in-loop-alternative.new.refusals) _ c.alternative-item.is c.loop-alternative-test.true c.type_faults-in-loop-alternative.ensures c.loop-alternative.invariant

pub returns-after-loop-alternative : goal.returns-after-loop-alternative
returns-after-loop-alternative t c =
    union_told (spec_in c.args.setting) (types_in c.args.setting) c.args.declared.now (first_in c.args.refusals.now) (first_in c.loop-alternative.refusals)
    c.in-Union.alternatives c.in-Union.field-1 c.deref-alternative-items.result.now c.in-Union.is c.deref-alternative-items.ensures.value
    (type_end (spec_in c.args.setting) (types_in c.args.setting) c.deref-alternative-items.result.now c.loop-alternative.alternative-index (first_in c.loop-alternative.refusals) _
    (omega (arith, c.loop-alternative-test.false)) c.loop-alternative.invariant)
