use Rattle.std.proofs.Common.{◌≡◌, ◌++◌, ◌∷◌, [], ap, sym, ◌∙◌, subst, true, map, take, length, ◌≤◌, rules}
use Rattle.std.specs.List.{list_all}
use Rattle.std.specs.Prelude.{if◌then◌else◌, Err}
use Rattle.std.specs.Option.{option_copied}
use Rattle.std.specs.List.Sorted.{IsStrictlySortedBy}
use Rattle.vdm_kinds.specs.declared.run_fault.RunFault.TheVariants.{NotInDomain}
use Rattle.abstract_syntax.specs.Values.{map_of, pair_trees}
use Rattle.abstract_syntax.specs.ValueSets.{key_order, map_value}
use Rattle.value_operators.specs.Outcomes.{Gives, sized}
use Rattle.value_operators.specs.Maps.{through, leads_on}
use Rattle.map_ops.proofs.Through.{fails, passed_more, mapped_more, through_rise, through_is, leads, leads_not, led, whole_taken}
use Rattle.map_ops.proofs.composition.composed.Goals as goal

pub returns-in-None : goal.returns-in-None
returns-in-None c =
    ap (λ r. if r then sized (map_value (map (through c.args.a.now) c.args.b.now)) else Err NotInDomain)
    (fails (leads_on c.args.a.now) c.args.b.now c.loop-pair.pair-index _ c.loop-pair-test.true c.pair-item.is
    (leads_not c.args.a.now c.pair-item.result (sym (ap option_copied c.in-None.is) ∙ c.found.ensures)))

pub loop-pair-preserved : goal.loop-pair-preserved
loop-pair-preserved c = record {
  keys = passed_more (leads_on c.args.a.now) c.args.b.now c.loop-pair.pair-index _ c.loop-pair-test.true c.pair-item.is c.loop-pair.invariant.keys
      (leads c.args.a.now c.pair-item.result _ (sym (ap option_copied c.in-Some.is) ∙ c.found.ensures));
  whole = c.in_ok-push_pair-in-Some.ensures
      ∙ (λ i. c.loop-pair.invariant.whole i ++ led c.args.a.now c.pair-item.result _ (sym (ap option_copied c.in-Some.is) ∙ c.found.ensures) i ∷ [])
      ∙ sym (mapped_more (through c.args.a.now) c.args.b.now c.loop-pair.pair-index _ c.loop-pair-test.true c.pair-item.is);
}

pub new-requires : goal.new-requires
new-requires c =
    let past : length c.args.b.now ≤ c.loop-pair.pair-index = search rules in
    let all : take c.loop-pair.pair-index c.args.b.now ≡ c.args.b.now = whole_taken c.args.b.now c.loop-pair.pair-index past in
    let whole : c.loop-pair.pairs.items ≡ map (through c.args.a.now) c.args.b.now = c.loop-pair.invariant.whole ∙ ap (map (through c.args.a.now)) all in
    subst (IsStrictlySortedBy key_order) (sym whole) (through_rise c.args.a.now c.args.b.now c.requires.1)

pub returns : goal.returns
returns c =
    let past : length c.args.b.now ≤ c.loop-pair.pair-index = search rules in
    let all : take c.loop-pair.pair-index c.args.b.now ≡ c.args.b.now = whole_taken c.args.b.now c.loop-pair.pair-index past in
    let whole : c.loop-pair.pairs.items ≡ map (through c.args.a.now) c.args.b.now = c.loop-pair.invariant.whole ∙ ap (map (through c.args.a.now)) all in
    let keys : list_all (leads_on c.args.a.now) c.args.b.now ≡ true = ap (list_all (leads_on c.args.a.now)) (sym all) ∙ c.loop-pair.invariant.keys in
    subst (Gives c.sized.result)
    (ap sized (c.new.ensures ∙ ap (λ ps. map_of (pair_trees ps)) whole ∙ sym (through_is c.args.a.now c.args.b.now c.requires.1))
    ∙ sym (ap (λ r. if r then sized (map_value (map (through c.args.a.now) c.args.b.now)) else Err NotInDomain) keys))
    c.sized.ensures
