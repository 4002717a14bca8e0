use Rattle.std.proofs.Common.{arith}
use Rattle.check_fields.specs.Below.check_scopes.specs.Told.{scope_at, spec_in}
use Rattle.check_calls.specs.Selecting.{all_shown, use_view}
use Rattle.check_calls.proofs.Selections.{among_end, among_step}
use Rattle.check_calls.proofs.selection.among.Goals as goal

pub returns : goal.returns
returns c =
    λ names. among_end (spec_in c.args.setting) (scope_at c.args.setting names) (use_view c.args.way) c.args.named.name c.args.named.place
    (all_shown c.loop-alternative.known) c.args.alternatives.now c.loop-alternative.alternative-index _
    (omega (arith, c.loop-alternative-test.false)) (c.loop-alternative.invariant names)

pub loop-alternative-preserved : goal.loop-alternative-preserved
loop-alternative-preserved c =
    λ names. among_step (spec_in c.args.setting) (scope_at c.args.setting names) (use_view c.args.way) c.args.named.name c.args.named.place
    (all_shown c.loop-alternative.known) (all_shown c.in_ok-known.known) c.args.alternatives.now c.loop-alternative.alternative-index
    c.alternative-item.result _ c.alternative-item.is c.loop-alternative-test.true (c.in_ok-known.ensures names) (c.loop-alternative.invariant names)
