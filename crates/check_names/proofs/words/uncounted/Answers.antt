use Rattle.check_scopes.specs.Told.{first_in, scope_at, spec_in}
use Rattle.check_names.proofs.Counted.{uncounted_step}
use Rattle.check_names.proofs.words.uncounted.Goals as goal

pub loop-named-preserved : goal.loop-named-preserved
loop-named-preserved c =
    λ bound. uncounted_step (spec_in c.args.setting) (scope_at c.args.setting bound) (first_in c.loop-named.refusals)
    (first_in c.refuse_uncounted.new.refusals) c.args.names.now c.loop-named.named-index _ _ c.loop-named-test.true
    (c.refuse_uncounted.ensures bound) (c.loop-named.invariant bound)
