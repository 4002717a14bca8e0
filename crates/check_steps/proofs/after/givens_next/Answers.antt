use Rattle.check_frames.specs.Meant.{boxed, scope_here}
use Rattle.check_frames.specs.Steps.{onward}
use Rattle.check_steps.specs.Begun.{first_given, no_givens}
use Rattle.check_steps.specs.Firsts.{next_mapped, past_mapped}
use Rattle.check_steps.proofs.after.givens_next.Goals as goal

pub returns-in-Some : goal.returns-in-Some
returns-in-Some c =
    onward c.args.here.setting c.given_next.result _ _
    (first_given c.args.here.setting (scope_here c.args.here) _ _ _ c.args.after (next_mapped boxed c.as_slice.result.now c.args.exprs.items c.args.next c.in-Some.field-0.now c.as_slice.ensures.value c.in-Some.ensures.lookup.3.0 c.in-Some.ensures.lookup.1))
    c.given_next.ensures

pub returns : goal.returns
returns c =
    no_givens c.args.here.setting (scope_here c.args.here) _ c.args.after (past_mapped boxed c.as_slice.result.now c.args.exprs.items c.args.next c.as_slice.ensures.value c.in-None.ensures.lookup.3)
