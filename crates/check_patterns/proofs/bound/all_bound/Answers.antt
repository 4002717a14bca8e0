use Rattle.std.proofs.Common.{sym, ◌∙◌}
use Rattle.check_types.specs.Below.check_scopes.specs.Told.{spec_in, types_in}
use Rattle.check_patterns.proofs.bound.all_bound.Goals as goal

pub returns-in_default : goal.returns-in_default
returns-in_default c = sym (c.in_default.ensures (spec_in c.args.setting) (types_in c.args.setting)) ∙ c.loop-step.invariant

pub loop-step-preserved : goal.loop-step-preserved
loop-step-preserved c =
    c.in_ok-binding.ensures ∙ sym (c.in-Some.ensures (spec_in c.args.setting) (types_in c.args.setting)) ∙ c.loop-step.invariant
