use Rattle.std.proofs.Common.{◌∙◌, inl}
use Rattle.value_operators.specs.Sets.{power_set}
use Rattle.value_results.proofs.Limits.{sized_beyond}
use Rattle.set_ops.proofs.Subsets.{sublists_rise}
use Rattle.set_ops.proofs.powers.of_members.Goals as goal

pub returns-then-is_too_large : goal.returns-then-is_too_large
returns-then-is_too_large c = sized_beyond (power_set c.args.members.now) (inl (c.is_too_large.ensures c.if-is_too_large.true))

pub sets-requires : goal.sets-requires
sets-requires c = sublists_rise c.args.members.now c.requires.0 c.as_slice.result.now (c.as_slice.ensures.value ∙ c.in_ok-lists.ensures)
