use Rattle.std.proofs.Common.{sym, subst}
use Rattle.std.specs.List.Sorted.{IsStrictlySortedBy}
use Rattle.abstract_syntax.specs.ValueSets.{key_order}
use Rattle.eval_steps.proofs.Results.{nothing_rises}
use Rattle.eval_steps.proofs.plain.empty_map.Goals as goal

pub new-requires-2 : goal.new-requires-2
new-requires-2 c = subst (IsStrictlySortedBy key_order) (sym c.new.ensures.items) nothing_rises
