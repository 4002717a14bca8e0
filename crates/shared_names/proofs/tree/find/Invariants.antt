use Rattle.std.proofs.Common.{◌≡◌}
use Rattle.shared_names.specs.Trees.{held_in}
use Rattle.shared_names.proofs.tree.find.Given as goal

abbrev pub invariant-loop-part : goal.invariant-loop-part
invariant-loop-part g l = held_in l.part l.name ≡ held_in l.initial.tree l.name
