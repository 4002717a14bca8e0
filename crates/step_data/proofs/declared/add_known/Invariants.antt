use Rattle.std.proofs.Common.{◌≡◌, ◌++◌, map, drop}
use Rattle.step_data.specs.Declarations.{typed_name}
use Rattle.step_data.proofs.declared.add_known.Given as goal

-- those so far, and what is still to be added
abbrev pub invariant-loop-name : goal.invariant-loop-name
invariant-loop-name l = map typed_name l.all.items ++ map typed_name (drop l.name-index l.known) ≡ map typed_name l.fn.all.items ++ map typed_name l.fn.known
