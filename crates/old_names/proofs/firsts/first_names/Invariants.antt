use Rattle.std.proofs.Common.{◌≡◌, take}
use Rattle.class_meaning.specs.Objects.{first_names}
use Rattle.old_names.proofs.firsts.first_names.Given as goal

-- those so far, each once
abbrev pub invariant-loop-name : goal.invariant-loop-name
invariant-loop-name l = l.firsts.items ≡ first_names (take l.name-index l.names)
