use Rattle.std.proofs.Common.{◌≡◌, drop}
use Rattle.std.specs.List.{list_any}
use Rattle.abstract_syntax.specs.Classes.{is_same_name}
use Rattle.old_names.proofs.firsts.has_name.Given as goal

-- the rest has the name where all have it
abbrev pub invariant-loop-other : goal.invariant-loop-other
invariant-loop-other l = list_any (is_same_name l.name) (drop l.other-index l.names) ≡ list_any (is_same_name l.name) l.names
