use Rattle.std.proofs.Common.{◌≡◌, drop}
use Rattle.std.specs.HashMap.{get}
use Rattle.vdm_kinds.specs.declared.name.Name.{Name}
use Rattle.class_meaning.specs.Members.{or_else}
use Rattle.type_graphs.specs.Numbers.{number_from, same_pair, trees_at}
use Rattle.type_graphs.proofs.type_numbers.numbers_of.Given as goal

-- the numbers so far, and those of the rest
abbrev pub invariant-loop-number : goal.invariant-loop-number
invariant-loop-number l =
    (class name : Name)
    → or_else (get same_pair l.numbers (class.0, name.0)) (number_from class name l.number (trees_at (drop l.number l.definitions)))
    ≡ number_from class name 0 (trees_at l.definitions)
