use Rattle.std.proofs.Common.{◌≡◌, ◌++◌, map, drop}
use Rattle.vdm_kinds.specs.declared.name_at.NameAt.{NameAt}
use Rattle.class_meaning.specs.Classes.{class_number, numbers_among}
use Rattle.class_index.specs.Lists.{spec_of}
use Rattle.class_index.proofs.graph.superclass_numbers.Given as goal

-- the numbers so far, and those of the rest
abbrev pub invariant-loop-superclass : goal.invariant-loop-superclass
invariant-loop-superclass l =
    l.numbers.items ++ numbers_among (map (λ (s : NameAt). class_number (spec_of l.list) s.name) (drop l.superclass-index l.superclass-items))
    ≡ numbers_among (map (λ (s : NameAt). class_number (spec_of l.list) s.name) l.superclass-items)
