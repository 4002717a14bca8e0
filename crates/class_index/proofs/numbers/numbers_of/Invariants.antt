use Rattle.std.proofs.Common.{◌≡◌, ℕ, nat_eq, map, drop}
use Rattle.std.specs.HashMap.{get}
use Rattle.vdm_tree.specs.ClassView.{class_view}
use Rattle.class_meaning.specs.Members.{or_else}
use Rattle.class_index.specs.Numbers.{number_from}
use Rattle.class_index.proofs.numbers.numbers_of.Given as goal

-- what is noted so far, and then what the rest has
abbrev pub invariant-loop-number : goal.invariant-loop-number
invariant-loop-number l =
    (n : ℕ) → or_else (get nat_eq l.numbers n) (number_from n l.number (map class_view (drop l.number l.classes))) ≡ number_from n 0 (map class_view l.classes)
