-- Flags that are taken away.
use Rattle.std.specs.Prelude.{ℕ, Bool, false, List, slice_set}
use Rattle.std.specs.List.{fold}

-- the flags without those of the nodes
abbrev pub cleared : List Bool → List ℕ → List Bool
cleared flags nodes = fold (λ (bs : List Bool) (a : ℕ). slice_set bs a false) flags nodes
