-- Lists that stand one behind the other.
use Rattle.std.proofs.Common.{◌≡◌, List, [], ◌++◌, append_assoc, append-nil}

pub joined : {A : Type 0} (front middle rest : List A) → (front ++ middle) ++ rest ≡ front ++ (middle ++ rest)
joined = append_assoc

pub nothing_behind : {A : Type 0} (list : List A) → list ++ [] ≡ list
nothing_behind = append-nil
