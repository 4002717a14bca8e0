-- The names of the texts that ran, where any did.
use Rattle.std.specs.Prelude.{ℕ, List, [], Option, Some, None}

abbrev pub names_in : Option (List (List ℕ)) → List (List ℕ)
names_in None = []
names_in (Some names) = names
