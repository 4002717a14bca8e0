-- The numbers of classes by their names.
use Rattle.std.specs.Prelude.{◌≡◌, ℕ, ◌+◌, nat_eq, if◌then◌else◌, List, [], ◌∷◌, Option, Some, None}
use Rattle.std.specs.Coded.{Coded-set, coded_option, coded_ℕ, Π_prop}
use Rattle.std.specs.HashMap.{HashMap, get}
use Rattle.abstract_syntax.specs.Classes.{ClassTree}
use Rattle.class_meaning.specs.Members.{or_else}

-- the number of the first class of a name, where the first class has a number
abbrev pub number_from : ℕ → ℕ → List ClassTree → Option ℕ
number_from n k [] = None
number_from n k (class ∷ classes) = or_else (if nat_eq n class.name.0 then Some k else None) (number_from n (k + 1) classes)

-- the map has the number of the first class of each name
abbrev pub FindsNumbers : {S : Type 0} → HashMap ℕ ℕ S → List ClassTree → Type 0
FindsNumbers numbers classes = (n : ℕ) → get nat_eq numbers n ≡ number_from n 0 classes

pub FindsNumbers-prop : {S : Type 0} (numbers : HashMap ℕ ℕ S) (classes : List ClassTree) → IsProp (FindsNumbers numbers classes)
FindsNumbers-prop numbers classes = Π_prop (λ n. Coded-set (coded_option coded_ℕ) _ _)
