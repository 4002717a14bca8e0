-- Where names stand in a list.
use Rattle.std.specs.Prelude.{◌≡◌, ℕ, ◌<◌, nat_eq, if◌then◌else◌, List, map, length, get_or, Option, Some, None, slice_get}
use Rattle.std.specs.Coded.{Coded-set, coded_option, coded_ℕ, Π_prop}
use Rattle.std.specs.HashMap.{HashMap, get}
use Rattle.std.specs.Option.{option_and_then}
use Rattle.vdm_kinds.specs.declared.name.Name.{Name}
use Rattle.patterns.specs.declared.bound.Bound.{Bound}
use Rattle.patterns.specs.declared.subject.Subject.{Subject}

-- the numbers of the names
abbrev pub numbers_of : List Bound → List ℕ
numbers_of = map (λ (b : Bound). b.name.0)

-- the map has the place of each
abbrev pub FindsPlaces : {S : Type 0} → HashMap ℕ ℕ S → List Bound → Type 0
FindsPlaces places bounds = (k : ℕ) → k < length bounds → get nat_eq places (get_or (numbers_of bounds) k 0) ≡ Some k

pub FindsPlaces-prop : {S : Type 0} (places : HashMap ℕ ℕ S) (bounds : List Bound) → IsProp (FindsPlaces places bounds)
FindsPlaces-prop places bounds = Π_prop (λ k. Π_prop (λ h. Coded-set (coded_option coded_ℕ) _ _))

-- what stands at a place, if it is the name
abbrev pub subject_of : Name → Bound → Option Subject
subject_of name b = if nat_eq b.name.0 name.0 then Some b.subject else None

abbrev pub subject_at : List Bound → ℕ → Name → Option Subject
subject_at bounds place name = option_and_then (subject_of name) (slice_get bounds place)
