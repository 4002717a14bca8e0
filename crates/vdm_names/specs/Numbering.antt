-- How the number of a text is found.
use Rattle.std.specs.Prelude.{◌≡◌, ℕ, List, if◌then◌else◌, Option, Some, None, bytes_eq, String}
use Rattle.std.specs.List.{list_any, IsDistinct}
use Rattle.std.specs.HashMap.{HashMap, get_by_text}
use Rattle.vdm_kinds.specs.NameList.{number_in}

-- the number of a text that is among the names
abbrev pub number_among : List (List ℕ) → List ℕ → Option ℕ
number_among names text = if list_any (bytes_eq text) names then Some (number_in names text) else None

-- the map has the number of each text that is among the names, and of no other
abbrev pub FindsNumbers : {Y S : Type 0} → HashMap (String Y) ℕ S → List (List ℕ) → Type 0
FindsNumbers numbers names = (text : List ℕ) → get_by_text numbers text ≡ number_among names text

-- the map has the numbers of the names, no text of which stands twice
pub record IsNumbered {Y S : Type 0} (numbers : HashMap (String Y) ℕ S) (names : List (List ℕ)) : Type 0 where
  pub finds : FindsNumbers numbers names
  pub distinct : IsDistinct bytes_eq names
