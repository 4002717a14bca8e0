-- The longest sign of a table that a text begins with.
use Rattle.std.specs.Prelude.{◌≡◌, ℕ, true, List, length}
use Rattle.std.specs.List.{IsAmong}
use Rattle.vdm_lexer.specs.Pieces.{begins}
use Rattle.vdm_lexer.specs.Signs.{longest}

-- a sign of the table that has this length, and that the text begins with
pub record IsLongest (text : List ℕ) (table : List (List ℕ)) : Type 0 where
  pub sign : List ℕ
  pub among : IsAmong table sign
  pub begins : begins text sign ≡ true
  pub length : length sign ≡ longest text table
