-- The signs of a text.
use Rattle.std.specs.Prelude.{ℕ, ◌-◌, max, nat_lt, if◌then◌else◌, List, [], ◌∷◌, length, take, Option, Some, None}
use Rattle.vdm_kinds.specs.declared.spec_kind.SpecKind.TheVariants.{LexFault, LeftOut as left_out}
use Rattle.vdm_lexer.specs.declared.lexeme.LexKind.TheVariants.{Sign as sign}
use Rattle.vdm_lexer.specs.declared.front.Front.{Front}
use Rattle.vdm_lexer.specs.declared.front.Front.TheVariants.{Token, Fault}
use Rattle.vdm_lexer.specs.declared.written.WrittenKind.{WrittenKind}
use Rattle.vdm_lexer.specs.declared.written.WrittenKind.TheVariants.{Reserved, LeftOut, Sign}
use Rattle.vdm_lexer.specs.Pieces.{begins}
use Rattle.vdm_lexer.specs.Written.{kind_in, signs, sign_texts}

-- how many characters of a text are this sign
abbrev pub sign_length : List ℕ → List ℕ → ℕ
sign_length text one = if begins text one then length one else 0

-- how many characters the longest text of a table has that a text begins with
unfoldable pub longest : List ℕ → List (List ℕ) → ℕ
longest text [] = 0
longest text (one ∷ others) = max (sign_length text one) (longest text others)

-- what a text begins with, by the kind and the length of the longest sign
abbrev pub sign_token : Option WrittenKind → ℕ → Front
sign_token (Some Sign) length = if nat_lt 0 length then Token sign (length - 1) else Fault LexFault 0
sign_token (Some LeftOut) length = Fault left_out 0
sign_token (Some Reserved) length = Fault LexFault 0
sign_token None length = Fault LexFault 0

-- the longest sign that a text begins with
abbrev pub sign_front : List ℕ → Front
sign_front text = sign_token (kind_in (take (longest text sign_texts) text) signs) (longest text sign_texts)
