-- Lexemes one behind another, with the end of the text behind them all.
use Rattle.std.specs.Prelude.{◌≡◌, ℕ, ◌<◌, ◌≤◌, List, [], ◌∷◌}
use Rattle.vdm_lexer.specs.declared.lexeme.Lexeme.{Lexeme}
use Rattle.vdm_lexer.specs.declared.lexeme.LexKind.TheVariants.{End}

-- the end stands behind all bytes, and has none
pub record IsEnd (least size : ℕ) (lexeme : Lexeme) : Type 0 where
  pub kind : lexeme.kind ≡ End
  pub start : lexeme.start ≡ size
  pub end : lexeme.end ≡ size
  pub behind : least ≤ size

-- a lexeme has bytes, none of which stands before the least
pub record IsBehind (least : ℕ) (lexeme : Lexeme) : Type 0 where
  pub behind : least ≤ lexeme.start
  pub some : lexeme.start < lexeme.end

-- the spans rise from the least to the size of the text
abbrev pub Rises : ℕ → ℕ → List Lexeme → Type 0
Rises least size [] = ⊥
Rises least size (lexeme ∷ []) = IsEnd least size lexeme
Rises least size (lexeme ∷ other ∷ others) = IsBehind least lexeme × Rises lexeme.end size (other ∷ others)
