-- What texts come to, for laws that are worked out.
use Rattle.std.specs.Prelude.{ℕ, ◌+◌, List, [], ◌∷◌, length, Ok, Err}
use Rattle.vdm_kinds.specs.declared.part.Part.TheVariants.{Expr}
use Rattle.vdm_kinds.specs.declared.spec_kind.SpecKind.{SpecKind}
use Rattle.vdm_lexer.specs.declared.lexeme.Lexeme.{Lexeme}
use Rattle.vdm_lexer.specs.declared.lexeme.LexKind.{LexKind}
use Rattle.vdm_lexer.specs.declared.lexeme.LexKind.TheVariants.{End}
use Rattle.vdm_lexer.specs.Lexemes.{Reading, fault_at, lexemes_of}

-- the lexemes of an expression
abbrev pub worked : List ℕ → Reading
worked text = lexemes_of Expr (length text) text

-- a fault on the first line
abbrev pub refused : SpecKind → ℕ → Reading
refused kind column = Err (fault_at kind (record { part = Expr; line = 1; column = column }))

-- a lexeme on the first line, of a text of ASCII
abbrev pub lexeme : LexKind → ℕ → ℕ → Lexeme
lexeme kind start end = record { kind = kind; start = start; end = end; place = record { part = Expr; line = 1; column = start + 1 } }

-- one lexeme, before the end
abbrev pub one : LexKind → ℕ → Reading
one kind end = Ok (lexeme kind 0 end ∷ lexeme End end end ∷ [])
