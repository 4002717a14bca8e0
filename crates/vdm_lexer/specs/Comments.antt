-- Comments: from `--` to the end of the line, or from `/*` to the next `*/`.
use Rattle.std.specs.Prelude.{ℕ, ◌+◌, if◌then◌else◌, List, [], ◌∷◌, codes, Option, Some, None}
use Rattle.std.specs.List.{prefix_len}
use Rattle.vdm_kinds.specs.declared.spec_kind.SpecKind.TheVariants.{LexFault}
use Rattle.vdm_lexer.specs.declared.front.Front.{Front}
use Rattle.vdm_lexer.specs.declared.front.Front.TheVariants.{Space, Fault}
use Rattle.vdm_lexer.specs.Characters.{is_of_line}
use Rattle.vdm_lexer.specs.Pieces.{begins}
use Rattle.vdm_lexer.specs.Quoted.{one_more}

-- a comment to the end of its line, of what stands behind its first character
abbrev pub line_comment : List ℕ → Front
line_comment behind = Space (prefix_len is_of_line behind)

-- how many characters stand before the next `*/`
abbrev pub comment_close : List ℕ → Option ℕ
comment_close [] = None
comment_close (c ∷ cs) = if begins (c ∷ cs) (codes "*/") then Some 0 else one_more (comment_close cs)

abbrev pub closed_comment : Option ℕ → Front
closed_comment None = Fault LexFault 0
closed_comment (Some inside) = Space (inside + 3)

-- a comment between signs, of what stands behind its `/*`
abbrev pub block_comment : List ℕ → Front
block_comment behind = closed_comment (comment_close behind)
