use Rattle.std.proofs.Common.{◌≡◌, map, drop}
use Rattle.vdm_lexer.specs.Written.{kind_in}
use Rattle.vdm_lexer.proofs.written.kind_in.Given as goal

-- what the text is in the rest it is in all
abbrev pub invariant-loop-row : goal.invariant-loop-row
invariant-loop-row l = kind_in l.text (map (λ row. (row.0.now, row.1)) l.rows) ≡ kind_in l.text (map (λ row. (row.0.now, row.1)) (drop l.row-index l.rows))
