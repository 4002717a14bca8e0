use Rattle.std.proofs.Common.{◌≡◌, max, map, drop}
use Rattle.vdm_lexer.specs.Signs.{longest}
use Rattle.vdm_lexer.proofs.written.longest.Given as goal

-- the longest sign so far, or of the rest
abbrev pub invariant-loop-row : goal.invariant-loop-row
invariant-loop-row l = longest l.text (map (λ row. row.0.now) l.rows) ≡ max l.longest (longest l.text (map (λ row. row.0.now) (drop l.row-index l.rows)))
