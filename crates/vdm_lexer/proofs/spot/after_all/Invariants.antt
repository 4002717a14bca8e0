use Rattle.std.proofs.Common.{◌≡◌, ◌≤◌, ◌+◌, drop}
use Rattle.vdm_lexer.specs.Spots.{after_all}
use Rattle.vdm_lexer.proofs.spot.after_all.Given as goal

-- the place behind what was read, before the rest
abbrev pub invariant-loop-c : goal.invariant-loop-c
invariant-loop-c l = record {
  is : after_all l.fn.place l.text ≡ after_all l.place (drop l.c-index l.text);
  line : l.place.line ≤ l.fn.place.line + l.c-index;
  column : l.place.column ≤ l.fn.place.column + l.c-index + 1;
}
