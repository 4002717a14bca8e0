use Rattle.std.proofs.Common.{◌≡◌, ◌≤◌, ◌+◌, ◌*◌, drop}
use Rattle.vdm_lexer.specs.Spots.{bytes_of}
use Rattle.vdm_lexer.proofs.spot.bytes_of.Given as goal

-- the bytes of what was read, before those of the rest
abbrev pub invariant-loop-c : goal.invariant-loop-c
invariant-loop-c l = record {
  is : bytes_of l.text ≡ l.bytes + bytes_of (drop l.c-index l.text);
  most : l.bytes ≤ 4 * l.c-index;
}
