use Rattle.std.proofs.Common.{◌≡◌, drop}
use Rattle.vdm_lexer.specs.Lexemes.{lexemes_behind}
use Rattle.vdm_lexer.proofs.Lexing.{IsNear, all_before}
use Rattle.vdm_lexer.proofs.lexer.lexemes_from.Given as goal

-- the lexemes of what was read, before those of the rest, are those of the whole
abbrev pub invariant-loop-i : goal.invariant-loop-i
invariant-loop-i l = record {
  near : IsNear l.spot l.i;
  read : lexemes_behind l.fn.good l.fn.start 0 l.text ≡ all_before l.lexemes.items (lexemes_behind l.good l.spot l.skipped (drop l.i l.text));
}
