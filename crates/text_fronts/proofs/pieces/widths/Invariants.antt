use Rattle.std.proofs.Common.{◌≡◌, ◌≤◌, ◌+◌, ◌*◌, drop}
use Rattle.text_answers.specs.Answers.{widths}
use Rattle.text_fronts.proofs.pieces.widths.Given as goal

-- the sum so far, and that of the rest, are that of all
abbrev pub invariant-loop-word : goal.invariant-loop-word
invariant-loop-word l = record {
  sum : widths l.words ≡ l.sum + widths (drop l.word-index l.words);
  most : l.sum ≤ 3 * l.word-index;
}
