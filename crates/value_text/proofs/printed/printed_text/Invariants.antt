use Rattle.std.proofs.Common.{◌≡◌, ◌++◌, drop}
use Rattle.report_texts.specs.Printing.{printed_text}
use Rattle.value_text.proofs.printed.printed_text.Given as goal

abbrev pub invariant-loop-value : goal.invariant-loop-value
invariant-loop-value l = l.text.items ++ printed_text l.names (drop l.value-index l.values) ≡ printed_text l.names l.values
