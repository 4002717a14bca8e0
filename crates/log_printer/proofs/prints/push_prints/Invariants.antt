use Rattle.std.proofs.Common.{◌≡◌, ◌++◌, drop}
use Rattle.std.specs.String.{string_bytes}
use Rattle.report_texts.specs.Output.{prints}
use Rattle.log_printer.proofs.prints.push_prints.Given as goal

-- the text so far, and that of the rest
abbrev pub invariant-loop-entry : goal.invariant-loop-entry
invariant-loop-entry l = string_bytes l.text ++ prints (drop l.entry-index l.entries) ≡ string_bytes l.initial.text ++ prints l.entries
