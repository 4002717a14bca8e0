use Rattle.std.proofs.Common.{◌≡◌, ◌+◌, ◌++◌, drop}
use Rattle.std.specs.String.{string_bytes}
use Rattle.report_texts.specs.Log.{log_lines}
use Rattle.log_printer.proofs.report.push_log.Given as goal

-- the lines so far, and those of the rest
abbrev pub invariant-loop-index : goal.invariant-loop-index
invariant-loop-index l =
    string_bytes l.text ++ log_lines l.names (l.index + 1) (drop l.index l.entries) ≡ string_bytes l.initial.text ++ log_lines l.names 1 l.entries
