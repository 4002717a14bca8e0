use Rattle.std.proofs.Common.{◌≡◌, ◌++◌, drop}
use Rattle.std.specs.String.{string_bytes}
use Rattle.report_texts.specs.Lines.{further_blocked}
use Rattle.vdm_report.proofs.last_line.push_all_blocked.Given as goal

-- the text so far, and that of the rest
abbrev pub invariant-loop-waiting : goal.invariant-loop-waiting
invariant-loop-waiting l =
    string_bytes l.text ++ further_blocked l.names (drop l.waiting-index l.rest) ≡ string_bytes l.initial.text ++ further_blocked l.names l.rest
