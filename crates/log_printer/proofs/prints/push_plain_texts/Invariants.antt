use Rattle.std.proofs.Common.{◌≡◌, ◌++◌, drop}
use Rattle.std.specs.String.{string_bytes}
use Rattle.report_texts.specs.Output.{plain_texts}
use Rattle.log_printer.proofs.prints.push_plain_texts.Given as goal

-- the text so far, and that of the rest
abbrev pub invariant-loop-item : goal.invariant-loop-item
invariant-loop-item l = string_bytes l.text ++ plain_texts (drop l.item-index l.items) ≡ string_bytes l.initial.text ++ plain_texts l.items
