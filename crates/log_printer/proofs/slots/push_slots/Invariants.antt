use Rattle.std.proofs.Common.{◌≡◌, ◌++◌, drop}
use Rattle.std.specs.String.{string_bytes}
use Rattle.report_texts.specs.Values.{slot_text}
use Rattle.report_texts.specs.Log.{further, texts_of}
use Rattle.log_printer.proofs.slots.push_slots.Given as goal

-- the text so far, and that of the rest
abbrev pub invariant-loop-slot : goal.invariant-loop-slot
invariant-loop-slot l =
    string_bytes l.text ++ further (texts_of (slot_text l.names) (drop l.slot-index l.rest)) ≡ string_bytes l.initial.text ++ further (texts_of (slot_text l.names) l.rest)
