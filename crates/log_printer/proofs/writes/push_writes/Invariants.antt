use Rattle.std.proofs.Common.{◌≡◌, ◌++◌, drop}
use Rattle.std.specs.String.{string_bytes}
use Rattle.report_texts.specs.Log.{further, pair_text, texts_of}
use Rattle.log_printer.proofs.writes.push_writes.Given as goal

-- the text so far, and that of the rest
abbrev pub invariant-loop-write : goal.invariant-loop-write
invariant-loop-write l =
    string_bytes l.text ++ further (texts_of (pair_text l.names) (drop l.write-index l.rest)) ≡ string_bytes l.initial.text ++ further (texts_of (pair_text l.names) l.rest)
