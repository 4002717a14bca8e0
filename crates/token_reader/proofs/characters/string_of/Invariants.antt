use Rattle.std.proofs.Common.{◌≡◌, ◌++◌, drop}
use Rattle.std.specs.Str.{encode_utf8_all}
use Rattle.std.specs.String.{string_bytes}
use Rattle.token_reader.proofs.characters.string_of.Given as goal

-- the bytes so far, before those of the rest, are those of all
abbrev pub invariant-loop-c : goal.invariant-loop-c
invariant-loop-c l = encode_utf8_all l.characters ≡ string_bytes l.text ++ encode_utf8_all (drop l.c-index l.characters)
