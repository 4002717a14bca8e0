use Rattle.std.proofs.Common.{refl}
use Rattle.std.specs.Char.{encode_utf8}
use Rattle.std.specs.Fmt.{digits}
use Rattle.report_texts.proofs.laws.worked_lines.Goals as goal

pub returns-clause-failed : goal.returns-clause-failed
unfolding digits encode_utf8
returns-clause-failed c = refl

pub returns-clause-exit : goal.returns-clause-exit
unfolding digits encode_utf8
returns-clause-exit c = refl

pub returns-clause-refused : goal.returns-clause-refused
unfolding digits encode_utf8
returns-clause-refused c = refl

pub returns-clause-two : goal.returns-clause-two
unfolding digits encode_utf8
returns-clause-two c = refl

pub returns-clause-least : goal.returns-clause-least
unfolding digits encode_utf8
returns-clause-least c = refl

pub returns-clause-no_value : goal.returns-clause-no_value
unfolding digits encode_utf8
returns-clause-no_value c = refl

pub returns-clause-checked : goal.returns-clause-checked
unfolding digits encode_utf8
returns-clause-checked c = refl

pub returns-clause-made : goal.returns-clause-made
unfolding digits encode_utf8
returns-clause-made c = refl

pub returns-clause-deadlock : goal.returns-clause-deadlock
unfolding digits encode_utf8
returns-clause-deadlock c = refl

pub returns-clause-ticks : goal.returns-clause-ticks
unfolding digits encode_utf8
returns-clause-ticks c = refl

pub returns-clause-full : goal.returns-clause-full
unfolding digits encode_utf8
returns-clause-full c = refl

pub returns-clause-release : goal.returns-clause-release
unfolding digits encode_utf8
returns-clause-release c = refl
