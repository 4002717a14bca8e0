use Rattle.std.proofs.Common.{refl}
use Rattle.std.specs.Char.{encode_utf8}
use Rattle.std.specs.Fmt.{digits}
use Rattle.report_texts.proofs.laws.worked_log.Goals as goal

pub returns-clause-class : goal.returns-clause-class
unfolding digits encode_utf8
returns-clause-class c = refl

pub returns-clause-two_slots : goal.returns-clause-two_slots
unfolding digits encode_utf8
returns-clause-two_slots c = refl

pub returns-clause-request : goal.returns-clause-request
unfolding digits encode_utf8
returns-clause-request c = refl

pub returns-clause-activation : goal.returns-clause-activation
unfolding digits encode_utf8
returns-clause-activation c = refl

pub returns-clause-fault : goal.returns-clause-fault
unfolding digits encode_utf8
returns-clause-fault c = refl

pub returns-clause-finish : goal.returns-clause-finish
unfolding digits encode_utf8
returns-clause-finish c = refl

pub returns-clause-read : goal.returns-clause-read
unfolding digits encode_utf8
returns-clause-read c = refl

pub returns-clause-write : goal.returns-clause-write
unfolding digits encode_utf8
returns-clause-write c = refl

pub returns-clause-refused : goal.returns-clause-refused
unfolding digits encode_utf8
returns-clause-refused c = refl

pub returns-clause-start : goal.returns-clause-start
unfolding digits encode_utf8
returns-clause-start c = refl

pub returns-clause-refused_start : goal.returns-clause-refused_start
unfolding digits encode_utf8
returns-clause-refused_start c = refl

pub returns-clause-print : goal.returns-clause-print
unfolding digits encode_utf8
returns-clause-print c = refl

pub returns-clause-print_nothing : goal.returns-clause-print_nothing
unfolding digits encode_utf8
returns-clause-print_nothing c = refl

pub returns-clause-host : goal.returns-clause-host
unfolding digits encode_utf8
returns-clause-host c = refl

pub returns-clause-refused_host : goal.returns-clause-refused_host
unfolding digits encode_utf8
returns-clause-refused_host c = refl

pub returns-clause-time : goal.returns-clause-time
unfolding digits encode_utf8
returns-clause-time c = refl

pub returns-clause-end : goal.returns-clause-end
unfolding digits encode_utf8
returns-clause-end c = refl

pub returns-clause-end_with : goal.returns-clause-end_with
unfolding digits encode_utf8
returns-clause-end_with c = refl

pub returns-clause-fail : goal.returns-clause-fail
unfolding digits encode_utf8
returns-clause-fail c = refl

pub returns-clause-exit : goal.returns-clause-exit
unfolding digits encode_utf8
returns-clause-exit c = refl

pub returns-clause-tick : goal.returns-clause-tick
unfolding digits encode_utf8
returns-clause-tick c = refl

pub returns-clause-release : goal.returns-clause-release
unfolding digits encode_utf8
returns-clause-release c = refl
