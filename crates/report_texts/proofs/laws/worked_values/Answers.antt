use Rattle.std.proofs.Common.{refl}
use Rattle.std.specs.Char.{encode_utf8}
use Rattle.std.specs.Fmt.{digits}
use Rattle.report_texts.proofs.laws.worked_values.Goals as goal

pub returns-clause-none : goal.returns-clause-none
unfolding digits encode_utf8
returns-clause-none c = refl

pub returns-clause-truth : goal.returns-clause-truth
unfolding digits encode_utf8
returns-clause-truth c = refl

pub returns-clause-below : goal.returns-clause-below
unfolding digits encode_utf8
returns-clause-below c = refl

pub returns-clause-character : goal.returns-clause-character
unfolding digits encode_utf8
returns-clause-character c = refl

pub returns-clause-quote : goal.returns-clause-quote
unfolding digits encode_utf8
returns-clause-quote c = refl

pub returns-clause-token : goal.returns-clause-token
unfolding digits encode_utf8
returns-clause-token c = refl

pub returns-clause-tuple : goal.returns-clause-tuple
unfolding digits encode_utf8
returns-clause-tuple c = refl

pub returns-clause-record_ : goal.returns-clause-record_
unfolding digits encode_utf8
returns-clause-record_ c = refl

pub returns-clause-sequence : goal.returns-clause-sequence
unfolding digits encode_utf8
returns-clause-sequence c = refl

pub returns-clause-set : goal.returns-clause-set
unfolding digits encode_utf8
returns-clause-set c = refl

pub returns-clause-map : goal.returns-clause-map
unfolding digits encode_utf8
returns-clause-map c = refl

pub returns-clause-empty_map : goal.returns-clause-empty_map
unfolding digits encode_utf8
returns-clause-empty_map c = refl

pub returns-clause-empty_sequence : goal.returns-clause-empty_sequence
unfolding digits encode_utf8
returns-clause-empty_sequence c = refl

pub returns-clause-empty_set : goal.returns-clause-empty_set
unfolding digits encode_utf8
returns-clause-empty_set c = refl

pub returns-clause-object : goal.returns-clause-object
unfolding digits encode_utf8
returns-clause-object c = refl

pub returns-clause-string : goal.returns-clause-string
unfolding digits encode_utf8
returns-clause-string c = refl

pub returns-clause-mixed : goal.returns-clause-mixed
unfolding digits encode_utf8
returns-clause-mixed c = refl
