use Rattle.std.proofs.Common.{refl}
use Rattle.std.specs.Char.{encode_utf8}
use Rattle.report_texts.proofs.laws.worked_strings.Goals as goal

pub returns-clause-backslash : goal.returns-clause-backslash
unfolding encode_utf8
returns-clause-backslash c = refl

pub returns-clause-sign : goal.returns-clause-sign
unfolding encode_utf8
returns-clause-sign c = refl

pub returns-clause-other_sign : goal.returns-clause-other_sign
unfolding encode_utf8
returns-clause-other_sign c = refl

pub returns-clause-apostrophe : goal.returns-clause-apostrophe
unfolding encode_utf8
returns-clause-apostrophe c = refl

pub returns-clause-line_feed : goal.returns-clause-line_feed
unfolding encode_utf8
returns-clause-line_feed c = refl

pub returns-clause-carriage_return : goal.returns-clause-carriage_return
unfolding encode_utf8
returns-clause-carriage_return c = refl

pub returns-clause-tab : goal.returns-clause-tab
unfolding encode_utf8
returns-clause-tab c = refl

pub returns-clause-control : goal.returns-clause-control
unfolding encode_utf8
returns-clause-control c = refl

pub returns-clause-delete : goal.returns-clause-delete
unfolding encode_utf8
returns-clause-delete c = refl

pub returns-clause-wide : goal.returns-clause-wide
unfolding encode_utf8
returns-clause-wide c = refl
