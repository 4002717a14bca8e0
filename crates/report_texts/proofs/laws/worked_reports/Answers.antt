use Rattle.std.proofs.Common.{refl}
use Rattle.std.specs.Char.{encode_utf8}
use Rattle.std.specs.Fmt.{digits}
use Rattle.report_texts.proofs.laws.worked_reports.Goals as goal

pub returns-clause-printed : goal.returns-clause-printed
unfolding digits encode_utf8
returns-clause-printed c = refl

pub returns-clause-whole_line : goal.returns-clause-whole_line
unfolding digits encode_utf8
returns-clause-whole_line c = refl

pub returns-clause-nothing : goal.returns-clause-nothing
unfolding digits encode_utf8
returns-clause-nothing c = refl

pub returns-clause-logged : goal.returns-clause-logged
unfolding digits encode_utf8
returns-clause-logged c = refl
