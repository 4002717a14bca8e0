use Rattle.abstract_syntax.specs.SameBy.{same_by-decides}
use Rattle.abstract_syntax.specs.ValueCode.{value_code}
use Rattle.abstract_syntax.proofs.values.the_test_is_equality.Goals as goal

pub returns : goal.returns
returns c = same_by-decides value_code
