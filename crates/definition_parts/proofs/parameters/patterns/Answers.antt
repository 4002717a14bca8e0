use Rattle.definition_parts.proofs.PatternLists.{as-list}
use Rattle.definition_parts.proofs.parameters.patterns.Goals as goal

pub returns : goal.returns
returns c = as-list c.read_patterns.result _ _ c.read_patterns.ensures
