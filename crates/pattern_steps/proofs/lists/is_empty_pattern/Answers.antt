use Rattle.pattern_steps.proofs.Firsts.{patterns-more}
use Rattle.pattern_steps.proofs.lists.is_empty_pattern.Goals as goal

pub returns-in_default : goal.returns-in_default
returns-in_default c = patterns-more c.args.patterns.now c.in_default.len_at_least
