use Rattle.plain_patterns.proofs.ways.+ways.Given as goal

abbrev pub decreases-ways : goal.decreases-ways
decreases-ways g l = l.levels

abbrev pub decreases-in_turn : goal.decreases-in_turn
decreases-in_turn g l = l.levels

abbrev pub decreases-each_its : goal.decreases-each_its
decreases-each_its g l = l.levels

abbrev pub decreases-both : goal.decreases-both
decreases-both g l = l.levels

abbrev pub decreases-pieces : goal.decreases-pieces
decreases-pieces g l = l.levels
