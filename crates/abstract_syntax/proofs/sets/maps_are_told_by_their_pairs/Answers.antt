use Rattle.abstract_syntax.proofs.RisingLaws.{rising_keeps}
use Rattle.abstract_syntax.proofs.MapLaws.{pair_order_total, pair_same, map_rises, map_once, no_map}
use Rattle.abstract_syntax.proofs.sets.maps_are_told_by_their_pairs.Goals as goal

pub returns-clause-rises : goal.returns-clause-rises
returns-clause-rises c = map_rises

pub returns-clause-members : goal.returns-clause-members
returns-clause-members c = rising_keeps pair_order_total pair_same

pub returns-clause-once : goal.returns-clause-once
returns-clause-once c = map_once

pub returns-clause-conflict : goal.returns-clause-conflict
returns-clause-conflict c = no_map
