use Rattle.value_parts.proofs.Gathered.{gathered, scattered, gathered_pairs, scattered_pairs, set_keeps, map_keeps, sequence_keeps, tuple_keeps, record_keeps, token_keeps, sized_keeps}
use Rattle.value_parts.proofs.MapObjects.{joined_keeps}
use Rattle.value_parts.proofs.WayObjects.{literal_keeps}
use Rattle.value_parts.proofs.laws.values_have_the_objects_of_their_parts.Goals as goal

pub returns-clause-listed : goal.returns-clause-listed
returns-clause-listed g c = λ vs. (scattered g.T.ObjectProperty.holds vs, gathered g.T.ObjectProperty.holds vs)

pub returns-clause-listed_pairs : goal.returns-clause-listed_pairs
returns-clause-listed_pairs g c = λ ps. (scattered_pairs g.T.ObjectProperty.holds ps, gathered_pairs g.T.ObjectProperty.holds ps)

pub returns-clause-set : goal.returns-clause-set
returns-clause-set g c = set_keeps g.T.ObjectProperty.holds

pub returns-clause-map : goal.returns-clause-map
returns-clause-map g c = map_keeps g.T.ObjectProperty.holds

pub returns-clause-sequence : goal.returns-clause-sequence
returns-clause-sequence g c = sequence_keeps g.T.ObjectProperty.holds

pub returns-clause-tuple : goal.returns-clause-tuple
returns-clause-tuple g c = tuple_keeps g.T.ObjectProperty.holds

pub returns-clause-record_of : goal.returns-clause-record_of
returns-clause-record_of g c = record_keeps g.T.ObjectProperty.holds

pub returns-clause-token : goal.returns-clause-token
returns-clause-token g c = token_keeps g.T.ObjectProperty.holds

pub returns-clause-sized : goal.returns-clause-sized
returns-clause-sized g c = sized_keeps g.T.ObjectProperty.holds

pub returns-clause-joined : goal.returns-clause-joined
returns-clause-joined g c = joined_keeps g.T.ObjectProperty.holds

pub returns-clause-literal : goal.returns-clause-literal
returns-clause-literal g c = literal_keeps g.T.ObjectProperty.holds
