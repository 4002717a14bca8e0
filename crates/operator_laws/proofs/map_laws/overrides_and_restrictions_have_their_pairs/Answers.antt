use Rattle.operator_laws.proofs.MapPairs.{override_pairs, kept_key_pairs, removed_key_pairs, kept_value_pairs, removed_value_pairs}
use Rattle.operator_laws.proofs.map_laws.overrides_and_restrictions_have_their_pairs.Goals as goal

pub returns-clause-overridden : goal.returns-clause-overridden
returns-clause-overridden c = override_pairs

pub returns-clause-with_keys : goal.returns-clause-with_keys
returns-clause-with_keys c = kept_key_pairs

pub returns-clause-without_keys : goal.returns-clause-without_keys
returns-clause-without_keys c = removed_key_pairs

pub returns-clause-with_values : goal.returns-clause-with_values
returns-clause-with_values c = kept_value_pairs

pub returns-clause-without_values : goal.returns-clause-without_values
returns-clause-without_values c = removed_value_pairs
