-- Values in a tree and as a list; and the values that are made of a list.
use Rattle.std.proofs.Common.{ℕ, Bool, true, false, List, [], ◌∷◌, IfOk, Ok, Err}
use Rattle.std.specs.Prelude.{if◌then◌else◌}
use Rattle.std.specs.List.{AllByRecursion as Each}
use Rattle.vdm_kinds.specs.declared.name.Name.{Name}
use Rattle.vdm_kinds.specs.declared.run_fault.RunFault.TheVariants.{SizeLimit}
use Rattle.abstract_syntax.specs.Values.{ValueTree, ValueTrees, PairTrees, no_values, one_value, no_pairs, one_pair}
use Rattle.abstract_syntax.specs.Values.{token, tuple, record_of, sequence, value_trees, value_list, pair_trees, pair_list}
use Rattle.abstract_syntax.specs.ValueOrder.{value_order}
use Rattle.abstract_syntax.specs.ValueSets.{Entry, pair_order, set_value, map_value}
use Rattle.abstract_syntax.specs.Rising.{rising}
use Rattle.value_operators.specs.Outcomes.{sized, is_within_limits}
use Rattle.value_parts.specs.Objects.{EachObject, EachObjectIn, EachObjectInPairs, EachObjectOnBoth}
use Rattle.value_parts.proofs.Everywhere.{each_rising}

module _ (P : ℕ → Name → Type 0) where
  -- ---- a list in a tree, and out of it

  pub listed : (vs : ValueTrees) → EachObjectIn P vs → Each (EachObject P) (value_list vs)
  listed no_values h = tt
  listed (one_value v vs) h = (h.0, listed vs h.1)

  pub gathered : (vs : List ValueTree) → Each (EachObject P) vs → EachObjectIn P (value_trees vs)
  gathered [] h = tt
  gathered (v ∷ vs) h = (h.0, gathered vs h.1)

  pub scattered : (vs : List ValueTree) → EachObjectIn P (value_trees vs) → Each (EachObject P) vs
  scattered [] h = tt
  scattered (v ∷ vs) h = (h.0, scattered vs h.1)

  pub listed_pairs : (ps : PairTrees) → EachObjectInPairs P ps → Each (EachObjectOnBoth P) (pair_list ps)
  listed_pairs no_pairs h = tt
  listed_pairs (one_pair k v ps) h = ((h.0, h.1), listed_pairs ps h.2)

  pub gathered_pairs : (ps : List Entry) → Each (EachObjectOnBoth P) ps → EachObjectInPairs P (pair_trees ps)
  gathered_pairs [] h = tt
  gathered_pairs (p ∷ ps) h = (h.0.0, h.0.1, gathered_pairs ps h.1)

  pub scattered_pairs : (ps : List Entry) → EachObjectInPairs P (pair_trees ps) → Each (EachObjectOnBoth P) ps
  scattered_pairs [] h = tt
  scattered_pairs (p ∷ ps) h = ((h.0, h.1), scattered_pairs ps h.2)

  -- ---- values of lists

  pub set_keeps : (vs : List ValueTree) → Each (EachObject P) vs → EachObject P (set_value vs)
  set_keeps vs h = gathered (rising value_order vs) (each_rising (EachObject P) value_order vs h)

  pub map_keeps : (ps : List Entry) → Each (EachObjectOnBoth P) ps → EachObject P (map_value ps)
  map_keeps ps h = gathered_pairs (rising pair_order ps) (each_rising (EachObjectOnBoth P) pair_order ps h)

  pub sequence_keeps : (vs : List ValueTree) → Each (EachObject P) vs → EachObject P (sequence (value_trees vs))
  sequence_keeps = gathered

  pub tuple_keeps : (vs : List ValueTree) → Each (EachObject P) vs → EachObject P (tuple (value_trees vs))
  tuple_keeps = gathered

  pub record_keeps : (class name : Name) (vs : List ValueTree) → Each (EachObject P) vs → EachObject P (record_of class name (value_trees vs))
  record_keeps class name = gathered

  pub token_keeps : (v : ValueTree) → EachObject P v → EachObject P (token v)
  token_keeps v h = h

  -- ---- within the limits of size

  within_keeps : (v : ValueTree) → EachObject P v → (r : Bool) → IfOk (if r then Ok v else Err SizeLimit) (EachObject P)
  within_keeps v h true = h
  within_keeps v h false = tt

  pub sized_keeps : (v : ValueTree) → EachObject P v → IfOk (sized v) (EachObject P)
  unfolding sized
  sized_keeps v h = within_keeps v h (is_within_limits v)
