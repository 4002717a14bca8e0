-- The operators on maps invent no objects.
use Rattle.std.proofs.Common.{ℕ, Bool, true, false, List, ◌++◌, map, filter, not, IfOk, Err}
use Rattle.std.specs.Prelude.{if◌then◌else◌}
use Rattle.std.specs.List.{AllByRecursion as Each, list_all, flat_map}
use Rattle.vdm_kinds.specs.declared.name.Name.{Name}
use Rattle.vdm_kinds.specs.declared.operator.Operator.{Operator}
use Rattle.vdm_kinds.specs.declared.operator.Operator.TheVariants.{LookUp, Override, Domain, Range, DomainRestriction, DomainRemoval, RangeRestriction}
use Rattle.vdm_kinds.specs.declared.operator.Operator.TheVariants.{RangeRemoval, MapUnion, Merge, Inverse, Composition}
use Rattle.vdm_kinds.specs.declared.run_fault.RunFault.TheVariants.{TypeFault, NotInDomain, MapConflict}
use Rattle.abstract_syntax.specs.Values.{ValueTree, set_of, map_of, value_list, pair_list}
use Rattle.abstract_syntax.specs.ValueSets.{Entry, set_value, map_value}
use Rattle.value_operators.specs.Outcomes.{Outcome, sized}
use Rattle.value_operators.specs.Members.{has, found}
use Rattle.value_operators.specs.Sequences.{there}
use Rattle.value_operators.specs.Maps.{keys, values, is_in_conflict, joined, overridden, kept_keys, removed_keys, kept_values, removed_values, turned, through, leads_on, composed, is_map, pairs_of, of_all_maps, merged, on_set_and_map, map_one, maps_one, map_two, maps_two}
use Rattle.value_parts.specs.Objects.{EachObject, EachObjectOnBoth}
use Rattle.value_parts.proofs.Everywhere.{each_append, each_filter, each_map, each_flat}
use Rattle.value_parts.proofs.Gathered.{listed_pairs, set_keeps, map_keeps, sized_keeps}
use Rattle.value_parts.proofs.Operands.{if_passed, on_set_keeps, on_map_keeps, on_maps_keeps}
use Rattle.value_parts.proofs.SequenceObjects.{there_keeps, found_keeps, or_else_keeps}

module _ (P : ℕ → Name → Type 0) where
  made : (ps : List Entry) → Each (EachObjectOnBoth P) ps → IfOk (sized (map_value ps)) (EachObject P)
  made ps h = sized_keeps P (map_value ps) (map_keeps P ps h)

  filtered : (p : Entry → Bool) (ps : List Entry) → Each (EachObjectOnBoth P) ps → IfOk (sized (map_value (filter p ps))) (EachObject P)
  filtered p ps h = made (filter p ps) (each_filter (EachObjectOnBoth P) p ps h)

  pub joined_keeps : (ps : List Entry) → Each (EachObjectOnBoth P) ps → IfOk (joined ps) (EachObject P)
  joined_keeps ps h = by (is_in_conflict ps)
    where
      by : (r : Bool) → IfOk (if r then Err MapConflict else sized (map_value ps)) (EachObject P)
      by true = tt
      by false = made ps h

  -- ---- maps of pairs

  keys_keep : (ps : List Entry) → Each (EachObjectOnBoth P) ps → Each (EachObject P) (keys ps)
  keys_keep = each_map (EachObjectOnBoth P) (EachObject P) (λ (p : Entry). p.0) (λ p h. h.0)

  values_keep : (ps : List Entry) → Each (EachObjectOnBoth P) ps → Each (EachObject P) (values ps)
  values_keep = each_map (EachObjectOnBoth P) (EachObject P) (λ (p : Entry). p.1) (λ p h. h.1)

  turned_keeps : (ps : List Entry) → Each (EachObjectOnBoth P) ps → Each (EachObjectOnBoth P) (turned ps)
  turned_keeps = each_map (EachObjectOnBoth P) (EachObjectOnBoth P) (λ (p : Entry). (p.1, p.0)) (λ p h. (h.1, h.0))

  overridden_keeps : (ps qs : List Entry) → Each (EachObjectOnBoth P) ps → Each (EachObjectOnBoth P) qs → IfOk (sized (overridden ps qs)) (EachObject P)
  overridden_keeps ps qs h k =
      made (filter (λ (p : Entry). not (has (keys qs) p.0)) ps ++ qs)
      (each_append (EachObjectOnBoth P) (filter (λ (p : Entry). not (has (keys qs) p.0)) ps) qs
      (each_filter (EachObjectOnBoth P) (λ (p : Entry). not (has (keys qs) p.0)) ps h) k)

  through_keeps : (ps : List Entry) → Each (EachObjectOnBoth P) ps → (q : Entry) → EachObjectOnBoth P q → EachObjectOnBoth P (through ps q)
  through_keeps ps h q k = (k.0, or_else_keeps P (found ps q.1) q.1 (found_keeps P ps q.1 h) k.1)

  composed_keeps : (ps qs : List Entry) → Each (EachObjectOnBoth P) ps → Each (EachObjectOnBoth P) qs → IfOk (composed ps qs) (EachObject P)
  composed_keeps ps qs h k =
      if_passed (EachObject P) (list_all (leads_on ps) qs) (sized (map_value (map (through ps) qs))) NotInDomain
      (made (map (through ps) qs) (each_map (EachObjectOnBoth P) (EachObjectOnBoth P) (through ps) (through_keeps ps h) qs k))

  -- ---- sets of maps

  pairs_keep : (v : ValueTree) → EachObject P v → Each (EachObjectOnBoth P) (pairs_of v)
  pairs_keep (map_of ps) h = listed_pairs P ps h
  pairs_keep v h = tt

  of_all_maps_keeps : (f : List (List Entry) → Outcome) → ((maps : List (List Entry)) → Each (Each (EachObjectOnBoth P)) maps → IfOk (f maps) (EachObject P))
      → (vs : List ValueTree) → Each (EachObject P) vs → IfOk (of_all_maps f vs) (EachObject P)
  of_all_maps_keeps f k vs h =
      if_passed (EachObject P) (list_all is_map vs) (f (map pairs_of vs)) TypeFault
      (k (map pairs_of vs) (each_map (EachObject P) (Each (EachObjectOnBoth P)) pairs_of pairs_keep vs h))

  merged_keeps : (maps : List (List Entry)) → Each (Each (EachObjectOnBoth P)) maps → IfOk (merged maps) (EachObject P)
  merged_keeps maps h = joined_keeps (flat_map (λ ps. ps) maps) (each_flat (EachObjectOnBoth P) maps h)

  -- ---- the rows

  on_set_and_map_keeps : (f : List ValueTree → List Entry → Outcome)
      → ((vs : List ValueTree) (ps : List Entry) → Each (EachObjectOnBoth P) ps → IfOk (f vs ps) (EachObject P))
      → (a b : ValueTree) → EachObject P b → IfOk (on_set_and_map f a b) (EachObject P)
  on_set_and_map_keeps f k (set_of vs) (map_of ps) h = k (value_list vs) (pair_list ps) (listed_pairs P ps h)
  on_set_and_map_keeps f k a b h = tt

  map_one_keeps : (operator : Operator) (ps : List Entry) → Each (EachObjectOnBoth P) ps → IfOk (map_one operator ps) (EachObject P)
  map_one_keeps Domain ps h = sized_keeps P (set_value (keys ps)) (set_keeps P (keys ps) (keys_keep ps h))
  map_one_keeps Range ps h = sized_keeps P (set_value (values ps)) (set_keeps P (values ps) (values_keep ps h))
  map_one_keeps Inverse ps h = joined_keeps (turned ps) (turned_keeps ps h)
  map_one_keeps operator ps h = tt

  pub maps_one_keeps : (operator : Operator) (a : ValueTree) → EachObject P a → IfOk (maps_one operator a) (EachObject P)
  maps_one_keeps Merge = on_set_keeps P (of_all_maps merged) (of_all_maps_keeps merged merged_keeps)
  maps_one_keeps operator = on_map_keeps P (map_one operator) (map_one_keeps operator)

  map_two_keeps : (operator : Operator) (ps qs : List Entry) → Each (EachObjectOnBoth P) ps → Each (EachObjectOnBoth P) qs → IfOk (map_two operator ps qs) (EachObject P)
  map_two_keeps Override = overridden_keeps
  map_two_keeps MapUnion = λ ps qs h k. joined_keeps (ps ++ qs) (each_append (EachObjectOnBoth P) ps qs h k)
  map_two_keeps Composition = composed_keeps
  map_two_keeps operator = λ ps qs h k. tt

  pub maps_two_keeps : (operator : Operator) (a b : ValueTree) → EachObject P a → EachObject P b → IfOk (maps_two operator a b) (EachObject P)
  maps_two_keeps LookUp = λ a b h j. on_map_keeps P (λ ps. there (found ps b)) (λ ps k. there_keeps P (found ps b) (found_keeps P ps b k)) a h
  maps_two_keeps DomainRestriction = λ a b h j. on_set_and_map_keeps (λ vs ps. sized (kept_keys vs ps)) (λ vs. filtered (λ (p : Entry). has vs p.0)) a b j
  maps_two_keeps DomainRemoval = λ a b h j. on_set_and_map_keeps (λ vs ps. sized (removed_keys vs ps)) (λ vs. filtered (λ (p : Entry). not (has vs p.0))) a b j
  maps_two_keeps RangeRestriction = λ a b h j. on_set_and_map_keeps (λ vs ps. sized (kept_values vs ps)) (λ vs. filtered (λ (p : Entry). has vs p.1)) b a h
  maps_two_keeps RangeRemoval = λ a b h j. on_set_and_map_keeps (λ vs ps. sized (removed_values vs ps)) (λ vs. filtered (λ (p : Entry). not (has vs p.1))) b a h
  maps_two_keeps operator = on_maps_keeps P (map_two operator) (map_two_keeps operator)
