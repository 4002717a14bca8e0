-- Maps: the rows of the table of operators, on lists of pairs.
use Rattle.std.specs.Prelude.{Bool, true, false, not, ◌&&◌, if◌then◌else◌, List, [], ◌++◌, map, Err}
use Rattle.std.specs.Option.{unwrap_or}
use Rattle.std.specs.List.{filter, list_any, list_all, flat_map}
use Rattle.vdm_kinds.specs.declared.operator.Operator.{Operator}
use Rattle.vdm_kinds.specs.declared.operator.Operator.TheVariants.{LookUp, Override, Domain, Range, DomainRestriction, DomainRemoval, RangeRestriction}
use Rattle.vdm_kinds.specs.declared.operator.Operator.TheVariants.{RangeRemoval, MapUnion, Merge, Inverse, Composition}
use Rattle.vdm_kinds.specs.declared.run_fault.RunFault.TheVariants.{TypeFault, NotInDomain, MapConflict}
use Rattle.abstract_syntax.specs.Values.{ValueTree, set_of, map_of, value_list, pair_list}
use Rattle.abstract_syntax.specs.ValueSets.{Entry, set_value, map_value}
use Rattle.value_operators.specs.Outcomes.{Outcome, sized, on_set, on_map, on_maps}
use Rattle.value_operators.specs.Numbers.{is_same}
use Rattle.value_operators.specs.Members.{has, found}
use Rattle.value_operators.specs.Sequences.{there}

abbrev pub keys : List Entry → List ValueTree
keys = map (λ (p : Entry). p.0)

abbrev pub values : List Entry → List ValueTree
values = map (λ (p : Entry). p.1)

-- ---- one value a key

-- whether the pair has the key of the other, and another value
abbrev pub differs : Entry → Entry → Bool
differs p q = is_same p.0 q.0 && not (is_same p.1 q.1)

-- whether one key has two values
abbrev pub is_in_conflict : List Entry → Bool
is_in_conflict ps = list_any (λ p. list_any (differs p) ps) ps

-- the map of the pairs, or the fault of a key that has two values
abbrev pub joined : List Entry → Outcome
joined ps = if is_in_conflict ps then Err MapConflict else sized (map_value ps)

-- ---- maps of pairs

-- the pairs of the right one, and those of the left one whose keys it lacks
abbrev pub overridden : List Entry → List Entry → ValueTree
overridden ps qs = map_value (filter (λ p. not (has (keys qs) p.0)) ps ++ qs)

-- the pairs whose keys, or whose values, are among those, or are not
abbrev pub kept_keys : List ValueTree → List Entry → ValueTree
kept_keys vs ps = map_value (filter (λ (p : Entry). has vs p.0) ps)

abbrev pub removed_keys : List ValueTree → List Entry → ValueTree
removed_keys vs ps = map_value (filter (λ (p : Entry). not (has vs p.0)) ps)

abbrev pub kept_values : List ValueTree → List Entry → ValueTree
kept_values vs ps = map_value (filter (λ (p : Entry). has vs p.1) ps)

abbrev pub removed_values : List ValueTree → List Entry → ValueTree
removed_values vs ps = map_value (filter (λ (p : Entry). not (has vs p.1)) ps)

-- each value with its key
abbrev pub turned : List Entry → List Entry
turned = map (λ (p : Entry). (p.1, p.0))

-- what the left one has at a value of the right one
abbrev pub through : List Entry → Entry → Entry
through ps q = (q.0, unwrap_or (found ps q.1) q.1)

-- whether the left one has a value of the right one among its keys
abbrev pub leads_on : List Entry → Entry → Bool
leads_on ps q = has (keys ps) q.1

-- first the right one, then the left one
abbrev pub composed : List Entry → List Entry → Outcome
composed ps qs = if list_all (leads_on ps) qs then sized (map_value (map (through ps) qs)) else Err NotInDomain

-- ---- sets of maps

abbrev pub is_map : ValueTree → Bool
is_map (map_of ps) = true
is_map v = false

abbrev pub pairs_of : ValueTree → List Entry
pairs_of (map_of ps) = pair_list ps
pairs_of v = []

-- of members that are maps, all of them
abbrev pub of_all_maps : (List (List Entry) → Outcome) → List ValueTree → Outcome
of_all_maps f vs = if list_all is_map vs then f (map pairs_of vs) else Err TypeFault

abbrev pub on_set_of_maps : (List (List Entry) → Outcome) → ValueTree → Outcome
on_set_of_maps f = on_set (of_all_maps f)

-- the pairs of all
abbrev pub merged : List (List Entry) → Outcome
merged maps = joined (flat_map (λ ps. ps) maps)

-- ---- the rows

abbrev pub on_set_and_map : (List ValueTree → List Entry → Outcome) → ValueTree → ValueTree → Outcome
on_set_and_map f (set_of vs) (map_of ps) = f (value_list vs) (pair_list ps)
on_set_and_map f a b = Err TypeFault

-- of one map
abbrev pub map_one : Operator → List Entry → Outcome
map_one Domain ps = sized (set_value (keys ps))
map_one Range ps = sized (set_value (values ps))
map_one Inverse ps = joined (turned ps)
map_one _ ps = Err TypeFault

-- operators of one operand
abbrev pub maps_one : Operator → ValueTree → Outcome
maps_one Merge = on_set_of_maps merged
maps_one operator = on_map (map_one operator)

-- of two maps
abbrev pub map_two : Operator → List Entry → List Entry → Outcome
map_two Override ps qs = sized (overridden ps qs)
map_two MapUnion ps qs = joined (ps ++ qs)
map_two Composition ps qs = composed ps qs
map_two _ ps qs = Err TypeFault

-- operators of two
abbrev pub maps_two : Operator → ValueTree → ValueTree → Outcome
maps_two LookUp = λ a b. on_map (λ ps. there (found ps b)) a
maps_two DomainRestriction = on_set_and_map (λ vs ps. sized (kept_keys vs ps))
maps_two DomainRemoval = on_set_and_map (λ vs ps. sized (removed_keys vs ps))
maps_two RangeRestriction = λ a b. on_set_and_map (λ vs ps. sized (kept_values vs ps)) b a
maps_two RangeRemoval = λ a b. on_set_and_map (λ vs ps. sized (removed_values vs ps)) b a
maps_two operator = on_maps (map_two operator)
