-- The operators on sets invent no objects.
use Rattle.std.proofs.Common.{ℕ, ℤ, pos, List, [], ◌∷◌, ◌++◌, map, length, filter, not, IfOk, Ok}
use Rattle.std.specs.List.{AllByRecursion as Each, list_all, flat_map}
use Rattle.vdm_kinds.specs.declared.name.Name.{Name}
use Rattle.vdm_kinds.specs.declared.operator.Operator.{Operator}
use Rattle.vdm_kinds.specs.declared.operator.Operator.TheVariants.{Card, PowerSet, DistributedUnion, DistributedInter, Union, Inter, Difference}
use Rattle.vdm_kinds.specs.declared.operator.Operator.TheVariants.{Subset, ProperSubset, InSet, NotInSet, Interval}
use Rattle.vdm_kinds.specs.declared.run_fault.RunFault.TheVariants.{TypeFault}
use Rattle.abstract_syntax.specs.Values.{ValueTree, number, set_of}
use Rattle.abstract_syntax.specs.ValueSets.{set_value}
use Rattle.value_operators.specs.Outcomes.{Outcome, sized}
use Rattle.value_operators.specs.Numbers.{truth}
use Rattle.value_operators.specs.Members.{has, numbers_from, count_from_to}
use Rattle.value_operators.specs.Sets.{interval, is_set, members_of, of_all_sets, union_of_all, in_every, inter_of_all, sublists, power_set, sets_one, set_two, sets_two}
use Rattle.value_parts.specs.Objects.{EachObject}
use Rattle.value_parts.proofs.Everywhere.{each_append, each_filter, each_map, each_flat}
use Rattle.value_parts.proofs.Gathered.{listed, set_keeps, sized_keeps}
use Rattle.value_parts.proofs.Operands.{if_passed, on_numbers_keeps, on_set_keeps, on_sets_keeps}
use Rattle.value_parts.proofs.NumberObjects.{numbers_one_keeps, numbers_two_keeps, each_number}

each_sublist : (Q : ValueTree → Type 0) (vs : List ValueTree) → Each Q vs → Each (Each Q) (sublists vs)
each_sublist Q [] h = (tt, tt)
each_sublist Q (v ∷ vs) h =
    each_append (Each Q) (map (λ ws. v ∷ ws) (sublists vs)) (sublists vs)
    (each_map (Each Q) (Each Q) (λ ws. v ∷ ws) (λ ws k. (h.0, k)) (sublists vs) (each_sublist Q vs h.1)) (each_sublist Q vs h.1)

module _ (P : ℕ → Name → Type 0) where
  -- ---- sets of lists

  made : (vs : List ValueTree) → Each (EachObject P) vs → IfOk (sized (set_value vs)) (EachObject P)
  made vs h = sized_keeps P (set_value vs) (set_keeps P vs h)

  power_set_keeps : (vs : List ValueTree) → Each (EachObject P) vs → IfOk (sized (power_set vs)) (EachObject P)
  power_set_keeps vs h =
      made (map set_value (sublists vs))
      (each_map (Each (EachObject P)) (EachObject P) set_value (set_keeps P) (sublists vs) (each_sublist (EachObject P) vs h))

  -- ---- sets of sets

  members_keep : (v : ValueTree) → EachObject P v → Each (EachObject P) (members_of v)
  members_keep (set_of vs) h = listed P vs h
  members_keep v h = tt

  of_all_sets_keeps : (f : List (List ValueTree) → Outcome) → ((sets : List (List ValueTree)) → Each (Each (EachObject P)) sets → IfOk (f sets) (EachObject P))
      → (vs : List ValueTree) → Each (EachObject P) vs → IfOk (of_all_sets f vs) (EachObject P)
  of_all_sets_keeps f k vs h =
      if_passed (EachObject P) (list_all is_set vs) (f (map members_of vs)) TypeFault
      (k (map members_of vs) (each_map (EachObject P) (Each (EachObject P)) members_of members_keep vs h))

  union_of_all_keeps : (sets : List (List ValueTree)) → Each (Each (EachObject P)) sets → IfOk (union_of_all sets) (EachObject P)
  union_of_all_keeps sets h = made (flat_map (λ vs. vs) sets) (each_flat (EachObject P) sets h)

  inter_of_all_keeps : (sets : List (List ValueTree)) → Each (Each (EachObject P)) sets → IfOk (inter_of_all sets) (EachObject P)
  inter_of_all_keeps [] h = tt
  inter_of_all_keeps (vs ∷ others) h = made (filter (in_every others) vs) (each_filter (EachObject P) (in_every others) vs h.0)

  -- ---- the rows

  pub sets_one_keeps : (operator : Operator) (a : ValueTree) → EachObject P a → IfOk (sets_one operator a) (EachObject P)
  sets_one_keeps Card = on_set_keeps P (λ vs. Ok (number (pos (length vs)))) (λ vs h. tt)
  sets_one_keeps PowerSet = on_set_keeps P (λ vs. sized (power_set vs)) power_set_keeps
  sets_one_keeps DistributedUnion = on_set_keeps P (of_all_sets union_of_all) (of_all_sets_keeps union_of_all union_of_all_keeps)
  sets_one_keeps DistributedInter = on_set_keeps P (of_all_sets inter_of_all) (of_all_sets_keeps inter_of_all inter_of_all_keeps)
  sets_one_keeps operator = λ a h. numbers_one_keeps P operator a

  set_two_keeps : (operator : Operator) (vs ws : List ValueTree) → Each (EachObject P) vs → Each (EachObject P) ws → IfOk (set_two operator vs ws) (EachObject P)
  set_two_keeps Union vs ws h j = made (vs ++ ws) (each_append (EachObject P) vs ws h j)
  set_two_keeps Inter vs ws h j = made (filter (has ws) vs) (each_filter (EachObject P) (has ws) vs h)
  set_two_keeps Difference vs ws h j = made (filter (λ v. not (has ws v)) vs) (each_filter (EachObject P) (λ v. not (has ws v)) vs h)
  set_two_keeps operator vs ws h j = tt

  interval_keeps : (m n : ℤ) → IfOk (sized (interval m n)) (EachObject P)
  interval_keeps m n = made (numbers_from m (count_from_to m n)) (each_number P m (count_from_to m n))

  pub sets_two_keeps : (operator : Operator) (a b : ValueTree) → EachObject P a → EachObject P b → IfOk (sets_two operator a b) (EachObject P)
  sets_two_keeps Union = on_sets_keeps P (set_two Union) (set_two_keeps Union)
  sets_two_keeps Inter = on_sets_keeps P (set_two Inter) (set_two_keeps Inter)
  sets_two_keeps Difference = on_sets_keeps P (set_two Difference) (set_two_keeps Difference)
  sets_two_keeps Subset = on_sets_keeps P (set_two Subset) (set_two_keeps Subset)
  sets_two_keeps ProperSubset = on_sets_keeps P (set_two ProperSubset) (set_two_keeps ProperSubset)
  sets_two_keeps InSet = λ a b h j. on_set_keeps P (λ ws. truth (has ws a)) (λ ws k. tt) b j
  sets_two_keeps NotInSet = λ a b h j. on_set_keeps P (λ ws. truth (not (has ws a))) (λ ws k. tt) b j
  sets_two_keeps Interval = λ a b h j. on_numbers_keeps P (λ m n. sized (interval m n)) interval_keeps a b
  sets_two_keeps operator = λ a b h j. numbers_two_keeps P operator a b
