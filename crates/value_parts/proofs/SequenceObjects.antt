-- The operators on sequences invent no objects.
use Rattle.std.proofs.Common.{ℕ, zero, suc, ℤ, pos, negsuc, ◌+ℤ◌, ◌-ℤ◌, List, [], ◌∷◌, ◌++◌, map, length, take, Option, Some, None, unwrap_or, IfOk, IfSome}
use Rattle.std.specs.List.{AllByRecursion as Each, list_all, flat_map}
use Rattle.std.specs.Prelude.{if◌then◌else◌, Bool, true, false}
use Rattle.vdm_kinds.specs.declared.name.Name.{Name}
use Rattle.vdm_kinds.specs.declared.operator.Operator.{Operator}
use Rattle.vdm_kinds.specs.declared.operator.Operator.TheVariants.{Indices, Elements, DistributedConcatenation, Concatenation, Head, Tail, LookUp, Override}
use Rattle.vdm_kinds.specs.declared.run_fault.RunFault.TheVariants.{TypeFault, NotInDomain}
use Rattle.abstract_syntax.specs.Values.{ValueTree, number, sequence, map_of, value_list, pair_list}
use Rattle.abstract_syntax.specs.ValueSets.{Entry, set_value}
use Rattle.value_operators.specs.Outcomes.{Outcome, sized}
use Rattle.value_operators.specs.Numbers.{is_same}
use Rattle.value_operators.specs.Members.{numbers_from, found}
use Rattle.value_operators.specs.Sequences.{sequence_value, positions, is_sequence, items_of, of_all_sequences, joined, joined_all, head_of, tail_of, at_position, there, look_up, count_up_to, items_between, between, subsequence, is_position, replaced, overridden, on_sequence_and_map, sequence_one, sequences_one, sequences_two}
use Rattle.value_parts.specs.Objects.{EachObject, EachObjectOnBoth}
use Rattle.value_parts.proofs.Everywhere.{each_append, each_take, each_drop, each_at, each_map, each_flat}
use Rattle.value_parts.proofs.Gathered.{listed, listed_pairs, gathered, set_keeps, sized_keeps}
use Rattle.value_parts.proofs.Operands.{if_passed, on_numbers_keeps, on_sequence_keeps, on_sequences_keeps}
use Rattle.value_parts.proofs.NumberObjects.{each_number}

module _ (P : ℕ → Name → Type 0) where
  made : (vs : List ValueTree) → Each (EachObject P) vs → IfOk (sized (sequence_value vs)) (EachObject P)
  made vs h = sized_keeps P (sequence_value vs) (gathered P vs h)

  -- ---- what is found

  pub there_keeps : (o : Option ValueTree) → IfSome o (EachObject P) → IfOk (there o) (EachObject P)
  there_keeps (Some v) h = sized_keeps P v h
  there_keeps None h = tt

  found_by : (p : Entry) (o : Option ValueTree) → EachObject P p.1 → IfSome o (EachObject P) → (r : Bool) → IfSome (if r then Some p.1 else o) (EachObject P)
  found_by p o h k true = h
  found_by p o h k false = k

  pub found_keeps : (ps : List Entry) (key : ValueTree) → Each (EachObjectOnBoth P) ps → IfSome (found ps key) (EachObject P)
  found_keeps [] key h = tt
  found_keeps (p ∷ ps) key h = found_by p (found ps key) h.0.1 (found_keeps ps key h.1) (is_same p.0 key)

  pub or_else_keeps : (o : Option ValueTree) (v : ValueTree) → IfSome o (EachObject P) → EachObject P v → EachObject P (unwrap_or o v)
  or_else_keeps None v h k = k
  or_else_keeps (Some w) v h k = h

  -- ---- sequences of sequences

  items_keep : (v : ValueTree) → EachObject P v → Each (EachObject P) (items_of v)
  items_keep (sequence vs) h = listed P vs h
  items_keep v h = tt

  of_all_sequences_keeps : (f : List (List ValueTree) → Outcome) → ((parts : List (List ValueTree)) → Each (Each (EachObject P)) parts → IfOk (f parts) (EachObject P))
      → (vs : List ValueTree) → Each (EachObject P) vs → IfOk (of_all_sequences f vs) (EachObject P)
  of_all_sequences_keeps f k vs h =
      if_passed (EachObject P) (list_all is_sequence vs) (f (map items_of vs)) TypeFault
      (k (map items_of vs) (each_map (EachObject P) (Each (EachObject P)) items_of items_keep vs h))

  joined_keeps : (vs ws : List ValueTree) → Each (EachObject P) vs → Each (EachObject P) ws → IfOk (joined vs ws) (EachObject P)
  joined_keeps vs ws h k = made (vs ++ ws) (each_append (EachObject P) vs ws h k)

  joined_all_keeps : (parts : List (List ValueTree)) → Each (Each (EachObject P)) parts → IfOk (joined_all parts) (EachObject P)
  joined_all_keeps parts h = made (flat_map (λ vs. vs) parts) (each_flat (EachObject P) parts h)

  -- ---- items at positions

  at_position_keeps : (vs : List ValueTree) (n : ℤ) → Each (EachObject P) vs → IfSome (at_position vs n) (EachObject P)
  at_position_keeps vs (pos zero) h = tt
  at_position_keeps vs (pos (suc k)) h = each_at (EachObject P) vs k h
  at_position_keeps vs (negsuc k) h = tt

  look_up_keeps : (a b : ValueTree) → EachObject P a → EachObject P b → IfOk (look_up a b) (EachObject P)
  look_up_keeps (sequence vs) (number n) h j = there_keeps (at_position (value_list vs) n) (at_position_keeps (value_list vs) n (listed P vs h))
  look_up_keeps a b h j = tt

  between_keeps : (m n : ℤ) (vs : List ValueTree) → Each (EachObject P) vs → IfOk (sized (sequence_value (items_between m n vs))) (EachObject P)
  between_keeps m n vs h =
      made (items_between m n vs)
      (each_drop (EachObject P) (count_up_to (m -ℤ pos 1)) (take (count_up_to n) vs) (each_take (EachObject P) (count_up_to n) vs h))

  -- the operands that say from where and to where may be anything
  pub subsequence_keeps : (s a b : ValueTree) → EachObject P s → IfOk (subsequence s a b) (EachObject P)
  subsequence_keeps s a b =
      on_sequence_keeps P (λ vs. between vs a b)
      (λ vs h. on_numbers_keeps P (λ m n. sized (sequence_value (items_between m n vs))) (λ m n. between_keeps m n vs h) a b) s

  -- ---- items replaced

  each_replaced : (ps : List Entry) (m : ℤ) (vs : List ValueTree) → Each (EachObjectOnBoth P) ps → Each (EachObject P) vs → Each (EachObject P) (replaced ps m vs)
  each_replaced ps m [] h k = tt
  each_replaced ps m (v ∷ vs) h k =
      (or_else_keeps (found ps (number m)) v (found_keeps ps (number m) h) k.0, each_replaced ps (m +ℤ pos 1) vs h k.1)

  overridden_keeps : (vs : List ValueTree) (ps : List Entry) → Each (EachObject P) vs → Each (EachObjectOnBoth P) ps → IfOk (overridden vs ps) (EachObject P)
  overridden_keeps vs ps h k =
      if_passed (EachObject P) (list_all (λ (p : Entry). is_position (length vs) p.0) ps) (sized (sequence_value (replaced ps (pos 1) vs))) NotInDomain
      (made (replaced ps (pos 1) vs) (each_replaced ps (pos 1) vs k h))

  override_keeps : (a b : ValueTree) → EachObject P a → EachObject P b → IfOk (on_sequence_and_map overridden a b) (EachObject P)
  override_keeps (sequence vs) (map_of ps) h j = overridden_keeps (value_list vs) (pair_list ps) (listed P vs h) (listed_pairs P ps j)
  override_keeps a b h j = tt

  -- ---- the rows

  sequence_one_keeps : (operator : Operator) (vs : List ValueTree) → Each (EachObject P) vs → IfOk (sequence_one operator vs) (EachObject P)
  sequence_one_keeps Indices vs h = sized_keeps P (positions vs) (set_keeps P (numbers_from (pos 1) (length vs)) (each_number P (pos 1) (length vs)))
  sequence_one_keeps Elements vs h = sized_keeps P (set_value vs) (set_keeps P vs h)
  sequence_one_keeps Head vs h = first vs h
    where
      first : (vs : List ValueTree) → Each (EachObject P) vs → IfOk (head_of vs) (EachObject P)
      first [] h = tt
      first (v ∷ vs) h = sized_keeps P v h.0
  sequence_one_keeps Tail vs h = others vs h
    where
      others : (vs : List ValueTree) → Each (EachObject P) vs → IfOk (tail_of vs) (EachObject P)
      others [] h = tt
      others (v ∷ vs) h = made vs h.1
  sequence_one_keeps operator vs h = tt

  pub sequences_one_keeps : (operator : Operator) (a : ValueTree) → EachObject P a → IfOk (sequences_one operator a) (EachObject P)
  sequences_one_keeps DistributedConcatenation = on_sequence_keeps P (of_all_sequences joined_all) (of_all_sequences_keeps joined_all joined_all_keeps)
  sequences_one_keeps operator = on_sequence_keeps P (sequence_one operator) (sequence_one_keeps operator)

  pub sequences_two_keeps : (operator : Operator) (a b : ValueTree) → EachObject P a → EachObject P b → IfOk (sequences_two operator a b) (EachObject P)
  sequences_two_keeps Concatenation = on_sequences_keeps P joined joined_keeps
  sequences_two_keeps LookUp = look_up_keeps
  sequences_two_keeps Override = override_keeps
  sequences_two_keeps operator = λ a b h j. tt
