-- What is given of the parts of operands.
use Rattle.std.proofs.Common.{ℕ, ℤ, Bool, true, false, List, IfOk, Err}
use Rattle.std.specs.Prelude.{if◌then◌else◌}
use Rattle.std.specs.List.{AllByRecursion as Each}
use Rattle.vdm_kinds.specs.declared.name.Name.{Name}
use Rattle.vdm_kinds.specs.declared.run_fault.RunFault.{RunFault}
use Rattle.abstract_syntax.specs.Values.{ValueTree, number, sequence, set_of, map_of, value_list, pair_list}
use Rattle.abstract_syntax.specs.ValueSets.{Entry}
use Rattle.value_operators.specs.Outcomes.{Outcome, on_numbers, on_set, on_sets, on_sequence, on_sequences, on_map, on_maps}
use Rattle.value_parts.specs.Objects.{EachObject, EachObjectOnBoth}
use Rattle.value_parts.proofs.Gathered.{listed, listed_pairs}

-- an outcome behind a test
pub if_passed : (P : ValueTree → Type 0) (r : Bool) (o : Outcome) (fault : RunFault) → IfOk o P → IfOk (if r then o else Err fault) P
if_passed P true o fault h = h
if_passed P false o fault h = tt

module _ (P : ℕ → Name → Type 0) where
  pub on_numbers_keeps : (f : ℤ → ℤ → Outcome) → ((m n : ℤ) → IfOk (f m n) (EachObject P)) → (a b : ValueTree) → IfOk (on_numbers f a b) (EachObject P)
  on_numbers_keeps f k (number m) (number n) = k m n
  on_numbers_keeps f k a b = tt

  pub on_set_keeps : (f : List ValueTree → Outcome) → ((vs : List ValueTree) → Each (EachObject P) vs → IfOk (f vs) (EachObject P))
      → (a : ValueTree) → EachObject P a → IfOk (on_set f a) (EachObject P)
  on_set_keeps f k (set_of vs) h = k (value_list vs) (listed P vs h)
  on_set_keeps f k a h = tt

  pub on_sets_keeps : (f : List ValueTree → List ValueTree → Outcome)
      → ((vs ws : List ValueTree) → Each (EachObject P) vs → Each (EachObject P) ws → IfOk (f vs ws) (EachObject P))
      → (a b : ValueTree) → EachObject P a → EachObject P b → IfOk (on_sets f a b) (EachObject P)
  on_sets_keeps f k (set_of vs) (set_of ws) h j = k (value_list vs) (value_list ws) (listed P vs h) (listed P ws j)
  on_sets_keeps f k a b h j = tt

  pub on_sequence_keeps : (f : List ValueTree → Outcome) → ((vs : List ValueTree) → Each (EachObject P) vs → IfOk (f vs) (EachObject P))
      → (a : ValueTree) → EachObject P a → IfOk (on_sequence f a) (EachObject P)
  on_sequence_keeps f k (sequence vs) h = k (value_list vs) (listed P vs h)
  on_sequence_keeps f k a h = tt

  pub on_sequences_keeps : (f : List ValueTree → List ValueTree → Outcome)
      → ((vs ws : List ValueTree) → Each (EachObject P) vs → Each (EachObject P) ws → IfOk (f vs ws) (EachObject P))
      → (a b : ValueTree) → EachObject P a → EachObject P b → IfOk (on_sequences f a b) (EachObject P)
  on_sequences_keeps f k (sequence vs) (sequence ws) h j = k (value_list vs) (value_list ws) (listed P vs h) (listed P ws j)
  on_sequences_keeps f k a b h j = tt

  pub on_map_keeps : (f : List Entry → Outcome) → ((ps : List Entry) → Each (EachObjectOnBoth P) ps → IfOk (f ps) (EachObject P))
      → (a : ValueTree) → EachObject P a → IfOk (on_map f a) (EachObject P)
  on_map_keeps f k (map_of ps) h = k (pair_list ps) (listed_pairs P ps h)
  on_map_keeps f k a h = tt

  pub on_maps_keeps : (f : List Entry → List Entry → Outcome)
      → ((ps qs : List Entry) → Each (EachObjectOnBoth P) ps → Each (EachObjectOnBoth P) qs → IfOk (f ps qs) (EachObject P))
      → (a b : ValueTree) → EachObject P a → EachObject P b → IfOk (on_maps f a b) (EachObject P)
  on_maps_keeps f k (map_of ps) (map_of qs) h j = k (pair_list ps) (pair_list qs) (listed_pairs P ps h) (listed_pairs P qs j)
  on_maps_keeps f k a b h j = tt
