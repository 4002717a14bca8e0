-- Definitions one behind the other.
use Rattle.std.proofs.Common.{◌≡◌, ℕ, ◌+◌, ◌<◌, ◌≤◌, List, ◌++◌, Option, map, length, get_or, drop, ap, sym, ◌∙◌}
use Rattle.std.specs.List.{flat_map}
use Rattle.std.proofs.lemmas.List.{drop_more, drop_all}
use Rattle.vdm_kinds.specs.declared.spec_fault.SpecFault.{SpecFault}
use Rattle.class_checks.specs.Results.{first_among}
use Rattle.sync_checks.specs.Below.check_scopes.specs.Told.{first_among-++}

module _ {X T : Type 0} (faults : T → List SpecFault) (view : X → T) where
  -- one more
  pub turn : (xs : List X) (i : ℕ) (x : X) (before later whole : Option SpecFault) → x ≡ get_or xs i x → i < length xs
      → later ≡ first_among before (faults (view x))
      → first_among before (flat_map faults (map view (drop i xs))) ≡ whole
      → first_among later (flat_map faults (map view (drop (i + 1) xs))) ≡ whole
  turn xs i x before later whole is below told so_far =
      let left : List SpecFault = flat_map faults (map view (drop (i + 1) xs)) in
      ap (λ (f : Option SpecFault). first_among f left) told
      ∙ sym (first_among-++ before (faults (view x)) left)
      ∙ ap (λ (y : X). first_among before (faults (view y) ++ left)) is
      ∙ ap (λ (ys : List X). first_among before (flat_map faults (map view ys))) (sym (drop_more xs i x below))
      ∙ so_far

  -- none is left
  pub ended : (xs : List X) (i : ℕ) (now whole : Option SpecFault) → length xs ≤ i
      → first_among now (flat_map faults (map view (drop i xs))) ≡ whole → now ≡ whole
  ended xs i now whole past so_far =
      ap (λ (ys : List X). first_among now (flat_map faults (map view ys))) (sym (drop_all i xs past)) ∙ so_far

-- the same of elements that are their own view
module _ {T : Type 0} (faults : T → List SpecFault) where
  pub plain_turn : (xs : List T) (i : ℕ) (other : T) (before later whole : Option SpecFault) → i < length xs
      → later ≡ first_among before (faults (get_or xs i other))
      → first_among before (flat_map faults (drop i xs)) ≡ whole
      → first_among later (flat_map faults (drop (i + 1) xs)) ≡ whole
  plain_turn xs i other before later whole below told so_far =
      let left : List SpecFault = flat_map faults (drop (i + 1) xs) in
      ap (λ (f : Option SpecFault). first_among f left) told
      ∙ sym (first_among-++ before (faults (get_or xs i other)) left)
      ∙ ap (λ (ys : List T). first_among before (flat_map faults ys)) (sym (drop_more xs i other below))
      ∙ so_far

  pub plain_ended : (xs : List T) (i : ℕ) (now whole : Option SpecFault) → length xs ≤ i
      → first_among now (flat_map faults (drop i xs)) ≡ whole → now ≡ whole
  plain_ended xs i now whole past so_far =
      ap (λ (ys : List T). first_among now (flat_map faults ys)) (sym (drop_all i xs past)) ∙ so_far
