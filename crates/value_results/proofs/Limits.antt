-- What the limits of size say of an outcome.
use Rattle.std.proofs.Common.{◌≡◌, ◌⊎◌, ℕ, ◌≤◌, Bool, true, false, ◌&&◌, refl, ap, sym, ◌∙◌, subst, inl, inr, rules, IfOk, Ok, Err, Result, nat_le}
use Rattle.std.specs.Prelude.{if◌then◌else◌, List}
use Rattle.std.proofs.lemmas.Bool.{lt-leb}
use Rattle.vdm_kinds.specs.declared.halt.Halt.{Halt}
use Rattle.vdm_kinds.specs.declared.halt.Halt.TheVariants.{Of, OutOfMemory}
use Rattle.vdm_kinds.specs.declared.run_fault.RunFault.{RunFault}
use Rattle.vdm_kinds.specs.declared.run_fault.RunFault.TheVariants.{SizeLimit, MapConflict}
use Rattle.abstract_syntax.specs.Values.{ValueTree, nodes_of, depth_of}
use Rattle.abstract_syntax.specs.ValueSets.{Entry, map_value, HasConflict, IsWithinLimits, IsTooLarge}
use Rattle.value_operators.specs.Outcomes.{Gives, sized}
use Rattle.value_operators.specs.Maps.{joined}
use Rattle.value_operators.proofs.Conflicts.{conflict_decided}

at_most : (m n : ℕ) → m ≤ n → nat_le m n ≡ true
at_most m n h = search (rules, h)

pub sized_within : (v : ValueTree) → IsWithinLimits v → sized v ≡ Ok v
unfolding sized
sized_within v h = ap (λ r. if r then Ok v else Err SizeLimit) (both _ _ (at_most _ _ h.0) (at_most _ _ h.1))
  where
    both : (p q : Bool) → p ≡ true → q ≡ true → p && q ≡ true
    both p q e f = ap (λ r. r && q) e ∙ f

pub sized_beyond : (v : ValueTree) → IsTooLarge v → sized v ≡ Err SizeLimit
unfolding sized
sized_beyond v h = ap (λ r. if r then Ok v else Err SizeLimit) (either (nat_le (nodes_of v) 200000) (nat_le (depth_of v) 500) (failed h))
  where
    failed : IsTooLarge v → (nat_le (nodes_of v) 200000 ≡ false) ⊎ (nat_le (depth_of v) 500 ≡ false)
    failed (inl l) = inl (lt-leb (nodes_of v) 200000 l)
    failed (inr l) = inr (lt-leb (depth_of v) 500 l)

    either : (p q : Bool) → (p ≡ false) ⊎ (q ≡ false) → p && q ≡ false
    either p q (inl e) = ap (λ r. r && q) e
    either true q (inr e) = e
    either false q (inr e) = refl

-- ---- from the clauses of values that are made

pub gives_sized : (r : Result ValueTree (Halt RunFault)) (v : ValueTree) → IfOk r (λ w. (w ≡ v) × IsWithinLimits v) → ((fault : RunFault) → r ≡ Err (Of fault) → (fault ≡ SizeLimit) × IsTooLarge v) → Gives r (sized v)
gives_sized (Ok w) v m f = sized_within v m.1 ∙ ap Ok (sym m.0)
gives_sized (Err (Of fault)) v m f = let h = f fault refl in sized_beyond v h.1 ∙ ap Err (sym h.0)
gives_sized (Err OutOfMemory) v m f = tt

pub gives_set : (r : Result ValueTree (Halt RunFault)) (v : ValueTree) → IfOk r (λ w. (w ≡ v) × IsWithinLimits w) → ((fault : RunFault) → r ≡ Err (Of fault) → (fault ≡ SizeLimit) × IsTooLarge v) → Gives r (sized v)
gives_set (Ok w) v m f = sized_within v (subst IsWithinLimits m.0 m.1) ∙ ap Ok (sym m.0)
gives_set (Err (Of fault)) v m f = let h = f fault refl in sized_beyond v h.1 ∙ ap Err (sym h.0)
gives_set (Err OutOfMemory) v m f = tt

whole : (ps : List Entry) (w : ValueTree) → (w ≡ map_value ps) × (HasConflict ps → ⊥) × IsWithinLimits w → joined ps ≡ Ok w
whole ps w m =
    ap (λ r. if r then Err MapConflict else sized (map_value ps)) ((conflict_decided ps).none m.1)
    ∙ sized_within (map_value ps) (subst IsWithinLimits m.0 m.2) ∙ ap Ok (sym m.0)

refused : (ps : List Entry) (fault : RunFault) → ((fault ≡ MapConflict) × HasConflict ps) ⊎ ((fault ≡ SizeLimit) × (HasConflict ps → ⊥) × IsTooLarge (map_value ps)) → joined ps ≡ Err fault
refused ps fault (inl h) = ap (λ r. if r then Err MapConflict else sized (map_value ps)) ((conflict_decided ps).some h.1) ∙ ap Err (sym h.0)
refused ps fault (inr h) =
    ap (λ r. if r then Err MapConflict else sized (map_value ps)) ((conflict_decided ps).none h.1)
    ∙ sized_beyond (map_value ps) h.2 ∙ ap Err (sym h.0)

pub gives_map : (r : Result ValueTree (Halt RunFault)) (ps : List Entry) → IfOk r (λ w. (w ≡ map_value ps) × (HasConflict ps → ⊥) × IsWithinLimits w) → ((fault : RunFault) → r ≡ Err (Of fault) → ((fault ≡ MapConflict) × HasConflict ps) ⊎ ((fault ≡ SizeLimit) × (HasConflict ps → ⊥) × IsTooLarge (map_value ps))) → Gives r (joined ps)
gives_map (Ok w) ps m f = whole ps w m
gives_map (Err (Of fault)) ps m f = refused ps fault (f fault refl)
gives_map (Err OutOfMemory) ps m f = tt
