-- Slots in the order of a layout, one after another.
use Rattle.std.proofs.Common.{◌≡◌, ℕ, ◌+◌, ◌<◌, ◌≤◌, List, [], ◌∷◌, ◌++◌, length, get_or, drop, refl, ap, sym, ◌∙◌, append_assoc, append-nil, arith}
use Rattle.std.proofs.lemmas.List.{drop_more, drop_all}
use Rattle.vdm_kinds.specs.declared.member.VarRef.{VarRef}
use Rattle.vdm_values.specs.declared.slot.Slot.{Slot}
use Rattle.stmt_meaning.specs.Keeping.{Holding, holding_of}

no_slot_left : (vars : List VarRef) (slots : List Slot) → length slots ≡ 0 → holding_of vars slots ≡ []
no_slot_left [] slots e = refl
no_slot_left (var ∷ vars) [] e = refl
no_slot_left (var ∷ vars) (slot ∷ slots) e = absurd (omega (arith, e))

module _ (vars : List VarRef) (i : ℕ) (slots : List Slot) (pairs whole : Holding) (so_far : pairs ++ holding_of (drop i vars) slots ≡ whole) where
  pub slots_done : length slots ≡ 0 → pairs ≡ whole
  slots_done none = sym (append-nil pairs) ∙ ap (λ (h : Holding). pairs ++ h) (sym (no_slot_left (drop i vars) slots none)) ∙ so_far

  pub vars_done : length vars ≤ i → pairs ≡ whole
  vars_done past = sym (append-nil pairs) ∙ ap (λ (vs : List VarRef). pairs ++ holding_of vs slots) (sym (drop_all i vars past)) ∙ so_far

  pub one_more : (other : VarRef) (slot copy : Slot) (others : List Slot) (more : Holding) → i < length vars → slots ≡ slot ∷ others → copy ≡ slot
      → more ≡ pairs ++ (get_or vars i other, copy) ∷ [] → more ++ holding_of (drop (i + 1) vars) others ≡ whole
  one_more other slot copy others more below is same added =
      ap (λ (h : Holding). h ++ holding_of (drop (i + 1) vars) others) added
      ∙ ap (λ (s : Slot). (pairs ++ (get_or vars i other, s) ∷ []) ++ holding_of (drop (i + 1) vars) others) same
      ∙ append_assoc pairs ((get_or vars i other, slot) ∷ []) (holding_of (drop (i + 1) vars) others)
      ∙ ap (λ (vs : List VarRef). pairs ++ holding_of vs (slot ∷ others)) (sym (drop_more vars i other below))
      ∙ ap (λ (ss : List Slot). pairs ++ holding_of (drop i vars) ss) (sym is)
      ∙ so_far
