-- What an object keeps once variables are written.
use Rattle.std.proofs.Common.{◌≡◌, ℕ, ◌+◌, ◌<◌, ◌≤◌, Bool, true, false, List, [], ◌∷◌, ◌++◌, length, get_or, take, map, Option, Some, None, if◌then◌else◌, refl, ap, sym, ◌∙◌}
use Rattle.std.specs.Option.{option_and_then}
use Rattle.std.proofs.lemmas.List.{map-append, take_all, take_more}
use Rattle.vdm_kinds.specs.declared.member.VarRef.{VarRef}
use Rattle.vdm_kinds.specs.declared.name.Name.{Name}
use Rattle.vdm_values.specs.declared.slot.Slot.{Slot}
use Rattle.abstract_syntax.specs.Classes.{SpecTree}
use Rattle.run_journal.specs.declared.entry.Entry.{Entry}
use Rattle.run_journal.specs.declared.write.Write.{Write as Pair}
use Rattle.stmt_meaning.specs.Keeping.{Holding, keeps}
use Rattle.vdm_legal.specs.State.{holding_with, instance_class, kept_in, keeps_with, object_variables, slot_or, state_of, state_with, written_in}
use Rattle.kept_invariants.specs.Presence.{has_invariants}
use Rattle.kept_invariants.proofs.NoneToKeep.{none_to_keep}
use Rattle.plain_state.specs.Guarded.{guarded, guarded_class}

-- ---- the class of an object that has invariants

not_there : (class : Name) (b : Bool) → (if b then Some class else None) ≡ None → b ≡ false
not_there class true e = absurd (cc)
not_there class false e = refl

is_it : (class other : Name) (b : Bool) → (if b then Some class else None) ≡ Some other → Some class ≡ Some other
is_it class other true e = e
is_it class other false e = absurd (cc)

module _ (spec : SpecTree) (entries : List Entry) (writes : List Pair) where
  by_class : (o : Option Name) → option_and_then (guarded spec) o ≡ None → kept_in spec entries writes o ≡ true
  by_class None e = refl
  by_class (Some class) e = none_to_keep spec class (holding_with spec entries writes class) (not_there class (has_invariants spec class) e)

  -- of any other nothing is to be kept
  pub unguarded : guarded_class spec entries ≡ None → keeps_with spec entries writes ≡ true
  unguarded e = by_class (instance_class entries) e

  class_is : (o : Option Name) (class : Name) → option_and_then (guarded spec) o ≡ Some class → o ≡ Some class
  class_is None class e = absurd (cc)
  class_is (Some other) class e = is_it other class (has_invariants spec other) e

  pub guarded_keeps : (class : Name) (variables : List VarRef) (holding : Holding) → guarded_class spec entries ≡ Some class → variables ≡ object_variables spec class
      → holding ≡ map (λ (var : VarRef). (var, state_with spec entries writes var)) variables → keeps spec class holding ≡ keeps_with spec entries writes
  guarded_keeps class variables holding e are is =
      ap (keeps spec class) (is ∙ ap (λ (vs : List VarRef). map (λ (var : VarRef). (var, state_with spec entries writes var)) vs) are)
      ∙ ap (kept_in spec entries writes) (sym (class_is (instance_class entries) class e))

  -- ---- what its variables hold, one after another

  module _ (vars : List VarRef) (i : ℕ) (pairs : Holding) (so_far : pairs ≡ map (λ (var : VarRef). (var, state_with spec entries writes var)) (take i vars)) where
    abbrev held_pair : VarRef → VarRef × Slot
    held_pair var = (var, state_with spec entries writes var)

    pub one_more : (other : VarRef) (before slot : Slot) (more : Holding) → i < length vars
        → before ≡ state_of spec entries (get_or vars i other) → slot ≡ slot_or before (written_in (get_or vars i other) writes)
        → more ≡ pairs ++ (get_or vars i other, slot) ∷ []
        → more ≡ map (λ (var : VarRef). (var, state_with spec entries writes var)) (take (i + 1) vars)
    one_more other before slot more below held is added =
        added
        ∙ ap (λ (ps : Holding). ps ++ (get_or vars i other, slot) ∷ []) so_far
        ∙ ap (λ (s : Slot). map held_pair (take i vars) ++ (get_or vars i other, s) ∷ []) (is ∙ ap (λ (s : Slot). slot_or s (written_in (get_or vars i other) writes)) held)
        ∙ sym (map-append held_pair (take i vars) (get_or vars i other ∷ []))
        ∙ ap (map held_pair) (sym (take_more vars i other below))

    pub all_held : length vars ≤ i → pairs ≡ map (λ (var : VarRef). (var, state_with spec entries writes var)) vars
    all_held past = so_far ∙ ap (map held_pair) (take_all i vars past)
