-- What variables hold is known.
use Rattle.std.proofs.Common.{Bool, true, false, if◌then◌else◌, ℕ, List, [], ◌∷◌, Option, Some, None, IfSome}
use Rattle.std.specs.List.{AllByRecursion as Each}
use Rattle.vdm_kinds.specs.declared.member.VarRef.{VarRef}
use Rattle.vdm_values.specs.declared.slot.Slot.{Slot}
use Rattle.abstract_syntax.specs.Values.{ValueTree}
use Rattle.abstract_syntax.specs.Classes.{SpecTree}
use Rattle.run_journal.specs.declared.deed.Deed.{Deed}
use Rattle.run_journal.specs.declared.deed.Deed.TheVariants as deed
use Rattle.run_journal.specs.declared.entry.Entry.{Entry}
use Rattle.run_journal.specs.declared.write.Write.{Write as Pair}
use Rattle.run_journal.specs.Parts.{is_on, object_part}
use Rattle.value_parts.proofs.Everywhere.{each_filter}
use Rattle.vdm_legal.specs.State.{is_same_variable, last_of, written_in, written_by, last_written, slot_among, object_variables, class_variables, slot_made, first_slot, slot_or, state_of}
use Rattle.vdm_legal.proofs.Known.{IsKnown, IsKnownSlot, IsKnownPair, KeepsKnown, AllKnown}

-- `entries` are all entries, behind which the values are known
module _ (spec : SpecTree) (entries : List Entry) where
  -- ---- what was written last

  last-known : (a b : Option ValueTree) → IfSome a (IsKnown spec entries) → IfSome b (IsKnown spec entries) → IfSome (last_of a b) (IsKnown spec entries)
  last-known a None h k = h
  last-known a (Some v) h k = k

  written-known : (var : VarRef) (pairs : List Pair) → Each (IsKnownPair spec entries) pairs → IfSome (written_in var pairs) (IsKnown spec entries)
  written-known var [] h = tt
  written-known var (pair ∷ pairs) h = last-known (if is_same_variable var pair.var then Some pair.value else None) (written_in var pairs) (one (is_same_variable var pair.var)) (written-known var pairs h.1)
    where
      one : (b : Bool) → IfSome (if b then Some pair.value else None) (IsKnown spec entries)
      one true = h.0
      one false = tt

  deed-known : (var : VarRef) (d : Deed) → KeepsKnown spec entries d → IfSome (written_by var d) (IsKnown spec entries)
  deed-known var (deed.Write pairs false) h = written-known var pairs h
  deed-known var _ h = tt

  last_written-known : (var : VarRef) (part : List Entry) → AllKnown spec entries part → IfSome (last_written var part) (IsKnown spec entries)
  last_written-known var [] h = tt
  last_written-known var (e ∷ part) h = last-known (written_by var e.deed) (last_written var part) (deed-known var e.deed h.0) (last_written-known var part h.1)

  -- ---- what was there first

  among-known : (var : VarRef) (others : List VarRef) (slots : List Slot) → Each (IsKnownSlot spec entries) slots → IsKnownSlot spec entries (slot_among var others slots)
  among-known var [] slots h = tt
  among-known var (other ∷ others) [] h = tt
  among-known var (other ∷ others) (slot ∷ slots) h = one (is_same_variable var other) (among-known var others slots h.1)
    where
      one : (b : Bool) → IsKnownSlot spec entries (slot_among var others slots) → IsKnownSlot spec entries (if b then slot else slot_among var others slots)
      one true k = h.0
      one false k = k

  made-known : (var : VarRef) (d : Deed) → KeepsKnown spec entries d → IsKnownSlot spec entries (slot_made spec var d)
  made-known var (deed.New class slots) h = among-known var (object_variables spec class) slots h
  made-known var (deed.Class class slots) h = among-known var (class_variables spec class) slots h
  made-known var _ h = tt

  first-known : (var : VarRef) (part : List Entry) → AllKnown spec entries part → IsKnownSlot spec entries (first_slot spec var part)
  first-known var [] h = tt
  first-known var (e ∷ part) h = made-known var e.deed h.0

  or-known : (slot : Slot) (written : Option ValueTree) → IsKnownSlot spec entries slot → IfSome written (IsKnown spec entries) → IsKnownSlot spec entries (slot_or slot written)
  or-known slot None h k = h
  or-known slot (Some v) h k = k

  pub state-known : (o : ℕ) (var : VarRef) → AllKnown spec entries entries → IsKnownSlot spec entries (state_of spec (object_part o entries) var)
  state-known o var h =
      let part = each_filter (λ (e : Entry). KeepsKnown spec entries e.deed) (is_on o) entries h in
      or-known (first_slot spec var (object_part o entries)) (last_written var (object_part o entries))
      (first-known var (object_part o entries) part) (last_written-known var (object_part o entries) part)
