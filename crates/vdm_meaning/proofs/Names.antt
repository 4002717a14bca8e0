-- Names that stand alone keep the rules.
use mathlib.Core.List.{reverse-cons}
use Rattle.std.proofs.Common.{◌∷◌, [], if◌then◌else◌, Bool, IfSome, List, None, Option, Some, false, option_map, reverse, subst, sym, true, ℕ}
use Rattle.std.specs.List.{find, AllByRecursion as Each}
use Rattle.vdm_kinds.specs.declared.member.VarRef.{VarRef}
use Rattle.vdm_kinds.specs.declared.name.Name.{Name}
use Rattle.vdm_kinds.specs.declared.place.Place.{Place}
use Rattle.vdm_kinds.specs.declared.run_fault.RunFault.TheVariants.{TypeFault, Undefined}
use Rattle.vdm_values.specs.declared.slot.Slot.{Slot}
use Rattle.vdm_values.specs.declared.slot.Slot.TheVariants.{Unset, Held as Holds}
use Rattle.abstract_syntax.specs.Classes.{SpecTree, is_same_name}
use Rattle.abstract_syntax.specs.Values.{ValueTree, object, record_of}
use Rattle.value_parts.proofs.Everywhere.{each_append}
use Rattle.run_journal.specs.declared.entry.Entry.{Entry}
use Rattle.vdm_legal.proofs.Known.{IsKnown, IsKnownSlot, IsThere}
use Rattle.node_meaning.specs.Tasks.{reads, value, with_value}
use Rattle.node_meaning.specs.Names.{is_static_variable, value_in, variable_definition, variable_here, variable_home, variable_in}
use Rattle.node_meaning.specs.Records.{field_value}
use Rattle.node_meaning.specs.Expressions.{class_for, held_value, member_value, name_value, read_found, read_member, selected, selected_of_class, self_value, value_named, read_held, read_on, slot_value}
use Rattle.node_meaning.specs.Envs.{Locals, Here, Held, held_unless_static, local_named}
use Rattle.stmt_meaning.specs.Questions.{of_thread}
use Rattle.vdm_meaning.proofs.Rules.{AreKnown, HasObject, HoldsNothing, IsOn, IsSafe}
use Rattle.vdm_meaning.proofs.Parts.{IsAt, at-among, may-fail, safe-value, safe-with_value}
use Rattle.vdm_meaning.proofs.Strict.{safe-value_or_fault}
use Rattle.vdm_meaning.proofs.Records.{field_value_keeps}
use Rattle.vdm_meaning.proofs.Functions.{safe-class_value}
use Rattle.vdm_meaning.proofs.Homes.{variable_here-there, variable_home-there}
use Rattle.vdm_meaning.proofs.Needs.{safe-asked}

-- ---- what is found is known

find-known : {X : Type 0} (P : X → Type 0) (test : X → Bool) (xs : List X) → Each P xs → IfSome (find test xs) P
find-known P test [] h = tt
find-known P test (x ∷ xs) h = by (test x) (find-known P test xs h.1)
  where
    by : (b : Bool) → IfSome (find test xs) P → IfSome (if b then Some x else find test xs) P
    by true k = h.0
    by false k = k

second-known : (spec : SpecTree) {X : Type 0} (now : List Entry) (found : Option (X × Slot)) → IfSome found (λ (p : X × Slot). IsKnownSlot spec now p.1) → IfSome (option_map (λ (p : X × Slot). p.1) found) (IsKnownSlot spec now)
second-known spec now None h = tt
second-known spec now (Some p) h = h

pub each_reverse : {X : Type 0} (P : X → Type 0) (xs : List X) → Each P xs → Each P (reverse xs)
each_reverse P [] h = tt
each_reverse P (x ∷ xs) h = subst (Each P) (sym (reverse-cons x xs)) (each_append P (reverse xs) (x ∷ []) (each_reverse P xs h.1) (h.0, tt))

pub local-known : (spec : SpecTree) (now : List Entry) (locals : Locals) (name : Name) → AreKnown spec now locals → IfSome (local_named locals name) (IsKnownSlot spec now)
local-known spec now locals name h =
    second-known spec now (find (λ (l : Name × Slot). is_same_name name l.0) (reverse locals))
    (find-known (λ (l : Name × Slot). IsKnownSlot spec now l.1) (λ (l : Name × Slot). is_same_name name l.0) (reverse locals)
    (each_reverse (λ (l : Name × Slot). IsKnownSlot spec now l.1) locals h))

-- ---- plans

module _ (spec : SpecTree) (first now : List Entry) (here : Here) (place : Place) (locals : Locals) (is_at : IsAt spec first now here locals) where
  safe-slot : (slot : Slot) → IsKnownSlot spec now slot → IsSafe spec first now (slot_value place slot locals)
  safe-slot (Holds v) known = safe-value spec v is_at known
  safe-slot Unset known = may-fail spec Undefined place is_at.may

  pub safe-held : (found : Option Slot) → IfSome found (IsKnownSlot spec now) → IsSafe spec first now (held_value place found locals)
  safe-held None known = may-fail spec Undefined place is_at.may
  safe-held (Some slot) known = safe-slot slot known

  pub safe-read_on : (var : VarRef) (me : Option ℕ) → HasObject spec now me → IsSafe spec first now (read_on (of_thread spec) place var me locals)
  safe-read_on var None there = may-fail spec Undefined place is_at.may
  safe-read_on var (Some me) there =
      safe-asked spec first now here locals (reads me var) place (with_value place value) is_at there (λ later flow at_later known.
      safe-with_value spec place value flow at_later known (λ v after k l. safe-value spec v (at-among at_later after l) k))

  safe-read_held : (var : VarRef) (me : Option ℕ) (held : Option Held) → HasObject spec now me → HoldsNothing held → IsSafe spec first now (read_held (of_thread spec) place var me held locals)
  safe-read_held var me None there nothing = safe-read_on var me there
  safe-read_held var me (Some held) there nothing = absurd nothing

  held-unless_static : (is_static : Bool) (held : Option Held) → HoldsNothing held → HoldsNothing (held_unless_static is_static held)
  held-unless_static true held nothing = tt
  held-unless_static false held nothing = nothing

  safe-read_found : (found : Option VarRef) → IsSafe spec first now (read_found (of_thread spec) here place found locals)
  safe-read_found None = may-fail spec Undefined place is_at.may
  safe-read_found (Some var) =
      let is_static = is_static_variable (variable_definition spec var) in
      safe-read_held var (variable_here spec here var) (held_unless_static is_static here.held)
      (variable_here-there spec now here is_at.may.classes is_at.may.me var) (held-unless_static is_static here.held is_at.may.held)

  safe-member_value : (scope : Option Name) (name : Name) (found : Option VarRef) → IsSafe spec first now (member_value (of_thread spec) here place scope name found locals)
  safe-member_value scope name (Some ref) = safe-class_value spec first now here ref place here.nest locals is_at
  safe-member_value scope name None = safe-read_found (variable_in spec scope name)

  pub safe-value_named : (scope : Option Name) (name : Name) → IsSafe spec first now (value_named (of_thread spec) here place scope name locals)
  safe-value_named scope name = safe-member_value scope name (value_in spec scope name)

  pub safe-name : (name : Name) (local : Option Slot) → IfSome local (IsKnownSlot spec now) → IsSafe spec first now (name_value (of_thread spec) here place name local locals)
  safe-name name (Some slot) known = safe-slot slot known
  safe-name name None known = safe-value_named here.scope name

  -- ---- selections

  safe-read_member : (n : ℕ) (found : Option VarRef) → IsOn spec now n → IsSafe spec first now (read_member (of_thread spec) place n found locals)
  safe-read_member n None there = may-fail spec TypeFault place is_at.may
  safe-read_member n (Some var) there = safe-read_on var (variable_home spec var (Some n)) (variable_home-there spec now there.1 var (Some n) there)

  pub safe-selected : (name : Name) (v : ValueTree) → IsKnown spec now v → IsSafe spec first now (selected (of_thread spec) place name v locals)
  safe-selected name (record_of class type values) known =
      safe-value_or_fault spec place (field_value spec name class type values) is_at (field_value_keeps (IsThere spec now) spec name class type values known)
  safe-selected name (object n class) known = safe-read_member n (variable_in spec (Some class) name) known
  safe-selected name v known = may-fail spec TypeFault place is_at.may

  pub safe-selected_of_class : (class name : Name) (v : ValueTree) → IsKnown spec now v → IsSafe spec first now (selected_of_class (of_thread spec) place class name v locals)
  safe-selected_of_class class name (object n own) known = safe-read_member n (variable_in spec (class_for spec own class) name) known
  safe-selected_of_class class name v known = may-fail spec TypeFault place is_at.may

  -- ---- the object itself

  pub safe-self : (me : Option ℕ) (own : Option Name) → HasObject spec now me → IsSafe spec first now (self_value place me own locals)
  safe-self (Some me) (Some own) there = safe-value spec (object me own) is_at there
  safe-self _ _ there = may-fail spec Undefined place is_at.may
