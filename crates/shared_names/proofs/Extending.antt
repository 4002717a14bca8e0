-- What a tree holds that is extended.
use Rattle.std.proofs.Common.{◌≡◌, ℕ, Bool, true, false, not, eqb-true, refl, sym, ◌∙◌, ap}
use Rattle.std.specs.Prelude.{Option, Some, None, if◌then◌else◌}
use Rattle.vdm_kinds.specs.declared.name.Name.{Name}
use Rattle.shared_names.specs.declared.tree.Tree.{Tree, Leaf}
use Rattle.shared_names.specs.Held.{Held, is_same, with_name}
use Rattle.shared_names.specs.Trees.{either, has_bit, held_in}

-- names that are one have the same bits
same_bit : (place : ℕ) (a b : Name) (bit : Bool) → has_bit place a ≡ bit → is_same a b ≡ true → has_bit place b ≡ bit
same_bit place a b bit e same = sym (ap (λ n. has_bit place (record { 0 = n })) (eqb-true a.0 b.0 same)) ∙ e

-- on the way to a value that is put among those whose bit is 1, the others stay as they are
turned_high : {A : Type 0} (same bit : Bool) (x low high : A) → (same ≡ true → bit ≡ true)
    → (if bit then if same then x else high else low) ≡ (if same then x else if bit then high else low)
turned_high true true x low high h = refl
turned_high true false x low high h = absurd (let e : false ≡ true = h refl in cc)
turned_high false true x low high h = refl
turned_high false false x low high h = refl

turned_low : {A : Type 0} (same bit : Bool) (x low high : A) → (same ≡ true → bit ≡ false)
    → (if bit then high else if same then x else low) ≡ (if same then x else if bit then high else low)
turned_low true true x low high h = absurd (let e : true ≡ false = h refl in cc)
turned_low true false x low high h = refl
turned_low false true x low high h = refl
turned_low false false x low high h = refl

-- what a branch holds, of whose parts one is extended and the other copied
module _ {V : Type 0} (place : ℕ) (name : Name) (value : V) (whole low high copy more : Held V) (whole_is : whole ≡ either place low high) where
  with_whole : with_name name value (either place low high) ≡ with_name name value whole
  with_whole = ap (with_name name value) (sym whole_is)

  pub extended_high : copy ≡ low → more ≡ with_name name value high → has_bit place name ≡ true → either place copy more ≡ with_name name value whole
  extended_high copy_is more_is bit =
      ap (λ l. either place l more) copy_is
      ∙ ap (λ h. either place low h) more_is
      ∙ (λ i other. turned_high (is_same name other) (has_bit place other) (Some value) (low other) (high other) (same_bit place name other true bit) i)
      ∙ with_whole

  pub extended_low : copy ≡ high → more ≡ with_name name value low → has_bit place name ≡ false → either place more copy ≡ with_name name value whole
  extended_low copy_is more_is bit =
      ap (λ h. either place more h) copy_is
      ∙ ap (λ l. either place l high) more_is
      ∙ (λ i other. turned_low (is_same name other) (has_bit place other) (Some value) (low other) (high other) (same_bit place name other false bit) i)
      ∙ with_whole

-- a name beside another, from which it differs at a place
apart_high : {V : Type 0} → (bit old new : Bool) (x y : Option V) → (new ≡ true → bit ≡ true) → (old ≡ true → bit ≡ false)
    → (if bit then if new then x else None else if old then y else None) ≡ (if new then x else if old then y else None)
apart_high true true true x y h k = refl
apart_high true true false x y h k = absurd (let e : true ≡ false = k refl in cc)
apart_high true false true x y h k = refl
apart_high true false false x y h k = refl
apart_high false true true x y h k = absurd (let e : false ≡ true = h refl in cc)
apart_high false false true x y h k = absurd (let e : false ≡ true = h refl in cc)
apart_high false true false x y h k = refl
apart_high false false false x y h k = refl

apart_low : {V : Type 0} → (bit old new : Bool) (x y : Option V) → (new ≡ true → bit ≡ false) → (old ≡ true → bit ≡ true)
    → (if bit then if old then y else None else if new then x else None) ≡ (if new then x else if old then y else None)
apart_low true old true x y h k = absurd (let e : true ≡ false = h refl in cc)
apart_low true true false x y h k = refl
apart_low true false false x y h k = refl
apart_low false old true x y h k = refl
apart_low false true false x y h k = absurd (let e : false ≡ true = k refl in cc)
apart_low false false false x y h k = refl

other_bit : (a b : Bool) → a ≡ not b → b ≡ not a
other_bit a true e = sym (ap not e)
other_bit a false e = sym (ap not e)

-- an old leaf, of which a copy is taken, and a new one
module _ {V : Type 0} (place : ℕ) (found name : Name) (w value : V) (old copy new : Tree V)
    (old_is : old ≡ Leaf found w) (copy_is : copy ≡ old) (new_is : new ≡ Leaf name value) (apart : has_bit place name ≡ not (has_bit place found)) where
  with_old : with_name name value (held_in (Leaf found w)) ≡ with_name name value (held_in old)
  with_old = ap (λ o. with_name name value (held_in o)) (sym old_is)

  found_bit : (bit : Bool) → has_bit place name ≡ bit → has_bit place found ≡ not bit
  found_bit bit e = other_bit (has_bit place name) (has_bit place found) apart ∙ ap not e

  pub beside_high : has_bit place name ≡ true → either place (held_in copy) (held_in new) ≡ with_name name value (held_in old)
  beside_high bit =
      ap (λ c. either place (held_in c) (held_in new)) (copy_is ∙ old_is)
      ∙ ap (λ n. either place (held_in (Leaf found w)) (held_in n)) new_is
      ∙ (λ i other. apart_high (has_bit place other) (is_same found other) (is_same name other) (Some value) (Some w) (same_bit place name other true bit) (same_bit place found other false (found_bit true bit)) i)
      ∙ with_old

  pub beside_low : has_bit place name ≡ false → either place (held_in new) (held_in copy) ≡ with_name name value (held_in old)
  beside_low bit =
      ap (λ c. either place (held_in new) (held_in c)) (copy_is ∙ old_is)
      ∙ ap (λ n. either place (held_in n) (held_in (Leaf found w))) new_is
      ∙ (λ i other. apart_low (has_bit place other) (is_same found other) (is_same name other) (Some value) (Some w) (same_bit place name other false bit) (same_bit place found other true (found_bit false bit)) i)
      ∙ with_old
