-- Values that are known behind entries: each object in them was made, and so were all class objects. They stay known behind further entries.
use Rattle.std.proofs.Common.{◌≡◌, ◌≢◌, ℕ, List, [], ◌∷◌, ◌++◌, refl, sym, ap, ◌∙◌, if◌then◌else◌}
use Rattle.std.specs.List.{AllByRecursion as Each}
use Rattle.std.proofs.lemmas.Bool.{eq-eqb}
use Rattle.std.proofs.lemmas.List.Elements.{filter-append}
use Rattle.vdm_kinds.specs.declared.name.Name.{Name}
use Rattle.vdm_values.specs.declared.slot.Slot.{Slot}
use Rattle.vdm_values.specs.declared.slot.Slot.TheVariants.{Unset, Held}
use Rattle.abstract_syntax.specs.Values.{ValueTree, ValueTrees, PairTrees, token, tuple, record_of, sequence, set_of, map_of, object}
use Rattle.abstract_syntax.specs.Classes.{SpecTree}
use Rattle.abstract_syntax.specs.Values.{no_values, one_value, no_pairs, one_pair}
use Rattle.run_journal.specs.declared.deed.Deed.{Deed}
use Rattle.run_journal.specs.declared.deed.Deed.TheVariants as deed
use Rattle.run_journal.specs.declared.entry.Entry.{Entry}
use Rattle.run_journal.specs.declared.thread.Thread.TheVariants.{Main}
use Rattle.run_journal.specs.declared.write.Write.{Write as Pair}
use Rattle.run_journal.specs.Made.{entry}
use Rattle.run_journal.specs.Parts.{is_on, object_part}
use Rattle.vdm_legal.specs.ClassObjects.{AreMade}
use Rattle.value_parts.specs.Objects.{EachObject, EachObjectIn, EachObjectInPairs}
use Rattle.value_parts.proofs.Everywhere.{each_append}

-- ---- what is known

-- something stands on the object, of whatever class, and on each class object: an object comes behind all of these
abbrev pub IsThere : SpecTree → List Entry → ℕ → Name → Type 0
IsThere spec entries n class = (object_part n entries ≢ []) × AreMade spec entries

abbrev pub IsKnown : SpecTree → List Entry → ValueTree → Type 0
IsKnown spec entries = EachObject (IsThere spec entries)

-- a slot that is unset, or holds a known value
abbrev pub IsKnownSlot : SpecTree → List Entry → Slot → Type 0
IsKnownSlot spec entries Unset = Unit {0}
IsKnownSlot spec entries (Held v) = IsKnown spec entries v

abbrev pub IsKnownPair : SpecTree → List Entry → Pair → Type 0
IsKnownPair spec entries pair = IsKnown spec entries pair.value

-- what a deed gives the variables of an object is known
abbrev pub KeepsKnown : SpecTree → List Entry → Deed → Type 0
KeepsKnown spec entries (deed.Class class slots) = Each (IsKnownSlot spec entries) slots
KeepsKnown spec entries (deed.New class slots) = Each (IsKnownSlot spec entries) slots
KeepsKnown spec entries (deed.Write pairs refused) = Each (IsKnownPair spec entries) pairs
KeepsKnown spec entries _ = Unit {0}

-- what each of some entries gives is known behind all
abbrev pub AllKnown : SpecTree → List Entry → List Entry → Type 0
AllKnown spec entries = Each (λ (e : Entry). KeepsKnown spec entries e.deed)

-- ---- properties that hold of more

pub each_wider : {X : Type 0} (P Q : X → Type 0) → ((x : X) → P x → Q x) → (xs : List X) → Each P xs → Each Q xs
each_wider P Q wider [] h = tt
each_wider P Q wider (x ∷ xs) h = (wider x h.0, each_wider P Q wider xs h.1)

module _ (P Q : ℕ → Name → Type 0) (wider : (n : ℕ) (class : Name) → P n class → Q n class) where
  mutual
    object_wider : (v : ValueTree) → EachObject P v → EachObject Q v
    object_wider (token v) h = object_wider v h
    object_wider (tuple vs) h = objects_wider vs h
    object_wider (record_of class name vs) h = objects_wider vs h
    object_wider (sequence vs) h = objects_wider vs h
    object_wider (set_of vs) h = objects_wider vs h
    object_wider (map_of ps) h = pairs_wider ps h
    object_wider (object n class) h = wider n class h
    object_wider v h = tt

    objects_wider : (vs : ValueTrees) → EachObjectIn P vs → EachObjectIn Q vs
    objects_wider no_values h = tt
    objects_wider (one_value v vs) h = (object_wider v h.0, objects_wider vs h.1)

    pairs_wider : (ps : PairTrees) → EachObjectInPairs P ps → EachObjectInPairs Q ps
    pairs_wider no_pairs h = tt
    pairs_wider (one_pair k v ps) h = (object_wider k h.0, object_wider v h.1, pairs_wider ps h.2)

-- ---- behind further entries

more-there : {X : Type 0} (xs ys : List X) → xs ≢ [] → xs ++ ys ≢ []
more-there [] ys h e = h refl
more-there (x ∷ xs) ys h e = cc

last-there : {X : Type 0} (xs : List X) (y : X) → xs ++ y ∷ [] ≢ []
last-there [] y e = cc
last-there (x ∷ xs) y e = cc

-- an object has an entry that stands last
pub there-last : (before : List Entry) (o : ℕ) (d : Deed) → object_part o (before ++ entry Main o d ∷ []) ≢ []
there-last before o d none =
    last-there (object_part o before) (entry Main o d)
    (sym (filter-append (is_on o) before (entry Main o d ∷ [])
    ∙ ap (λ b. object_part o before ++ (if b then entry Main o d ∷ [] else [])) (eq-eqb o o refl)) ∙ none)

module _ (before more after : List Entry) (e : after ≡ before ++ more) where
  -- an object on which something stands has it behind further entries too
  pub there-on : (o : ℕ) → object_part o before ≢ [] → object_part o after ≢ []
  there-on o there none =
      more-there (object_part o before) (object_part o more) there (sym (filter-append (is_on o) before more) ∙ ap (object_part o) (sym e) ∙ none)

  module _ (spec : SpecTree) where
    pub made-on : AreMade spec before → AreMade spec after
    made-on made k is = there-on k (made k is)

    pub known-on : (v : ValueTree) → IsKnown spec before v → IsKnown spec after v
    known-on = object_wider (IsThere spec before) (IsThere spec after) (λ n class there. (there-on n there.0, made-on there.1))

    pub slot-on : (slot : Slot) → IsKnownSlot spec before slot → IsKnownSlot spec after slot
    slot-on Unset h = tt
    slot-on (Held v) h = known-on v h

    keeps-on : (d : Deed) → KeepsKnown spec before d → KeepsKnown spec after d
    keeps-on (deed.Class class slots) h = each_wider (IsKnownSlot spec before) (IsKnownSlot spec after) slot-on slots h
    keeps-on (deed.New class slots) h = each_wider (IsKnownSlot spec before) (IsKnownSlot spec after) slot-on slots h
    keeps-on (deed.Write pairs refused) h =
        each_wider (IsKnownPair spec before) (IsKnownPair spec after) (λ (pair : Pair). known-on pair.value) pairs h
    keeps-on d h = tt

-- one entry more
pub known-more : (spec : SpecTree) (before : List Entry) (x : Entry) → AllKnown spec before before → KeepsKnown spec before x.deed → AllKnown spec (before ++ x ∷ []) (before ++ x ∷ [])
known-more spec before x h k =
    let after = before ++ x ∷ [] in
    each_append (λ (e : Entry). KeepsKnown spec after e.deed) before (x ∷ [])
    (each_wider (λ (e : Entry). KeepsKnown spec before e.deed) (λ (e : Entry). KeepsKnown spec after e.deed) (λ e. keeps-on before (x ∷ []) after refl spec e.deed) before h)
    (keeps-on before (x ∷ []) after refl spec x.deed k, tt)
