-- Where the first entry on an object stands and the last that wrote a variable, behind one entry more.
use Rattle.std.proofs.Common.{◌≡◌, ◌⊎◌, inl, inr, ℕ, zero, suc, ◌+◌, ◌≤◌, ◌<◌, Bool, true, false, List, [], ◌∷◌, ◌++◌, take, drop, length, get_or, slice_get, Option, Some, None, if◌then◌else◌, refl, sym, ap, subst, ◌∙◌, arith, append-nil, ne_eqb, eqb-true, length-append, take-append-drop}
use Rattle.std.specs.Option.{is_some}
use Rattle.std.proofs.lemmas.Option.{none-some, same_Some, slice_get_read}
use Rattle.std.proofs.lemmas.List.{take_all, drop_all, take-append-le, drop-append-le}
use Rattle.std.proofs.lemmas.List.Elements.{filter-append}
use Rattle.vdm_kinds.specs.declared.member.VarRef.{VarRef}
use Rattle.abstract_syntax.specs.Classes.{SpecTree}
use Rattle.run_journal.specs.declared.entry.Entry.{Entry}
use Rattle.run_journal.specs.Parts.{is_on, object_part}
use Rattle.vdm_legal.specs.Order.{above_all}
use Rattle.vdm_legal.specs.State.{first_slot, last_of, last_written, slot_or, state_of, written_by}
use Rattle.plain_state.specs.Found.{FindsFirsts, IsFirst, IsLast, Place, place_of, through}
use Rattle.plain_state.proofs.LastWrites.{last_written-last}

-- ---- what is there

empty-length : {A : Type 0} (xs : List A) → length xs ≡ 0 → xs ≡ []
empty-length [] h = refl
empty-length (x ∷ xs) h = absurd (omega (arith, h))

none-there : {A : Type 0} (o : Option A) → is_some o ≡ false → o ≡ None
none-there None h = refl
none-there (Some x) h = absurd (cc)

last_written-append : (var : VarRef) (front back : List Entry) → last_written var back ≡ None → last_written var (front ++ back) ≡ last_written var front
last_written-append var [] back h = h
last_written-append var (e ∷ front) back h = ap (last_of (written_by var e.deed)) (last_written-append var front back h)

module _ (entries : List Entry) (object : ℕ) where
  parted : (n : ℕ) → object_part object entries ≡ object_part object (take n entries) ++ object_part object (drop n entries)
  parted n = ap (object_part object) (sym (take-append-drop n entries)) ∙ filter-append (is_on object) (take n entries) (drop n entries)

  pub first-found : (number : ℕ) → IsFirst entries object number → object_part object (drop number entries) ≡ object_part object entries
  first-found number first =
      sym (parted number ∙ ap (λ xs. xs ++ object_part object (drop number entries)) (empty-length (object_part object (take number entries)) first.1))

  pub last-found : (var : VarRef) (number : Option ℕ) → IsLast entries object var number → last_written var (object_part object (take (through number) entries)) ≡ last_written var (object_part object entries)
  last-found var number last =
      sym (ap (last_written var) (parted (through number))
      ∙ last_written-append var (object_part object (take (through number) entries)) (object_part object (drop (through number) entries)) (none-there _ last))

  pub state-found : (spec : SpecTree) (var : VarRef) (first : ℕ) (last : Option ℕ) → IsFirst entries object first → IsLast entries object var last
      → slot_or (first_slot spec var (object_part object (drop first entries))) (last_written var (object_part object (take (through last) entries))) ≡ state_of spec (object_part object entries) var
  state-found spec var first last is_first is_last =
      ap (λ xs. slot_or (first_slot spec var xs) (last_written var (object_part object (take (through last) entries)))) (first-found first is_first)
      ∙ ap (slot_or (first_slot spec var (object_part object entries))) (last-found var last is_last)

  pub held-found : (spec : SpecTree) (var : VarRef) (first : ℕ) (last : Option ℕ) → IsFirst entries object first → IsLast entries object var last
      → (made written : List Entry) → made ≡ drop first entries → written ≡ take (through last) entries
      → slot_or (first_slot spec var (object_part object made)) (last_written var (object_part object written)) ≡ state_of spec (object_part object entries) var
  held-found spec var first last is_first is_last made written made_is written_is =
      ap (λ xs. slot_or (first_slot spec var (object_part object xs)) (last_written var (object_part object written))) made_is
      ∙ ap (λ xs. slot_or (first_slot spec var (object_part object (drop first entries))) (last_written var (object_part object xs))) written_is
      ∙ state-found spec var first last is_first is_last

-- ---- a number that is noted

-- behind all entries nothing is written
at-end : (entries : List Entry) (object : ℕ) (var : VarRef) → IsLast entries object var (Some (length entries))
at-end entries object var = ap (λ xs. is_some (last_written var (object_part object xs))) (drop_all (length entries + 1) entries (omega arith))

noted-last : (entries : List Entry) (object : ℕ) (var : VarRef) (old now : Option ℕ) → IsLast entries object var old → (now ≡ old) ⊎ (now ≡ Some (length entries)) → IsLast entries object var now
noted-last entries object var old now h (inl same) = subst (IsLast entries object var) (sym same) h
noted-last entries object var old now h (inr new) = subst (IsLast entries object var) (sym new) (at-end entries object var)

pub writes-noted : (entries : List Entry) (number : ℕ) (old now : Place → Option ℕ) → number ≡ length entries
    → ((object : ℕ) (var : VarRef) → IsLast entries object var (old (place_of object var)))
    → ((place : Place) → (now place ≡ old place) ⊎ (now place ≡ Some number))
    → (object : ℕ) (var : VarRef) → IsLast entries object var (now (place_of object var))
writes-noted entries number old now is h noted object var =
    noted-last entries object var (old (place_of object var)) (now (place_of object var)) (h object var)
    (subst (λ n. (now (place_of object var) ≡ old (place_of object var)) ⊎ (now (place_of object var) ≡ Some n)) is (noted (place_of object var)))

-- ---- one entry more

neither : {A : Type 0} (a b : Option A) → is_some a ≡ false → is_some b ≡ false → is_some (last_of a b) ≡ false
neither a None h k = h
neither a (Some b) h k = k

-- an entry on the object that doesn't write the variable
written-more : (var : VarRef) (part : List Entry) (e : Entry) → is_some (last_written var part) ≡ false → is_some (written_by var e.deed) ≡ false → is_some (last_written var (part ++ e ∷ [])) ≡ false
written-more var part e h k = ap is_some (last_written-last var part e) ∙ neither (last_written var part) (written_by var e.deed) h k

one-up : (a b : ℕ) → (a ≤ b) ⊎ (b < a) → (suc a ≤ suc b) ⊎ (suc b < suc a)
one-up a b (inl h) = inl (omega (arith, h))
one-up a b (inr h) = inr (omega (arith, h))

side : (a b : ℕ) → (a ≤ b) ⊎ (b < a)
side zero b = inl (omega arith)
side (suc a) zero = inr (omega arith)
side (suc a) (suc b) = one-up a b (side a b)

module _ (entries : List Entry) (e : Entry) (object : ℕ) (var : VarRef) where
  -- by whether the entry stands on the object, and whether it writes the variable
  part-more : (part : List Entry) (on writes : Bool) → is_some (written_by var e.deed) ≡ writes → (on ≡ true → writes ≡ true → ⊥) → is_some (last_written var part) ≡ false → is_some (last_written var (part ++ (if on then e ∷ [] else []))) ≡ false
  part-more part false writes is apart h = ap (λ xs. is_some (last_written var xs)) (append-nil part) ∙ h
  part-more part true true is apart h = absurd (apart refl refl)
  part-more part true false is apart h = written-more var part e h is

  rest-more : (n : ℕ) → n ≤ length entries → object_part object (drop n (entries ++ e ∷ [])) ≡ object_part object (drop n entries) ++ (if is_on object e then e ∷ [] else [])
  rest-more n le = ap (object_part object) (drop-append-le n entries (e ∷ []) le) ∙ filter-append (is_on object) (drop n entries) (e ∷ [])

  last-within : (last : Option ℕ) → through last ≤ length entries → IsLast entries object var last → (is_on object e ≡ true → is_some (written_by var e.deed) ≡ true → ⊥) → IsLast (entries ++ e ∷ []) object var last
  last-within last le h apart =
      ap (λ xs. is_some (last_written var xs)) (rest-more (through last) le)
      ∙ part-more (object_part object (drop (through last) entries)) (is_on object e) (is_some (written_by var e.deed)) refl apart h

  last-behind : (last : Option ℕ) → length entries < through last → IsLast (entries ++ e ∷ []) object var last
  last-behind last lt = ap (λ xs. is_some (last_written var (object_part object xs))) (drop_all (through last) (entries ++ e ∷ []) (omega (arith, length-append entries (e ∷ []))))

  last-by : (last : Option ℕ) → IsLast entries object var last → (is_on object e ≡ true → is_some (written_by var e.deed) ≡ true → last ≡ Some (length entries)) → (through last ≤ length entries) ⊎ (length entries < through last) → IsLast (entries ++ e ∷ []) object var last
  last-by last h noted (inl le) =
      last-within last le h (λ on writes. let long : through last ≡ length entries + 1 = ap through (noted on writes) in absurd (omega (arith, long, le)))
  last-by last h noted (inr lt) = last-behind last lt

  last-more : (last : Option ℕ) → IsLast entries object var last → (is_on object e ≡ true → is_some (written_by var e.deed) ≡ true → last ≡ Some (length entries)) → IsLast (entries ++ e ∷ []) object var last
  last-more last h noted = last-by last h noted (side (through last) (length entries))

pub writes-more : (entries after : List Entry) (e : Entry) (found : Place → Option ℕ) → after ≡ entries ++ e ∷ []
    → ((object : ℕ) (var : VarRef) → IsLast entries object var (found (place_of object var)))
    → ((var : VarRef) → is_some (written_by var e.deed) ≡ true → found (place_of e.object var) ≡ Some (length entries))
    → (object : ℕ) (var : VarRef) → IsLast after object var (found (place_of object var))
writes-more entries after e found is h noted object var =
    subst (λ xs. IsLast xs object var (found (place_of object var))) (sym is)
    (last-more entries e object var (found (place_of object var)) (h object var)
    (λ on writes. subst (λ n. found (place_of n var) ≡ Some (length entries)) (eqb-true e.object object on) (noted var writes)))

-- ---- the first entry on an object

pub none-before : (entries : List Entry) (object : ℕ) → IsFirst entries object 0
none-before entries object = (omega arith, refl)

above-fresh : (entries : List Entry) (n : ℕ) → above_all entries ≤ n → object_part n entries ≡ []
above-fresh [] n h = refl
above-fresh (e ∷ entries) n h = ap (λ b. if b then e ∷ object_part n entries else object_part n entries) (ne_eqb e.object n (omega arith)) ∙ above-fresh entries n (omega arith)

all-before : (entries : List Entry) (object : ℕ) → above_all entries ≤ object → IsFirst entries object (length entries)
all-before entries object h =
    (omega arith, ap (λ xs. length (object_part object xs)) (take_all (length entries) entries (omega arith)) ∙ ap length (above-fresh entries object h))

first-more : (entries : List Entry) (e : Entry) (object number : ℕ) → IsFirst entries object number → IsFirst (entries ++ e ∷ []) object number
first-more entries e object number h =
    (omega (arith, h.0, length-append entries (e ∷ [])), ap (λ xs. length (object_part object xs)) (take-append-le number entries (e ∷ []) h.0) ∙ h.1)

pub first-got : (entries : List Entry) (firsts given : List ℕ) (object number : ℕ) → given ≡ firsts → FindsFirsts firsts entries → object < length given → number ≡ get_or given object number → IsFirst entries object number
first-got entries firsts given object number same h lt is =
    h object number (sym (ap (λ xs. slice_get xs object) same) ∙ slice_get_read given (length given) object number refl lt is)

pub firsts-more : (entries after : List Entry) (e : Entry) (firsts : List ℕ) → after ≡ entries ++ e ∷ [] → FindsFirsts firsts entries → FindsFirsts firsts after
firsts-more entries after e firsts is h object number at =
    subst (λ xs. IsFirst xs object number) (sym is) (first-more entries e object number (h object number at))

one-further : {A : Type 0} (xs : List A) (x y : A) (i : ℕ) → (slice_get xs i ≡ Some y) ⊎ ((i ≡ length xs) × (x ≡ y)) → (z : A) → (slice_get (z ∷ xs) (suc i) ≡ Some y) ⊎ ((suc i ≡ length (z ∷ xs)) × (x ≡ y))
one-further xs x y i (inl h) z = inl h
one-further xs x y i (inr h) z = inr (ap suc h.0, h.1)

got-of-more : {A : Type 0} (xs : List A) (x y : A) (i : ℕ) → slice_get (xs ++ x ∷ []) i ≡ Some y → (slice_get xs i ≡ Some y) ⊎ ((i ≡ length xs) × (x ≡ y))
got-of-more [] x y zero e = inr (refl, same_Some x y e)
got-of-more [] x y (suc i) e = absurd (none-some y e)
got-of-more (z ∷ xs) x y zero e = inl e
got-of-more (z ∷ xs) x y (suc i) e = one-further xs x y i (got-of-more xs x y i e) z

module _ (entries : List Entry) (firsts : List ℕ) (known : FindsFirsts firsts entries) where
  first-of-more : (object number : ℕ) → above_all entries ≤ length firsts → (slice_get firsts object ≡ Some number) ⊎ ((object ≡ length firsts) × (length entries ≡ number)) → IsFirst entries object number
  first-of-more object number fresh (inl h) = known object number h
  first-of-more object number fresh (inr h) = subst (IsFirst entries object) h.1 (all-before entries object (omega (arith, h.0, fresh)))

  firsts-longer : (after : List ℕ) → above_all entries ≤ length firsts → after ≡ firsts ++ length entries ∷ [] → FindsFirsts after entries
  firsts-longer after fresh is object number at =
      first-of-more object number fresh (got-of-more firsts (length entries) number object (sym (ap (λ xs. slice_get xs object) is) ∙ at))

  -- the number of entries is added where there is memory for it
  pub firsts-noted : (after : List ℕ) (number : ℕ) (added : Bool) → above_all entries ≤ length firsts → number ≡ length entries → after ≡ (if added then firsts ++ number ∷ [] else firsts) → FindsFirsts after entries
  firsts-noted after number true fresh all is = firsts-longer after fresh (is ∙ ap (λ n. firsts ++ n ∷ []) all)
  firsts-noted after number false fresh all is = subst (λ xs. FindsFirsts xs entries) (sym is) known
