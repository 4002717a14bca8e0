-- What every journal keeps while tasks are done: its counters rise in order, its objects hold known values, and no end is in it; and how it grows by a task.
use Rattle.std.proofs.Common.{◌≡◌, ◌≢◌, ◌⊎◌, inl, inr, subst, ℕ, ◌+◌, ◌≤◌, ◌<◌, Bool, false, List, [], ◌∷◌, ◌++◌, None, refl, sym, ap, ◌∙◌, append_assoc, append-nil, arith}
use Rattle.vdm_kinds.specs.declared.member.OpRef.{OpRef}
use Rattle.vdm_kinds.specs.declared.name.Name.{Name}
use Rattle.abstract_syntax.specs.Classes.{SpecTree, is_same_name}
use Rattle.run_journal.specs.declared.deed.Deed.{Deed}
use Rattle.run_journal.specs.declared.deed.Deed.TheVariants as deed
use Rattle.run_journal.specs.declared.entry.Entry.{Entry}
use Rattle.run_journal.specs.declared.thread.Thread.TheVariants.{Main}
use Rattle.run_journal.specs.Made.{entry}
use Rattle.vdm_legal.specs.Finishes.{decided, finish_of}
use Rattle.vdm_legal.specs.State.{is_request, is_activation, is_finish}
use Rattle.vdm_legal.proofs.Counting.{counted, counted-more, counted-one, adds, adds-none, adds-here}
use Rattle.vdm_legal.proofs.Journals.{finish-last}
use Rattle.run_journal.specs.Parts.{object_part}
use Rattle.vdm_legal.specs.ClassObjects.{AreMade}
use Rattle.vdm_legal.proofs.Known.{KeepsKnown, AllKnown, known-more}

-- of each name on each object there are at most as many activations as requests, and as finishes activations; values are known,
-- and the run is not finished
pub record IsSane (spec : SpecTree) (entries : List Entry) : Type 0 where
  pub begun : (o : ℕ) (name : Name) → counted (is_activation name) o entries ≤ counted (is_request name) o entries
  pub done : (o : ℕ) (name : Name) → counted (is_finish name) o entries ≤ counted (is_activation name) o entries
  pub known : AllKnown spec entries entries
  pub unfinished : finish_of entries ≡ None

-- The later entries are the earlier ones and more, by which requests and activations rise alike, and finishes by no more: a call that an
-- exit left behind its body, in the test of its result, never finishes. Before all class objects are made there are no more.
pub record IsWithin (spec : SpecTree) (first later : List Entry) : Type 0 where
  pub more : List Entry
  pub behind : later ≡ first ++ more
  pub begun : (o : ℕ) (name : Name) → counted (is_request name) o later + counted (is_activation name) o first ≡ counted (is_request name) o first + counted (is_activation name) o later
  pub done : (o : ℕ) (name : Name) → counted (is_request name) o first + counted (is_finish name) o later ≤ counted (is_request name) o later + counted (is_finish name) o first
  pub still : object_part 0 first ≢ [] → AreMade spec first ⊎ (later ≡ first)

pub within-self : {spec : SpecTree} (entries : List Entry) → IsWithin spec entries entries
within-self entries = record {
  more = [];
  behind = sym (append-nil entries);
  begun = λ o name. omega arith;
  done = λ o name. omega arith;
  still = λ main. inr refl;
}

-- where nothing came of the first, all comes of the second
still-then : (spec : SpecTree) (a b c : List Entry) → AreMade spec a ⊎ (b ≡ a) → (b ≡ a → AreMade spec b ⊎ (c ≡ b)) → AreMade spec a ⊎ (c ≡ a)
still-then spec a b c (inl made) further = inl made
still-then spec a b c (inr same) further = elim (further same) [ inl made ↦ inl (subst (AreMade spec) same made) | inr also ↦ inr (also ∙ same) ]

pub within-then : {spec : SpecTree} (a b c : List Entry) → IsWithin spec a b → IsWithin spec b c → IsWithin spec a c
within-then {spec = spec} a b c h k = record {
  more = h.more ++ k.more;
  behind = k.behind ∙ ap (λ xs. xs ++ k.more) h.behind ∙ append_assoc a h.more k.more;
  begun = λ o name. omega (arith, h.begun o name, k.begun o name);
  done = λ o name. omega (arith, h.done o name, k.done o name);
  still = λ main. still-then spec a b c (h.still main) (λ same. k.still (subst (λ (xs : List Entry). object_part 0 xs ≢ []) (sym same) main));
}

pub sane-start : {spec : SpecTree} → IsSane spec []
sane-start = record { begun = λ o name. omega arith; done = λ o name. omega arith; known = tt; unfinished = refl }

-- ---- one entry more

-- what an entry adds to the counters of a name on an object
record Tally (before after : List Entry) (o : ℕ) (name : Name) (r a f : ℕ) : Type 0 where
  requested : counted (is_request name) o after ≡ counted (is_request name) o before + r
  activated : counted (is_activation name) o after ≡ counted (is_activation name) o before + a
  finished : counted (is_finish name) o after ≡ counted (is_finish name) o before + f

counted-on : (test : Deed → Bool) (me o : ℕ) (d : Deed) (before : List Entry) (b : Bool) → test d ≡ b → counted test o (before ++ entry Main me d ∷ []) ≡ counted test o before + adds me o b
counted-on test me o d before b e = counted-more test o before (entry Main me d ∷ []) ∙ ap (λ n. counted test o before + n) (counted-one test me o d ∙ ap (adds me o) e)

counted-off : (test : Deed → Bool) (me o : ℕ) (d : Deed) (before : List Entry) → test d ≡ false → counted test o (before ++ entry Main me d ∷ []) ≡ counted test o before + 0
counted-off test me o d before e = counted-on test me o d before false e ∙ ap (λ n. counted test o before + n) (adds-none me o)

module _ (before : List Entry) (me : ℕ) (op : OpRef) (o : ℕ) (name : Name) where
  req-tally : Tally before (before ++ entry Main me (deed.Req op) ∷ []) o name (adds me o (is_same_name name op.name)) 0 0
  req-tally = record {
    requested = counted-on (is_request name) me o (deed.Req op) before (is_same_name name op.name) refl;
    activated = counted-off (is_activation name) me o (deed.Req op) before refl;
    finished = counted-off (is_finish name) me o (deed.Req op) before refl;
  }

  act-tally : Tally before (before ++ entry Main me (deed.Act op) ∷ []) o name 0 (adds me o (is_same_name name op.name)) 0
  act-tally = record {
    requested = counted-off (is_request name) me o (deed.Act op) before refl;
    activated = counted-on (is_activation name) me o (deed.Act op) before (is_same_name name op.name) refl;
    finished = counted-off (is_finish name) me o (deed.Act op) before refl;
  }

  fin-tally : Tally before (before ++ entry Main me (deed.Fin op) ∷ []) o name 0 0 (adds me o (is_same_name name op.name))
  fin-tally = record {
    requested = counted-off (is_request name) me o (deed.Fin op) before refl;
    activated = counted-off (is_activation name) me o (deed.Fin op) before refl;
    finished = counted-on (is_finish name) me o (deed.Fin op) before (is_same_name name op.name) refl;
  }

-- ---- deeds that are no part of a call

abbrev pub IsQuiet : Deed → Type 0
IsQuiet d = (name : Name) → (is_request name d ≡ false) × (is_activation name d ≡ false) × (is_finish name d ≡ false)

module _ (before : List Entry) (me : ℕ) (d : Deed) (quiet : IsQuiet d) where
  quiet-tally : (o : ℕ) (name : Name) → Tally before (before ++ entry Main me d ∷ []) o name 0 0 0
  quiet-tally o name = record {
    requested = counted-off (is_request name) me o d before (quiet name).0;
    activated = counted-off (is_activation name) me o d before (quiet name).1;
    finished = counted-off (is_finish name) me o d before (quiet name).2;
  }

  pub quiet-sane : {spec : SpecTree} → IsSane spec before → KeepsKnown spec before d → decided Main d ≡ None → IsSane spec (before ++ entry Main me d ∷ [])
  quiet-sane {spec = spec} sane known undecided = record {
    begun = λ o name. let t = quiet-tally o name in omega (arith, sane.begun o name, t.requested, t.activated);
    done = λ o name. let t = quiet-tally o name in omega (arith, sane.done o name, t.activated, t.finished);
    known = known-more spec before (entry Main me d) sane.known known;
    unfinished = finish-last before (entry Main me d) sane.unfinished ∙ undecided;
  }

  pub quiet-within : (spec : SpecTree) → AreMade spec before → IsWithin spec before (before ++ entry Main me d ∷ [])
  quiet-within spec made = record {
    more = entry Main me d ∷ [];
    behind = refl;
    begun = λ o name. let t = quiet-tally o name in omega (arith, t.requested, t.activated);
    done = λ o name. let t = quiet-tally o name in omega (arith, t.requested, t.finished);
    still = λ main. inl made;
  }

  -- main begins with nothing, and makes the class objects
  pub quiet-start : {spec : SpecTree} → IsWithin spec [] before → IsWithin spec [] (before ++ entry Main me d ∷ [])
  quiet-start w = record {
    more = w.more ++ entry Main me d ∷ [];
    behind = ap (λ xs. xs ++ entry Main me d ∷ []) w.behind;
    begun = λ o name. let t = quiet-tally o name in omega (arith, w.begun o name, t.requested, t.activated);
    done = λ o name. let t = quiet-tally o name in omega (arith, w.done o name, t.requested, t.finished);
    still = λ main. absurd (main refl);
  }

-- ---- a call: its request, its activation, what its body does, and its finish

abbrev pub behind_request : List Entry → ℕ → OpRef → List Entry
behind_request before me op = before ++ entry Main me (deed.Req op) ∷ []

abbrev pub behind_activation : List Entry → ℕ → OpRef → List Entry
behind_activation before me op = behind_request before me op ++ entry Main me (deed.Act op) ∷ []

abbrev pub behind_finish : List Entry → ℕ → OpRef → List Entry
behind_finish after me op = after ++ entry Main me (deed.Fin op) ∷ []

module _ {spec : SpecTree} (before : List Entry) (me : ℕ) (op : OpRef) (sane : IsSane spec before) where
  pub request-sane : IsSane spec (behind_request before me op)
  request-sane = record {
    begun = λ o name. let t = req-tally before me op o name in omega (arith, sane.begun o name, t.requested, t.activated);
    done = λ o name. let t = req-tally before me op o name in omega (arith, sane.done o name, t.activated, t.finished);
    known = known-more spec before (entry Main me (deed.Req op)) sane.known tt;
    unfinished = finish-last before (entry Main me (deed.Req op)) sane.unfinished;
  }

  pub act-waits : counted (is_activation op.name) me (behind_request before me op) < counted (is_request op.name) me (behind_request before me op)
  act-waits = let t = req-tally before me op me op.name in omega (arith, sane.begun me op.name, t.requested, t.activated, adds-here me op.name)

  pub begun-sane : IsSane spec (behind_activation before me op)
  begun-sane = record {
    begun = λ o name. let t = req-tally before me op o name in let s = act-tally (behind_request before me op) me op o name in omega (arith, sane.begun o name, t.requested, t.activated, s.requested, s.activated);
    done = λ o name. let t = req-tally before me op o name in let s = act-tally (behind_request before me op) me op o name in omega (arith, sane.done o name, t.activated, t.finished, s.activated, s.finished);
    known = known-more spec (behind_request before me op) (entry Main me (deed.Act op)) request-sane.known tt;
    unfinished = finish-last (behind_request before me op) (entry Main me (deed.Act op)) request-sane.unfinished;
  }

  module _ (after : List Entry) (within : IsWithin spec (behind_activation before me op) after) where
    pub fin-waits : counted (is_finish op.name) me after < counted (is_activation op.name) me after
    fin-waits =
        let t = req-tally before me op me op.name in
        let s = act-tally (behind_request before me op) me op me op.name in
        omega (arith, sane.done me op.name, t.activated, t.finished, s.activated, s.finished, adds-here me op.name, within.begun me op.name, within.done me op.name)

    pub finished-sane : IsSane spec after → IsSane spec (behind_finish after me op)
    finished-sane still = record {
      begun = λ o name. let u = fin-tally after me op o name in omega (arith, still.begun o name, u.requested, u.activated);
      done = λ o name.
          let t = req-tally before me op o name in
          let s = act-tally (behind_request before me op) me op o name in
          let u = fin-tally after me op o name in
          omega (arith, sane.done o name, t.activated, t.finished, s.activated, s.finished, within.begun o name, within.done o name, u.activated, u.finished);
      known = known-more spec after (entry Main me (deed.Fin op)) still.known tt;
      unfinished = finish-last after (entry Main me (deed.Fin op)) still.unfinished;
    }

    -- where an exit left the call, it does not finish
    pub left-within : AreMade spec before → IsWithin spec before after
    left-within made = record {
      more = entry Main me (deed.Req op) ∷ entry Main me (deed.Act op) ∷ within.more;
      behind = within.behind
          ∙ append_assoc (behind_request before me op) (entry Main me (deed.Act op) ∷ []) within.more
          ∙ append_assoc before (entry Main me (deed.Req op) ∷ []) (entry Main me (deed.Act op) ∷ within.more);
      begun = λ o name.
          let t = req-tally before me op o name in
          let s = act-tally (behind_request before me op) me op o name in
          omega (arith, t.requested, t.activated, s.requested, s.activated, within.begun o name);
      done = λ o name.
          let t = req-tally before me op o name in
          let s = act-tally (behind_request before me op) me op o name in
          omega (arith, t.requested, t.finished, s.requested, s.finished, within.done o name);
      still = λ main. inl made;
    }

    pub finished-within : AreMade spec before → IsWithin spec before (behind_finish after me op)
    finished-within made = record {
      more = entry Main me (deed.Req op) ∷ entry Main me (deed.Act op) ∷ (within.more ++ entry Main me (deed.Fin op) ∷ []);
      behind = ap (λ xs. xs ++ entry Main me (deed.Fin op) ∷ []) within.behind
          ∙ append_assoc (behind_activation before me op) within.more (entry Main me (deed.Fin op) ∷ [])
          ∙ append_assoc (behind_request before me op) (entry Main me (deed.Act op) ∷ []) (within.more ++ entry Main me (deed.Fin op) ∷ [])
          ∙ append_assoc before (entry Main me (deed.Req op) ∷ []) (entry Main me (deed.Act op) ∷ (within.more ++ entry Main me (deed.Fin op) ∷ []));
      begun = λ o name.
          let t = req-tally before me op o name in
          let s = act-tally (behind_request before me op) me op o name in
          let u = fin-tally after me op o name in
          omega (arith, t.requested, t.activated, s.requested, s.activated, within.begun o name, u.requested, u.activated);
      done = λ o name.
          let t = req-tally before me op o name in
          let s = act-tally (behind_request before me op) me op o name in
          let u = fin-tally after me op o name in
          omega (arith, t.requested, t.finished, s.requested, s.finished, within.done o name, u.requested, u.finished);
      still = λ main. inl made;
    }
