-- Each entry of a run in the order of one lane is determined by those before it, so of two such runs one is a front of the other.
use Rattle.std.proofs.Common.{◌≡◌, ℕ, List, [], ◌∷◌, ◌++◌, Some, None, ◌⊎◌, inl, inr, refl, sym, ap, ◌∙◌, subst, append_assoc, append-nil}
use Rattle.std.specs.Prelude.{IsSome}
use Rattle.abstract_syntax.specs.Classes.{SpecTree}
use Rattle.abstract_syntax.specs.Expressions.{ExprTree}
use Rattle.run_journal.specs.declared.entry.Entry.{Entry}
use Rattle.run_journal.specs.declared.thread.Thread.TheVariants.{Main}
use Rattle.run_journal.specs.Made.{made}
use Rattle.vdm_legal.specs.Order.{IsNumbered, AreNumbered, IsInOrder}
use Rattle.vdm_legal.specs.Finishes.{Finish, finish_of}
use Rattle.vdm_legal.proofs.Taken.{legal-entry, one-entry}
use Rattle.vdm_meaning.specs.Runs.{IsLegal, AreLegal, IsRun}
use Rattle.vdm_meaning.proofs.AskedQuestions.{asked-unfinished}
use Rattle.vdm_meaning.proofs.Runs.{run_front, legal-for_main, run-last}

-- one of the lists is a front of the other
abbrev pub IsFrontEitherWay : List Entry → List Entry → Type 0
IsFrontEitherWay a b = ((rest : List Entry) × (a ++ rest ≡ b)) ⊎ ((rest : List Entry) × (b ++ rest ≡ a))

front-more : (x : Entry) (a b : List Entry) → IsFrontEitherWay a b → IsFrontEitherWay (x ∷ a) (x ∷ b)
front-more x a b h =
    elim h [
      | inl longer ↦ inl (longer.0, ap (λ xs. x ∷ xs) longer.1)
      | inr shorter ↦ inr (shorter.0, ap (λ xs. x ∷ xs) shorter.1)
    ]

module _ (names : List (List ℕ)) (spec : SpecTree) (tree : ExprTree) (units : ℕ) where
  -- nothing stands behind an end
  pub behind_no_end : (before : List Entry) (x : Entry) → IsRun names spec tree units (before ++ x ∷ []) → finish_of before ≡ None
  behind_no_end before x h =
      let last = legal-for_main names spec tree units before x (run-last names spec tree units before x h) in
      asked-unfinished names spec tree units before last.question (run_front names spec tree units before (x ∷ []) h) last.asked

  one_next : (before : List Entry) (x y : Entry) → IsLegal names spec tree units before x → IsLegal names spec tree units before y → IsNumbered spec before x.object x.deed → IsNumbered spec before y.object y.deed → x ≡ y
  one_next before x y hx hy nx ny =
      let first = legal-for_main names spec tree units before x hx in
      let second = legal-for_main names spec tree units before y hy in
      let asked = first.asked in
      let also_asked = second.asked in
      let same : second.question ≡ first.question = cc in
      let also_made = subst (λ q. made Main q second.answer ≡ Some y) same second.made_of in
      one-entry spec before first.question first.answer second.answer x y (legal-entry spec before first.question first.answer x first.made_of hx.at_object) (legal-entry spec before first.question second.answer y also_made hy.at_object) nx ny

  fronts : (before a b : List Entry) → AreLegal names spec tree units before a → AreLegal names spec tree units before b → AreNumbered spec before a → AreNumbered spec before b → IsFrontEitherWay a b
  fronts before [] b ha hb na nb = inl (b, refl)
  fronts before (x ∷ a) [] ha hb na nb = inr (x ∷ a, refl)
  fronts before (x ∷ a) (y ∷ b) ha hb na nb =
      let same = one_next before x y ha.0 hb.0 na.0 nb.0 in
      subst (λ z. IsFrontEitherWay (x ∷ a) (z ∷ b)) same
      (front-more x a b
      (fronts (before ++ x ∷ []) a b ha.1 (subst (λ z. AreLegal names spec tree units (before ++ z ∷ []) b) (sym same) hb.1)
      na.1 (subst (λ z. AreNumbered spec (before ++ z ∷ []) b) (sym same) nb.1)))

  pub one_run : (a b : List Entry) → IsRun names spec tree units a → IsRun names spec tree units b → IsInOrder spec a → IsInOrder spec b → IsFrontEitherWay a b
  one_run a b ha hb na nb = fronts [] a b ha hb na nb

  -- a finished run is the front of no other
  whole : (a rest b : List Entry) → a ++ rest ≡ b → IsRun names spec tree units b → IsSome (finish_of a) → a ≡ b
  whole a [] b e h done = sym (append-nil a) ∙ e
  whole a (x ∷ rest) b e h done =
      let split : b ≡ (a ++ x ∷ []) ++ rest = sym e ∙ sym (append_assoc a (x ∷ []) rest) in
      let none = behind_no_end a x (run_front names spec tree units (a ++ x ∷ []) rest (subst (IsRun names spec tree units) split h)) in
      let never : IsSome {T = Finish} None = subst IsSome none done in
      absurd (cc)

  pub one_finished_run : (a b : List Entry) → IsRun names spec tree units a → IsRun names spec tree units b → IsInOrder spec a → IsInOrder spec b → IsSome (finish_of a) → IsSome (finish_of b) → a ≡ b
  one_finished_run a b ha hb na nb fa fb =
      elim (one_run a b ha hb na nb) [
        | inl longer ↦ whole a longer.0 b longer.1 hb fa
        | inr shorter ↦ sym (whole b shorter.0 a shorter.1 ha fb)
      ]
