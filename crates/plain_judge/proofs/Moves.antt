-- A machine that was asked and kept in its place, and then moved by an answer.
use Rattle.std.proofs.Common.{◌≡◌, List, [], ◌∷◌, sym, ap, ◌∙◌}
use Rattle.run_journal.specs.declared.answer.Answer.{Answer}
use Rattle.run_journal.specs.declared.entry.Entry.{Entry}
use Rattle.run_journal.specs.declared.thread.Thread.{Thread}
use Rattle.vdm_meaning.specs.Main.{Standing, asks, over}
use Rattle.plain_judge.specs.Asked.{IsAskedFor}

-- a thread that asks is not over
asked-not_over : (thread : Thread) (standing : Standing) (e : Entry) → IsAskedFor thread standing e → standing ≡ over → ⊥
asked-not_over thread (asks q) e h is = cc
asked-not_over thread over e h is = h

module _ {M : Type 0} (rest : M → List Answer → Standing) (old kept : M) (same : kept ≡ old) where
  pub kept-not_over : (thread : Thread) (e : Entry) → IsAskedFor thread (rest old []) e → rest kept [] ≡ over → ⊥
  kept-not_over thread e asked is = asked-not_over thread (rest old []) e asked (ap (λ m. rest m []) (sym same) ∙ is)

  -- it goes on with the answer that was given
  pub goes-on : (now : M) (given answer : Answer) → given ≡ answer → ((answers : List Answer) → rest now answers ≡ rest kept (given ∷ answers)) → (answers : List Answer) → rest now answers ≡ rest old (answer ∷ answers)
  goes-on now given answer is on answers = on answers ∙ ap (λ m. rest m (given ∷ answers)) same ∙ ap (λ a. rest old (a ∷ answers)) is
