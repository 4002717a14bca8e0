-- What one entry more does to the answers, the end, the order and the parts of a list of entries.
use Rattle.std.proofs.Common.{◌≡◌, ℕ, ◌≤◌, List, [], ◌∷◌, ◌++◌, map, Option, Some, None, IfSome, refl, sym, ap, ◌∙◌, subst, append_assoc, append-nil, arith, if◌then◌else◌}
use Rattle.std.proofs.lemmas.Bool.{ne_eqb}
use Rattle.std.proofs.lemmas.List.{map-append}
use Rattle.std.proofs.lemmas.List.Elements.{filter-append}
use Rattle.abstract_syntax.specs.Classes.{SpecTree}
use Rattle.run_journal.specs.declared.answer.Answer.{Answer}
use Rattle.run_journal.specs.declared.entry.Entry.{Entry}
use Rattle.run_journal.specs.declared.question.Question.{Question}
use Rattle.run_journal.specs.declared.question.Question.TheVariants.{Class, New, Req, Act, Fin, Read, Write, Start, Print, Host, Time, End, Fail, Tick, Release}
use Rattle.run_journal.specs.declared.thread.Thread.TheVariants.{Main}
use Rattle.run_journal.specs.declared.answer.Answer.TheVariants.{Done, Object, Refused, Inner, Ticks, Slot as Holds, Host as Hosted}
use Rattle.run_journal.specs.Made.{answer_of, made, question_of}
use Rattle.run_journal.specs.Parts.{is_by, object_part, thread_part}
use Rattle.run_journal.specs.Threads.{is_thread}
use Rattle.vdm_legal.specs.Order.{IsNumbered, AreNumbered, IsInOrder, above_all, next_number}
use Rattle.vdm_legal.specs.Finishes.{decided, finish_of, first_of}

-- ---- what an entry was made of

-- main's entry for a question and its answer gives both back
abbrev IsMadeOf : Question → Answer → Entry → Type 0
IsMadeOf q a e = (e.thread ≡ Main) × (question_of e ≡ q) × (answer_of e ≡ a)

made-is : (q : Question) (a : Answer) → IfSome (made Main q a) (IsMadeOf q a)
made-is (Class o class values) Done = (refl, refl, refl)
made-is (New class values) (Object n) = (refl, refl, refl)
made-is (Req o op) Done = (refl, refl, refl)
made-is (Act o op) Done = (refl, refl, refl)
made-is (Act o op) (Inner fault) = (refl, refl, refl)
made-is (Fin o op) Done = (refl, refl, refl)
made-is (Read o var) (Holds slot) = (refl, refl, refl)
made-is (Write o writes) Done = (refl, refl, refl)
made-is (Write o writes) Refused = (refl, refl, refl)
made-is (Start o) Done = (refl, refl, refl)
made-is (Start o) Refused = (refl, refl, refl)
made-is (Print text) Done = (refl, refl, refl)
made-is (Host o op args) (Hosted answer) = (refl, refl, refl)
made-is Time (Ticks n) = (refl, refl, refl)
made-is (End slot) Done = (refl, refl, refl)
made-is (Fail fault exit place) Done = (refl, refl, refl)
made-is Tick Done = (refl, refl, refl)
made-is (Release o k) Done = (refl, refl, refl)
made-is _ _ = tt

pub made-back : (q : Question) (a : Answer) (e : Entry) → made Main q a ≡ Some e → (e.thread ≡ Main) × (question_of e ≡ q) × (answer_of e ≡ a)
made-back q a e m = subst (λ o. IfSome o (IsMadeOf q a)) m (made-is q a)

-- ---- one entry more

-- main's answers among those of the entries
abbrev pub main_answers : List Entry → List Answer
main_answers entries = map answer_of (thread_part Main entries)

part-of_main : (e : Entry) → e.thread ≡ Main → thread_part Main (e ∷ []) ≡ e ∷ []
part-of_main e m = ap (λ t. if is_thread t Main then e ∷ [] else []) m

pub main_part-more : (before : List Entry) (e : Entry) → e.thread ≡ Main → thread_part Main (before ++ e ∷ []) ≡ thread_part Main before ++ e ∷ []
main_part-more before e m = filter-append (is_by Main) before (e ∷ []) ∙ ap (λ xs. thread_part Main before ++ xs) (part-of_main e m)

pub answers-more : (before : List Entry) (q : Question) (a : Answer) (e : Entry) → made Main q a ≡ Some e → main_answers (before ++ e ∷ []) ≡ main_answers before ++ a ∷ []
answers-more before q a e m =
    let back = made-back q a e m in
    ap (map answer_of) (main_part-more before e back.0) ∙ map-append answer_of (thread_part Main before) (e ∷ []) ∙ ap (λ x. main_answers before ++ x ∷ []) back.2

first_of-none : {A : Type 0} (o : Option A) → first_of o None ≡ o
first_of-none None = refl
first_of-none (Some a) = refl

-- where none of two is there, neither is
pub neither : {A : Type 0} (o p : Option A) → first_of o p ≡ None → (o ≡ None) × (p ≡ None)
neither None p e = (refl, e)
neither (Some a) p e = absurd (cc)

pub finish-last : (before : List Entry) (e : Entry) → finish_of before ≡ None → finish_of (before ++ e ∷ []) ≡ decided e.thread e.deed
finish-last [] e h = first_of-none (decided e.thread e.deed)
finish-last (x ∷ before) e h =
    let none = neither (decided x.thread x.deed) (finish_of before) h in
    ap (λ d. first_of d (finish_of (before ++ e ∷ []))) none.0 ∙ finish-last before e none.1

-- what decides none of two lists behind one another decides neither
pub undecided-parts : (a b : List Entry) → finish_of (a ++ b) ≡ None → (finish_of a ≡ None) × (finish_of b ≡ None)
undecided-parts [] b e = (refl, e)
undecided-parts (x ∷ a) b e =
    let none = neither (decided x.thread x.deed) (finish_of (a ++ b)) e in
    let parts = undecided-parts a b none.1 in
    (ap (λ d. first_of d (finish_of a)) none.0 ∙ parts.0, parts.1)

numbered-on : (spec : SpecTree) (before more : List Entry) (e : Entry) → AreNumbered spec before more → IsNumbered spec (before ++ more) e.object e.deed → AreNumbered spec before (more ++ e ∷ [])
numbered-on spec before [] e h n = (subst (λ xs. IsNumbered spec xs e.object e.deed) (append-nil before) n, tt)
numbered-on spec before (x ∷ more) e h n = (h.0, numbered-on spec (before ++ x ∷ []) more e h.1 (subst (λ xs. IsNumbered spec xs e.object e.deed) (sym (append_assoc before (x ∷ []) more)) n))

pub order-on : (spec : SpecTree) (before : List Entry) (e : Entry) → IsInOrder spec before → IsNumbered spec before e.object e.deed → IsInOrder spec (before ++ e ∷ [])
order-on spec before e h n = numbered-on spec [] before e h n

above-fresh : (entries : List Entry) (n : ℕ) → above_all entries ≤ n → object_part n entries ≡ []
above-fresh [] n h = refl
above-fresh (e ∷ entries) n h = ap (λ b. if b then e ∷ object_part n entries else object_part n entries) (ne_eqb e.object n (omega arith)) ∙ above-fresh entries n (omega arith)

pub object-fresh : (spec : SpecTree) (before : List Entry) (n : ℕ) → next_number spec before ≤ n → object_part n before ≡ []
object-fresh spec before n h = above-fresh before n (omega arith)
