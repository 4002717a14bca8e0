-- The entry that a thread makes for a question and its answer, and both back from the entry.
use Rattle.std.specs.Prelude.{◌≡◌, ℕ, true, false, ⊤, Option, Some, None}
use Rattle.run_journal.specs.declared.thread.Thread.{Thread}
use Rattle.run_journal.specs.declared.deed.Deed.{Deed}
use Rattle.run_journal.specs.declared.deed.Deed.TheVariants as deed
use Rattle.run_journal.specs.declared.entry.Entry.{Entry}
use Rattle.run_journal.specs.declared.question.Question.{Question}
use Rattle.run_journal.specs.declared.question.Question.TheVariants.{Class, New, Req, Act, Fin, Read, Write, Start, Print, Host, Time}
use Rattle.run_journal.specs.declared.question.Question.TheVariants.{End, Fail, Tick, Release}
use Rattle.run_journal.specs.declared.answer.Answer.{Answer}
use Rattle.run_journal.specs.declared.answer.Answer.TheVariants.{Done, Object, Refused, Inner, Ticks, Slot as Holds, Host as Hosted}
use Rattle.run_journal.specs.Threads.{own_object}

-- the thread's entry on an object
abbrev pub entry : Thread → ℕ → Deed → Entry
entry thread object deed = record { thread = thread; object = object; deed = deed }

-- the entry of a thread for a question and its answer: none where the answer does not fit the question
abbrev pub made : Thread → Question → Answer → Option Entry
made t (Class o class values) Done = Some (entry t o (deed.Class class values))
made t (New class values) (Object n) = Some (entry t n (deed.New class values))
made t (Req o op) Done = Some (entry t o (deed.Req op))
made t (Act o op) Done = Some (entry t o (deed.Act op))
made t (Act o op) (Inner fault) = Some (entry t o (deed.ActFault op fault))
made t (Fin o op) Done = Some (entry t o (deed.Fin op))
made t (Read o var) (Holds slot) = Some (entry t o (deed.Read var slot))
made t (Write o writes) Done = Some (entry t o (deed.Write writes false))
made t (Write o writes) Refused = Some (entry t o (deed.Write writes true))
made t (Start o) Done = Some (entry t o (deed.Start false))
made t (Start o) Refused = Some (entry t o (deed.Start true))
made t (Print text) Done = Some (entry t 0 (deed.Print text))
made t (Host o op args) (Hosted answer) = Some (entry t o (deed.Host op args answer))
made t Time (Ticks n) = Some (entry t 0 (deed.Time n))
made t (End slot) Done = Some (entry t (own_object t) (deed.End slot))
made t (Fail fault exit place) Done = Some (entry t (own_object t) (deed.Fail fault exit place))
made t Tick Done = Some (entry t 0 deed.Tick)
made t (Release o k) Done = Some (entry t o (deed.Release k))
made t _ _ = None

-- the answer fits the question: Object for New, Slot for Read, Refused or Done for Write and Start, Inner or Done for Act,
-- Host for Host, Ticks for Time, else Done
abbrev pub Fits : Question → Answer → Type 0
Fits (New _ _) (Object _) = ⊤
Fits (New _ _) _ = ⊥
Fits (Read _ _) (Holds _) = ⊤
Fits (Read _ _) _ = ⊥
Fits (Host _ _ _) (Hosted _) = ⊤
Fits (Host _ _ _) _ = ⊥
Fits Time (Ticks _) = ⊤
Fits Time _ = ⊥
Fits (Act _ _) (Inner _) = ⊤
Fits (Write _ _) Refused = ⊤
Fits (Start _) Refused = ⊤
Fits _ Done = ⊤
Fits _ _ = ⊥

-- the question of the deed that an entry on the object tells
abbrev pub deed_question : ℕ → Deed → Question
deed_question o (deed.Class class values) = Class o class values
deed_question o (deed.New class values) = New class values
deed_question o (deed.Req op) = Req o op
deed_question o (deed.Act op) = Act o op
deed_question o (deed.ActFault op _) = Act o op
deed_question o (deed.Fin op) = Fin o op
deed_question o (deed.Read var _) = Read o var
deed_question o (deed.Write writes _) = Write o writes
deed_question o (deed.Start _) = Start o
deed_question o (deed.Print text) = Print text
deed_question o (deed.Host op args _) = Host o op args
deed_question o (deed.Time _) = Time
deed_question o (deed.End slot) = End slot
deed_question o (deed.Fail fault exit place) = Fail fault exit place
deed_question o deed.Tick = Tick
deed_question o (deed.Release k) = Release o k

-- its answer
abbrev pub deed_answer : ℕ → Deed → Answer
deed_answer o (deed.New _ _) = Object o
deed_answer o (deed.ActFault _ fault) = Inner fault
deed_answer o (deed.Read _ slot) = Holds slot
deed_answer o (deed.Write _ true) = Refused
deed_answer o (deed.Start true) = Refused
deed_answer o (deed.Host _ _ answer) = Hosted answer
deed_answer o (deed.Time n) = Ticks n
deed_answer o _ = Done

-- the question that an entry's thread asked
abbrev pub question_of : Entry → Question
question_of e = deed_question e.object e.deed

-- the answer that it got
abbrev pub answer_of : Entry → Answer
answer_of e = deed_answer e.object e.deed

-- a thread's deed may stand on the object: 0 for Print, Time and Tick, the thread's own for End and Fail, any for the others
abbrev pub MayStandOn : Thread → Deed → ℕ → Type 0
MayStandOn t (deed.Print _) o = o ≡ 0
MayStandOn t (deed.Time _) o = o ≡ 0
MayStandOn t deed.Tick o = o ≡ 0
MayStandOn t (deed.End _) o = o ≡ own_object t
MayStandOn t (deed.Fail _ _ _) o = o ≡ own_object t
MayStandOn t _ o = ⊤

-- the entry stands where its deed belongs
abbrev pub IsPlaced : Entry → Type 0
IsPlaced e = MayStandOn e.thread e.deed e.object
