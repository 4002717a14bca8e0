-- The rules of journals: which question may be asked behind a list of entries, which task begun, what a task may leave, and what it may fail with.
use Rattle.std.proofs.Common.{◌≡◌, ◌≢◌, ◌++◌, ◌∷◌, [], true, List, None, Option, Some, ℕ}
use Rattle.std.specs.List.{AllByRecursion as Each}
use Rattle.vdm_kinds.specs.declared.name.Name.{Name}
use Rattle.vdm_values.specs.declared.slot.Slot.{Slot}
use Rattle.abstract_syntax.specs.Classes.{SpecTree}
use Rattle.abstract_syntax.specs.Values.{ValueTree}
use Rattle.run_journal.specs.declared.answer.Answer.{Answer}
use Rattle.run_journal.specs.declared.entry.Entry.{Entry}
use Rattle.run_journal.specs.declared.question.Question.{Question}
use Rattle.run_journal.specs.declared.question.Question.TheVariants.{Fail, Print}
use Rattle.run_journal.specs.Parts.{object_part}
use Rattle.plans.specs.Steps.{Rules, Safe}
use Rattle.vdm_legal.specs.Ready.{IsReady}
use Rattle.vdm_legal.specs.ClassObjects.{AreMade, IsInTurn}
use Rattle.vdm_legal.proofs.Known.{IsKnown, IsKnownSlot}
use Rattle.vdm_legal.proofs.Sanity.{IsSane, IsWithin}
use Rattle.vdm_legal.proofs.Taken.{IsEntryFor}
use Rattle.node_meaning.specs.Faults.{Fault}
use Rattle.node_meaning.specs.Tasks.{Code, Flow, Query, Task, call_in, exited, expr_in, gave, needed, next, noted, printing, returned, round_in, stmt_in}
use Rattle.node_meaning.specs.Envs.{Locals, Here, Held, may_act}

-- ---- questions and faults

pub record MayAsk (spec : SpecTree) (before : List Entry) (q : Question) : Type 0 where
  pub ready : IsReady spec before q
  pub sane : IsSane spec before
  pub turn : IsInTurn spec before q

-- whatever the text is, it may be printed; and a thread asks no need as such
abbrev pub MayNeed : SpecTree → List Entry → Query → Type 0
MayNeed spec before (noted q) = MayAsk spec before q
MayNeed spec before (printing vs) = (text : List ValueTree) → MayAsk spec before (Print text)
MayNeed spec before (needed need) = ⊥

-- main may ask to fail with it
abbrev pub MayFail : SpecTree → List Entry → Fault → Type 0
MayFail spec before f = MayAsk spec before (Fail f.fault f.exit f.place)

-- main's legal entry for the question and the answer goes last
pub record IsTaken (spec : SpecTree) (before : List Entry) (q : Question) (a : Answer) (after : List Entry) : Type 0 where
  pub taken : Entry
  pub is : IsEntryFor spec before q a taken
  pub last : after ≡ before ++ taken ∷ []

abbrev pub IsAnswered : SpecTree → List Entry → Query → Answer → List Entry → Type 0
IsAnswered spec before (noted q) a after = IsTaken spec before q a after
IsAnswered spec before (printing vs) a after = (text : List ValueTree) × IsTaken spec before (Print text) a after
IsAnswered spec before (needed need) a after = ⊥

-- ---- tasks

-- an object is there, and so are all class objects
abbrev pub IsOn : SpecTree → List Entry → ℕ → Type 0
IsOn spec entries object = (object_part object entries ≢ []) × AreMade spec entries

-- the object on which a node stands is there, where it stands on one
abbrev pub HasObject : SpecTree → List Entry → Option ℕ → Type 0
HasObject spec entries None = Unit {0}
HasObject spec entries (Some me) = IsOn spec entries me

-- nothing that a thread does stands where something is held
abbrev pub HoldsNothing : Option Held → Type 0
HoldsNothing None = Unit {0}
HoldsNothing (Some held) = ⊥

abbrev pub AreKnown : SpecTree → List Entry → Locals → Type 0
AreKnown spec entries = Each (λ (l : Name × Slot). IsKnownSlot spec entries l.1)

-- Tasks are done in sane journals, once main has an object, and where a node may act once all class objects are made; and from known
-- locals.
pub record MayRun (spec : SpecTree) (entries : List Entry) (here : Here) (locals : Locals) : Type 0 where
  pub sane : IsSane spec entries
  pub main : object_part 0 entries ≢ []
  pub classes : may_act here ≡ true → AreMade spec entries
  pub me : HasObject spec entries here.me
  pub held : HoldsNothing here.held
  pub known : AreKnown spec entries locals

abbrev pub MayBegin : SpecTree → List Entry → Task → Type 0
MayBegin spec entries (expr_in env tree) = MayRun spec entries env.here env.locals
MayBegin spec entries (call_in env tree) = MayRun spec entries env.here env.locals
MayBegin spec entries (stmt_in env declared tree) = MayRun spec entries env.here env.locals
MayBegin spec entries (round_in env declared round) = MayRun spec entries env.here env.locals

-- ---- results

-- what is left is known
abbrev pub GivesKnown : SpecTree → List Entry → Flow → Type 0
GivesKnown spec entries (gave slot locals) = IsKnownSlot spec entries slot × AreKnown spec entries locals
GivesKnown spec entries (next locals) = AreKnown spec entries locals
GivesKnown spec entries (returned slot locals) = IsKnownSlot spec entries slot × AreKnown spec entries locals
GivesKnown spec entries (exited v from locals) = IsKnown spec entries v × AreKnown spec entries locals

abbrev pub MayLeave : SpecTree → List Entry → Flow → Type 0
MayLeave spec entries flow = IsSane spec entries × GivesKnown spec entries flow

-- ---- the rules

-- A task may ask any number of questions: one statement may change parts of several variables, each of which is read first.
abbrev pub rules : SpecTree → Rules Task Flow Query Answer Fault (List Entry)
rules spec = record {
  Takes = IsAnswered spec;
  Ready = MayNeed spec;
  Fits = MayBegin spec;
  Within = IsWithin spec;
  Leaves = λ task. MayLeave spec;
  Fails = MayFail spec;
  own = None;
}

-- a plan that keeps them behind the entries, and leaves what may be left
abbrev pub Keeps : SpecTree → (List Entry → Flow → Type 0) → List Entry → List Entry → Code → Type 0
Keeps spec left first entries code = Safe (rules spec) left None first entries code

abbrev pub IsSafe : SpecTree → List Entry → List Entry → Code → Type 0
IsSafe spec first entries code = Keeps spec (MayLeave spec) first entries code
