-- Which question of main may be answered behind a list of entries: the one that makes a legal entry with some answer.
use Rattle.std.specs.Prelude.{◌≡◌, ◌≢◌, ◌<◌, List, []}
use Rattle.abstract_syntax.specs.Classes.{SpecTree}
use Rattle.run_journal.specs.declared.entry.Entry.{Entry}
use Rattle.run_journal.specs.declared.question.Question.{Question}
use Rattle.run_journal.specs.declared.question.Question.TheVariants.{Class, New, Req, Act, Fin, Read, Write, Print, Time, End, Fail}
use Rattle.run_journal.specs.Parts.{object_part}
use Rattle.vdm_legal.specs.ClassObjects.{IsClassObject}
use Rattle.vdm_legal.specs.State.{requests, activations, finishes}

-- A class object is not yet made; every other object is. An operation that is to begin is waiting, and one that is to finish is
-- active. What is printed, and the time, stand on object 0.
abbrev pub IsReady : SpecTree → List Entry → Question → Type 0
IsReady spec before (Class object class slots) = (object_part object before ≡ []) × IsClassObject spec object class
IsReady spec before (New class slots) = Unit {0}
IsReady spec before (Req object op) = object_part object before ≢ []
IsReady spec before (Act object op) =
    (object_part object before ≢ []) × (activations op.name (object_part object before) < requests op.name (object_part object before))
IsReady spec before (Fin object op) =
    (object_part object before ≢ []) × (finishes op.name (object_part object before) < activations op.name (object_part object before))
IsReady spec before (Read object var) = object_part object before ≢ []
IsReady spec before (Write object writes) = object_part object before ≢ []
IsReady spec before (Print text) = object_part 0 before ≢ []
IsReady spec before Time = object_part 0 before ≢ []
IsReady spec before (End slot) = object_part 0 before ≢ []
IsReady spec before (Fail fault exit place) = object_part 0 before ≢ []
IsReady spec before _ = ⊥
