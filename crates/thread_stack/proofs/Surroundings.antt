-- What stands round a plan stands round its parts.
use Rattle.std.proofs.Common.{◌≡◌, [], ◌∷◌, ◌++◌, refl, ap, sym, ◌∙◌, append_assoc, append-nil}
use Rattle.vdm_kinds.specs.declared.name.Name.{Name}
use Rattle.abstract_syntax.specs.Types.{TypeTree}
use Rattle.run_journal.specs.declared.answer.Answer.{Answer}
use Rattle.plans.specs.Plans.{finish, fail, ask, part, become, bind}
use Rattle.node_meaning.specs.Envs.{Nest as MeantNest, no_nest}
use Rattle.node_meaning.specs.Faults.{Fault}
use Rattle.node_meaning.specs.Tasks.{Declared, declared_behind, Task, expr_in, call_in, stmt_in, round_in, Flow, Query, Code, placed, task_among, all_among, among}
use Rattle.eval_data.specs.Parts.{nest_of}
use Rattle.step_data.specs.declared.around.Around.{Around}
use Rattle.step_data.specs.Declarations.{declared_of, surrounded}

-- ---- where faults stand

-- outside of all tests they stand where they stand
pub placed-none : (code : Code) → placed no_nest code ≡ code
placed-none (finish flow) = refl
placed-none (fail f) = refl
placed-none (ask query further) = λ i. ask query (λ answer. placed-none (further answer) i)
placed-none (part task further) = λ i. part task (λ flow. placed-none (further flow) i)
placed-none (become task) = refl

-- a plan with another on its result is placed as both are
pub placed-bind : (nest : MeantNest) (code : Code) (next : Flow → Code) → placed nest (bind code next) ≡ bind (placed nest code) (λ flow. placed nest (next flow))
placed-bind nest (finish flow) next = refl
placed-bind nest (fail f) next = refl
placed-bind nest (ask query further) next = λ i. ask query (λ answer. placed-bind nest (further answer) next i)
placed-bind nest (part task further) next = λ i. part task (λ flow. placed-bind nest (further flow) next i)
placed-bind nest (become task) next = refl

-- ---- local variables that are declared

among_none : (task : Task) → task_among [] task ≡ task
among_none (expr_in env tree) = refl
among_none (call_in env tree) = refl
among_none (stmt_in env [] tree) = refl
among_none (stmt_in env (d ∷ own) tree) = refl
among_none (round_in env [] round) = refl
among_none (round_in env (d ∷ own) round) = refl

all_among-bind : (outer : Declared) (code : Code) (next : Flow → Code) → all_among outer (bind code next) ≡ bind (all_among outer code) (λ flow. all_among outer (next flow))
all_among-bind outer (finish flow) next = refl
all_among-bind outer (fail f) next = refl
all_among-bind outer (ask query further) next = λ i. ask query (λ answer. all_among-bind outer (further answer) next i)
all_among-bind outer (part task further) next = λ i. part (task_among outer task) (λ flow. all_among-bind outer (further flow) next i)
all_among-bind outer (become task) next = refl

pub among-bind : (outer : Declared) (code : Code) (next : Flow → Code) → among outer (bind code next) ≡ bind (among outer code) (λ flow. among outer (next flow))
among-bind [] code next = refl
among-bind (d ∷ outer) code next = all_among-bind (d ∷ outer) code next

among-part : (outer : Declared) (task : Task) (next : Flow → Code) → among outer (part task next) ≡ part (task_among outer task) (λ flow. among outer (next flow))
among-part [] task next = ap (λ (t : Task). part t next) (sym (among_none task))
among-part (d ∷ outer) task next = refl

among-become : (outer : Declared) (task : Task) → among outer (become task) ≡ become (task_among outer task)
among-become [] task = ap (λ (t : Task). become t) (sym (among_none task))
among-become (d ∷ outer) task = refl

among-finish : (outer : Declared) (flow : Flow) → among outer (finish flow) ≡ finish flow
among-finish [] flow = refl
among-finish (d ∷ outer) flow = refl

among-fail : (outer : Declared) (f : Fault) → among outer (fail f) ≡ fail f
among-fail [] f = refl
among-fail (d ∷ outer) f = refl

among-ask : (outer : Declared) (query : Query) (next : Answer → Code) → among outer (ask query next) ≡ ask query (λ answer. among outer (next answer))
among-ask [] query next = refl
among-ask (d ∷ outer) query next = refl

-- those of a block stand behind those round it
behind_both : (outer : Declared) (d : Name × TypeTree) (own more : Declared) → declared_behind outer (declared_behind (d ∷ own) more) ≡ declared_behind (outer ++ d ∷ own) more
behind_both outer d own [] = refl
behind_both outer d own (m ∷ more) = sym (append_assoc outer (d ∷ own) (m ∷ more))

task_both : (outer : Declared) (d : Name × TypeTree) (own : Declared) (task : Task) → task_among outer (task_among (d ∷ own) task) ≡ task_among (outer ++ d ∷ own) task
task_both outer d own (expr_in env tree) = refl
task_both outer d own (call_in env tree) = refl
task_both outer d own (stmt_in env more tree) = ap (λ (l : Declared). stmt_in env l tree) (behind_both outer d own more)
task_both outer d own (round_in env more round) = ap (λ (l : Declared). round_in env l round) (behind_both outer d own more)

all_both : (outer : Declared) (d : Name × TypeTree) (own : Declared) (code : Code) → all_among outer (all_among (d ∷ own) code) ≡ all_among (outer ++ d ∷ own) code
all_both outer d own (finish flow) = refl
all_both outer d own (fail f) = refl
all_both outer d own (ask query further) = λ i. ask query (λ answer. all_both outer d own (further answer) i)
all_both outer d own (part task further) = λ i. part (task_both outer d own task i) (λ flow. all_both outer d own (further flow) i)
all_both outer d own (become task) = λ i. become (task_both outer d own task i)

pub among-among : (outer own : Declared) (code : Code) → among outer (among own code) ≡ among (outer ++ own) code
among-among [] own code = refl
among-among (o ∷ outer) [] code = ap (λ (l : Declared). among l code) (sym (append-nil (o ∷ outer)))
among-among (o ∷ outer) (d ∷ own) code = all_both (o ∷ outer) d own code

-- ---- both

pub round-part : (around : Around) (task : Task) (next : Flow → Code)
    → surrounded around (part task next) ≡ part (task_among (declared_of around.declared) task) (λ flow. surrounded around (next flow))
round-part around task next = ap (placed (nest_of around.nest)) (among-part (declared_of around.declared) task next)

pub round-become : (around : Around) (task : Task) → surrounded around (become task) ≡ become (task_among (declared_of around.declared) task)
round-become around task = ap (placed (nest_of around.nest)) (among-become (declared_of around.declared) task)

pub round-finish : (around : Around) (flow : Flow) → surrounded around (finish flow) ≡ finish flow
round-finish around flow = ap (placed (nest_of around.nest)) (among-finish (declared_of around.declared) flow)

pub round-fail : (around : Around) (f : Fault) → surrounded around (fail f) ≡ placed (nest_of around.nest) (fail f)
round-fail around f = ap (placed (nest_of around.nest)) (among-fail (declared_of around.declared) f)

pub round-ask : (around : Around) (query : Query) (next : Answer → Code) → surrounded around (ask query next) ≡ ask query (λ answer. surrounded around (next answer))
round-ask around query next = ap (placed (nest_of around.nest)) (among-ask (declared_of around.declared) query next)

pub round-bind : (around : Around) (code : Code) (next : Flow → Code) → surrounded around (bind code next) ≡ bind (surrounded around code) (λ flow. surrounded around (next flow))
round-bind around code next =
    ap (placed (nest_of around.nest)) (among-bind (declared_of around.declared) code next)
    ∙ placed-bind (nest_of around.nest) (among (declared_of around.declared) code) (λ flow. among (declared_of around.declared) (next flow))

-- the same stands round
pub alike : (a b : Around) → nest_of a.nest ≡ nest_of b.nest → declared_of a.declared ≡ declared_of b.declared → surrounded a ≡ surrounded b
alike a b n d = λ i code. placed (n i) (among (d i) code)
