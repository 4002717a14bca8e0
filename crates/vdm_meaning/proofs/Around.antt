-- What is put round a plan keeps the rules: where its faults stand, and the local variables among which its statements stand.
use Rattle.std.proofs.Common.{◌∷◌, [], List}
use Rattle.abstract_syntax.specs.Classes.{SpecTree}
use Rattle.run_journal.specs.declared.entry.Entry.{Entry}
use Rattle.plans.specs.Plans.{ask, become, fail, finish, part}
use Rattle.node_meaning.specs.Envs.{Nest}
use Rattle.node_meaning.specs.Tasks.{Code, Declared, Task, all_among, among, call_in, expr_in, placed, round_in, stmt_in, task_among}
use Rattle.vdm_meaning.proofs.Rules.{IsSafe, MayBegin}

-- local variables change nothing of what a task wants
among-begins : (spec : SpecTree) (outer : Declared) (now : List Entry) (task : Task) → MayBegin spec now task → MayBegin spec now (task_among outer task)
among-begins spec outer now (expr_in env tree) h = h
among-begins spec outer now (call_in env tree) h = h
among-begins spec outer now (stmt_in env own statement) h = h
among-begins spec outer now (round_in env own round) h = h

module _ (spec : SpecTree) (first : List Entry) where
  -- what may be failed with at one place may be failed with at any
  pub safe-placed : (nest : Nest) (code : Code) (now : List Entry) → IsSafe spec first now code → IsSafe spec first now (placed nest code)
  safe-placed nest (finish flow) now safe = safe
  safe-placed nest (fail f) now safe = record { ready = safe.ready; sane = safe.sane; turn = tt }
  safe-placed nest (ask q further) now safe = (safe.0, λ a later taken. safe-placed nest (further a) later (safe.1 a later taken))
  safe-placed nest (part task further) now safe = (safe.0, λ later flow w leaves. safe-placed nest (further flow) later (safe.1 later flow w leaves))
  safe-placed nest (become task) now safe = safe

  safe-all_among : (outer : Declared) (code : Code) (now : List Entry) → IsSafe spec first now code → IsSafe spec first now (all_among outer code)
  safe-all_among outer (finish flow) now safe = safe
  safe-all_among outer (fail f) now safe = safe
  safe-all_among outer (ask q further) now safe = (safe.0, λ a later taken. safe-all_among outer (further a) later (safe.1 a later taken))
  safe-all_among outer (part task further) now safe = (
    among-begins spec outer now task safe.0,
    λ later flow w leaves. safe-all_among outer (further flow) later (safe.1 later flow w leaves),
  )
  safe-all_among outer (become task) now safe = (among-begins spec outer now task safe.0, safe.1)

  pub safe-among : (outer : Declared) (code : Code) (now : List Entry) → IsSafe spec first now code → IsSafe spec first now (among outer code)
  safe-among [] code now safe = safe
  safe-among (d ∷ outer) code now safe = safe-all_among (d ∷ outer) code now safe
