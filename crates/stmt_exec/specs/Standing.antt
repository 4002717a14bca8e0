-- Where a machine stands after further answers.
use Rattle.std.specs.Prelude.{◌≡◌, ℕ, List}
use Rattle.run_journal.specs.declared.answer.Answer.{Answer}
use Rattle.vdm_meaning.specs.Main.{Standing}
use Rattle.thread_stack.specs.Standing.{load}
use Rattle.stmt_exec.specs.declared.machine.Machine.{Machine}
use Rattle.stmt_exec.specs.declared.rest.Rest.TheVariants.{Spent}
use Rattle.stmt_exec.specs.Resting.{rest_at, rest_weight}

abbrev pub rest : Machine → List Answer → Standing
rest m answers = rest_at m.names.now m.stack m.rest answers

-- a machine that met want of memory
abbrev pub IsSpent : Machine → Type 0
IsSpent m = m.rest ≡ Spent

-- what falls with each answer
abbrev pub rank : Machine → ℕ
rank m = load m.stack.levels.items m.stack.fuel (rest_weight m.rest)
