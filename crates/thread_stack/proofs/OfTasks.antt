-- What the machine's tasks do, with what stands round them.
use Rattle.std.proofs.Common.{◌≡◌, true, false, [], refl}
use Rattle.abstract_syntax.specs.Classes.{SpecTree}
use Rattle.node_meaning.specs.Envs.{Locals}
use Rattle.node_meaning.specs.Tasks.{Declared, env_of, placed, task_among, among}
use Rattle.stmt_meaning.specs.Questions.{of_thread}
use Rattle.stmt_meaning.specs.TaskPlans.{plan_of}
use Rattle.step_data.specs.declared.task.Task.{Task}
use Rattle.step_data.specs.declared.task.Task.TheVariants.{Expr, Call, Stmt}
use Rattle.step_data.specs.Parts.{is_statement, task_of}
use Rattle.next_steps.specs.Plans.{task_plan}

-- a statement stands among the local variables that are declared round it
pub of_statement : (spec : SpecTree) (declared : Declared) (task : Task) (locals : Locals) → true ≡ is_statement task
    → placed (env_of (task_of task locals)).here.nest (among declared (task_plan spec declared task locals)) ≡ plan_of (of_thread spec) (task_among declared (task_of task locals))
of_statement spec declared (Stmt here tree) locals is = refl
of_statement spec declared (Expr here tree) locals is = absurd (cc is)
of_statement spec declared (Call here tree) locals is = absurd (cc is)

-- an expression among none
pub of_expression : (spec : SpecTree) (declared : Declared) (task : Task) (locals : Locals) → false ≡ is_statement task
    → placed (env_of (task_of task locals)).here.nest (among [] (task_plan spec declared task locals)) ≡ plan_of (of_thread spec) (task_among declared (task_of task locals))
of_expression spec declared (Stmt here tree) locals is = absurd (cc is)
of_expression spec declared (Expr here tree) locals is = refl
of_expression spec declared (Call here tree) locals is = refl
