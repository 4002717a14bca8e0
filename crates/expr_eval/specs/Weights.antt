-- What falls while an evaluation goes on.
use Rattle.std.specs.Prelude.{ℕ, ◌+◌, ◌*◌, List, length}
use Rattle.eval_data.specs.declared.frame.Level.{Level}
use Rattle.eval_data.specs.declared.step.Step.{Step}
use Rattle.eval_data.specs.declared.step.Step.TheVariants.{Finish, Fail, Part, Test, Become, Need}
use Rattle.expr_eval.specs.declared.eval.Eval.{Eval}
use Rattle.expr_eval.specs.declared.eval.Next.{Next}
use Rattle.expr_eval.specs.declared.eval.Next.TheVariants.{Step as Does, Waits, Over, Spent}
use Rattle.expr_eval.specs.declared.eval.Reached.{Reached}
use Rattle.expr_eval.specs.declared.eval.Reached.TheVariants.{Needs, Fails, Gives}

-- what a step weighs: a test more than its part and a frame, a need more than what is done with its slot
abbrev pub weight : Step → ℕ
weight (Finish flow) = 4
weight (Fail kind place) = 1
weight (Part here tree frame) = 2
weight (Test test) = 6
weight (Become here tree) = 2
weight (Need need place after) = 6

abbrev pub next_weight : Next → ℕ
next_weight (Does doing) = weight doing.step
next_weight (Waits nest after place) = 5
next_weight Over = 0
next_weight Spent = 0

abbrev pub reached_weight : Reached → ℕ
reached_weight (Needs need nest place after) = 5
reached_weight (Fails kind place) = 0
reached_weight (Gives flow) = 0

-- a step with the frames that wait and the units that are left: what comes of a part weighs with its frame more than any step
-- behind it, and a node with its unit more than any step of it with a frame
abbrev pub load : List Level → ℕ → ℕ → ℕ
load frames units weight = 8 * units + 3 * length frames + weight

-- what falls with each turn and with each slot
abbrev pub rank : Eval → ℕ → ℕ
rank e units = load e.frames.items units (next_weight e.next)
