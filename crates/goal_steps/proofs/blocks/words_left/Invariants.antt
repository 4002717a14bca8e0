use Rattle.std.proofs.Common.{◌≡◌, length, map}
use Rattle.abstract_syntax.specs.Classes.{SpecTree}
use Rattle.vdm_tree.specs.StmtView.{dcl_view}
use Rattle.stmt_meaning.specs.Blocks.{dcls_given}
use Rattle.eval_data.specs.Parts.{here_of}
use Rattle.step_data.specs.Declarations.{rest_of_block}
use Rattle.goal_steps.proofs.blocks.words_left.Given as goal

-- those that are left do what all of them do
abbrev pub invariant-loop-dcl : goal.invariant-loop-dcl
invariant-loop-dcl l =
    (spec : SpecTree)
    → dcls_given spec (here_of l.rest.here) (map dcl_view l.left) (rest_of_block l.rest) l.locals.items
    ≡ dcls_given spec (here_of l.rest.here) (map dcl_view l.dcls) (rest_of_block l.rest) l.fn.locals.items

abbrev pub decreases-loop-dcl : goal.decreases-loop-dcl
decreases-loop-dcl l = length l.left
