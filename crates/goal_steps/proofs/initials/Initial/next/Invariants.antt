use Rattle.std.proofs.Common.{◌≡◌, length, map}
use Rattle.vdm_kinds.specs.declared.place.Place.{Place}
use Rattle.abstract_syntax.specs.Classes.{SpecTree}
use Rattle.vdm_tree.specs.StmtView.{local_view}
use Rattle.node_meaning.specs.Envs.{Here, Locals}
use Rattle.node_meaning.specs.Tasks.{Code}
use Rattle.stmt_meaning.specs.Blocks.{locals_given}
use Rattle.goal_steps.proofs.initials.Initial.next.Given as goal

-- those that are left do what all of them do
abbrev pub invariant-loop-local : goal.invariant-loop-local
invariant-loop-local l =
    (spec : SpecTree) (here : Here) (place : Place) (further : Locals → Code)
    → locals_given spec here place (map local_view l.left) further l.locals.items
    ≡ locals_given spec here place (map local_view l.given) further l.fn.locals.items

abbrev pub decreases-loop-local : goal.decreases-loop-local
decreases-loop-local l = length l.left
