use Rattle.std.proofs.Common.{◌≡◌, ◌-◌, [], map}
use Rattle.vdm_tree.specs.StmtView.{dcl_view}
use Rattle.stmt_reading.specs.Leaves.{turns_for}
use Rattle.stmt_reading.specs.Statements.{dcls_in}
use Rattle.stmt_parts.specs.Lists.{added}
use Rattle.stmt_parts.proofs.blocks.listed_dcls.Given as goal

-- behind what was read, what is read in the turns that are left
abbrev pub invariant-loop-turn : goal.invariant-loop-turn
invariant-loop-turn l =
    added (map dcl_view l.dcls.items) (dcls_in (turns_for l.fn.source - l._turn) l.source) ≡ added [] (dcls_in (turns_for l.fn.source) l.fn.source)
