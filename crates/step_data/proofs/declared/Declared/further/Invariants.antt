use Rattle.std.proofs.Common.{◌≡◌, ◌++◌, map, drop}
use Rattle.vdm_tree.specs.StmtView.{dcl_view}
use Rattle.stmt_meaning.specs.Blocks.{types_declared}
use Rattle.step_data.specs.Declarations.{declared_of, typed_name}
use Rattle.step_data.proofs.declared.Declared.further.Given as goal

-- those so far, and what is still to be added
abbrev pub invariant-loop-dcl : goal.invariant-loop-dcl
invariant-loop-dcl l =
    map typed_name l.all.items ++ types_declared (map dcl_view (drop l.dcl-index l.dcls)) ≡ declared_of l.fn.self ++ types_declared (map dcl_view l.fn.dcls)
