use Rattle.std.proofs.Common.{◌≡◌, ◌++◌, map, drop}
use Rattle.vdm_tree.specs.StmtView.{local_view}
use Rattle.stmt_meaning.specs.Blocks.{local_type}
use Rattle.step_data.specs.Declarations.{typed_name}
use Rattle.step_data.proofs.declared.add_locals.Given as goal

-- those so far, and what is still to be added
abbrev pub invariant-loop-local : goal.invariant-loop-local
invariant-loop-local l =
    map typed_name l.all.items ++ map local_type (map local_view (drop l.local-index l.locals)) ≡ map typed_name l.fn.all.items ++ map local_type (map local_view l.fn.locals)
