use Rattle.std.proofs.Common.{◌≡◌, map, drop}
use Rattle.expr_tree.specs.TypeDefView.{type_def_view}
use Rattle.row_patterns.specs.Finding.{first_named}
use Rattle.row_patterns.proofs.record_types.first_named.Given as goal

-- what the rest has first is what all have first
abbrev pub invariant-loop-declared : goal.invariant-loop-declared
invariant-loop-declared l = first_named (map type_def_view (drop l.declared-index l.types)) l.class l.name ≡ first_named (map type_def_view l.types) l.class l.name
