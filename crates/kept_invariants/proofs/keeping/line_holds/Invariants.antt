use Rattle.std.proofs.Common.{◌≡◌, drop, None}
use Rattle.spec_table.specs.Tables.{table_spec}
use Rattle.kept_invariants.specs.Guarding.{line_holds}
use Rattle.kept_invariants.proofs.keeping.line_holds.Given as goal

-- those so far hold, so that the rest decides; and the object stands where it stood, but for the class
abbrev pub invariant-loop-class : goal.invariant-loop-class
invariant-loop-class l = record {
  rest : line_holds (table_spec l.table) l.fn.env (drop l.class-index l.classes) ≡ line_holds (table_spec l.table) l.fn.env l.classes;
  same : record l.env { scope = None } ≡ record l.fn.env { scope = None };
}
