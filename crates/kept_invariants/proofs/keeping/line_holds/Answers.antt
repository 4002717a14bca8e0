use Rattle.std.proofs.Common.{arith}
use Rattle.spec_table.specs.Tables.{table_spec}
use Rattle.kept_invariants.proofs.Walking.{line_ended, line_stops, line_goes_on}
use Rattle.kept_invariants.proofs.keeping.line_holds.Goals as goal

pub returns-then-not-branch : goal.returns-then-not-branch
returns-then-not-branch c =
    line_stops (table_spec c.args.table.now) c.args.env c.args.classes.now c.loop-class.class-index c.loop-class.invariant.rest
    c.loop-class.env c.loop-class.invariant.same c.loop-class-test.true _ _ c.in_ok-named_hold.ensures c.if-not-branch.true

pub loop-class-preserved : goal.loop-class-preserved
loop-class-preserved c = record {
  rest = line_goes_on (table_spec c.args.table.now) c.args.env c.args.classes.now c.loop-class.class-index c.loop-class.invariant.rest
      c.loop-class.env c.loop-class.invariant.same c.loop-class-test.true _ _ c.in_ok-named_hold.ensures c.if-not-branch.false;
  same = c.loop-class.invariant.same;
}

pub returns : goal.returns
returns c =
    line_ended (table_spec c.args.table.now) c.args.env c.args.classes.now c.loop-class.class-index c.loop-class.invariant.rest
    (omega (arith, c.loop-class-test.false))
