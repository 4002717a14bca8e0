use Rattle.std.proofs.Common.{◌≡◌, true, false}
use Rattle.type_meaning.specs.Tests.{decided, tested}
use Rattle.conform.specs.Frames.{found_in}
use Rattle.conform.specs.Fits.{judged, standing}
use Rattle.conform.proofs.conforming.all_tested.Given as goal

-- what is told of the tests that are left is told of all
abbrev pub invariant-loop-step : goal.invariant-loop-step
invariant-loop-step g l = record {
  told : judged (g.R.InvRunner.tells l.fn.runner) (standing (g.N.TypeNames.found l.fn.names) (g.N.TypeNames.descends l.fn.names) (g.N.TypeNames.rank l.fn.names) l.testing)
      ≡ judged (g.R.InvRunner.tells l.fn.runner) (tested (found_in (g.N.TypeNames.found l.fn.names) (g.N.TypeNames.descends l.fn.names) (g.N.TypeNames.rank l.fn.names) l.fn.tests.items) (decided true) (decided false));
  same : g.R.InvRunner.tells l.runner ≡ g.R.InvRunner.tells l.fn.runner;
}
