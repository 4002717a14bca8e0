use Rattle.std.proofs.Common.{◌≡◌}
use Rattle.conform.specs.Testings.{stands_at}
use Rattle.conform.proofs.testing.Testing.next.Given as goal

-- the tests stand where they stood
abbrev pub invariant-loop-step : goal.invariant-loop-step
invariant-loop-step g l =
    stands_at (g.N.TypeNames.found l.fn.names) (g.N.TypeNames.descends l.fn.names) (g.N.TypeNames.rank l.fn.names) l.self.waiting.items l.self.holds
    ≡ stands_at (g.N.TypeNames.found l.fn.names) (g.N.TypeNames.descends l.fn.names) (g.N.TypeNames.rank l.fn.names) l.fn.self.waiting.items l.fn.self.holds
