use Rattle.std.proofs.Common.{◌≡◌, length}
use Rattle.pattern_meaning.specs.RecordTypes.{stands_for}
use Rattle.patterns.specs.Search.{found, binding_of, choices_of, IsNested}
use Rattle.patterns.proofs.search.Search.run.Given as goal

-- no binding is passed over
abbrev pub invariant-loop-step : goal.invariant-loop-step
invariant-loop-step g l = record {
  same : found (stands_for (g.N.TypeNames.found l.names) (g.N.TypeNames.rank l.names) l.fn.scope) l.self ≡
      found (stands_for (g.N.TypeNames.found l.names) (g.N.TypeNames.rank l.names) l.fn.scope) l.fn.self;
  nested : IsNested (length (binding_of l.self.names)) (choices_of l.self);
}
