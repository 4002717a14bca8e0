use Rattle.std.proofs.Common.{None, refl}
use Rattle.std.proofs.lemmas.Result.{err_from_is_err_and}
use Rattle.patterns.specs.Todos.{at, patterns_at}
use Rattle.patterns.proofs.Several.{enough_mapped, fewer_mapped, too_few}
use Rattle.patterns.proofs.Steps.{begins_nested}
use Rattle.patterns.proofs.Whole.{bind_found, bind_none, bind_past, handed_on}
use Rattle.patterns.proofs.binding.bind_all.Goals as goal

pub returns-then-values-patterns-clause-bound : goal.returns-then-values-patterns-clause-bound
returns-then-values-patterns-clause-bound g c = (
  too_few _ (patterns_at c.args.patterns.now) (at c.args.values.now) c.args.given.now
      (fewer_mapped _ _ c.args.patterns.now c.args.values.now c.if-values-patterns.true),
  tt,
)

pub run-requires : goal.run-requires
run-requires g c = begins_nested (λ t. None) _ _ _ c.in_ok-search.ensures

pub returns-then-branch-clause-bound : goal.returns-then-branch-clause-bound
returns-then-branch-clause-bound g c = (
  bind_found _ (patterns_at c.args.patterns.now) c.args.given.now _ (at c.args.values.now)
      (enough_mapped _ _ c.args.patterns.now c.args.values.now c.if-values-patterns.false) _ _ _ _ _ c.in_ok-search.ensures
      c.as_slice.ensures c.in_ok-run.ensures c.if-branch.true c.bound.ensures c.in_ok-copies.ensures.made.0,
  c.in_ok-copies.ensures.made.1,
)

pub returns-clause-bound : goal.returns-clause-bound
returns-clause-bound g c = (
  bind_none _ (patterns_at c.args.patterns.now) c.args.given.now _ (at c.args.values.now)
      (enough_mapped _ _ c.args.patterns.now c.args.values.now c.if-values-patterns.false) _ _ _ c.in_ok-search.ensures
      c.as_slice.ensures c.in_ok-run.ensures c.if-branch.false,
  tt,
)

pub returns-in_err-copies-clause-refused : goal.returns-in_err-copies-clause-refused
returns-in_err-copies-clause-refused g c = λ fault e.
    let p = err_from_is_err_and c.from_residual-in_err-copies.result c.from_residual-in_err-copies.ensures.1 in
    let h = c.in_err-copies.ensures.refused fault (handed_on _ _ _ fault e p.1 p.2 _ refl) in (
      h.0,
      bind_past _ (patterns_at c.args.patterns.now) c.args.given.now _ (at c.args.values.now)
          (enough_mapped _ _ c.args.patterns.now c.args.values.now c.if-values-patterns.false) _ _ _ _ c.in_ok-search.ensures
          c.as_slice.ensures c.in_ok-run.ensures c.if-branch.true c.bound.ensures h.1,
    )
