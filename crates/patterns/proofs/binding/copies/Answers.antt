use Rattle.std.proofs.Common.{refl}
use Rattle.std.proofs.lemmas.Result.{err_from_is_err_and}
use Rattle.patterns.specs.Todos.{subject_tree}
use Rattle.patterns.specs.declared.bound.Bound.{Bound}
use Rattle.patterns.proofs.Whole.{made_there, handed_on}
use Rattle.patterns.proofs.binding.copies.Goals as goal

pub returns-in_err-value-clause-refused : goal.returns-in_err-value-clause-refused
returns-in_err-value-clause-refused c = λ fault e.
    let p = err_from_is_err_and c.from_residual-in_err-value.result c.from_residual-in_err-value.ensures.1 in
    let h = c.in_err-value.ensures.refused fault (handed_on _ _ _ fault e p.1 p.2 _ refl) in (
      h.0,
      record {
        pair = (c.bound-item.result.name, subject_tree c.bound-item.result.subject);
        there = made_there (λ (b : Bound). (b.name, subject_tree b.subject)) c.args.bounds.now c.loop-bound.bound-index c.bound-item.result
            c.loop-bound-test.true c.bound-item.is;
        large = h.1;
      },
    )
