use Rattle.std.proofs.Common.{◌≡◌, length, ap, sym, ◌∙◌, arith}
use Rattle.expr_tree.specs.View.{maybe_view}
use Rattle.eval_data.specs.Parts.{here_of}
use Rattle.match_steps.proofs.Behind.{cases_first, cases_passed, count_passed}
use Rattle.match_steps.proofs.alternatives.first_case.Goals as goal

pub returns-in-Some-split_first-clause-found : goal.returns-in-Some-split_first-clause-found
returns-in-Some-split_first-clause-found c = λ spec place v locals.
    c.loop-case.invariant.same spec place v locals
    ∙ cases_first spec c.args.here place v locals c.loop-case.left.now c.in-Some.case.now
    (record { pattern = c.in-Some-split_first.pattern; patterns = c.in-Some-split_first.patterns; body = c.body_of-body.result; more = c.in-Some.more; others = c.args.others; count = c.args.count })
    c.in-Some.ensures.cases.0 (sym c.as_slice.ensures.value ∙ c.in-Some-split_first.ensures.cases.0) (sym c.body_of-body.ensures)

pub loop-case-preserved : goal.loop-case-preserved
loop-case-preserved c =
    let none : length c.in-Some.case.now.patterns.items ≡ 0 = ap length (sym c.as_slice.ensures.value) ∙ c.in_default-split_first.ensures.cases in
    let fewer = count_passed c.loop-case.left.now c.in-Some.more.now c.in-Some.case.now c.in-Some.ensures.cases.0 none in
    record {
      same = λ spec place v locals. c.loop-case.invariant.same spec place v locals
          ∙ cases_passed spec (here_of c.args.here) place v (maybe_view c.args.others.now) c.args.count locals c.loop-case.left.now c.in-Some.more.now c.in-Some.case.now c.in-Some.ensures.cases.0 none;
      fewer = omega (arith, fewer, c.loop-case.invariant.fewer);
    }
