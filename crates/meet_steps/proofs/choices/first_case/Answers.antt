use Rattle.std.proofs.Common.{◌≡◌, length, ap, sym, ◌∙◌, arith}
use Rattle.vdm_tree.specs.StmtView.{boxed_stmt, maybe_stmt}
use Rattle.eval_data.specs.Parts.{here_of}
use Rattle.meet_steps.proofs.Behind.{cases_first, cases_passed, count_passed}
use Rattle.meet_steps.proofs.choices.first_case.Goals as goal

pub returns-in-Some-split_first-clause-same : goal.returns-in-Some-split_first-clause-same
returns-in-Some-split_first-clause-same c = λ spec locals.
    sym (c.loop-case.invariant.same spec locals
    ∙ cases_first spec (here_of c.args.here) c.args.place c.args.value (maybe_stmt c.args.others.now) c.args.count locals
    c.loop-case.left.now c.in-Some.more.now c.in-Some.case.now c.in-Some-split_first.pattern.now c.in-Some-split_first.patterns.now (boxed_stmt c.body_of.result.now)
    c.in-Some.ensures.cases.0 (sym c.as_slice.ensures.value ∙ c.in-Some-split_first.ensures.cases.0) c.body_of.ensures)

pub loop-case-preserved : goal.loop-case-preserved
loop-case-preserved c =
    let none : length c.in-Some.case.now.patterns.items ≡ 0 = ap length (sym c.as_slice.ensures.value) ∙ c.in_default-split_first.ensures.cases in
    let fewer = count_passed c.loop-case.left.now c.in-Some.more.now c.in-Some.case.now c.in-Some.ensures.cases.0 none in
    record {
      same = λ spec locals. c.loop-case.invariant.same spec locals
          ∙ cases_passed spec (here_of c.args.here) c.args.place c.args.value (maybe_stmt c.args.others.now) c.args.count locals c.loop-case.left.now c.in-Some.more.now c.in-Some.case.now c.in-Some.ensures.cases.0 none;
      fewer = omega (arith, fewer, c.loop-case.invariant.fewer);
    }
