use Rattle.std.proofs.Common.{◌-◌, ◌++◌, [], take, ap, sym, ◌∙◌}
use Rattle.plans.specs.Plans.{faults}
use Rattle.node_meaning.specs.Envs.{outermost}
use Rattle.node_meaning.specs.Faults.{fault_at}
use Rattle.spec_table.specs.Tables.{table_spec}
use Rattle.expr_eval.specs.Turns.{stands_with}
use Rattle.expr_eval.specs.Weights.{weight}
use Rattle.expr_eval.proofs.Resting.{failing-faults}
use Rattle.expr_eval.proofs.Running.{ended, popped, popped-low, lower, no_higher}
use Rattle.expr_eval.proofs.eval.Eval.run.Goals as goal

pub returns-in-None-clause-same : goal.returns-in-None-clause-same
returns-in-None-clause-same c = λ answers.
    let e = c.steps.self in
    let d = c.steps.doing in
    ended (table_spec e.table.now) e.place e.frames.items e.locals.items c.in-Finish.flow d.nest d.step answers c.steps.fuel c.in-Finish.is
    (c.in-None.ensures.items ∙ ap (λ fs. fs ++ []) (c.in-None.ensures.rest ∙ ap (λ n. take (n - 1) e.frames.items) c.in-None.ensures.cases.0)) ∙ c.steps.invariant.same answers

pub returns-in-Need-clause-same : goal.returns-in-Need-clause-same
returns-in-Need-clause-same c = λ answers. ap (λ s. stands_with c.steps.self c.steps.doing.nest s answers c.steps.fuel) (sym c.in-Need.is) ∙ c.steps.invariant.same answers

pub returns-in-Fail-clause-same : goal.returns-in-Fail-clause-same
returns-in-Fail-clause-same c = λ answers.
    let e = c.steps.self in
    let n = c.steps.doing.nest in
    ap (λ p. faults (fault_at c.in-Fail.fault p) answers) c.place.ensures
    ∙ sym (failing-faults (table_spec e.table.now) e.place e.frames.items (fault_at c.in-Fail.fault (outermost n.test c.in-Fail.place)) answers c.steps.fuel)
    ∙ ap (λ s. stands_with e n s answers c.steps.fuel) (sym c.in-Fail.is) ∙ c.steps.invariant.same answers

pub steps-preserved-in_ok-doing-in-Some : goal.steps-preserved-in_ok-doing-in-Some
steps-preserved-in_ok-doing-in-Some c =
    let e = c.steps.self in
    let d = c.steps.doing in record {
      same = λ answers.
          popped (table_spec e.table.now) e.place e.frames.items c.pop.new.self.items e.locals.items c.of_level.new.locals.items c.in-Some.level c.in-Finish.flow d.nest d.step c.in_ok-doing-in-Some.doing c.steps.fuel answers
          c.in-Some.ensures.items c.in-Finish.is c.in_ok-doing-in-Some.ensures ∙ c.steps.invariant.same answers;
      low = no_higher _ _ _ (popped-low e.frames.items c.pop.new.self.items c.in-Some.level c.in-Finish.flow d.step c.in_ok-doing-in-Some.doing.step c.steps.fuel c.in-Some.ensures.items c.in-Finish.is) c.steps.invariant.low;
      next = c.steps.invariant.next;
    }

pub steps-preserved-in_ok-doing-in-Part : goal.steps-preserved-in_ok-doing-in-Part
steps-preserved-in_ok-doing-in-Part c = record {
  same = λ answers. c.in_ok-doing-in-Part.ensures.same answers ∙ ap (λ s. stands_with c.steps.self c.steps.doing.nest s answers c.steps.fuel) (sym c.in-Part.is) ∙ c.steps.invariant.same answers;
  low = no_higher _ _ _ (lower c.steps.self.frames.items c.steps.fuel _ 2 c.steps.doing.step (ap weight c.in-Part.is) c.in_ok-doing-in-Part.ensures.falls) c.steps.invariant.low;
  next = c.in_ok-doing-in-Part.ensures.next ∙ c.steps.invariant.next;
}

pub steps-smaller-in_ok-doing-in-Test : goal.steps-smaller-in_ok-doing-in-Test
steps-smaller-in_ok-doing-in-Test c = lower c.steps.self.frames.items c.steps.fuel _ 6 c.steps.doing.step (ap weight c.in-Test.is) (c.in_ok-doing-in-Test.ensures.falls c.steps.fuel)

pub steps-preserved-in_ok-doing-in-Test : goal.steps-preserved-in_ok-doing-in-Test
steps-preserved-in_ok-doing-in-Test c = record {
  same = λ answers. c.in_ok-doing-in-Test.ensures.same answers c.steps.fuel ∙ ap (λ s. stands_with c.steps.self c.steps.doing.nest s answers c.steps.fuel) (sym c.in-Test.is) ∙ c.steps.invariant.same answers;
  low = no_higher _ _ _ (lower c.steps.self.frames.items c.steps.fuel _ 6 c.steps.doing.step (ap weight c.in-Test.is) (c.in_ok-doing-in-Test.ensures.falls c.steps.fuel)) c.steps.invariant.low;
  next = c.in_ok-doing-in-Test.ensures.next ∙ c.steps.invariant.next;
}

pub steps-preserved : goal.steps-preserved
steps-preserved c = record {
  same = λ answers. c.in_ok-doing-in-Become.ensures.same answers ∙ ap (λ s. stands_with c.steps.self c.steps.doing.nest s answers c.steps.fuel) (sym c.in-Become.is) ∙ c.steps.invariant.same answers;
  low = no_higher _ _ _ (lower c.steps.self.frames.items c.steps.fuel _ 2 c.steps.doing.step (ap weight c.in-Become.is) c.in_ok-doing-in-Become.ensures.falls) c.steps.invariant.low;
  next = c.in_ok-doing-in-Become.ensures.next ∙ c.steps.invariant.next;
}
