use Rattle.std.proofs.Common.{◌+◌, ◌-◌, ◌++◌, [], length, take, ap, sym, ◌∙◌}
use Rattle.spec_table.specs.Tables.{table_spec}
use Rattle.step_data.specs.Actions.{height, most}
use Rattle.vdm_meaning.specs.Main.{standing_of}
use Rattle.thread_stack.specs.Standing.{stands_with, load}
use Rattle.thread_stack.proofs.Loads.{popped-low, popped-falls, no_higher}
use Rattle.stmt_exec.proofs.Acting.{stands-end, stands-fault, stands-exit, popped}
use Rattle.stmt_exec.proofs.running.run.Goals as goal

pub returns-in-None-clause-same : goal.returns-in-None-clause-same
returns-in-None-clause-same c = λ names answers.
    rw c.over.ensures (stands-end names c.actions.stack c.actions.action c.in-Finish.flow answers c.in-Finish.is
    (c.in-None.ensures.items ∙ ap (λ ws. ws ++ []) (c.in-None.ensures.rest ∙ ap (λ n. take (n - 1) c.actions.stack.levels.items) c.in-None.ensures.cases.0)) ∙
    ap (standing_of names) (c.actions.invariant.same answers))

pub returns-in-Fail-clause-same : goal.returns-in-Fail-clause-same
returns-in-Fail-clause-same c = λ names answers.
    ap (standing_of names)
    (stands-fault c.actions.stack c.actions.action c.in-Fail.fault c.in-Fail.place _ answers c.in-Fail.is c.place.ensures
    ∙ c.actions.invariant.same answers)

pub returns-in-Uncaught-clause-same : goal.returns-in-Uncaught-clause-same
returns-in-Uncaught-clause-same c = λ names answers.
    ap (standing_of names)
    (stands-exit c.actions.stack c.actions.action c.in-Uncaught.value c.in-Uncaught.place _ answers c.in-Uncaught.is c.place-in-Uncaught.ensures
    ∙ c.actions.invariant.same answers)

pub returns-in-Ask-clause-same : goal.returns-in-Ask-clause-same
returns-in-Ask-clause-same c = λ names answers.
    ap (standing_of names) (ap (λ a. stands_with c.actions.stack a answers) (sym c.in-Ask.is) ∙ c.actions.invariant.same answers)

pub actions-smaller-in_ok-action-in-Some : goal.actions-smaller-in_ok-action-in-Some
actions-smaller-in_ok-action-in-Some c =
    rw (c.in_ok-action-in-Some.ensures.levels, c.in_ok-action-in-Some.ensures.fuel)
    (popped-falls c.actions.stack.levels.items c.pop.new.self.items c.actions.stack.fuel c.in-Some.level c.in-Finish.flow c.actions.action c.in_ok-action-in-Some.action
    c.in-Some.ensures.items c.in-Finish.is c.in_ok-action-in-Some.ensures.busy)

pub actions-preserved-in_ok-action-in-Some : goal.actions-preserved-in_ok-action-in-Some
actions-preserved-in_ok-action-in-Some c = record {
  same = λ answers.
      rw (c.in_ok-action-in-Some.ensures.levels, c.in_ok-action-in-Some.ensures.fuel, c.in_ok-action-in-Some.ensures.table)
      (popped (table_spec c.actions.stack.table.now) c.actions.stack.levels.items c.pop.new.self.items c.actions.stack.around c.actions.stack.locals.items c.actions.stack.fuel c.in-Some.level c.in-Finish.flow c.actions.action _ answers
      c.in-Some.ensures.items c.in-Finish.is c.in_ok-action-in-Some.ensures.same) ∙ c.actions.invariant.same answers;
  low = rw (c.in_ok-action-in-Some.ensures.levels, c.in_ok-action-in-Some.ensures.fuel)
      (popped-low c.actions.stack.levels.items c.pop.new.self.items c.actions.stack.fuel c.in-Some.level c.in-Finish.flow c.actions.action c.in_ok-action-in-Some.action (load c.args.stack.now.levels.items c.args.stack.now.fuel (height c.args.action)) c.in-Some.ensures.items c.in-Finish.is c.in_ok-action-in-Some.ensures.falls c.actions.invariant.low);
  table = c.in_ok-action-in-Some.ensures.table ∙ c.actions.invariant.table;
}

pub actions-preserved-in_ok-action-in-Part : goal.actions-preserved-in_ok-action-in-Part
actions-preserved-in_ok-action-in-Part c = record {
  same = λ answers. c.in_ok-action-in-Part.ensures.same answers ∙ ap (λ a. stands_with c.actions.stack a answers) (sym c.in-Part.is) ∙ c.actions.invariant.same answers;
  low = no_higher c.actions.stack.levels.items c.actions.stack.fuel _ 1 (load c.args.stack.now.levels.items c.args.stack.now.fuel (height c.args.action)) c.actions.action (ap height c.in-Part.is) c.in_ok-action-in-Part.ensures.low c.actions.invariant.low;
  table = c.in_ok-action-in-Part.ensures.table ∙ c.actions.invariant.table;
}

pub actions-preserved-in_ok-action-in-Become : goal.actions-preserved-in_ok-action-in-Become
actions-preserved-in_ok-action-in-Become c = record {
  same = λ answers. c.in_ok-action-in-Become.ensures.same answers ∙ ap (λ a. stands_with c.actions.stack a answers) (sym c.in-Become.is) ∙ c.actions.invariant.same answers;
  low = no_higher c.actions.stack.levels.items c.actions.stack.fuel _ 1 (load c.args.stack.now.levels.items c.args.stack.now.fuel (height c.args.action)) c.actions.action (ap height c.in-Become.is) c.in_ok-action-in-Become.ensures.low c.actions.invariant.low;
  table = c.in_ok-action-in-Become.ensures.table ∙ c.actions.invariant.table;
}

pub actions-preserved-in_ok-action-in-Round : goal.actions-preserved-in_ok-action-in-Round
actions-preserved-in_ok-action-in-Round c = record {
  same = λ answers. c.in_ok-action-in-Round.ensures.same answers ∙ ap (λ a. stands_with c.actions.stack a answers) (sym c.in-Round.is) ∙ c.actions.invariant.same answers;
  low = no_higher c.actions.stack.levels.items c.actions.stack.fuel _ 1 (load c.args.stack.now.levels.items c.args.stack.now.fuel (height c.args.action)) c.actions.action (ap height c.in-Round.is) c.in_ok-action-in-Round.ensures.low c.actions.invariant.low;
  table = c.in_ok-action-in-Round.ensures.table ∙ c.actions.invariant.table;
}

pub actions-preserved-in_ok-action-in-Block : goal.actions-preserved-in_ok-action-in-Block
actions-preserved-in_ok-action-in-Block c = record {
  same = λ answers. c.in_ok-action-in-Block.ensures.same answers ∙ ap (λ a. stands_with c.actions.stack a answers) (sym c.in-Block.is) ∙ c.actions.invariant.same answers;
  low = no_higher c.actions.stack.levels.items c.actions.stack.fuel _ 2 (load c.args.stack.now.levels.items c.args.stack.now.fuel (height c.args.action)) c.actions.action (ap height c.in-Block.is) c.in_ok-action-in-Block.ensures.low c.actions.invariant.low;
  table = c.in_ok-action-in-Block.ensures.table ∙ c.actions.invariant.table;
}

pub actions-preserved-in_ok-action-in-Test : goal.actions-preserved-in_ok-action-in-Test
actions-preserved-in_ok-action-in-Test c = record {
  same = λ answers. c.in_ok-action-in-Test.ensures.same answers ∙ ap (λ a. stands_with c.actions.stack a answers) (sym c.in-Test.is) ∙ c.actions.invariant.same answers;
  low = no_higher c.actions.stack.levels.items c.actions.stack.fuel _ 1 (load c.args.stack.now.levels.items c.args.stack.now.fuel (height c.args.action)) c.actions.action (ap height c.in-Test.is) c.in_ok-action-in-Test.ensures.low c.actions.invariant.low;
  table = c.in_ok-action-in-Test.ensures.table ∙ c.actions.invariant.table;
}

pub actions-preserved-in_ok-action-in-Fit : goal.actions-preserved-in_ok-action-in-Fit
actions-preserved-in_ok-action-in-Fit c = record {
  same = λ answers. c.in_ok-action-in-Fit.ensures.same answers ∙ ap (λ a. stands_with c.actions.stack a answers) (sym c.in-Fit.is) ∙ c.actions.invariant.same answers;
  low = no_higher c.actions.stack.levels.items c.actions.stack.fuel _ 1 (load c.args.stack.now.levels.items c.args.stack.now.fuel (height c.args.action)) c.actions.action (ap height c.in-Fit.is) c.in_ok-action-in-Fit.ensures.low c.actions.invariant.low;
  table = c.in_ok-action-in-Fit.ensures.table ∙ c.actions.invariant.table;
}

pub actions-preserved-in_ok-action-in-Begin : goal.actions-preserved-in_ok-action-in-Begin
actions-preserved-in_ok-action-in-Begin c = record {
  same = λ answers. c.in_ok-action-in-Begin.ensures.same answers ∙ ap (λ a. stands_with c.actions.stack a answers) (sym c.in-Begin.is) ∙ c.actions.invariant.same answers;
  low = no_higher c.actions.stack.levels.items c.actions.stack.fuel _ (4 + length c.in-Begin.call.value.olds.items) (load c.args.stack.now.levels.items c.args.stack.now.fuel (height c.args.action)) c.actions.action (ap height c.in-Begin.is) c.in_ok-action-in-Begin.ensures.low c.actions.invariant.low;
  table = c.in_ok-action-in-Begin.ensures.table ∙ c.actions.invariant.table;
}

pub actions-preserved : goal.actions-preserved
actions-preserved c = record {
  same = λ answers. c.in_ok-action-in-Need.ensures.same answers ∙ ap (λ a. stands_with c.actions.stack a answers) (sym c.in-Need.is) ∙ c.actions.invariant.same answers;
  low = no_higher c.actions.stack.levels.items c.actions.stack.fuel _ (9 + most) (load c.args.stack.now.levels.items c.args.stack.now.fuel (height c.args.action)) c.actions.action (ap height c.in-Need.is) c.in_ok-action-in-Need.ensures.low c.actions.invariant.low;
  table = c.in_ok-action-in-Need.ensures.table ∙ c.actions.invariant.table;
}
