use Rattle.std.proofs.Common.{◌≡◌, suc, ◌+◌, ◌-◌, Some, option_map, ap, sym, subst, ◌∙◌, arith}
use Rattle.std.proofs.lemmas.Grind.{common_steps}
use Rattle.grammar_words.specs.declared.word.Word.TheVariants.{Comma}
use Rattle.abstract_syntax.specs.Statements.{given_stmt, no_stmt}
use Rattle.expr_tree.specs.View.{boxed_view}
use Rattle.vdm_tree.specs.StmtView.{boxed_stmt}
use Rattle.leaf_reader.specs.Reads.{Reads}
use Rattle.stmt_reading.specs.Leaves.{turns_for}
use Rattle.stmt_reading.specs.Statements.{handler_in, stmt_in}
use Rattle.stmt_parts.proofs.Lists.{further-end, further-more, further-refused}
use Rattle.stmt_parts.proofs.Stops.{stopped}
use Rattle.stmt_openings.specs.declared.between.AfterCase.TheVariants as after
use Rattle.stmt_builder.specs.Lists.{branch_rows, case_rows, handlers_view, stmts_view}
use Rattle.stmt_builder.proofs.Blocks.{block-end, block-more, block-refused, block-unclosed}
use Rattle.stmt_builder.proofs.Branches.{branches-end, branches-more, branches-refused, branches-unread}
use Rattle.stmt_builder.proofs.CaseLists.{cases-behind, cases-refused, others-behind, others-refused}
use Rattle.stmt_builder.proofs.Trees.{same_branches, same_cases}
use Rattle.stmt_builder.proofs.statements.+statement.Goals as goal

-- ---- a statement

pub statement-returns : goal.statement-returns
statement-returns t c =
    let more : c.args.room ≡ suc c.in_ok-room.room = grind (arith, common_steps) in
    subst (λ read. Reads c.rest.result boxed_stmt read c.rest.new.source)
    (sym (ap (λ n. stmt_in n c.args.source.now) more ∙ (c.in_ok-opening.ensures (stmt_in c.in_ok-room.room)).given)) c.rest.ensures

-- ---- a block

pub statements-returns-in_err-closed : goal.statements-returns-in_err-closed
statements-returns-in_err-closed t c =
    let left = c.args.turns - (c.loop-turn._turn + 1) in
    let more : c.args.turns - c.loop-turn._turn ≡ suc left = omega (arith, c.loop-turn-test.true) in
    stopped c.from_residual-in_err-closed.result _ _ _ _ c.from_residual-in_err-closed.ensures.1
    (λ e. sym c.loop-turn.invariant ∙ block-unclosed (stmt_in c.args.room) (stmts_view c.loop-turn.statements) _ left c.loop-turn.source more (c.in_err-closed.ensures.refused e))

pub statements-returns-then-closed : goal.statements-returns-then-closed
statements-returns-then-closed t c =
    let left = c.args.turns - (c.loop-turn._turn + 1) in
    let more : c.args.turns - c.loop-turn._turn ≡ suc left = omega (arith, c.loop-turn-test.true) in
    record {
      given = sym c.loop-turn.invariant ∙ block-end (stmt_in c.args.room) (stmts_view c.loop-turn.statements) _ left c.loop-turn.source c.closes.new.source c.in_ok-closed.closed more c.in_ok-closed.ensures.given c.if-closed.true;
      refused = λ e. cc;
    }

pub statements-returns-in_err-push-2 : goal.statements-returns-in_err-push-2
statements-returns-in_err-push-2 t c =
    let left = c.args.turns - (c.loop-turn._turn + 1) in
    let more : c.args.turns - c.loop-turn._turn ≡ suc left = omega (arith, c.loop-turn-test.true) in
    stopped c.from_residual-in_err-push-2.result _ _ _ _ c.from_residual-in_err-push-2.ensures.1
    (λ e. sym c.loop-turn.invariant ∙ block-refused (stmt_in c.args.room) (stmts_view c.loop-turn.statements) _ left c.loop-turn.source c.closes.new.source c.in_ok-closed.closed more c.in_ok-closed.ensures.given c.if-closed.false (c.in_err-push-2.ensures.refused e))

pub statements-loop-turn-preserved : goal.statements-loop-turn-preserved
statements-loop-turn-preserved t c =
    let left = c.args.turns - (c.loop-turn._turn + 1) in
    let more : c.args.turns - c.loop-turn._turn ≡ suc left = omega (arith, c.loop-turn-test.true) in
    block-more (stmt_in c.args.room) (stmts_view c.loop-turn.statements) _ _ left c.loop-turn.source c.closes.new.source _ c.in_ok-closed.closed more c.in_ok-closed.ensures.given c.if-closed.false c.in_ok-push-2.ensures.given
    ∙ c.loop-turn.invariant

-- ---- lists between commas

pub listed-returns-in_default : goal.listed-returns-in_default
listed-returns-in_default t c =
    let left = turns_for c.args.source.now - (c.loop-turn._turn + 1) in
    let more : turns_for c.args.source.now - c.loop-turn._turn ≡ suc left = omega (arith, c.loop-turn-test.true, c.len-turns.ensures.length) in
    record {
      given = sym c.loop-turn.invariant ∙ further-end Comma (stmt_in c.args.room) (stmts_view c.loop-turn.statements) _ left c.loop-turn.source more c.in_default.ensures.0 ∙ ap (λ rest. Some (stmts_view c.loop-turn.statements, rest)) (sym c.in_default.ensures.1);
      refused = λ e. cc;
    }

pub listed-loop-turn-preserved : goal.listed-loop-turn-preserved
listed-loop-turn-preserved t c =
    let left = turns_for c.args.source.now - (c.loop-turn._turn + 1) in
    let more : turns_for c.args.source.now - c.loop-turn._turn ≡ suc left = omega (arith, c.loop-turn-test.true, c.len-turns.ensures.length) in
    further-more Comma (stmt_in c.args.room) (stmts_view c.loop-turn.statements) _ _ left c.loop-turn.source _ _ _ more c.in-Some.ensures c.in_ok-push-2.ensures.given ∙ c.loop-turn.invariant

pub handlers-returns-in_default : goal.handlers-returns-in_default
handlers-returns-in_default t c =
    let left = turns_for c.args.source.now - (c.loop-turn._turn + 1) in
    let more : turns_for c.args.source.now - c.loop-turn._turn ≡ suc left = omega (arith, c.loop-turn-test.true, c.len-turns.ensures.length) in
    record {
      given = sym c.loop-turn.invariant ∙ further-end Comma (handler_in (stmt_in c.args.room)) (handlers_view c.loop-turn.handlers) _ left c.loop-turn.source more c.in_default.ensures.0 ∙ ap (λ rest. Some (handlers_view c.loop-turn.handlers, rest)) (sym c.in_default.ensures.1);
      refused = λ e. cc;
    }

pub handlers-returns-in_err-push_trap-2 : goal.handlers-returns-in_err-push_trap-2
handlers-returns-in_err-push_trap-2 t c =
    let left = turns_for c.args.source.now - (c.loop-turn._turn + 1) in
    let more : turns_for c.args.source.now - c.loop-turn._turn ≡ suc left = omega (arith, c.loop-turn-test.true, c.len-turns.ensures.length) in
    stopped c.from_residual-in_err-push_trap-2.result _ _ _ _ c.from_residual-in_err-push_trap-2.ensures.1
    (λ e. sym c.loop-turn.invariant ∙ further-refused Comma (handler_in (stmt_in c.args.room)) (handlers_view c.loop-turn.handlers) _ left c.loop-turn.source _ _ more c.in-Some.ensures (c.in_err-push_trap-2.ensures.refused e))

pub handlers-loop-turn-preserved : goal.handlers-loop-turn-preserved
handlers-loop-turn-preserved t c =
    let left = turns_for c.args.source.now - (c.loop-turn._turn + 1) in
    let more : turns_for c.args.source.now - c.loop-turn._turn ≡ suc left = omega (arith, c.loop-turn-test.true, c.len-turns.ensures.length) in
    further-more Comma (handler_in (stmt_in c.args.room)) (handlers_view c.loop-turn.handlers) _ _ left c.loop-turn.source _ _ _ more c.in-Some.ensures c.in_ok-push_trap-2.ensures.given ∙ c.loop-turn.invariant

-- ---- each `elseif`

pub branches-returns-in_err-found : goal.branches-returns-in_err-found
branches-returns-in_err-found t c =
    let left = c.args.turns - (c.loop-turn._turn + 1) in
    let more : c.args.turns - c.loop-turn._turn ≡ suc left = omega (arith, c.loop-turn-test.true) in
    stopped c.from_residual.result _ _ _ _ c.from_residual.ensures.1
    (λ e. sym c.loop-turn.invariant ∙ branches-unread (stmt_in c.args.room) (branch_rows c.loop-turn.branches) _ left c.loop-turn.source more (c.in_err-found.ensures.refused e))

pub branches-returns-in_default : goal.branches-returns-in_default
branches-returns-in_default t c =
    let left = c.args.turns - (c.loop-turn._turn + 1) in
    let more : c.args.turns - c.loop-turn._turn ≡ suc left = omega (arith, c.loop-turn-test.true) in
    record {
      given = sym c.loop-turn.invariant ∙ branches-end (stmt_in c.args.room) (branch_rows c.loop-turn.branches) _ left c.loop-turn.source c.branch_opening.new.source more (c.in_ok-found.ensures.given ∙ ap (λ found. Some (option_map boxed_view found, c.branch_opening.new.source)) c.in_default.is)
          ∙ ap (λ found. Some (found, c.branch_opening.new.source)) (same_branches c.loop-turn.branches.items);
      refused = λ e. cc;
    }

pub branches-returns-in_err-body : goal.branches-returns-in_err-body
branches-returns-in_err-body t c =
    let left = c.args.turns - (c.loop-turn._turn + 1) in
    let more : c.args.turns - c.loop-turn._turn ≡ suc left = omega (arith, c.loop-turn-test.true) in
    stopped c.from_residual-in_err-body.result _ _ _ _ c.from_residual-in_err-body.ensures.1
    (λ e. sym c.loop-turn.invariant ∙ branches-refused (stmt_in c.args.room) (branch_rows c.loop-turn.branches) _ left c.loop-turn.source c.branch_opening.new.source (boxed_view c.in-Some.condition) more (c.in_ok-found.ensures.given ∙ ap (λ found. Some (option_map boxed_view found, c.branch_opening.new.source)) c.in-Some.is) (c.in_err-body.ensures.refused e))

pub branches-loop-turn-preserved : goal.branches-loop-turn-preserved
branches-loop-turn-preserved t c =
    let left = c.args.turns - (c.loop-turn._turn + 1) in
    let more : c.args.turns - c.loop-turn._turn ≡ suc left = omega (arith, c.loop-turn-test.true) in
    branches-more (stmt_in c.args.room) (branch_rows c.loop-turn.branches) _ _ left c.loop-turn.source c.branch_opening.new.source _ (boxed_view c.in-Some.condition) (boxed_stmt c.in_ok-body.body) more (c.in_ok-found.ensures.given ∙ ap (λ found. Some (option_map boxed_view found, c.branch_opening.new.source)) c.in-Some.is)
    c.in_ok-body.ensures.given c.in_ok-push_branch.ensures ∙ c.loop-turn.invariant

-- ---- each alternative of `cases`

pub cases-returns-in_err-after : goal.cases-returns-in_err-after
cases-returns-in_err-after t c =
    let left = c.args.turns - (c.loop-turn._turn + 1) in
    let more : c.args.turns - c.loop-turn._turn ≡ suc left = omega (arith, c.loop-turn-test.true) in
    stopped c.from_residual.result _ _ _ _ c.from_residual.ensures.1
    (λ e. sym c.loop-turn.invariant ∙ cases-refused (stmt_in c.args.room) (case_rows c.loop-turn.cases) _ left c.loop-turn.source more (c.in_err-after.ensures.refused e))

pub cases-returns-in-Ends : goal.cases-returns-in-Ends
cases-returns-in-Ends t c =
    let left = c.args.turns - (c.loop-turn._turn + 1) in
    let more : c.args.turns - c.loop-turn._turn ≡ suc left = omega (arith, c.loop-turn-test.true) in
    record {
      given = sym c.loop-turn.invariant ∙ cases-behind (stmt_in c.args.room) (case_rows c.loop-turn.cases) (case_rows c.push_alternative.new.cases) _ left c.loop-turn.source c.push_alternative.new.source c.in_ok-after.after after.Ends more c.in_ok-after.ensures.given c.in-Ends.is ∙ ap (λ found. Some ((found, no_stmt), c.push_alternative.new.source)) (same_cases c.push_alternative.new.cases.items);
      refused = λ e. cc;
    }

pub cases-returns-in_err-others-in-Others : goal.cases-returns-in_err-others-in-Others
cases-returns-in_err-others-in-Others t c =
    let left = c.args.turns - (c.loop-turn._turn + 1) in
    let more : c.args.turns - c.loop-turn._turn ≡ suc left = omega (arith, c.loop-turn-test.true) in
    stopped c.from_residual-in_err-others-in-Others.result _ _ _ _ c.from_residual-in_err-others-in-Others.ensures.1
    (λ e. sym c.loop-turn.invariant ∙ cases-behind (stmt_in c.args.room) (case_rows c.loop-turn.cases) (case_rows c.push_alternative.new.cases) _ left c.loop-turn.source c.push_alternative.new.source c.in_ok-after.after after.Others more c.in_ok-after.ensures.given c.in-Others.is ∙ others-refused (stmt_in c.args.room) (case_rows c.push_alternative.new.cases) left c.push_alternative.new.source (c.in_err-others-in-Others.ensures.refused e))

pub cases-returns-in-Others : goal.cases-returns-in-Others
cases-returns-in-Others t c =
    let left = c.args.turns - (c.loop-turn._turn + 1) in
    let more : c.args.turns - c.loop-turn._turn ≡ suc left = omega (arith, c.loop-turn-test.true) in
    record {
      given = sym c.loop-turn.invariant ∙ cases-behind (stmt_in c.args.room) (case_rows c.loop-turn.cases) (case_rows c.push_alternative.new.cases) _ left c.loop-turn.source c.push_alternative.new.source c.in_ok-after.after after.Others more c.in_ok-after.ensures.given c.in-Others.is
          ∙ others-behind (stmt_in c.args.room) (case_rows c.push_alternative.new.cases) left c.push_alternative.new.source c.last.new.source (boxed_stmt c.in_ok-others-in-Others.others) c.in_ok-others-in-Others.ensures.given
          ∙ ap (λ found. Some ((found, given_stmt (boxed_stmt c.in_ok-others-in-Others.others)), c.last.new.source)) (same_cases c.push_alternative.new.cases.items);
      refused = λ e. cc;
    }

pub cases-loop-turn-preserved : goal.cases-loop-turn-preserved
cases-loop-turn-preserved t c =
    let left = c.args.turns - (c.loop-turn._turn + 1) in
    let more : c.args.turns - c.loop-turn._turn ≡ suc left = omega (arith, c.loop-turn-test.true) in
    sym (cases-behind (stmt_in c.args.room) (case_rows c.loop-turn.cases) (case_rows c.push_alternative.new.cases) _ left c.loop-turn.source c.push_alternative.new.source c.in_ok-after.after after.Goes more c.in_ok-after.ensures.given c.in-Goes.is) ∙ c.loop-turn.invariant
