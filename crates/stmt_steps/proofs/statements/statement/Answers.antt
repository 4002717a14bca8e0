use Rattle.std.proofs.Common.{◌≡◌, ℕ, List, length, None, option_map, ap, ◌∙◌, sym, arith}
use Rattle.abstract_syntax.specs.Classes.{SpecTree}
use Rattle.abstract_syntax.specs.Expressions.{no_defined, one_defined}
use Rattle.abstract_syntax.specs.Statements.{one_stmt_branch}
use Rattle.expr_tree.specs.View.{bind_view, boxed_view, pattern_view}
use Rattle.vdm_tree.specs.declared.stmt.Handler.{Handler}
use Rattle.vdm_tree.specs.declared.stmt.Stmt.{Stmt}
use Rattle.vdm_tree.specs.declared.stmt.StmtBranch.{StmtBranch}
use Rattle.vdm_tree.specs.declared.stmt.StmtCase.{StmtCase}
use Rattle.vdm_tree.specs.StmtView.{boxed_stmt, maybe_stmt, stmt_view}
use Rattle.node_meaning.specs.Envs.{Locals}
use Rattle.node_meaning.specs.Expressions.{definitions}
use Rattle.node_meaning.specs.Tasks.{evaluated}
use Rattle.stmt_meaning.specs.Blocks.{alternatives, let_be_body}
use Rattle.stmt_meaning.specs.Flows.{stmt_within}
use Rattle.stmt_meaning.specs.Handlers.{caught_in}
use Rattle.stmt_meaning.specs.Statements.{branches_of, stmt_plan}
use Rattle.spec_table.specs.Tables.{table_spec}
use Rattle.eval_data.specs.Parts.{here_of}
use Rattle.step_data.specs.Declarations.{declared_of}
use Rattle.step_data.specs.Meetings.{cases_left}
use Rattle.step_data.specs.Parts.{branches_left, handlers_of}
use Rattle.stmt_steps.proofs.Answering.{at_these, at_counted}
use Rattle.stmt_steps.proofs.Views.{view-If, view-Cases, view-Tixe, view-LetBe, view-Def}
use Rattle.stmt_steps.proofs.statements.statement.Goals as goal

pub returns-in-If-clause-same : goal.returns-in-If-clause-same
returns-in-If-clause-same c =
    let spec = table_spec c.args.table.now in
    let here = here_of c.args.here in
    let declared = declared_of c.args.declared.now in
    let locals = c.args.locals.now.items in
    let place = c.in-If.place in
    c.if_then.ensures.same spec locals
    ∙ ap (λ (bs : List StmtBranch). branches_of here place (one_stmt_branch (boxed_view c.in-If.condition) (boxed_stmt c.in-If.body) (branches_left bs)) (maybe_stmt c.in-If.otherwise) locals) c.as_slice-in-If.ensures.value
    ∙ ap (stmt_plan spec here declared locals) (sym (view-If c.in-If.condition c.in-If.body c.in-If.elseifs c.in-If.otherwise place))
    ∙ ap (λ (s : Stmt). stmt_plan spec here declared locals (stmt_view s)) (sym c.in-If.is)

pub returns-in-Cases-clause-same : goal.returns-in-Cases-clause-same
returns-in-Cases-clause-same c =
    let spec = table_spec c.args.table.now in
    let here = here_of c.args.here in
    let declared = declared_of c.args.declared.now in
    let locals = c.args.locals.now.items in
    let place = c.in-Cases.place in
    let count : c.len-in-Cases.result ≡ length locals = omega (arith, c.len-in-Cases.ensures, c.args.locals.now.ok.0) in
    c.cases_of.ensures.same spec locals
    ∙ ap (λ (cs : List StmtCase). evaluated here locals (boxed_view c.in-Cases.subject) place (alternatives spec here place c.len-in-Cases.result (cases_left cs) (maybe_stmt c.in-Cases.others))) c.as_slice-in-Cases.ensures.value
    ∙ ap (λ (n : ℕ). evaluated here locals (boxed_view c.in-Cases.subject) place (alternatives spec here place n (cases_left c.in-Cases.cases.items) (maybe_stmt c.in-Cases.others))) count
    ∙ ap (stmt_plan spec here declared locals) (sym (view-Cases c.in-Cases.subject c.in-Cases.cases c.in-Cases.others place))
    ∙ ap (λ (s : Stmt). stmt_plan spec here declared locals (stmt_view s)) (sym c.in-Cases.is)

pub returns-in-Tixe-clause-same : goal.returns-in-Tixe-clause-same
returns-in-Tixe-clause-same c =
    let spec = table_spec c.args.table.now in
    let here = here_of c.args.here in
    let declared = declared_of c.args.declared.now in
    let locals = c.args.locals.now.items in
    let place = c.in-Tixe.place in
    let count : c.len-in-Tixe.result ≡ length locals = omega (arith, c.len-in-Tixe.ensures, c.args.locals.now.ok.0) in
    c.tixe.ensures.same spec locals count
    ∙ ap (λ (hs : List Handler). caught_in spec here place (handlers_of hs) (boxed_stmt c.in-Tixe.body) locals) c.as_slice-in-Tixe.ensures.value
    ∙ ap (stmt_plan spec here declared locals) (sym (view-Tixe c.in-Tixe.handlers c.in-Tixe.body place))
    ∙ ap (λ (s : Stmt). stmt_plan spec here declared locals (stmt_view s)) (sym c.in-Tixe.is)

pub returns-in-LetBe-clause-same : goal.returns-in-LetBe-clause-same
returns-in-LetBe-clause-same c =
    let spec = table_spec c.args.table.now in
    let here = here_of c.args.here in
    let declared = declared_of c.args.declared.now in
    let locals = c.args.locals.now.items in
    let place = c.in-LetBe.place in
    let count : c.len-in-LetBe.result ≡ length locals = omega (arith, c.len-in-LetBe.ensures, c.args.locals.now.ok.0) in
    at_counted spec locals c.let_be.result c.len-in-LetBe.result
    (λ (s : SpecTree) (l : Locals). let_be_body s here place (bind_view c.in-LetBe.bind.value) (option_map boxed_view c.in-LetBe.condition) (boxed_stmt c.in-LetBe.body) l) _
    c.let_be.ensures.same count
    (ap (stmt_plan spec here declared locals) (sym (view-LetBe c.in-LetBe.bind c.in-LetBe.condition c.in-LetBe.body place))
    ∙ ap (λ (s : Stmt). stmt_plan spec here declared locals (stmt_view s)) (sym c.in-LetBe.is))

pub returns-in-Def-clause-same : goal.returns-in-Def-clause-same
returns-in-Def-clause-same c =
    let spec = table_spec c.args.table.now in
    let here = here_of c.args.here in
    let declared = declared_of c.args.declared.now in
    let locals = c.args.locals.now.items in
    let place = c.in-Def.place in
    let count : c.len-in-Def.result ≡ length locals = omega (arith, c.len-in-Def.ensures, c.args.locals.now.ok.0) in
    let trees = one_defined (pattern_view c.in-Def.pattern.value) None (boxed_view c.in-Def.value) no_defined in
    at_these spec locals c.only_definition.result
    (λ (s : SpecTree) (l : Locals). definitions s here place trees (stmt_within here c.len-in-Def.result (boxed_stmt c.in-Def.body)) l) _
    c.only_definition.ensures.same
    (ap (λ (n : ℕ). definitions spec here place trees (stmt_within here n (boxed_stmt c.in-Def.body)) locals) count
    ∙ ap (stmt_plan spec here declared locals) (sym (view-Def c.in-Def.pattern c.in-Def.value c.in-Def.body place))
    ∙ ap (λ (s : Stmt). stmt_plan spec here declared locals (stmt_view s)) (sym c.in-Def.is))
