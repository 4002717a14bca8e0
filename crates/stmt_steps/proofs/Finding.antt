-- The search of `let be`, and the statement behind it.
use Rattle.std.proofs.Common.{◌≡◌, ℕ, length, Option, Some, None, option_map, Box, Bor, Result, Ok, Err, IfOk, refl, ap, ◌∙◌}
use Rattle.std.specs.declared.alloc.Global.{Global}
use Rattle.vdm_kinds.specs.declared.halt.OutOfMemory.{OutOfMemory}
use Rattle.vdm_kinds.specs.declared.place.Place.{Place}
use Rattle.abstract_syntax.specs.Classes.{SpecTree}
use Rattle.abstract_syntax.specs.Expressions.{BindTree, no_binds, one_bind, MaybeExpr}
use Rattle.expr_tree.specs.View.{view_of, boxed_view, maybe_view}
use Rattle.expr_tree.specs.declared.expr.Expr.{Expr}
use Rattle.vdm_tree.specs.StmtView.{boxed_stmt}
use Rattle.vdm_tree.specs.declared.stmt.Stmt.{Stmt}
use Rattle.plans.specs.Plans.{part, bind}
use Rattle.node_meaning.specs.Choosing.{choosing, finds}
use Rattle.node_meaning.specs.Envs.{Locals, at}
use Rattle.node_meaning.specs.Needs.{Setting}
use Rattle.node_meaning.specs.Tasks.{expr_in, Code}
use Rattle.stmt_meaning.specs.Blocks.{maybe_condition, let_be_body}
use Rattle.stmt_meaning.specs.Flows.{unless_ended, stmt_within}
use Rattle.stmt_meaning.specs.Questions.{of_thread}
use Rattle.eval_data.specs.declared.frame.Frame.{Frame}
use Rattle.eval_data.specs.declared.here.Here.{Here}
use Rattle.eval_data.specs.Parts.{here_of}
use Rattle.eval_data.specs.Steps.{frame_then}
use Rattle.step_data.specs.declared.action.Action.{Action}
use Rattle.step_data.specs.declared.waiting.Waiting.TheVariants.{Found}
use Rattle.step_data.specs.Actions.{action_code, nested}

-- a condition that may be left out
condition-is : (condition : Option (Box Expr Global)) → maybe_view condition ≡ maybe_condition (option_map boxed_view condition)
condition-is None = refl
condition-is (Some tree) = refl

pub let_be-is : (r : Result Action OutOfMemory) (here : Here) (tree : Bor Expr) (set : Box Expr Global) (frame : Frame) (body : Bor (Box Stmt Global)) (count : ℕ) (place : Place) (b : BindTree) (condition : Option (Box Expr Global))
    → IfOk r (λ a. (spec : SpecTree) (locals : Locals) → action_code spec locals a ≡ nested spec locals here tree frame (Found here body count))
    → tree.now ≡ set.value
    → ((setting : Setting) (locals : Locals) → part (expr_in (at (here_of here) locals) (boxed_view set)) (frame_then setting frame) ≡ choosing setting.spec (here_of here) place (one_bind b no_binds) (finds (maybe_view condition)) locals)
    → IfOk r (λ a. (spec : SpecTree) (locals : Locals) → count ≡ length locals → action_code spec locals a ≡ let_be_body spec (here_of here) place b (option_map boxed_view condition) (boxed_stmt body.now) locals)
let_be-is (Ok a) here tree set frame body count place b condition fit e found = λ spec locals n.
    let meant = here_of here in
    let further = unless_ended (stmt_within meant count (boxed_stmt body.now)) in
    fit spec locals
    ∙ ap (λ (t : Expr). bind (part (expr_in (at meant locals) (view_of t)) (frame_then (of_thread spec) frame)) further) e
    ∙ ap (λ (c : Code). bind c further) (found (of_thread spec) locals)
    ∙ ap (λ (m : MaybeExpr). bind (choosing spec meant place (one_bind b no_binds) (finds m) locals) further) (condition-is condition)
    ∙ ap (λ (k : ℕ). bind (choosing spec meant place (one_bind b no_binds) (finds (maybe_condition (option_map boxed_view condition))) locals) (unless_ended (stmt_within meant k (boxed_stmt body.now)))) n
let_be-is (Err x) here tree set frame body count place b condition fit e found = tt
