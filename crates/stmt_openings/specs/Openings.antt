-- What was read of a statement before the first statement in it.
use Rattle.std.specs.Prelude.{◌≡◌, List, map, Option, Some, None, option_map, Result, Err, IfOk, Box}
use Rattle.vdm_kinds.specs.declared.halt.Halt.{Halt}
use Rattle.vdm_kinds.specs.declared.halt.Halt.TheVariants.{Of}
use Rattle.vdm_kinds.specs.declared.place.Place.{Place}
use Rattle.abstract_syntax.specs.Statements.{StmtTree, MaybeStmt, StmtBranches, block, let_then, let_be_then, def_then, if_then, cases_then, while_do, for_numbers, for_set, for_sequence, trap_exit, trap_exits, always_after, in_parallel}
use Rattle.grammar_words.specs.declared.word.Word.TheVariants as word_is
use Rattle.grammar_words.specs.Tokens.{Token}
use Rattle.expr_tree.specs.View.{boxed_view, pattern_view, bind_view, defined_view, defined_trees}
use Rattle.vdm_tree.specs.StmtView.{boxed_stmt, dcl_view}
use Rattle.stmt_reading.specs.Leaves.{Read, onto, list_in, word_in}
use Rattle.stmt_reading.specs.Statements.{CasesRead, Handler, branches_in, cases_in, else_in, handler_in, handlers_tree, in_body, stmts_tree}
use Rattle.leaf_reader.specs.declared.no_tree.NoTree.{NoTree}
use Rattle.stmt_openings.specs.Between.{stmts_in, two_in}
use Rattle.stmt_openings.specs.declared.header.Header.{Header}
use Rattle.stmt_openings.specs.declared.header.Header.TheVariants as header
use Rattle.stmt_openings.specs.declared.opening.Opening.{Opening}
use Rattle.stmt_openings.specs.declared.opening.Opening.TheVariants as opening

-- the statement of a header and its body
abbrev pub made_by : Header → StmtTree → StmtTree
made_by (header.Let definitions place) s = let_then (defined_trees (map defined_view definitions.items)) s place
made_by (header.LetBe bind condition place) s = let_be_then (bind_view bind.value) (option_map boxed_view condition) s place
made_by (header.Def pattern value place) s = def_then (pattern_view pattern.value) (boxed_view value) s place
made_by (header.While condition place) s = while_do (boxed_view condition) s place
made_by (header.Numbers name first last step place) s =
    for_numbers name.name name.place (boxed_view first) (boxed_view last) (option_map boxed_view step) s place
made_by (header.Set pattern set place) s = for_set (pattern_view pattern.value) (boxed_view set) s place
made_by (header.Sequence pattern sequence place) s = for_sequence (pattern_view pattern.value) (boxed_view sequence) s place

-- the statement that begins so, where this reads the statements in it
abbrev pub opened : (List Token → Read StmtTree) → Opening → List Token → Read StmtTree
opened one (opening.Whole s) tokens = Some (boxed_stmt s, tokens)
opened one (opening.Body h) tokens = onto (one tokens) (λ (s : StmtTree) (rest : List Token). Some (made_by h s, rest))
opened one (opening.Block turns locals place) tokens =
    onto (stmts_in one turns tokens) (λ (ss : List StmtTree) (a : List Token). Some (block (map dcl_view locals.items) (stmts_tree ss) place, a))
opened one (opening.If turns condition place) tokens =
    onto (one tokens) (λ (s : StmtTree) (a : List Token).
    onto (branches_in one turns a) (λ (elseifs : StmtBranches) (b : List Token).
    onto (else_in one b) (λ (otherwise : MaybeStmt) (c : List Token). Some (if_then (boxed_view condition) s elseifs otherwise place, c))))
opened one (opening.Cases turns subject place) tokens =
    onto (cases_in one turns tokens) (λ (found : CasesRead) (a : List Token). Some (cases_then (boxed_view subject) found.0 found.1 place, a))
opened one (opening.Trap pattern place) tokens =
    onto (two_in one tokens) (λ (both : StmtTree × StmtTree) (a : List Token). Some (trap_exit (pattern_view pattern.value) both.0 both.1 place, a))
opened one (opening.Tixe place) tokens =
    onto (list_in word_is.Comma (handler_in one) tokens) (λ (traps : List Handler) (a : List Token).
    onto (word_in word_is.CloseCurly a) (λ (close : Place) (b : List Token).
    in_body one (λ (s : StmtTree). trap_exits (handlers_tree traps) s place) b))
opened one (opening.Always place) tokens =
    onto (two_in one tokens) (λ (both : StmtTree × StmtTree) (a : List Token). Some (always_after both.0 both.1 place, a))
opened one (opening.Parallel place) tokens =
    onto (list_in word_is.Comma one tokens) (λ (found : List StmtTree) (a : List Token).
    onto (word_in word_is.CloseRound a) (λ (close : Place) (b : List Token). Some (in_parallel (stmts_tree found) place, b)))

-- what a call gives begins what is read, with these tokens left, and it refuses the tokens only where nothing is read
pub record Opens (result : Result Opening (Halt NoTree)) (one : List Token → Read StmtTree) (read : Read StmtTree) (rest : List Token) : Type 0 where
  pub given : IfOk result (λ found. read ≡ opened one found rest)
  pub refused : result ≡ Err (Of (record {})) → read ≡ None
