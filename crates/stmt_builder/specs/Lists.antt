-- Lists of statements and of what has statements, as they are read one by one.
use Rattle.std.specs.Prelude.{ℕ, List, [], ◌∷◌, ◌++◌, map, Some, Vec}
use Rattle.vdm_kinds.specs.declared.place.Place.{Place}
use Rattle.abstract_syntax.specs.Expressions.{ExprTree, PatternTrees}
use Rattle.abstract_syntax.specs.Statements.{StmtTree, MaybeStmt, StmtBranches, StmtCases, if_then, trap_exits, one_stmt_branch, one_stmt_case}
use Rattle.grammar_words.specs.declared.word.Word.TheVariants as word_is
use Rattle.grammar_words.specs.Tokens.{Token}
use Rattle.expr_tree.specs.View.{pattern_trees}
use Rattle.vdm_tree.specs.declared.stmt.Stmt.{Stmt}
use Rattle.vdm_tree.specs.declared.stmt.StmtBranch.{StmtBranch}
use Rattle.vdm_tree.specs.declared.stmt.StmtCase.{StmtCase}
use Rattle.vdm_tree.specs.declared.stmt.Handler.{Handler as HandlerOf}
use Rattle.vdm_tree.specs.StmtView.{boxed_stmt, handler_view, maybe_stmt, stmt_branch_trees, stmt_branch_view, stmt_case_trees, stmt_case_view, stmt_views}
use Rattle.stmt_reading.specs.Leaves.{Read, onto, list_in, word_in}
use Rattle.stmt_reading.specs.Statements.{CasesRead, Handler, branches_in, else_in, handler_in, handlers_tree, in_body}
use Rattle.stmt_openings.specs.Between.{behind_case_in, case_in}
use Rattle.stmt_openings.specs.declared.between.AfterCase.{AfterCase}
use Rattle.stmt_builder.specs.declared.found.Cases.{Cases}
use Rattle.stmt_builder.specs.declared.found.Two.{Two}

abbrev pub stmts_view : {A : Type 0} → Vec Stmt A → List StmtTree
stmts_view statements = stmt_views statements.items

abbrev pub two_view : Two → StmtTree × StmtTree
two_view both = (boxed_stmt both.first, boxed_stmt both.second)

-- ---- `elseif`

abbrev pub BranchRow : Type 0
BranchRow = ExprTree × StmtTree

abbrev pub branch_row : StmtBranch → BranchRow
branch_row b = ((stmt_branch_view b).condition, (stmt_branch_view b).body)

abbrev pub branch_rows : {A : Type 0} → Vec StmtBranch A → List BranchRow
branch_rows branches = map branch_row branches.items

abbrev pub branches_view : {A : Type 0} → Vec StmtBranch A → StmtBranches
branches_view branches = stmt_branch_trees (map stmt_branch_view branches.items)

-- these before others
abbrev pub branches_before : List BranchRow → StmtBranches → StmtBranches
branches_before [] others = others
branches_before (b ∷ bs) others = one_stmt_branch b.0 b.1 (branches_before bs others)

abbrev pub branches_on : List BranchRow → Read StmtBranches → Read StmtBranches
branches_on first read = onto read (λ (others : StmtBranches) (rest : List Token). Some (branches_before first others, rest))

-- what stands behind `if c then`
abbrev pub if_behind : (List Token → Read StmtTree) → ℕ → ExprTree → Place → List Token → Read StmtTree
if_behind one turns condition place tokens =
    onto (one tokens) (λ (s : StmtTree) (a : List Token).
    onto (branches_in one turns a) (λ (elseifs : StmtBranches) (b : List Token).
    onto (else_in one b) (λ (otherwise : MaybeStmt) (c : List Token). Some (if_then condition s elseifs otherwise place, c))))

-- ---- `cases`

abbrev pub CaseRow : Type 0
CaseRow = PatternTrees × StmtTree

abbrev pub case_row : StmtCase → CaseRow
case_row c = (pattern_trees (stmt_case_view c).patterns, (stmt_case_view c).body)

abbrev pub case_rows : {A : Type 0} → Vec StmtCase A → List CaseRow
case_rows cases = map case_row cases.items

abbrev pub cases_view : Cases → CasesRead
cases_view found = (stmt_case_trees (map stmt_case_view found.cases.items), maybe_stmt found.others)

abbrev pub cases_before : List CaseRow → StmtCases → StmtCases
cases_before [] others = others
cases_before (c ∷ cs) others = one_stmt_case c.0 c.1 (cases_before cs others)

abbrev pub cases_on : List CaseRow → Read CasesRead → Read CasesRead
cases_on first read = onto read (λ (found : CasesRead) (rest : List Token). Some ((cases_before first found.0, found.1), rest))

-- an alternative, and what stands behind it
abbrev pub alternative_in : (List Token → Read StmtTree) → List Token → Read (CaseRow × AfterCase)
alternative_in one tokens =
    onto (case_in tokens) (λ (ps : PatternTrees) (a : List Token).
    onto (one a) (λ (s : StmtTree) (b : List Token).
    onto (behind_case_in b) (λ (after : AfterCase) (c : List Token). Some (((ps, s), after), c))))

abbrev pub case_added : List CaseRow → Read (CaseRow × AfterCase) → Read (List CaseRow × AfterCase)
case_added first read = onto read (λ (found : CaseRow × AfterCase) (rest : List Token). Some ((first ++ found.0 ∷ [], found.1), rest))

-- what stands behind `others ->`
abbrev pub last_in : (List Token → Read StmtTree) → List Token → Read StmtTree
last_in one tokens =
    onto (one tokens) (λ (s : StmtTree) (a : List Token). onto (word_in word_is.End a) (λ (end : Place) (b : List Token). Some (s, b)))

-- ---- `tixe`

abbrev pub handler_row : HandlerOf → Handler
handler_row h = ((handler_view h).pattern, (handler_view h).body)

abbrev pub handlers_view : {A : Type 0} → Vec HandlerOf A → List Handler
handlers_view handlers = map handler_row handlers.items

-- what stands behind `tixe {`
abbrev pub tixe_behind : (List Token → Read StmtTree) → Place → List Token → Read StmtTree
tixe_behind one place tokens =
    onto (list_in word_is.Comma (handler_in one) tokens) (λ (traps : List Handler) (a : List Token).
    onto (word_in word_is.CloseCurly a) (λ (close : Place) (b : List Token).
    in_body one (λ (s : StmtTree). trap_exits (handlers_tree traps) s place) b))
