-- Each kind of statement is taken where a statement is wanted, if the statements in it are.
use Rattle.std.proofs.Common.{◌≡◌, Bool, true, List, [], ◌∷◌, ◌++◌, Option, Some, None, refl, ap}
use Rattle.vdm_kinds.specs.declared.name.Name.{Name}
use Rattle.vdm_kinds.specs.declared.place.Place.{Place}
use Rattle.vdm_kinds.specs.declared.sign.Sign.TheVariants.{Equal, InSet}
use Rattle.abstract_syntax.specs.Expressions.{ExprTree, PatternTree, DefinedTrees, BindTree}
use Rattle.abstract_syntax.specs.Statements.{AssignmentTree, DclTree, TargetTree, StmtTree, StmtTrees, MaybeStmt, StmtBranches, StmtCases, HandlerTrees, block, assign, assign_together, returns, exits, let_then, let_be_then, def_then, if_then, cases_then, while_do, for_numbers, for_set, for_sequence, trap_exit, trap_exits, always_after, in_parallel, start_thread, start_threads, skips, errs, no_stmts, one_stmt, no_stmt, given_stmt, no_stmt_branches, one_stmt_branch, no_stmt_cases, one_stmt_case, no_handlers, one_handler}
use Rattle.grammar_words.specs.declared.word.Word.{Word}
use Rattle.grammar_words.specs.declared.word.Word.TheVariants as word_is
use Rattle.grammar_words.specs.Pulls.{far_pull}
use Rattle.grammar_words.specs.Tokens.{identifier, plain}
use Rattle.grammar_trees.specs.Spelling.{spelling, pattern_spelling, patterns_spelling}
use Rattle.grammar_trees.specs.Binding.{Binds, IsPattern, IsBind, AreSomeDefinitions, AreDefinitions}
use Rattle.grammar_fronts.specs.declared.wanted.Wanted.TheVariants as want
use Rattle.stmt_trees.specs.Pieces.{Piece, mark, may, whole}
use Rattle.stmt_trees.specs.Targets.{IsTarget}
use Rattle.stmt_trees.specs.StmtSpelling.{behind_word, stmt_spelling, further_stmts, stmt_branches_spelling, else_spelling, further_stmt_cases, others_spelling, further_handlers}
use Rattle.stmt_trees.specs.StmtGrammar.{takes_else, LeavesElse, IsGivenExpr, AreAssignments, AreSomeAssignments, AreDcls, AreSomeStmts, AreSomeStmtCases, AreSomeHandlers, AreStmtBranches, AreStmtCases, AreHandlers}
use Rattle.stmt_fronts.specs.declared.expected.Expected.{Expected}
use Rattle.stmt_fronts.specs.declared.expected.Expected.TheVariants.{Within, Statement, BehindStatement, Value, Otherwise, BehindCase, MoreCases, Step, MoreHandlers, MoreParallel, Do}
use Rattle.stmt_fronts.specs.Turns.{inner}
use Rattle.stmt_fronts.specs.Table.{turns}
use Rattle.stmt_fronts.specs.Viable.{Names}
use Rattle.stmt_laws.specs.Ends.{ends_expr, ends_stmt, not_else, behind_stmt, ends_after}
use Rattle.stmt_laws.proofs.Readers.{Begins, by_mark}
use Rattle.stmt_laws.proofs.Firsts.{behind_any, no_operand, no_expr, after_ends}
use Rattle.stmt_laws.proofs.Choices.{rest_begins}
use Rattle.viable_laws.proofs.Takes.{Takes, fewer, nothing, both, token, marked, left_before, left_last, same_pieces, regroup}
use Rattle.viable_laws.proofs.Leaves.{expr_taken, pattern_taken}
use Rattle.viable_laws.proofs.Instead.{in_block, statement_or_close, value, next_case, loop, may_taken, may_begin}
use Rattle.viable_laws.proofs.Parts.{fits_none, dcls_taken, assignments_taken, value_taken, assignment-pieces, assign_begun, patterns_taken, bind_taken, such_that_taken, such_that_begins, definitions_taken}

-- the statement is taken where one is wanted
pub record Taken (s : StmtTree) : Type 0 where
  pub taken : (n : Names) → Takes (stmt_spelling s) (Statement ∷ []) (ends_after s) n n

abbrev pub AllTaken : StmtTrees → Type 0
AllTaken no_stmts = Unit {0}
AllTaken (one_stmt s ss) = Taken s × AllTaken ss

abbrev pub GivenTaken : MaybeStmt → Type 0
GivenTaken no_stmt = Unit {0}
GivenTaken (given_stmt s) = Taken s

abbrev pub BranchesTaken : StmtBranches → Type 0
BranchesTaken no_stmt_branches = Unit {0}
BranchesTaken (one_stmt_branch c s bs) = Taken s × BranchesTaken bs

abbrev pub CasesTaken : StmtCases → Type 0
CasesTaken no_stmt_cases = Unit {0}
CasesTaken (one_stmt_case ps s cs) = Taken s × CasesTaken cs

abbrev pub HandlersTaken : HandlerTrees → Type 0
HandlersTaken no_handlers = Unit {0}
HandlersTaken (one_handler p s hs) = Taken s × HandlersTaken hs

-- a word that stands behind every statement
behind_one : (s : StmtTree) (w : Word) → ends_stmt w ≡ true → not_else w ≡ true → ends_after s w ≡ true
behind_one s w e n = behind_any (takes_else s) w e n

-- ---- without statements in them

pub skips_taken : (place : Place) → Taken (skips place)
skips_taken place = record { taken = λ n. token (plain word_is.Skip place) [] _ _ refl refl nothing }

pub errs_taken : (place : Place) → Taken (errs place)
errs_taken place = record { taken = λ n. token (plain word_is.Error place) [] _ _ refl refl nothing }

no_value : (w : Word) → ends_stmt w ≡ true → turns Value w ≡ []
no_value w e = ap inner (no_expr w e)

pub returns_taken : (v : Option ExprTree) (place : Place) → IsGivenExpr v → Taken (returns v place)
returns_taken None place g =
    record { taken = λ n. token (plain word_is.Return place) [] _ _ refl refl (left_last refl (λ w e. no_value w (after_ends (returns None place) w e))) }
returns_taken (Some v) place g =
    record { taken = λ n. token (plain word_is.Return place) [] _ _ refl refl (fewer (no_operand (returns (Some v) place)) (value (expr_taken v g))) }

pub exits_taken : (v : Option ExprTree) (place : Place) → IsGivenExpr v → Taken (exits v place)
exits_taken None place g =
    record { taken = λ n. token (plain word_is.Exit place) [] _ _ refl refl (left_last refl (λ w e. no_value w (after_ends (exits None place) w e))) }
exits_taken (Some v) place g =
    record { taken = λ n. token (plain word_is.Exit place) [] _ _ refl refl (fewer (no_operand (exits (Some v) place)) (value (expr_taken v g))) }

pub start_taken : (e : ExprTree) (place : Place) → Binds e far_pull → Taken (start_thread e place)
start_taken e place b =
    record {
      taken = λ n. token (plain word_is.Start place) [] _ _ refl refl (marked word_is.OpenRound [] _ _ refl refl
          (both (expr_taken e b) (by_mark word_is.CloseRound refl) (marked word_is.CloseRound [] _ _ refl refl nothing)));
    }

pub starts_taken : (e : ExprTree) (place : Place) → Binds e far_pull → Taken (start_threads e place)
starts_taken e place b =
    record {
      taken = λ n. token (plain word_is.StartList place) [] _ _ refl refl (marked word_is.OpenRound [] _ _ refl refl
          (both (expr_taken e b) (by_mark word_is.CloseRound refl) (marked word_is.CloseRound [] _ _ refl refl nothing)));
    }

pub atomic_taken : (xs : List AssignmentTree) (place : Place) → AreSomeAssignments xs → AreAssignments xs → Taken (assign_together xs place)
atomic_taken [] place some g = absurd some
atomic_taken (x ∷ xs) place some g =
    record {
      taken = λ n. token (plain word_is.Atomic place) [] _ _ refl refl (marked word_is.OpenRound [] _ _ refl refl (assignments_taken x xs g));
    }

pub assign_taken : (t : TargetTree) (v : ExprTree) (place : Place) → IsTarget t → Binds v far_pull → Taken (assign t v place)
assign_taken t v place g b =
    let x : AssignmentTree = record { target = t; value = v } in
    record {
      taken = λ n. fewer (no_operand (assign t v place)) (same_pieces (assignment-pieces x) (assign_begun t (value_taken x (g, b))));
    }

-- ---- with one statement behind

pub while_taken : (c : ExprTree) (s : StmtTree) (place : Place) → Binds c far_pull → Taken s → Taken (while_do c s place)
while_taken c s place b t =
    record {
      taken = λ n. token (plain word_is.While place) [] _ _ refl refl
          (both (expr_taken c b) (by_mark word_is.Do refl) (marked word_is.Do [] _ _ refl refl (t.taken n)));
    }

pub def_taken : (p : PatternTree) (v : ExprTree) (s : StmtTree) (place : Place) → IsPattern p → Binds v far_pull → Taken s → Taken (def_then p v s place)
def_taken p v s place g b t =
    record {
      taken = λ n. token (plain word_is.Def place) [] _ _ refl refl
          (both (pattern_taken p g) (by_mark (word_is.Operator Equal) refl) (marked (word_is.Operator Equal) [] _ _ refl refl
          (both (expr_taken v b) (by_mark word_is.In refl) (marked word_is.In [] _ _ refl refl (t.taken n)))));
    }

pub let_taken : (ds : DefinedTrees) (s : StmtTree) (place : Place) → AreSomeDefinitions ds → AreDefinitions ds → Taken s → Taken (let_then ds s place)
let_taken ds s place some g t =
    record { taken = λ n. token (plain word_is.Let place) [] _ _ refl refl (definitions_taken ds some g (t.taken n)) }

pub let_be_taken : (b : BindTree) (c : Option ExprTree) (s : StmtTree) (place : Place) → IsBind b → IsGivenExpr c → Taken s → Taken (let_be_then b c s place)
let_be_taken b c s place g h t =
    record {
      taken = λ n. token (plain word_is.Let place) (_ ∷ []) _ _ refl refl
          (both (bind_taken b g) (such_that_begins c (stmt_spelling s)) (such_that_taken c h (t.taken n)));
    }

pub for_set_taken : (p : PatternTree) (e : ExprTree) (s : StmtTree) (place : Place) → IsPattern p → Binds e far_pull → Taken s → Taken (for_set p e s place)
for_set_taken p e s place g b t =
    record {
      taken = λ n. token (plain word_is.For place) [] _ _ refl refl (marked word_is.All [] _ _ refl refl
          (both (pattern_taken p g) (by_mark (word_is.Operator InSet) refl) (marked (word_is.Operator InSet) [] _ _ refl refl
          (both (expr_taken e b) (by_mark word_is.Do refl) (marked word_is.Do [] _ _ refl refl (t.taken n))))));
    }

pub for_sequence_taken : (p : PatternTree) (e : ExprTree) (s : StmtTree) (place : Place) → IsPattern p → Binds e far_pull → Taken s → Taken (for_sequence p e s place)
for_sequence_taken p e s place g b t =
    record {
      taken = λ n. token (plain word_is.For place) [] _ _ refl refl (loop
          (both (pattern_taken p g) (by_mark word_is.In refl) (marked word_is.In [] _ _ refl refl
          (both (expr_taken e b) (by_mark word_is.Do refl) (marked word_is.Do [] _ _ refl refl (t.taken n))))));
    }

step_begins : (e : Option ExprTree) (vs : List Piece) {ends : Word → Bool} → Begins (behind_word word_is.By e ++ (mark word_is.Do ∷ vs)) ends ends_expr
step_begins None vs = by_mark word_is.Do refl
step_begins (Some e) vs = by_mark word_is.By refl

step_taken : {n : Names} {vs : List Piece} {y : List Expected} {ends : Word → Bool} (e : Option ExprTree) → IsGivenExpr e → Takes vs y ends n n
    → Takes (behind_word word_is.By e ++ (mark word_is.Do ∷ vs)) (Step ∷ Do ∷ y) ends n n
step_taken None g t = left_before word_is.Do refl refl (marked word_is.Do [] _ _ refl refl t)
step_taken (Some e) g t =
    marked word_is.By [] _ _ refl refl (both (expr_taken e g) (by_mark word_is.Do refl) (marked word_is.Do [] _ _ refl refl t))

pub for_numbers_taken : (name : Name) (name_place : Place) (a b : ExprTree) (step : Option ExprTree) (s : StmtTree) (place : Place) → Binds a far_pull
    → Binds b far_pull → IsGivenExpr step → Taken s → Taken (for_numbers name name_place a b step s place)
for_numbers_taken name name_place a b step s place f g h t =
    record {
      taken = λ n. token (plain word_is.For place) [] _ _ refl refl (token (identifier name name_place) [] _ _ refl refl
          (marked (word_is.Operator Equal) [] _ _ refl refl (both (expr_taken a f) (by_mark word_is.To refl) (marked word_is.To [] _ _ refl refl
          (both (expr_taken b g) (step_begins step (stmt_spelling s)) (step_taken step h (t.taken n)))))));
    }

pub trap_taken : (p : PatternTree) (l s : StmtTree) (place : Place) → IsPattern p → Taken l → Taken s → Taken (trap_exit p l s place)
trap_taken p l s place g f t =
    record {
      taken = λ n. token (plain word_is.Trap place) [] _ _ refl refl
          (both (pattern_taken p g) (by_mark word_is.With refl) (marked word_is.With [] _ _ refl refl
          (both (f.taken n) (by_mark word_is.In (behind_one l word_is.In refl refl)) (marked word_is.In [] _ _ refl refl (t.taken n)))));
    }

pub always_taken : (l s : StmtTree) (place : Place) → Taken l → Taken s → Taken (always_after l s place)
always_taken l s place f t =
    record {
      taken = λ n. token (plain word_is.Always place) [] _ _ refl refl
          (both (f.taken n) (by_mark word_is.In (behind_one l word_is.In refl refl)) (marked word_is.In [] _ _ refl refl (t.taken n)));
    }

-- ---- several statements

parallel_begins : (s : StmtTree) (ss : StmtTrees) {ends : Word → Bool} → Begins (further_stmts word_is.Comma ss ++ (mark word_is.CloseRound ∷ [])) ends (ends_after s)
parallel_begins s no_stmts = by_mark word_is.CloseRound (behind_one s word_is.CloseRound refl refl)
parallel_begins s (one_stmt t ss) = by_mark word_is.Comma (behind_one s word_is.Comma refl refl)

further_parallel : {n : Names} {ends : Word → Bool} (ss : StmtTrees) → AllTaken ss
    → Takes (further_stmts word_is.Comma ss ++ (mark word_is.CloseRound ∷ [])) (MoreParallel ∷ Within want.CloseRound ∷ []) ends n n
further_parallel no_stmts t = left_before word_is.CloseRound refl refl (marked word_is.CloseRound [] _ _ refl refl nothing)
further_parallel {n = n} (one_stmt s ss) t =
    marked word_is.Comma [] _ _ refl refl (regroup (stmt_spelling s) _ _ (both (t.0.taken n) (parallel_begins s ss) (further_parallel ss t.1)))

pub parallel_taken : (ss : StmtTrees) (place : Place) → AreSomeStmts ss → AllTaken ss → Taken (in_parallel ss place)
parallel_taken no_stmts place some t = absurd some
parallel_taken (one_stmt s ss) place some t =
    record {
      taken = λ n. token (plain word_is.DoubleBar place) [] _ _ refl refl (marked word_is.OpenRound [] _ _ refl refl
          (regroup (stmt_spelling s) _ _ (both (t.0.taken n) (parallel_begins s ss) (further_parallel ss t.1))));
    }

abbrev closing : List Piece
closing = may word_is.Semicolon ∷ mark word_is.CloseRound ∷ []

block_begins : (s : StmtTree) (ss : StmtTrees) {ends : Word → Bool} → Begins (further_stmts word_is.Semicolon ss ++ closing) ends (ends_after s)
block_begins s no_stmts =
    may_begin word_is.Semicolon (behind_one s word_is.Semicolon refl refl) (by_mark word_is.CloseRound (behind_one s word_is.CloseRound refl refl))
block_begins s (one_stmt t ss) = by_mark word_is.Semicolon (behind_one s word_is.Semicolon refl refl)

further_in_block : {n : Names} {ends : Word → Bool} (ss : StmtTrees) → AllTaken ss
    → Takes (further_stmts word_is.Semicolon ss ++ closing) (BehindStatement ∷ []) ends n n
further_in_block no_stmts t =
    may_taken word_is.Semicolon
    (marked word_is.Semicolon [] _ _ refl refl (marked word_is.CloseRound [] _ _ refl refl nothing)) (marked word_is.CloseRound [] _ _ refl refl nothing)
further_in_block {n = n} (one_stmt s ss) t =
    marked word_is.Semicolon [] _ _ refl refl
    (statement_or_close (regroup (stmt_spelling s) _ _ (both (t.0.taken n) (block_begins s ss) (further_in_block ss t.1))))

pub block_taken : (ds : List DclTree) (ss : StmtTrees) (place : Place) → AreDcls ds → AreSomeStmts ss → AllTaken ss → Taken (block ds ss place)
block_taken ds no_stmts place g some t = absurd some
block_taken ds (one_stmt s ss) place g some t =
    record {
      taken = λ n. token (plain word_is.OpenRound place) [] _ _ refl refl (dcls_taken ds g
          (in_block (regroup (stmt_spelling s) _ _ (both (t.0.taken n) (block_begins s ss) (further_in_block ss t.1)))));
    }

-- ---- `if`

no_otherwise : (w : Word) → behind_stmt true w ≡ true → turns Otherwise w ≡ []
no_otherwise word_is.Elseif e = absurd (cc)
no_otherwise word_is.Else e = absurd (cc)
no_otherwise _ e = refl

otherwise_taken : {n : Names} (c : ExprTree) (s : StmtTree) (bs0 bs : StmtBranches) (other : MaybeStmt) (place : Place) → AreStmtBranches bs other → BranchesTaken bs
    → GivenTaken other → Takes (stmt_branches_spelling bs ++ else_spelling other) (Otherwise ∷ []) (ends_after (if_then c s bs0 other place)) n n
otherwise_taken c s bs0 no_stmt_branches no_stmt place g t o = left_last refl no_otherwise
otherwise_taken {n = n} c s bs0 no_stmt_branches (given_stmt u) place g t o = marked word_is.Else [] _ _ refl refl (o.taken n)
otherwise_taken {n = n} c s bs0 (one_stmt_branch d u bs) other place g t o =
    marked word_is.Elseif [] _ _ refl refl
    (regroup (whole (spelling d)) _ _ (both (expr_taken d g.0) (by_mark word_is.Then refl) (marked word_is.Then [] _ _ refl refl
    (regroup (stmt_spelling u) _ _ (both (t.0.taken n) (rest_begins s u bs other c place g.2) (otherwise_taken c s bs0 bs other place g.3 t.1 o))))))

pub if_taken : (c : ExprTree) (s : StmtTree) (bs : StmtBranches) (other : MaybeStmt) (place : Place) → Binds c far_pull → LeavesElse s bs other
    → AreStmtBranches bs other → Taken s → BranchesTaken bs → GivenTaken other → Taken (if_then c s bs other place)
if_taken c s bs other place b leaves g t u o =
    record {
      taken = λ n. token (plain word_is.If place) [] _ _ refl refl
          (both (expr_taken c b) (by_mark word_is.Then refl) (marked word_is.Then [] _ _ refl refl
          (both (t.taken n) (rest_begins s s bs other c place leaves) (otherwise_taken c s bs bs other place g u o))));
    }

-- ---- `cases`

others_taken : {n : Names} {ends : Word → Bool} (other : MaybeStmt) → GivenTaken other
    → Takes (others_spelling other ++ (mark word_is.End ∷ [])) (MoreCases ∷ []) ends n n
others_taken no_stmt t = marked word_is.End [] _ _ refl refl nothing
others_taken {n = n} (given_stmt s) t =
    marked word_is.Comma [] _ _ refl refl (marked word_is.Others [] _ _ refl refl (marked word_is.Arrow [] _ _ refl refl
    (both (t.taken n) (by_mark word_is.End (behind_one s word_is.End refl refl)) (marked word_is.End [] _ _ refl refl nothing))))

others_begin : (s : StmtTree) (other : MaybeStmt) {ends : Word → Bool} → Begins (others_spelling other ++ (mark word_is.End ∷ [])) ends (ends_after s)
others_begin s no_stmt = by_mark word_is.End (behind_one s word_is.End refl refl)
others_begin s (given_stmt t) = by_mark word_is.Comma (behind_one s word_is.Comma refl refl)

cases_begin : (s : StmtTree) (cs : StmtCases) (vs : List Piece) {ends : Word → Bool} → Begins vs ends (ends_after s)
    → Begins (further_stmt_cases cs ++ vs) ends (ends_after s)
cases_begin s no_stmt_cases vs b = b
cases_begin s (one_stmt_case ps t cs) vs b = by_mark word_is.Comma (behind_one s word_is.Comma refl refl)

fit_case : fits_none BehindCase
fit_case n = refl

further_cases_taken : {n : Names} {ends : Word → Bool} (cs : StmtCases) (other : MaybeStmt) → AreStmtCases cs → CasesTaken cs → GivenTaken other
    → Takes (further_stmt_cases cs ++ (others_spelling other ++ (mark word_is.End ∷ []))) (MoreCases ∷ []) ends n n
further_cases_taken no_stmt_cases other g t o = others_taken other o
further_cases_taken {n = n} (one_stmt_case ps s cs) other g t o =
    marked word_is.Comma [] _ _ refl refl (next_case
    (regroup (whole (patterns_spelling ps)) _ _
    (patterns_taken BehindCase refl fit_case ps g.0 g.1 (by_mark word_is.Arrow refl) (marked word_is.Arrow [] _ _ refl refl
    (regroup (stmt_spelling s) _ _
    (both (t.0.taken n) (cases_begin s cs _ (others_begin s other)) (further_cases_taken cs other g.3 t.1 o)))))))

pub cases_taken : (e : ExprTree) (cs : StmtCases) (other : MaybeStmt) (place : Place) → Binds e far_pull → AreSomeStmtCases cs → AreStmtCases cs → CasesTaken cs
    → GivenTaken other → Taken (cases_then e cs other place)
cases_taken e no_stmt_cases other place b some g t o = absurd some
cases_taken e (one_stmt_case ps s cs) other place b some g t o =
    record {
      taken = λ n. token (plain word_is.Cases place) [] _ _ refl refl
          (both (expr_taken e b) (by_mark word_is.Colon refl) (marked word_is.Colon [] _ _ refl refl
          (regroup (whole (patterns_spelling ps)) _ _
          (patterns_taken BehindCase refl fit_case ps g.0 g.1 (by_mark word_is.Arrow refl) (marked word_is.Arrow [] _ _ refl refl
          (regroup (stmt_spelling s) _ _
          (both (t.0.taken n) (cases_begin s cs _ (others_begin s other)) (further_cases_taken cs other g.3 t.1 o))))))));
    }

-- ---- `tixe`

handlers_begin : (l : StmtTree) (hs : HandlerTrees) (vs : List Piece) {ends : Word → Bool} → Begins (further_handlers hs ++ (mark word_is.CloseCurly ∷ vs)) ends (ends_after l)
handlers_begin l no_handlers vs = by_mark word_is.CloseCurly (behind_one l word_is.CloseCurly refl refl)
handlers_begin l (one_handler p s hs) vs = by_mark word_is.Comma (behind_one l word_is.Comma refl refl)

further_handlers_taken : {n : Names} {vs : List Piece} {y : List Expected} {ends : Word → Bool} (hs : HandlerTrees) → AreHandlers hs → HandlersTaken hs
    → Takes vs y ends n n → Takes (further_handlers hs ++ (mark word_is.CloseCurly ∷ vs)) (MoreHandlers ∷ Within want.CloseCurly ∷ y) ends n n
further_handlers_taken no_handlers g t u = left_before word_is.CloseCurly refl refl (marked word_is.CloseCurly [] _ _ refl refl u)
further_handlers_taken {n = n} {vs = vs} (one_handler p s hs) g t u =
    marked word_is.Comma [] _ _ refl refl
    (regroup (whole (pattern_spelling p)) _ _ (both (pattern_taken p g.0) (by_mark word_is.MapsTo refl) (marked word_is.MapsTo [] _ _ refl refl
    (regroup (stmt_spelling s) _ _ (both (t.0.taken n) (handlers_begin s hs vs) (further_handlers_taken hs g.2 t.1 u))))))

pub tixe_taken : (hs : HandlerTrees) (s : StmtTree) (place : Place) → AreSomeHandlers hs → AreHandlers hs → HandlersTaken hs → Taken s → Taken (trap_exits hs s place)
tixe_taken no_handlers s place some g t u = absurd some
tixe_taken (one_handler p l hs) s place some g t u =
    record {
      taken = λ n. token (plain word_is.Tixe place) [] _ _ refl refl (marked word_is.OpenCurly [] _ _ refl refl
          (regroup (whole (pattern_spelling p)) _ _ (both (pattern_taken p g.0) (by_mark word_is.MapsTo refl) (marked word_is.MapsTo [] _ _ refl refl
          (regroup (stmt_spelling l) _ _ (both (t.0.taken n) (handlers_begin l hs (mark word_is.In ∷ stmt_spelling s))
          (further_handlers_taken hs g.2 t.1 (marked word_is.In [] _ _ refl refl (u.taken n)))))))));
    }
