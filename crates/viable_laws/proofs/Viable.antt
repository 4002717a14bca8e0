-- The tokens of each statement are viable, and nothing more has to come behind them.
use Rattle.std.proofs.Common.{◌≡◌, Bool, true, false, ◌||◌, List, [], ◌∷◌, refl, ap}
use Rattle.std.specs.List.{list_any}
use Rattle.abstract_syntax.specs.Statements.{StmtTree, StmtTrees, MaybeStmt, StmtBranches, StmtCases, HandlerTrees, block, assign, assign_together, call, returns, exits, let_then, let_be_then, def_then, if_then, cases_then, while_do, for_numbers, for_set, for_sequence, trap_exit, trap_exits, always_after, in_parallel, start_thread, start_threads, skips, errs, no_stmts, one_stmt, no_stmt, given_stmt, no_stmt_branches, one_stmt_branch, no_stmt_cases, one_stmt_case, no_handlers, one_handler}
use Rattle.grammar_words.specs.declared.word.Word.TheVariants as word_is
use Rattle.grammar_words.specs.Tokens.{Token}
use Rattle.stmt_trees.specs.StmtGrammar.{takes_else, IsStmt, AreStmts, AreStmtBranches, IsGivenStmt, AreStmtCases, AreHandlers}
use Rattle.stmt_trees.specs.Trees.{IsStatement}
use Rattle.stmt_fronts.specs.declared.kind.Kind.TheVariants as kind
use Rattle.stmt_fronts.specs.Viable.{State, Way, ways, way_on, leads, can_take, start, no_names, IsViable}
use Rattle.stmt_fronts.specs.Fronts.{is_whole, can_end}
use Rattle.stmt_laws.proofs.Firsts.{behind_any}
use Rattle.viable_laws.proofs.EachKind.{Taken, AllTaken, GivenTaken, BranchesTaken, CasesTaken, HandlersTaken, skips_taken, errs_taken, returns_taken, exits_taken, start_taken, starts_taken, atomic_taken, assign_taken, while_taken, def_taken, let_taken, let_be_taken, for_set_taken, for_sequence_taken, for_numbers_taken, trap_taken, always_taken, parallel_taken, block_taken, if_taken, cases_taken, tixe_taken}
use Rattle.viable_laws.proofs.Calls.{call_taken}

mutual
  pub stmt_taken : (s : StmtTree) → IsStmt s → Taken s
  stmt_taken (block locals ss place) g = block_taken locals ss place g.0 g.1 (all_taken ss g.2)
  stmt_taken (assign target value place) g = assign_taken target value place g.0 g.1
  stmt_taken (assign_together xs place) g = atomic_taken xs place g.0 g.1
  stmt_taken (call application place) g = call_taken application place g
  stmt_taken (returns value place) g = returns_taken value place g
  stmt_taken (exits value place) g = exits_taken value place g
  stmt_taken (let_then ds s place) g = let_taken ds s place g.0 g.1 (stmt_taken s g.2)
  stmt_taken (let_be_then b c s place) g = let_be_taken b c s place g.0 g.1 (stmt_taken s g.2)
  stmt_taken (def_then p v s place) g = def_taken p v s place g.0 g.1 (stmt_taken s g.2)
  stmt_taken (if_then c s bs other place) g = if_taken c s bs other place g.0 g.2 g.3 (stmt_taken s g.1) (branches_taken bs other g.3) (given_taken other g.4)
  stmt_taken (cases_then e cs other place) g = cases_taken e cs other place g.0 g.1 g.2 (taken_cases cs g.2) (given_taken other g.3)
  stmt_taken (while_do c s place) g = while_taken c s place g.0 (stmt_taken s g.1)
  stmt_taken (for_numbers name name_place a b step s place) g = for_numbers_taken name name_place a b step s place g.0 g.1 g.2 (stmt_taken s g.3)
  stmt_taken (for_set p e s place) g = for_set_taken p e s place g.0 g.1 (stmt_taken s g.2)
  stmt_taken (for_sequence p e s place) g = for_sequence_taken p e s place g.0 g.1 (stmt_taken s g.2)
  stmt_taken (trap_exit p l s place) g = trap_taken p l s place g.0 (stmt_taken l g.1) (stmt_taken s g.2)
  stmt_taken (trap_exits hs s place) g = tixe_taken hs s place g.0 g.1 (handlers_taken hs g.1) (stmt_taken s g.2)
  stmt_taken (always_after l s place) g = always_taken l s place (stmt_taken l g.0) (stmt_taken s g.1)
  stmt_taken (in_parallel ss place) g = parallel_taken ss place g.0 (all_taken ss g.1)
  stmt_taken (start_thread e place) g = start_taken e place g
  stmt_taken (start_threads e place) g = starts_taken e place g
  stmt_taken (skips place) g = skips_taken place
  stmt_taken (errs place) g = errs_taken place

  all_taken : (ss : StmtTrees) → AreStmts ss → AllTaken ss
  all_taken no_stmts g = tt
  all_taken (one_stmt s ss) g = (stmt_taken s g.0, all_taken ss g.1)

  branches_taken : (bs : StmtBranches) (other : MaybeStmt) → AreStmtBranches bs other → BranchesTaken bs
  branches_taken no_stmt_branches other g = tt
  branches_taken (one_stmt_branch c s bs) other g = (stmt_taken s g.1, branches_taken bs other g.3)

  given_taken : (s : MaybeStmt) → IsGivenStmt s → GivenTaken s
  given_taken no_stmt g = tt
  given_taken (given_stmt s) g = stmt_taken s g

  taken_cases : (cs : StmtCases) → AreStmtCases cs → CasesTaken cs
  taken_cases no_stmt_cases g = tt
  taken_cases (one_stmt_case ps s cs) g = (stmt_taken s g.2, taken_cases cs g.3)

  handlers_taken : (hs : HandlerTrees) → AreHandlers hs → HandlersTaken hs
  handlers_taken no_handlers g = tt
  handlers_taken (one_handler p s hs) g = (stmt_taken s g.1, handlers_taken hs g.2)

-- ---- the laws

pub stmt-ends : (tokens : List Token) (tree : StmtTree) → IsStatement tokens tree → can_end kind.Stmt tokens ≡ true
stmt-ends tokens tree h =
    let t = (stmt_taken tree h.grammatical).taken no_names in
    let e = t.takes [] tokens [] h.spelled (behind_any (takes_else tree) word_is.TextEnd refl refl) (record { ends = refl }) in
    e.ends

-- what passes one test passes one that is always passed
or-any : (b c : Bool) → c ≡ true → (b || c) ≡ true
or-any true c e = refl
or-any false c e = e

on_first : (first other others more : Bool) → (first ≡ true → other ≡ true) → (others ≡ true → more ≡ true) → (first || others) ≡ true → (other || more) ≡ true
on_first true other others more f g e = ap (λ (b : Bool). b || more) (f refl)
on_first false other others more f g e = or-any other more (g e)

any_more : {A : Type 0} (one more : A → Bool) → ((a : A) → one a ≡ true → more a ≡ true) → (all : List A) → list_any one all ≡ true → list_any more all ≡ true
any_more one more are [] e = absurd (cc)
any_more one more are (a ∷ others) e =
    on_first (one a) (more a) (list_any one others) (list_any more others) (are a) (any_more one more are others) e

pub ends-viable : (test : State → Bool) (tokens : List Token) (state : State) → leads test tokens state ≡ true → can_take tokens state ≡ true
ends-viable test [] state e = refl
ends-viable test (t ∷ tokens) state e =
    any_more (λ (way : Way). leads test tokens (way_on way)) (λ (way : Way). can_take tokens (way_on way)) (λ way h. ends-viable test tokens (way_on way) h)
    (ways t state) e

pub stmt-viable : (tokens : List Token) (tree : StmtTree) → IsStatement tokens tree → IsViable kind.Stmt tokens
stmt-viable tokens tree h = ends-viable (λ state. is_whole state.wanted) tokens (start kind.Stmt) (stmt-ends tokens tree h)
