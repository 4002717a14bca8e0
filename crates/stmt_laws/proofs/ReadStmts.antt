-- Each statement is read as it is written, in room enough for the statements in it.
use Rattle.std.proofs.Common.{◌≡◌, ℕ, zero, suc, ◌+◌, ◌≤◌, max, true, false, List, [], ◌∷◌, map, Option, None, refl, ap, ◌∙◌, arith}
use Rattle.vdm_kinds.specs.declared.name.Name.{Name}
use Rattle.vdm_kinds.specs.declared.place.Place.{Place}
use Rattle.abstract_syntax.specs.Depth.{expr_depth, value_depth, pattern_depth, patterns_depth, defined_depth, bind_depth, greatest, dcl_depth, stmt_depth, stmts_depth, maybe_stmt_depth, stmt_branches_depth, stmt_cases_depth, handlers_depth}
use Rattle.abstract_syntax.specs.Expressions.{ExprTree, PatternTree, DefinedTrees, BindTree, bind_in, no_patterns, one_pattern, no_defined, one_defined}
use Rattle.abstract_syntax.specs.Statements.{AssignmentTree, DclTree, TargetTree, StmtTree, StmtTrees, MaybeStmt, StmtBranches, StmtCases, HandlerTrees, block, assign, assign_together, call, returns, exits, let_then, let_be_then, def_then, if_then, cases_then, while_do, for_numbers, for_set, for_sequence, trap_exit, trap_exits, always_after, in_parallel, start_thread, start_threads, skips, errs, no_stmts, one_stmt, no_stmt, given_stmt, no_stmt_branches, one_stmt_branch, no_stmt_cases, one_stmt_case, no_handlers, one_handler}
use Rattle.grammar_words.specs.declared.word.Word.{Word}
use Rattle.grammar_words.specs.declared.word.Word.TheVariants as word_is
use Rattle.grammar_words.specs.Pulls.{far_pull}
use Rattle.grammar_words.specs.Tokens.{Token, plain}
use Rattle.grammar_trees.specs.Spelling.{spelling}
use Rattle.grammar_trees.specs.Binding.{Binds}
use Rattle.grammar_fronts.specs.Operands.{expression}
use Rattle.stmt_trees.specs.Pieces.{mark, whole, Spelled}
use Rattle.stmt_trees.specs.Targets.{target_read}
use Rattle.stmt_trees.specs.StmtGrammar.{IsStmt, AreStmts, AreStmtBranches, IsGivenStmt, AreStmtCases, AreHandlers}
use Rattle.stmt_reading.specs.Leaves.{expr_in}
use Rattle.stmt_reading.specs.Statements.{stmt_in}
use Rattle.stmt_laws.specs.Ends.{ends_expr, first_word, ends_after}
use Rattle.stmt_laws.proofs.Readers.{done, last_reads, Spelled-split}
use Rattle.stmt_laws.proofs.Leaves.{expr_reads}
use Rattle.stmt_laws.proofs.Parts.{OneReads, while_reads, trap_reads, always_reads, def_reads}
use Rattle.stmt_laws.proofs.MoreParts.{bracketed_reads, start_reads}
use Rattle.stmt_laws.proofs.Choices.{BranchesReads, ElseReads, if_reads}
use Rattle.stmt_laws.proofs.Firsts.{apart, after_ends, no_operand, no_expr, tested, expr_first, keyed_reads}
use Rattle.stmt_laws.proofs.ReadSimple.{target-binds, assign-reads, call-reads, value-reads, atomic-reads, parallel-reads, stmt_list, StmtsRead}
use Rattle.stmt_laws.proofs.ReadBlocks.{begins_stmt, First, AllFirst, block-reads}
use Rattle.stmt_laws.proofs.ReadLets.{let-reads, let_be-reads, HandlersRead, tixe-reads}
use Rattle.stmt_laws.proofs.ReadCases.{CasesAreRead, GivenRead, cases-reads}
use Rattle.stmt_laws.proofs.ReadLoops.{for_set-reads, for_numbers-reads, for_sequence-reads}

-- the statement is read in room enough
pub record RoomRead (s : StmtTree) : Type 0 where
  pub reads : (room : ℕ) → stmt_depth s ≤ suc room → OneReads (stmt_in (suc room)) s

-- ---- no statement is of depth 0

deep : (s : StmtTree) → 1 ≤ stmt_depth s
deep (skips place) = omega arith
deep (errs place) = omega arith
deep _ = omega arith

pub at_room : (s : StmtTree) → RoomRead s → (room : ℕ) → stmt_depth s ≤ room → OneReads (stmt_in room) s
at_room s r zero d = let one : 1 ≤ stmt_depth s = deep s in let none : stmt_depth s ≤ 0 = d in absurd (omega arith)
at_room s r (suc room) d = r.reads room d

-- ---- parts

abbrev StmtsRoom : StmtTrees → Type 0
StmtsRoom no_stmts = Unit {0}
StmtsRoom (one_stmt s ss) = RoomRead s × StmtsRoom ss

abbrev GivenRoom : MaybeStmt → Type 0
GivenRoom no_stmt = Unit {0}
GivenRoom (given_stmt s) = RoomRead s

abbrev BranchesRoom : StmtBranches → Type 0
BranchesRoom no_stmt_branches = Unit {0}
BranchesRoom (one_stmt_branch c s bs) = RoomRead s × BranchesRoom bs

abbrev CasesRoom : StmtCases → Type 0
CasesRoom no_stmt_cases = Unit {0}
CasesRoom (one_stmt_case ps s cs) = RoomRead s × CasesRoom cs

abbrev HandlersRoom : HandlerTrees → Type 0
HandlersRoom no_handlers = Unit {0}
HandlersRoom (one_handler p s hs) = RoomRead s × HandlersRoom hs

stmts_at : (ss : StmtTrees) → StmtsRoom ss → (room : ℕ) → stmts_depth ss ≤ room → StmtsRead (stmt_in room) ss
stmts_at no_stmts r room d = tt
stmts_at (one_stmt s ss) r room d =
    let e : max (stmt_depth s) (stmts_depth ss) ≤ room = d in
    (at_room s r.0 room (omega arith), stmts_at ss r.1 room (omega arith))

given_at : (s : MaybeStmt) → GivenRoom s → (room : ℕ) → maybe_stmt_depth s ≤ room → GivenRead (stmt_in room) s
given_at no_stmt r room d = tt
given_at (given_stmt s) r room d = at_room s r room d

else_at : (s : MaybeStmt) → GivenRoom s → (room : ℕ) → maybe_stmt_depth s ≤ room → ElseReads (stmt_in room) s
else_at no_stmt r room d = tt
else_at (given_stmt s) r room d = at_room s r room d

branches_at : (bs : StmtBranches) → BranchesRoom bs → (room : ℕ) → stmt_branches_depth bs ≤ room → BranchesReads (stmt_in room) bs
branches_at no_stmt_branches r room d = tt
branches_at (one_stmt_branch c s bs) r room d =
    let e : max (max (expr_depth c) (stmt_depth s)) (stmt_branches_depth bs) ≤ room = d in
    (at_room s r.0 room (omega arith), branches_at bs r.1 room (omega arith))

cases_at : (cs : StmtCases) → CasesRoom cs → (room : ℕ) → stmt_cases_depth cs ≤ room → CasesAreRead (stmt_in room) cs
cases_at no_stmt_cases r room d = tt
cases_at (one_stmt_case ps s cs) r room d =
    let e : max (max (patterns_depth ps) (stmt_depth s)) (stmt_cases_depth cs) ≤ room = d in
    (at_room s r.0 room (omega arith), cases_at cs r.1 room (omega arith))

handlers_at : (hs : HandlerTrees) → HandlersRoom hs → (room : ℕ) → handlers_depth hs ≤ room → HandlersRead (stmt_in room) hs
handlers_at no_handlers r room d = tt
handlers_at (one_handler p s hs) r room d =
    let e : max (max (pattern_depth p) (stmt_depth s)) (handlers_depth hs) ≤ room = d in
    (at_room s r.0 room (omega arith), handlers_at hs r.1 room (omega arith))

-- ---- what a statement begins with

no_begin : (w : Word) → begins_stmt w ≡ false → expression w ≡ None
no_begin word_is.Dcl e = refl
no_begin word_is.CloseRound e = refl
no_begin word_is.Is e = refl
no_begin word_is.Periodic e = refl
no_begin _ e = absurd (cc)

first_by : (w : Word) (place : Place) (behind tokens : List Token) → begins_stmt w ≡ true → tokens ≡ plain w place ∷ behind
    → begins_stmt (first_word tokens) ≡ true
first_by w place behind tokens e h = ap (λ ts. begins_stmt (first_word ts)) h ∙ e

first_expr : (e : ExprTree) → Binds e far_pull → (tokens rest : List Token) → Spelled tokens (whole (spelling e)) rest
    → begins_stmt (first_word tokens) ≡ true
first_expr e b tokens rest h =
    tested begins_stmt (first_word tokens) (begins_stmt (first_word tokens)) refl (λ q. expr_first e b tokens rest h (no_begin (first_word tokens) q))

pub stmt_first : (s : StmtTree) → IsStmt s → First s
stmt_first (assign target value place) g =
    record {
      first = λ tokens rest h.
          let k = Spelled-split tokens (whole (spelling (target_read target))) (mark word_is.Becomes ∷ whole (spelling value)) rest h in
          first_expr (target_read target) (target-binds target g.0) tokens k.0 k.1;
    }
stmt_first (call application place) g = record { first = λ tokens rest h. first_expr application g.binds tokens rest h }
stmt_first (block locals ss place) g = record { first = λ tokens rest h. first_by word_is.OpenRound place h.0 tokens refl h.1 }
stmt_first (assign_together xs place) g = record { first = λ tokens rest h. first_by word_is.Atomic place h.0 tokens refl h.1 }
stmt_first (returns value place) g = record { first = λ tokens rest h. first_by word_is.Return place h.0 tokens refl h.1 }
stmt_first (exits value place) g = record { first = λ tokens rest h. first_by word_is.Exit place h.0 tokens refl h.1 }
stmt_first (let_then ds s place) g = record { first = λ tokens rest h. first_by word_is.Let place h.0 tokens refl h.1 }
stmt_first (let_be_then bind condition s place) g = record { first = λ tokens rest h. first_by word_is.Let place h.0 tokens refl h.1 }
stmt_first (def_then p e s place) g = record { first = λ tokens rest h. first_by word_is.Def place h.0 tokens refl h.1 }
stmt_first (if_then c s bs otherwise place) g = record { first = λ tokens rest h. first_by word_is.If place h.0 tokens refl h.1 }
stmt_first (cases_then e cs others place) g = record { first = λ tokens rest h. first_by word_is.Cases place h.0 tokens refl h.1 }
stmt_first (while_do c s place) g = record { first = λ tokens rest h. first_by word_is.While place h.0 tokens refl h.1 }
stmt_first (for_numbers n np a b step s place) g = record { first = λ tokens rest h. first_by word_is.For place h.0 tokens refl h.1 }
stmt_first (for_set p e s place) g = record { first = λ tokens rest h. first_by word_is.For place h.0 tokens refl h.1 }
stmt_first (for_sequence p e s place) g = record { first = λ tokens rest h. first_by word_is.For place h.0 tokens refl h.1 }
stmt_first (trap_exit p l s place) g = record { first = λ tokens rest h. first_by word_is.Trap place h.0 tokens refl h.1 }
stmt_first (trap_exits hs s place) g = record { first = λ tokens rest h. first_by word_is.Tixe place h.0 tokens refl h.1 }
stmt_first (always_after l s place) g = record { first = λ tokens rest h. first_by word_is.Always place h.0 tokens refl h.1 }
stmt_first (in_parallel ss place) g = record { first = λ tokens rest h. first_by word_is.DoubleBar place h.0 tokens refl h.1 }
stmt_first (start_thread e place) g = record { first = λ tokens rest h. first_by word_is.Start place h.0 tokens refl h.1 }
stmt_first (start_threads e place) g = record { first = λ tokens rest h. first_by word_is.StartList place h.0 tokens refl h.1 }
stmt_first (skips place) g = record { first = λ tokens rest h. first_by word_is.Skip place h.0 tokens refl h.1 }
stmt_first (errs place) g = record { first = λ tokens rest h. first_by word_is.Error place h.0 tokens refl h.1 }

all_first : (ss : StmtTrees) → AreStmts ss → AllFirst (stmt_list ss)
all_first no_stmts g = tt
all_first (one_stmt s ss) g = (stmt_first s g.0, all_first ss g.1)

-- ---- each kind

block_at : (ds : List DclTree) (ss : StmtTrees) (place : Place) → IsStmt (block ds ss place) → StmtsRoom ss → RoomRead (block ds ss place)
block_at ds no_stmts place g r = absurd g.1
block_at ds (one_stmt s ss) place g r =
    record {
      reads = λ room d.
          let e : max (greatest (map dcl_depth ds)) (stmts_depth (one_stmt s ss)) + 1 ≤ suc room = d in
          block-reads room ds s ss place (ends_after (block ds (one_stmt s ss) place)) (after_ends (block ds (one_stmt s ss) place)) g.0
          (stmts_at (one_stmt s ss) r room (omega arith)) (all_first (one_stmt s ss) g.2);
    }

assign_at : (t : TargetTree) (v : ExprTree) (place : Place) → IsStmt (assign t v place) → RoomRead (assign t v place)
assign_at t v place g =
    record {
      reads = λ room d. assign-reads room t v place (ends_after (assign t v place)) (no_operand (assign t v place)) g.0 g.1 g.2;
    }

call_at : (e : ExprTree) (place : Place) → IsStmt (call e place) → RoomRead (call e place)
call_at e place g =
    record {
      reads = λ room d.
          call-reads room e place (ends_after (call e place)) (no_operand (call e place)) (apart word_is.Becomes (ends_after (call e place)) refl) g;
    }

together_at : (xs : List AssignmentTree) (place : Place) → IsStmt (assign_together xs place) → RoomRead (assign_together xs place)
together_at [] place g = absurd g.0
together_at (x ∷ xs) place g =
    record {
      reads = λ room d.
          keyed_reads (plain word_is.Atomic place) (λ ts. refl) (atomic-reads x xs place (ends_after (assign_together (x ∷ xs) place)) g.1);
    }

given_value : (s : StmtTree) (w : Word) → ends_after s w ≡ true → expression w ≡ None
given_value s w e = no_expr w (after_ends s w e)

returns_at : (value : Option ExprTree) (place : Place) → IsStmt (returns value place) → RoomRead (returns value place)
returns_at value place g =
    record {
      reads = λ room d.
          keyed_reads (plain word_is.Return place) (λ ts. refl) (last_reads (λ found. returns found place)
          (value-reads value (ends_after (returns value place)) (no_operand (returns value place)) (given_value (returns value place)) g));
    }

exits_at : (value : Option ExprTree) (place : Place) → IsStmt (exits value place) → RoomRead (exits value place)
exits_at value place g =
    record {
      reads = λ room d.
          keyed_reads (plain word_is.Exit place) (λ ts. refl) (last_reads (λ found. exits found place)
          (value-reads value (ends_after (exits value place)) (no_operand (exits value place)) (given_value (exits value place)) g));
    }

let_at : (ds : DefinedTrees) (s : StmtTree) (place : Place) → IsStmt (let_then ds s place) → RoomRead s → RoomRead (let_then ds s place)
let_at no_defined s place g r = absurd g.0
let_at (one_defined p t v ds) s place g r =
    record {
      reads = λ room d.
          let e : max (defined_depth (one_defined p t v ds)) (stmt_depth s) + 1 ≤ suc room = d in
          keyed_reads (plain word_is.Let place) (λ ts. refl) (let-reads (stmt_in room) p t v ds s place g.1 (at_room s r room (omega arith)));
    }

let_be_at : (bind : BindTree) (condition : Option ExprTree) (s : StmtTree) (place : Place) → IsStmt (let_be_then bind condition s place) → RoomRead s
    → RoomRead (let_be_then bind condition s place)
let_be_at (bind_in no_patterns set) condition s place g r = absurd g.0.0
let_be_at (bind_in (one_pattern p ps) set) condition s place g r =
    record {
      reads = λ room d.
          let e : max (bind_depth (bind_in (one_pattern p ps) set)) (max (value_depth condition) (stmt_depth s)) + 1 ≤ suc room = d in
          keyed_reads (plain word_is.Let place) (λ ts. refl)
          (let_be-reads (stmt_in room) p ps set condition s place g.0.1 g.0.2 g.1 (at_room s r room (omega arith)));
    }

def_at : (p : PatternTree) (v : ExprTree) (s : StmtTree) (place : Place) → IsStmt (def_then p v s place) → RoomRead s → RoomRead (def_then p v s place)
def_at p v s place g r =
    record {
      reads = λ room d.
          let e : max (pattern_depth p) (max (expr_depth v) (stmt_depth s)) + 1 ≤ suc room = d in
          keyed_reads (plain word_is.Def place) (λ ts. refl) (def_reads (stmt_in room) p v s place g.0 g.1 (at_room s r room (omega arith)));
    }

if_at : (c : ExprTree) (s : StmtTree) (bs : StmtBranches) (otherwise : MaybeStmt) (place : Place) → IsStmt (if_then c s bs otherwise place)
    → RoomRead s → BranchesRoom bs → GivenRoom otherwise → RoomRead (if_then c s bs otherwise place)
if_at c s bs otherwise place g r q t =
    record {
      reads = λ room d.
          let e : max (max (expr_depth c) (stmt_depth s)) (max (stmt_branches_depth bs) (maybe_stmt_depth otherwise)) + 1 ≤ suc room = d in
          keyed_reads (plain word_is.If place) (λ ts. refl)
          (if_reads (stmt_in room) c s bs otherwise place g.0 g.2 g.3 (at_room s r room (omega arith)) (branches_at bs q room (omega arith))
          (else_at otherwise t room (omega arith)));
    }

cases_then_at : (v : ExprTree) (cs : StmtCases) (others : MaybeStmt) (place : Place) → IsStmt (cases_then v cs others place) → CasesRoom cs
    → GivenRoom others → RoomRead (cases_then v cs others place)
cases_then_at v no_stmt_cases others place g r t = absurd g.1
cases_then_at v (one_stmt_case ps s cs) others place g r t =
    record {
      reads = λ room d.
          let e : max (expr_depth v) (max (stmt_cases_depth (one_stmt_case ps s cs)) (maybe_stmt_depth others)) + 1 ≤ suc room = d in
          keyed_reads (plain word_is.Cases place) (λ ts. refl)
          (cases-reads (stmt_in room) v ps s cs others place (ends_after (cases_then v (one_stmt_case ps s cs) others place)) g.0 g.2
          (cases_at (one_stmt_case ps s cs) r room (omega arith)) (given_at others t room (omega arith)));
    }

while_at : (c : ExprTree) (s : StmtTree) (place : Place) → IsStmt (while_do c s place) → RoomRead s → RoomRead (while_do c s place)
while_at c s place g r =
    record {
      reads = λ room d.
          let e : max (expr_depth c) (stmt_depth s) + 1 ≤ suc room = d in
          keyed_reads (plain word_is.While place) (λ ts. refl) (while_reads (stmt_in room) c s place g.0 (at_room s r room (omega arith)));
    }

for_numbers_at : (n : Name) (np : Place) (a b : ExprTree) (step : Option ExprTree) (s : StmtTree) (place : Place)
    → IsStmt (for_numbers n np a b step s place) → RoomRead s → RoomRead (for_numbers n np a b step s place)
for_numbers_at n np a b step s place g r =
    record {
      reads = λ room d.
          let e : max (max (expr_depth a) (expr_depth b)) (max (value_depth step) (stmt_depth s)) + 1 ≤ suc room = d in
          keyed_reads (plain word_is.For place) (λ ts. refl)
          (for_numbers-reads (stmt_in room) n np a b step s place g.0 g.1 g.2 (at_room s r room (omega arith)));
    }

for_set_at : (p : PatternTree) (v : ExprTree) (s : StmtTree) (place : Place) → IsStmt (for_set p v s place) → RoomRead s → RoomRead (for_set p v s place)
for_set_at p v s place g r =
    record {
      reads = λ room d.
          let e : max (pattern_depth p) (max (expr_depth v) (stmt_depth s)) + 1 ≤ suc room = d in
          keyed_reads (plain word_is.For place) (λ ts. refl) (for_set-reads (stmt_in room) p v s place g.0 g.1 (at_room s r room (omega arith)));
    }

for_sequence_at : (p : PatternTree) (v : ExprTree) (s : StmtTree) (place : Place) → IsStmt (for_sequence p v s place) → RoomRead s
    → RoomRead (for_sequence p v s place)
for_sequence_at p v s place g r =
    record {
      reads = λ room d.
          let e : max (pattern_depth p) (max (expr_depth v) (stmt_depth s)) + 1 ≤ suc room = d in
          keyed_reads (plain word_is.For place) (λ ts. refl) (for_sequence-reads (stmt_in room) p v s place g.0 g.1 (at_room s r room (omega arith)));
    }

trap_at : (p : PatternTree) (h s : StmtTree) (place : Place) → IsStmt (trap_exit p h s place) → RoomRead h → RoomRead s → RoomRead (trap_exit p h s place)
trap_at p h s place g q r =
    record {
      reads = λ room d.
          let e : max (pattern_depth p) (max (stmt_depth h) (stmt_depth s)) + 1 ≤ suc room = d in
          keyed_reads (plain word_is.Trap place) (λ ts. refl)
          (trap_reads (stmt_in room) p h s place g.0 (at_room h q room (omega arith)) (at_room s r room (omega arith)));
    }

tixe_at : (hs : HandlerTrees) (s : StmtTree) (place : Place) → IsStmt (trap_exits hs s place) → HandlersRoom hs → RoomRead s → RoomRead (trap_exits hs s place)
tixe_at no_handlers s place g q r = absurd g.0
tixe_at (one_handler p h hs) s place g q r =
    record {
      reads = λ room d.
          let e : max (handlers_depth (one_handler p h hs)) (stmt_depth s) + 1 ≤ suc room = d in
          keyed_reads (plain word_is.Tixe place) (λ ts. refl)
          (tixe-reads (stmt_in room) p h hs s place g.1 (handlers_at (one_handler p h hs) q room (omega arith)) (at_room s r room (omega arith)));
    }

always_at : (l s : StmtTree) (place : Place) → IsStmt (always_after l s place) → RoomRead l → RoomRead s → RoomRead (always_after l s place)
always_at l s place g q r =
    record {
      reads = λ room d.
          let e : max (stmt_depth l) (stmt_depth s) + 1 ≤ suc room = d in
          keyed_reads (plain word_is.Always place) (λ ts. refl)
          (always_reads (stmt_in room) l s place (at_room l q room (omega arith)) (at_room s r room (omega arith)));
    }

parallel_at : (ss : StmtTrees) (place : Place) → IsStmt (in_parallel ss place) → StmtsRoom ss → RoomRead (in_parallel ss place)
parallel_at no_stmts place g r = absurd g.0
parallel_at (one_stmt s ss) place g r =
    record {
      reads = λ room d.
          let e : stmts_depth (one_stmt s ss) + 1 ≤ suc room = d in
          keyed_reads (plain word_is.DoubleBar place) (λ ts. refl)
          (parallel-reads (stmt_in room) s ss place (ends_after (in_parallel (one_stmt s ss) place)) (stmts_at (one_stmt s ss) r room (omega arith)));
    }

start_at : (e : ExprTree) (place : Place) → IsStmt (start_thread e place) → RoomRead (start_thread e place)
start_at e place g =
    record {
      reads = λ room d. keyed_reads (plain word_is.Start place) (λ ts. refl) (start_reads e place (ends_after (start_thread e place)) g);
    }

start_list_at : (e : ExprTree) (place : Place) → IsStmt (start_threads e place) → RoomRead (start_threads e place)
start_list_at e place g =
    record {
      reads = λ room d.
          keyed_reads (plain word_is.StartList place) (λ ts. refl)
          (bracketed_reads expr_in (λ x. start_threads x place) e (whole (spelling e)) ends_expr (ends_after (start_threads e place)) (expr_reads e g) refl);
    }

-- ---- all kinds

mutual
  pub stmt-read : (s : StmtTree) → IsStmt s → RoomRead s
  stmt-read (block ds ss place) g = block_at ds ss place g (stmts-read ss g.2)
  stmt-read (assign t v place) g = assign_at t v place g
  stmt-read (assign_together xs place) g = together_at xs place g
  stmt-read (call e place) g = call_at e place g
  stmt-read (returns value place) g = returns_at value place g
  stmt-read (exits value place) g = exits_at value place g
  stmt-read (let_then ds s place) g = let_at ds s place g (stmt-read s g.2)
  stmt-read (let_be_then bind condition s place) g = let_be_at bind condition s place g (stmt-read s g.2)
  stmt-read (def_then p e s place) g = def_at p e s place g (stmt-read s g.2)
  stmt-read (if_then c s bs otherwise place) g =
      if_at c s bs otherwise place g (stmt-read s g.1) (branches-room bs otherwise g.3) (given-room otherwise g.4)
  stmt-read (cases_then e cs others place) g = cases_then_at e cs others place g (cases-room cs g.2) (given-room others g.3)
  stmt-read (while_do c s place) g = while_at c s place g (stmt-read s g.1)
  stmt-read (for_numbers n np a b step s place) g = for_numbers_at n np a b step s place g (stmt-read s g.3)
  stmt-read (for_set p e s place) g = for_set_at p e s place g (stmt-read s g.2)
  stmt-read (for_sequence p e s place) g = for_sequence_at p e s place g (stmt-read s g.2)
  stmt-read (trap_exit p h s place) g = trap_at p h s place g (stmt-read h g.1) (stmt-read s g.2)
  stmt-read (trap_exits hs s place) g = tixe_at hs s place g (handlers-room hs g.1) (stmt-read s g.2)
  stmt-read (always_after l s place) g = always_at l s place g (stmt-read l g.0) (stmt-read s g.1)
  stmt-read (in_parallel ss place) g = parallel_at ss place g (stmts-read ss g.1)
  stmt-read (start_thread e place) g = start_at e place g
  stmt-read (start_threads e place) g = start_list_at e place g
  stmt-read (skips place) g =
      record { reads = λ room d. keyed_reads (plain word_is.Skip place) (λ ts. refl) (done (skips place) (ends_after (skips place))) }
  stmt-read (errs place) g =
      record { reads = λ room d. keyed_reads (plain word_is.Error place) (λ ts. refl) (done (errs place) (ends_after (errs place))) }

  stmts-read : (ss : StmtTrees) → AreStmts ss → StmtsRoom ss
  stmts-read no_stmts g = tt
  stmts-read (one_stmt s ss) g = (stmt-read s g.0, stmts-read ss g.1)

  given-room : (s : MaybeStmt) → IsGivenStmt s → GivenRoom s
  given-room no_stmt g = tt
  given-room (given_stmt s) g = stmt-read s g

  branches-room : (bs : StmtBranches) (otherwise : MaybeStmt) → AreStmtBranches bs otherwise → BranchesRoom bs
  branches-room no_stmt_branches otherwise g = tt
  branches-room (one_stmt_branch c s bs) otherwise g = (stmt-read s g.1, branches-room bs otherwise g.3)

  cases-room : (cs : StmtCases) → AreStmtCases cs → CasesRoom cs
  cases-room no_stmt_cases g = tt
  cases-room (one_stmt_case ps s cs) g = (stmt-read s g.2, cases-room cs g.3)

  handlers-room : (hs : HandlerTrees) → AreHandlers hs → HandlersRoom hs
  handlers-room no_handlers g = tt
  handlers-room (one_handler p s hs) g = (stmt-read s g.1, handlers-room hs g.2)
