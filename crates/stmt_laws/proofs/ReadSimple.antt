-- Assignments, calls, values, and what stands together in brackets are read.
use Rattle.std.proofs.Common.{◌≡◌, ℕ, suc, ◌≤◌, ◌<◌, Bool, true, false, if◌then◌else◌, List, [], ◌∷◌, ◌++◌, Option, Some, None, refl, ap, sym, subst, ◌∙◌, arith}
use Rattle.std.proofs.lemmas.List.{append-nil}
use Rattle.vdm_kinds.specs.declared.place.Place.{Place}
use Rattle.abstract_syntax.specs.Expressions.{ExprTree, expr_place, named, qualified, select, apply, one_expr, no_exprs, sequence_enumeration, sequence_comprehension, cases_of}
use Rattle.abstract_syntax.specs.Statements.{TargetStepTree, TargetTree, field_of, element_at, variable, variable_of_class, target_place, AssignmentTree, StmtTree, StmtTrees, assign, assign_together, call, in_parallel, no_stmts, one_stmt}
use Rattle.grammar_words.specs.declared.word.Word.{Word}
use Rattle.grammar_words.specs.declared.word.Word.TheVariants as word_is
use Rattle.grammar_words.specs.Pulls.{far_pull, postfix_pull}
use Rattle.grammar_words.specs.Tokens.{Token, word_of}
use Rattle.grammar_trees.specs.Spelling.{spelling}
use Rattle.grammar_trees.specs.Binding.{Binds, reach}
use Rattle.grammar_fronts.specs.Operands.{expression}
use Rattle.grammar_fronts.specs.Turns.{Turn}
use Rattle.stmt_trees.specs.Pieces.{Piece, mark, whole, Spelled}
use Rattle.stmt_trees.specs.Targets.{stepped, target_read, IsTarget}
use Rattle.stmt_trees.specs.StmtSpelling.{maybe_expr, assignment_spelling, assignments_spelling, stmt_spelling, stmts_spelling, further_stmts}
use Rattle.stmt_trees.specs.StmtGrammar.{primary, IsCall, takes_else, IsGivenExpr, IsAssignment, AreAssignments}
use Rattle.stmt_reading.specs.Leaves.{Read, onto, expr_in, list_in}
use Rattle.stmt_reading.specs.Statements.{target_of, assigned, assignment_in, called, simple_in, value_in, stmts_tree, bracketed_in, stmt_in}
use Rattle.stmt_laws.specs.Ends.{ends_expr, first_word, ends_after}
use Rattle.stmt_laws.proofs.Readers.{Reads, is_other, by_mark, by_nothing, at_mark, done, may_come, left_away, last_reads, then_reads, same_reads, Spelled-split}
use Rattle.stmt_laws.proofs.Leaves.{expr_reads}
use Rattle.stmt_laws.proofs.Lists.{AllRead, Between, list-reads}
use Rattle.stmt_laws.proofs.Parts.{OneReads}
use Rattle.stmt_laws.proofs.MoreParts.{fewer_end, bracketed_reads}
use Rattle.stmt_laws.proofs.Spellings.{assignments-alike, stmts-alike}
use Rattle.stmt_laws.proofs.SoundParts.{AreSteps, begun, is_application, IsApplication, is_head, IsHead}
use Rattle.stmt_laws.proofs.Firsts.{apart, behind_any, expr_first, alone_reads, same_pieces}
use Rattle.stmt_laws.proofs.Calls.{Simple, call_simple, target_simple}

pub same_result : {A : Type 0} {p : List Token → Read A} {ws : List Piece} {a b : A} {ends : Word → Bool} → a ≡ b → Reads p ws a ends → Reads p ws b ends
same_result {p = p} {ws = ws} {ends = ends} e r = subst (λ x. Reads p ws x ends) e r

-- ---- targets

stepped-target : (steps more : List TargetStepTree) (e : ExprTree) → target_of (stepped e steps) more ≡ target_of e (steps ++ more)
stepped-target [] more e = refl
stepped-target (field_of name name_place place ∷ steps) more e = stepped-target steps more (select e name name_place place)
stepped-target (element_at index place ∷ steps) more e = stepped-target steps more (apply e (one_expr index no_exprs) place)

target-is : (t : TargetTree) → target_of (target_read t) [] ≡ Some t
target-is (variable name steps place) =
    stepped-target steps [] (named name place) ∙ ap (λ ss. Some (variable name ss place)) (append-nil steps)
target-is (variable_of_class class name name_place steps place) =
    stepped-target steps [] (qualified class name name_place place)
    ∙ ap (λ ss. Some (variable_of_class class name name_place ss place)) (append-nil steps)

stepped-binds : (steps : List TargetStepTree) (e : ExprTree) → Binds e far_pull → postfix_pull < reach e → AreSteps steps
    → Binds (stepped e steps) far_pull
stepped-binds [] e b r g = b
stepped-binds (field_of name name_place place ∷ steps) e b r g =
    let low : 1 ≤ 30 = omega arith in let high : 30 < 31 = omega arith in
    stepped-binds steps (select e name name_place place) (b, low, r) high g
stepped-binds (element_at index place ∷ steps) e b r g =
    let low : 1 ≤ 30 = omega arith in let high : 30 < 31 = omega arith in
    stepped-binds steps (apply e (one_expr index no_exprs) place) (b, low, r, (g.0, tt)) high g.1

pub target-binds : (t : TargetTree) → IsTarget t → Binds (target_read t) far_pull
target-binds (variable name steps place) g =
    let high : 30 < 31 = omega arith in stepped-binds steps (named name place) tt high g
target-binds (variable_of_class class name name_place steps place) g =
    let high : 30 < 31 = omega arith in stepped-binds steps (qualified class name name_place place) tt high g

-- ---- assignments

assigned-reads : (x : AssignmentTree) (ends : Word → Bool) → ((w : Word) → ends w ≡ true → ends_expr w ≡ true) → Binds x.value far_pull
    → Reads (λ (ts : List Token). assigned (target_of (target_read x.target) []) ts) (whole (spelling x.value)) x ends
assigned-reads x ends more b =
    same_reads (λ ts. ap (λ t. assigned t ts) (target-is x.target))
    (last_reads (λ value. record { target = x.target; value = value }) (fewer_end more (expr_reads x.value b)))

assignment-reads : (x : AssignmentTree) → IsAssignment x → Reads assignment_in (assignment_spelling x) x ends_expr
assignment-reads x g =
    then_reads _ (expr_reads (target_read x.target) (target-binds x.target g.0)) (by_mark word_is.Becomes refl)
    (at_mark word_is.Becomes _ refl (λ place. assigned-reads x ends_expr (λ w e. e) g.1))

assign-simple : (x : AssignmentTree) (ends : Word → Bool) → ((w : Word) → ends w ≡ true → ends_expr w ≡ true) → IsAssignment x
    → Reads simple_in (assignment_spelling x) (assign x.target x.value (target_place x.target)) ends
assign-simple x ends more g =
    then_reads _ (expr_reads (target_read x.target) (target-binds x.target g.0)) (by_mark word_is.Becomes refl)
    (may_come word_is.Becomes _ _ refl (λ place. last_reads (λ y. assign y.target y.value (target_place y.target)) (assigned-reads x ends more g.1)))

-- in whatever room
simple-reads : {ws : List Piece} {s : StmtTree} {ends : Word → Bool} (room : ℕ)
    → ((tokens rest : List Token) → Spelled tokens ws rest → Simple tokens) → Reads simple_in ws s ends → Reads (stmt_in (suc room)) ws s ends
simple-reads room so r = record { reads = λ tokens rest h e. (so tokens rest h).simple room ∙ r.reads tokens rest h e }

pub assign-reads : (room : ℕ) (t : TargetTree) (v : ExprTree) (place : Place) (ends : Word → Bool)
    → ((w : Word) → ends w ≡ true → ends_expr w ≡ true) → IsTarget t → Binds v far_pull → place ≡ target_place t
    → Reads (stmt_in (suc room)) (whole (spelling (target_read t)) ++ (mark word_is.Becomes ∷ whole (spelling v))) (assign t v place) ends
assign-reads room t v place ends more g b at_place =
    simple-reads room (λ tokens rest h.
    let k = Spelled-split tokens (whole (spelling (target_read t))) (mark word_is.Becomes ∷ whole (spelling v)) rest h in
    (target_simple t).all tokens k.0 k.1)
    (same_result (ap (λ p. assign t v p) (sym at_place)) (assign-simple (record { target = t; value = v }) ends more (g, b)))

-- ---- calls

is_applied : (e : ExprTree) → IsApplication e → is_application e ≡ true
is_applied (apply head arguments place) h = refl
is_applied _ h = absurd h

is_headed : (e : ExprTree) → IsHead e → is_head e ≡ true
is_headed (sequence_enumeration items place) h = absurd h
is_headed (sequence_comprehension item pattern set condition place) h = absurd h
is_headed (cases_of subject cases others place) h = absurd h
is_headed _ h = refl

called-reads : (e : ExprTree) (place : Place) (ends : Word → Bool) → IsCall e place → Reads (λ (ts : List Token). called e ts) [] (call e place) ends
called-reads e place ends c =
    same_result (ap (λ p. call e p) (sym c.begins)) (same_reads (λ ts.
    ap (λ (b : Bool). if b then if is_head (primary e) then Some (call e (expr_place (primary e)), ts) else None else None) (is_applied e c.applies)
    ∙ ap (λ (b : Bool). if b then Some (call e (expr_place (primary e)), ts) else None) (is_headed (primary e) c.head))
    (done (call e (expr_place (primary e))) ends))

pub call-reads : (room : ℕ) (e : ExprTree) (place : Place) (ends : Word → Bool) → ((w : Word) → ends w ≡ true → ends_expr w ≡ true)
    → ((w : Word) → ends w ≡ true → is_other word_is.Becomes w ≡ true) → IsCall e place
    → Reads (stmt_in (suc room)) (whole (spelling e)) (call e place) ends
call-reads room e place ends more other c =
    simple-reads room (call_simple e place c)
    (alone_reads _ (expr_reads e c.binds) more
    (left_away word_is.Becomes _ (λ ts. called e ts) (by_nothing other) (called-reads e place ends c)))

-- ---- values

begun_nothing : (tokens : List Token) → expression (first_word tokens) ≡ None → value_in tokens ≡ Some (None, tokens)
begun_nothing [] e = refl
begun_nothing (t ∷ ts) e = ap (λ turn. begun turn (t ∷ ts)) e

begun_turn : (t : Token) (ts rest : List Token) (e : ExprTree) (turn : Option Turn) → expression (word_of t) ≡ turn
    → (expression (word_of t) ≡ None → ⊥) → expr_in (t ∷ ts) ≡ Some (e, rest) → begun turn (t ∷ ts) ≡ Some (Some e, rest)
begun_turn t ts rest e None q some h = absurd (some q)
begun_turn t ts rest e (Some turn) q some h = ap (λ o. onto o (λ x more. Some (Some x, more))) h

begun_something : (tokens rest : List Token) (e : ExprTree) → (expression (first_word tokens) ≡ None → ⊥) → expr_in tokens ≡ Some (e, rest)
    → value_in tokens ≡ Some (Some e, rest)
begun_something [] rest e some h = absurd (some refl)
begun_something (t ∷ ts) rest e some h = begun_turn t ts rest e (expression (word_of t)) refl some h

pub value-reads : (value : Option ExprTree) (ends : Word → Bool) → ((w : Word) → ends w ≡ true → ends_expr w ≡ true)
    → ((w : Word) → ends w ≡ true → expression w ≡ None) → IsGivenExpr value → Reads value_in (maybe_expr value) value ends
value-reads None ends more none g =
    record { reads = λ tokens rest h e. ap value_in h ∙ begun_nothing rest (none (first_word rest) e) }
value-reads (Some e) ends more none g =
    record {
      reads = λ tokens rest h x.
          begun_something tokens rest e (expr_first e g tokens rest h) ((expr_reads e g).reads tokens rest h (more (first_word rest) x));
    }

-- ---- what stands in brackets

abbrev pub only_close : Word → Bool
only_close word_is.CloseRound = true
only_close _ = false

close_ends : (w : Word) → only_close w ≡ true → ends_expr w ≡ true
close_ends word_is.CloseRound e = refl
close_ends _ e = absurd (cc)

close_after : (s : StmtTree) (w : Word) → only_close w ≡ true → ends_after s w ≡ true
close_after s word_is.CloseRound e = behind_any (takes_else s) word_is.CloseRound refl refl
close_after s _ e = absurd (cc)

all_assignments : (xs : List AssignmentTree) → AreAssignments xs → AllRead assignment_in assignment_spelling (λ (x : AssignmentTree). ends_expr) xs
all_assignments [] g = tt
all_assignments (x ∷ xs) g = (assignment-reads x g.0, all_assignments xs g.1)

between_assignments : Between word_is.Semicolon (λ (x : AssignmentTree). ends_expr) only_close
between_assignments =
    record { known = refl; next = λ x. refl; last = λ x w e. close_ends w e; other = apart word_is.Semicolon only_close refl }

pub atomic-reads : (x : AssignmentTree) (xs : List AssignmentTree) (place : Place) (ends : Word → Bool) → AreAssignments (x ∷ xs)
    → Reads (bracketed_in (list_in word_is.Semicolon assignment_in) (λ (found : List AssignmentTree). assign_together found place))
    (mark word_is.OpenRound ∷ (assignments_spelling (x ∷ xs) ++ (mark word_is.CloseRound ∷ []))) (assign_together (x ∷ xs) place) ends
atomic-reads x xs place ends g =
    bracketed_reads (list_in word_is.Semicolon assignment_in) (λ found. assign_together found place) (x ∷ xs) (assignments_spelling (x ∷ xs))
    only_close ends
    (same_pieces (ap (λ more. assignment_spelling x ++ more) (assignments-alike xs))
    (list-reads word_is.Semicolon assignment_in assignment_spelling (λ y. ends_expr) only_close between_assignments x xs (all_assignments (x ∷ xs) g))) refl

-- ---- lists of statements

abbrev pub stmt_list : StmtTrees → List StmtTree
stmt_list no_stmts = []
stmt_list (one_stmt s ss) = s ∷ stmt_list ss

pub stmts-back : (ss : StmtTrees) → stmts_tree (stmt_list ss) ≡ ss
stmts-back no_stmts = refl
stmts-back (one_stmt s ss) = ap (λ more. one_stmt s more) (stmts-back ss)

abbrev pub StmtsRead : (List Token → Read StmtTree) → StmtTrees → Type 0
StmtsRead one no_stmts = Unit {0}
StmtsRead one (one_stmt s ss) = OneReads one s × StmtsRead one ss

pub all_stmts : (one : List Token → Read StmtTree) (ss : StmtTrees) → StmtsRead one ss
    → AllRead one stmt_spelling (λ (s : StmtTree). ends_after s) (stmt_list ss)
all_stmts one no_stmts r = tt
all_stmts one (one_stmt s ss) r = (r.0, all_stmts one ss r.1)

between_stmts : Between word_is.Comma (λ (s : StmtTree). ends_after s) only_close
between_stmts =
    record {
      known = refl;
      next = λ s. behind_any (takes_else s) word_is.Comma refl refl;
      last = λ s w e. close_after s w e;
      other = apart word_is.Comma only_close refl;
    }

pub parallel-reads : (one : List Token → Read StmtTree) (s : StmtTree) (ss : StmtTrees) (place : Place) (ends : Word → Bool)
    → StmtsRead one (one_stmt s ss)
    → Reads (bracketed_in (list_in word_is.Comma one) (λ (found : List StmtTree). in_parallel (stmts_tree found) place))
    (mark word_is.OpenRound ∷ (stmts_spelling word_is.Comma (one_stmt s ss) ++ (mark word_is.CloseRound ∷ [])))
    (in_parallel (one_stmt s ss) place) ends
parallel-reads one s ss place ends r =
    same_result (ap (λ more. in_parallel (one_stmt s more) place) (stmts-back ss))
    (bracketed_reads (list_in word_is.Comma one) (λ found. in_parallel (stmts_tree found) place) (s ∷ stmt_list ss)
    (stmts_spelling word_is.Comma (one_stmt s ss)) only_close ends
    (same_pieces (ap (λ more. stmt_spelling s ++ more)
    (stmts-alike word_is.Comma (stmt_list ss) ∙ ap (λ more. further_stmts word_is.Comma more) (stmts-back ss)))
    (list-reads word_is.Comma one stmt_spelling (λ x. ends_after x) only_close between_stmts s (stmt_list ss) (all_stmts one (one_stmt s ss) r))) refl)
