-- Round brackets of statements come in pairs: what stands behind the bracket that closes a block is what the block leaves.
use Rattle.std.proofs.Common.{◌≡◌, ℕ, zero, suc, Bool, true, false, List, [], ◌∷◌, ◌++◌, Option, Some, None, refl, ap, sym, subst, ◌∙◌, arith}
use Rattle.std.specs.Option.{option_and_then}
use Rattle.std.specs.List.{Contains}
use Rattle.abstract_syntax.specs.Expressions.{ExprTree}
use Rattle.abstract_syntax.specs.Statements.{AssignmentTree, LocalTree, DclTree, StmtTree, StmtTrees, MaybeStmt, StmtBranches, StmtCases, HandlerTrees, block, assign, assign_together, call, returns, exits, let_then, let_be_then, def_then, if_then, cases_then, while_do, for_numbers, for_set, for_sequence, trap_exit, trap_exits, always_after, in_parallel, start_thread, start_threads, skips, errs, no_stmts, one_stmt, no_stmt, given_stmt, no_stmt_branches, one_stmt_branch, no_stmt_cases, one_stmt_case, no_handlers, one_handler}
use Rattle.grammar_words.specs.declared.word.Word.{Word}
use Rattle.grammar_words.specs.declared.word.Word.TheVariants as word_is
use Rattle.grammar_words.specs.Tokens.{Token, identifier, quote, whole as whole_token, character, text, make_named, is_named, plain, word_of}
use Rattle.grammar_words.specs.Written.{Written, at, word, number}
use Rattle.front_laws.proofs.Passing.{written_word}
use Rattle.stmt_trees.specs.Pieces.{Piece, must, mark, may, whole, IsFirst, Begin, Spelled}
use Rattle.stmt_trees.specs.Targets.{target_read}
use Rattle.stmt_trees.specs.StmtSpelling.{maybe_expr, behind_word, such_that, assignment_spelling, further_assignments, assignments_spelling, local_spelling, further_locals, locals_spelling, dcls_spelling, stmt_spelling, stmts_spelling, further_stmts, stmt_branches_spelling, else_spelling, stmt_cases_spelling, further_stmt_cases, others_spelling, handlers_spelling, further_handlers}
use Rattle.stmt_reading.specs.Statements.{behind_bracket}
use Rattle.stmt_laws.proofs.Readers.{Spelled-split}
use Rattle.stmt_laws.proofs.Even.{over, pass, Even, type-even, expr-even, pattern-even, patterns-even, definitions-even, bind-even}

-- ---- words

same_number : (a b : ℕ) → Some a ≡ Some b → a ≡ b
same_number a b e = cc

pub behind_token : (t : Token) (tokens : List Token) (k m : ℕ) → over (word_of t) k ≡ Some m → behind_bracket k (t ∷ tokens) ≡ behind_bracket m tokens
behind_token (plain word_is.OpenRound place) tokens k m e = ap (λ n. behind_bracket n tokens) (same_number (suc k) m e)
behind_token (plain word_is.CloseRound place) tokens zero m e = absurd (cc)
behind_token (plain word_is.CloseRound place) tokens (suc k) m e = ap (λ n. behind_bracket n tokens) (same_number k m e)
behind_token (plain _ place) tokens k m e = ap (λ n. behind_bracket n tokens) (same_number k m e)
behind_token (identifier n p) tokens k m e = ap (λ n. behind_bracket n tokens) (same_number k m e)
behind_token (quote n p) tokens k m e = ap (λ n. behind_bracket n tokens) (same_number k m e)
behind_token (whole_token n p) tokens k m e = ap (λ n. behind_bracket n tokens) (same_number k m e)
behind_token (character n p) tokens k m e = ap (λ n. behind_bracket n tokens) (same_number k m e)
behind_token (text n p) tokens k m e = ap (λ n. behind_bracket n tokens) (same_number k m e)
behind_token (make_named n p) tokens k m e = ap (λ n. behind_bracket n tokens) (same_number k m e)
behind_token (is_named n p) tokens k m e = ap (λ n. behind_bracket n tokens) (same_number k m e)

pub behind_first : (tokens middle : List Token) (w : Written) (k m : ℕ) → IsFirst tokens w middle → over (written_word w) k ≡ Some m
    → behind_bracket k tokens ≡ behind_bracket m middle
behind_first tokens middle (at kept) k m h e = ap (behind_bracket k) h ∙ behind_token kept middle k m e
behind_first tokens middle (word w) k m h e = ap (behind_bracket k) h.1 ∙ behind_token (plain w h.0) middle k m e
behind_first tokens middle (number n) k m h e = ap (behind_bracket k) h.1 ∙ behind_token (whole_token n h.0) middle k m e

written_on : (tokens middle rest : List Token) (ws : List Written) (w : Written) (k m : ℕ) (o : Option ℕ) → IsFirst tokens w middle
    → over (written_word w) k ≡ o → ((j : ℕ) → pass ws j ≡ Some m → behind_bracket j middle ≡ behind_bracket m rest)
    → option_and_then (pass ws) o ≡ Some m → behind_bracket k tokens ≡ behind_bracket m rest
written_on tokens middle rest ws w k m None h q others f = absurd (cc)
written_on tokens middle rest ws w k m (Some j) h q others f = behind_first tokens middle w k j h q ∙ others j f

behind_written : (ws : List Written) (tokens rest : List Token) (k m : ℕ) → Spelled tokens (whole ws) rest → pass ws k ≡ Some m
    → behind_bracket k tokens ≡ behind_bracket m rest
behind_written [] tokens rest k m h e = ap (behind_bracket k) h ∙ ap (λ n. behind_bracket n rest) (same_number k m e)
behind_written (w ∷ ws) tokens rest k m h e =
    written_on tokens h.0 rest ws w k m (over (written_word w) k) h.1 refl (λ j f. behind_written ws h.0 rest j m h.2 f) e

-- ---- pieces

abbrev begins_at : Bool → ℕ → ℕ
begins_at true k = suc k
begins_at false k = k

-- tokens that are written so close as many brackets as they open; or one more, where one is open
pub record Closed (inside : Bool) (pieces : List Piece) : Type 0 where
  pub closed : (tokens rest : List Token) (k : ℕ) → Spelled tokens pieces rest → behind_bracket (begins_at inside k) tokens ≡ behind_bracket k rest

pub nothing : Closed false []
nothing = record { closed = λ tokens rest k h. ap (behind_bracket k) h }

pub written : {ws : List Written} → Even ws → Closed false (whole ws)
written {ws = ws} f = record { closed = λ tokens rest k h. behind_written ws tokens rest k k h (f.level k) }

pub next : {inside : Bool} {pieces : List Piece} (w : Written) → ((k : ℕ) → over (written_word w) k ≡ Some k) → Closed inside pieces
    → Closed inside (must w ∷ pieces)
next {inside = inside} w other more =
    record {
      closed = λ tokens rest k h.
          behind_first tokens h.0 w (begins_at inside k) (begins_at inside k) h.1 (other (begins_at inside k)) ∙ more.closed h.0 rest k h.2;
    }

pub both : {inside : Bool} {a b : List Piece} → Closed false a → Closed inside b → Closed inside (a ++ b)
both {inside = inside} {a = a} {b = b} f g =
    record {
      closed = λ tokens rest k h.
          let s = Spelled-split tokens a b rest h in
          f.closed tokens s.0 (begins_at inside k) s.1 ∙ g.closed s.0 rest k s.2;
    }

pub opens : {pieces : List Piece} (w : Written) → ((k : ℕ) → over (written_word w) k ≡ Some (suc k)) → Closed true pieces
    → Closed false (must w ∷ pieces)
opens w bracket more =
    record { closed = λ tokens rest k h. behind_first tokens h.0 w k (suc k) h.1 (bracket k) ∙ more.closed h.0 rest k h.2 }

pub closes : {pieces : List Piece} → Closed false pieces → Closed true (mark word_is.CloseRound ∷ pieces)
closes more =
    record { closed = λ tokens rest k h. behind_first tokens h.0 (word word_is.CloseRound) (suc k) k h.1 refl ∙ more.closed h.0 rest k h.2 }

-- a word that may be left out
behind_may : (w : Word) → ((k : ℕ) → over w k ≡ Some k) → (form : List Written) → Contains ([] ∷ (word w ∷ []) ∷ []) form
    → (tokens middle : List Token) (k : ℕ) → Begin tokens form middle → behind_bracket k tokens ≡ behind_bracket k middle
behind_may w other form (zero, less, is) tokens middle k h =
    let b : Begin tokens [] middle = subst (λ f. Begin tokens f middle) (sym is) h in ap (behind_bracket k) b
behind_may w other form (suc zero, less, is) tokens middle k h =
    let b : Begin tokens (word w ∷ []) middle = subst (λ f. Begin tokens f middle) (sym is) h in
    behind_first tokens b.0 (word w) k k b.1 (other k) ∙ ap (behind_bracket k) b.2
behind_may w other form (suc (suc n), less, is) tokens middle k h = absurd (omega arith)

pub maybe : {inside : Bool} {pieces : List Piece} (w : Word) → ((k : ℕ) → over w k ≡ Some k) → Closed inside pieces → Closed inside (may w ∷ pieces)
maybe {inside = inside} w other more =
    record {
      closed = λ tokens rest k h.
          behind_may w other h.0 h.2 tokens h.1 (begins_at inside k) h.3 ∙ more.closed h.1 rest k h.4;
    }

-- ---- parts of statements

maybe_expr-closed : (e : Option ExprTree) → Closed false (maybe_expr e)
maybe_expr-closed None = nothing
maybe_expr-closed (Some e) = written (expr-even e)

behind-closed : (w : Word) → ((k : ℕ) → over w k ≡ Some k) → (e : Option ExprTree) → Closed false (behind_word w e)
behind-closed w other None = nothing
behind-closed w other (Some e) = next _ other (written (expr-even e))

such_that-closed : (e : Option ExprTree) → Closed false (such_that e)
such_that-closed None = nothing
such_that-closed (Some e) = next _ (λ k. refl) (next _ (λ k. refl) (written (expr-even e)))

assignment-closed : (x : AssignmentTree) → Closed false (assignment_spelling x)
assignment-closed x = both (written (expr-even (target_read x.target))) (next _ (λ k. refl) (written (expr-even x.value)))

further_assignments-closed : (xs : List AssignmentTree) → Closed false (further_assignments xs)
further_assignments-closed [] = nothing
further_assignments-closed (x ∷ xs) = next _ (λ k. refl) (both (assignment-closed x) (further_assignments-closed xs))

assignments-closed : (xs : List AssignmentTree) → Closed false (assignments_spelling xs)
assignments-closed [] = nothing
assignments-closed (x ∷ xs) = both (assignment-closed x) (further_assignments-closed xs)

local-closed : (l : LocalTree) → Closed false (local_spelling l)
local-closed l =
    next _ (λ k. refl) (next _ (λ k. refl) (both (written (type-even l.declared)) (behind-closed word_is.Becomes (λ k. refl) l.initial)))

further_locals-closed : (ls : List LocalTree) → Closed false (further_locals ls)
further_locals-closed [] = nothing
further_locals-closed (l ∷ ls) = next _ (λ k. refl) (both (local-closed l) (further_locals-closed ls))

locals-closed : (ls : List LocalTree) → Closed false (locals_spelling ls)
locals-closed [] = nothing
locals-closed (l ∷ ls) = both (local-closed l) (further_locals-closed ls)

pub dcls-closed : (ds : List DclTree) → Closed false (dcls_spelling ds)
dcls-closed [] = nothing
dcls-closed (d ∷ ds) = next _ (λ k. refl) (both (locals-closed d.locals) (next _ (λ k. refl) (dcls-closed ds)))

-- ---- statements

mutual
  pub stmt-closed : (s : StmtTree) → Closed false (stmt_spelling s)
  stmt-closed (block locals ss place) =
      opens _ (λ k. refl) (both (dcls-closed locals) (both (stmts-closed word_is.Semicolon (λ k. refl) ss)
      (maybe word_is.Semicolon (λ k. refl) (closes nothing))))
  stmt-closed (assign target value place) = both (written (expr-even (target_read target))) (next _ (λ k. refl) (written (expr-even value)))
  stmt-closed (assign_together xs place) = next _ (λ k. refl) (opens _ (λ k. refl) (both (assignments-closed xs) (closes nothing)))
  stmt-closed (call application place) = written (expr-even application)
  stmt-closed (returns value place) = next _ (λ k. refl) (maybe_expr-closed value)
  stmt-closed (exits value place) = next _ (λ k. refl) (maybe_expr-closed value)
  stmt-closed (let_then ds s place) = next _ (λ k. refl) (both (written (definitions-even ds)) (next _ (λ k. refl) (stmt-closed s)))
  stmt-closed (let_be_then bind condition s place) =
      next _ (λ k. refl) (both (written (bind-even bind)) (both (such_that-closed condition) (next _ (λ k. refl) (stmt-closed s))))
  stmt-closed (def_then p e s place) =
      next _ (λ k. refl) (both (written (pattern-even p)) (next _ (λ k. refl) (both (written (expr-even e)) (next _ (λ k. refl) (stmt-closed s)))))
  stmt-closed (if_then c s bs otherwise place) =
      next _ (λ k. refl) (both (written (expr-even c)) (next _ (λ k. refl) (both (stmt-closed s) (both (branches-closed bs) (else-closed otherwise)))))
  stmt-closed (cases_then e cs others place) =
      next _ (λ k. refl) (both (written (expr-even e)) (next _ (λ k. refl) (both (cases-closed cs) (both (others-closed others) (next _ (λ k. refl) nothing)))))
  stmt-closed (while_do c s place) = next _ (λ k. refl) (both (written (expr-even c)) (next _ (λ k. refl) (stmt-closed s)))
  stmt-closed (for_numbers name name_place first last step s place) =
      next _ (λ k. refl) (next _ (λ k. refl) (next _ (λ k. refl) (both (written (expr-even first)) (next _ (λ k. refl)
      (both (written (expr-even last)) (both (behind-closed word_is.By (λ k. refl) step) (next _ (λ k. refl) (stmt-closed s))))))))
  stmt-closed (for_set p e s place) =
      next _ (λ k. refl) (next _ (λ k. refl) (both (written (pattern-even p)) (next _ (λ k. refl) (both (written (expr-even e)) (next _ (λ k. refl) (stmt-closed s))))))
  stmt-closed (for_sequence p e s place) =
      next _ (λ k. refl) (both (written (pattern-even p)) (next _ (λ k. refl) (both (written (expr-even e)) (next _ (λ k. refl) (stmt-closed s)))))
  stmt-closed (trap_exit p h s place) =
      next _ (λ k. refl) (both (written (pattern-even p)) (next _ (λ k. refl) (both (stmt-closed h) (next _ (λ k. refl) (stmt-closed s)))))
  stmt-closed (trap_exits hs s place) =
      next _ (λ k. refl) (next _ (λ k. refl) (both (handlers-closed hs) (next _ (λ k. refl) (next _ (λ k. refl) (stmt-closed s)))))
  stmt-closed (always_after l s place) = next _ (λ k. refl) (both (stmt-closed l) (next _ (λ k. refl) (stmt-closed s)))
  stmt-closed (in_parallel ss place) =
      next _ (λ k. refl) (opens _ (λ k. refl) (both (stmts-closed word_is.Comma (λ k. refl) ss) (closes nothing)))
  stmt-closed (start_thread e place) = next _ (λ k. refl) (opens _ (λ k. refl) (both (written (expr-even e)) (closes nothing)))
  stmt-closed (start_threads e place) = next _ (λ k. refl) (opens _ (λ k. refl) (both (written (expr-even e)) (closes nothing)))
  stmt-closed (skips place) = next _ (λ k. refl) nothing
  stmt-closed (errs place) = next _ (λ k. refl) nothing

  pub stmts-closed : (w : Word) → ((k : ℕ) → over w k ≡ Some k) → (ss : StmtTrees) → Closed false (stmts_spelling w ss)
  stmts-closed w other no_stmts = nothing
  stmts-closed w other (one_stmt s ss) = both (stmt-closed s) (further_stmts-closed w other ss)

  further_stmts-closed : (w : Word) → ((k : ℕ) → over w k ≡ Some k) → (ss : StmtTrees) → Closed false (further_stmts w ss)
  further_stmts-closed w other no_stmts = nothing
  further_stmts-closed w other (one_stmt s ss) = next _ other (both (stmt-closed s) (further_stmts-closed w other ss))

  branches-closed : (bs : StmtBranches) → Closed false (stmt_branches_spelling bs)
  branches-closed no_stmt_branches = nothing
  branches-closed (one_stmt_branch c s bs) =
      next _ (λ k. refl) (both (written (expr-even c)) (next _ (λ k. refl) (both (stmt-closed s) (branches-closed bs))))

  else-closed : (s : MaybeStmt) → Closed false (else_spelling s)
  else-closed no_stmt = nothing
  else-closed (given_stmt s) = next _ (λ k. refl) (stmt-closed s)

  cases-closed : (cs : StmtCases) → Closed false (stmt_cases_spelling cs)
  cases-closed no_stmt_cases = nothing
  cases-closed (one_stmt_case ps s cs) = both (written (patterns-even ps)) (next _ (λ k. refl) (both (stmt-closed s) (further_cases-closed cs)))

  further_cases-closed : (cs : StmtCases) → Closed false (further_stmt_cases cs)
  further_cases-closed no_stmt_cases = nothing
  further_cases-closed (one_stmt_case ps s cs) =
      next _ (λ k. refl) (both (written (patterns-even ps)) (next _ (λ k. refl) (both (stmt-closed s) (further_cases-closed cs))))

  others-closed : (s : MaybeStmt) → Closed false (others_spelling s)
  others-closed no_stmt = nothing
  others-closed (given_stmt s) = next _ (λ k. refl) (next _ (λ k. refl) (next _ (λ k. refl) (stmt-closed s)))

  handlers-closed : (hs : HandlerTrees) → Closed false (handlers_spelling hs)
  handlers-closed no_handlers = nothing
  handlers-closed (one_handler p s hs) =
      both (written (pattern-even p)) (next _ (λ k. refl) (both (stmt-closed s) (further_handlers-closed hs)))

  further_handlers-closed : (hs : HandlerTrees) → Closed false (further_handlers hs)
  further_handlers-closed no_handlers = nothing
  further_handlers-closed (one_handler p s hs) =
      next _ (λ k. refl) (both (written (pattern-even p)) (next _ (λ k. refl) (both (stmt-closed s) (further_handlers-closed hs))))
