-- Further kinds of statements are read.
use Rattle.std.proofs.Common.{◌≡◌, Bool, true, false, List, [], ◌∷◌, ◌++◌, Option, Some, None, refl}
use Rattle.vdm_kinds.specs.declared.place.Place.{Place}
use Rattle.abstract_syntax.specs.Expressions.{ExprTree}
use Rattle.abstract_syntax.specs.Statements.{StmtTree, for_numbers, start_thread}
use Rattle.grammar_words.specs.declared.word.Word.{Word}
use Rattle.grammar_words.specs.declared.word.Word.TheVariants as word_is
use Rattle.grammar_words.specs.Pulls.{far_pull}
use Rattle.grammar_words.specs.Tokens.{Token}
use Rattle.grammar_trees.specs.Spelling.{spelling}
use Rattle.grammar_trees.specs.Binding.{Binds}
use Rattle.stmt_trees.specs.Pieces.{Piece, mark, whole}
use Rattle.stmt_trees.specs.StmtSpelling.{behind_word, stmt_spelling}
use Rattle.stmt_trees.specs.StmtGrammar.{IsGivenExpr}
use Rattle.stmt_reading.specs.Leaves.{Read, expr_in, is_word}
use Rattle.stmt_reading.specs.Statements.{behind_word_in, numbers_in, bracketed_in}
use Rattle.vdm_kinds.specs.declared.name_at.NameAt.{NameAt}
use Rattle.stmt_laws.specs.Ends.{ends_expr, first_word, ends_after}
use Rattle.stmt_laws.proofs.Readers.{Reads, Begins, is_other, by_mark, by_nothing, at_mark, done, may_come, left_away, last_reads, then_reads}
use Rattle.stmt_laws.proofs.Leaves.{expr_reads}
use Rattle.stmt_laws.proofs.Parts.{OneReads, body_reads}

pub fewer_end : {A : Type 0} {p : List Token → Read A} {ws : List Piece} {a : A} {middle ends : Word → Bool}
    → ((w : Word) → ends w ≡ true → middle w ≡ true) → Reads p ws a middle → Reads p ws a ends
fewer_end fewer first = record { reads = λ tokens rest h e. first.reads tokens rest h (fewer (first_word rest) e) }

-- what stands between brackets
pub bracketed_reads : {A B : Type 0} (one : List Token → Read A) (made : A → B) (a : A) (ws : List Piece) (middle ends : Word → Bool)
    → Reads one ws a middle → middle word_is.CloseRound ≡ true
    → Reads (bracketed_in one made) (mark word_is.OpenRound ∷ (ws ++ (mark word_is.CloseRound ∷ []))) (made a) ends
bracketed_reads one made a ws middle ends r closes =
    at_mark word_is.OpenRound _ refl (λ place. then_reads _ r (by_mark word_is.CloseRound closes)
    (at_mark word_is.CloseRound _ refl (λ other. done (made a) ends)))

pub start_reads : (e : ExprTree) (place : Place) (ends : Word → Bool) → Binds e far_pull
    → Reads (bracketed_in expr_in (λ (x : ExprTree). start_thread x place))
    (mark word_is.OpenRound ∷ (whole (spelling e) ++ (mark word_is.CloseRound ∷ []))) (start_thread e place) ends
start_reads e place ends b = bracketed_reads expr_in (λ x. start_thread x place) e (whole (spelling e)) ends_expr ends (expr_reads e b) refl

-- an expression behind a word, which may be left out
pub given_reads : (w : Word) (e : Option ExprTree) (ends : Word → Bool) → is_word w w ≡ true → IsGivenExpr e
    → ((found : Word) → ends found ≡ true → ends_expr found ≡ true) → ((found : Word) → ends found ≡ true → is_other w found ≡ true)
    → Reads (behind_word_in w) (behind_word w e) e ends
given_reads w None ends known g more other = left_away w _ (λ ts. Some (None, ts)) (by_nothing other) (done None ends)
given_reads w (Some e) ends known g more other =
    may_come w _ (λ ts. Some (None, ts)) known (λ place. last_reads (λ found. Some found) (fewer_end more (expr_reads e g)))

abbrev only_do : Word → Bool
only_do word_is.Do = true
only_do _ = false

do_ends : (w : Word) → only_do w ≡ true → ends_expr w ≡ true
do_ends word_is.Do e = refl
do_ends _ e = absurd (cc)

do_other : (w : Word) → only_do w ≡ true → is_other word_is.By w ≡ true
do_other word_is.Do e = refl
do_other _ e = absurd (cc)

step_begins : (step : Option ExprTree) (s : StmtTree) (ends : Word → Bool)
    → Begins (behind_word word_is.By step ++ (mark word_is.Do ∷ stmt_spelling s)) ends ends_expr
step_begins None s ends = by_mark word_is.Do refl
step_begins (Some e) s ends = by_mark word_is.By refl

pub numbers_reads : (one : List Token → Read StmtTree) (name : NameAt) (first last : ExprTree) (step : Option ExprTree) (s : StmtTree) (place : Place)
    → Binds first far_pull → Binds last far_pull → IsGivenExpr step → OneReads one s → Reads (numbers_in one place name)
    (whole (spelling first) ++ (mark word_is.To ∷ (whole (spelling last) ++ (behind_word word_is.By step ++ (mark word_is.Do ∷ stmt_spelling s)))))
    (for_numbers name.name name.place first last step s place) (ends_after s)
numbers_reads one name first last step s place b c g r =
    then_reads _ (expr_reads first b) (by_mark word_is.To refl) (at_mark word_is.To _ refl (λ spot.
    then_reads _ (expr_reads last c) (step_begins step s (ends_after s))
    (then_reads _ (given_reads word_is.By step only_do refl g do_ends do_other) (by_mark word_is.Do refl)
    (body_reads one (λ body. for_numbers name.name name.place first last step body place) s r))))
