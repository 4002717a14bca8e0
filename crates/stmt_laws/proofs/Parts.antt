-- Parts of statements are read, up to what stands behind a statement.
use Rattle.std.proofs.Common.{◌≡◌, Bool, true, false, ◌&&◌, List, ◌∷◌, ◌++◌, refl, ap, ◌∙◌}
use Rattle.vdm_kinds.specs.declared.place.Place.{Place}
use Rattle.abstract_syntax.specs.Expressions.{ExprTree, PatternTree}
use Rattle.abstract_syntax.specs.Statements.{StmtTree, while_do, for_set, for_sequence, trap_exit, always_after, def_then}
use Rattle.vdm_kinds.specs.declared.sign.Sign.TheVariants as sign_is
use Rattle.grammar_words.specs.declared.word.Word.{Word}
use Rattle.grammar_words.specs.declared.word.Word.TheVariants as word_is
use Rattle.grammar_words.specs.Pulls.{far_pull}
use Rattle.grammar_words.specs.Tokens.{Token}
use Rattle.grammar_trees.specs.Spelling.{spelling, pattern_spelling}
use Rattle.grammar_trees.specs.Binding.{Binds, IsPattern}
use Rattle.stmt_trees.specs.Pieces.{mark, whole}
use Rattle.stmt_trees.specs.StmtSpelling.{stmt_spelling}
use Rattle.stmt_trees.specs.StmtGrammar.{takes_else}
use Rattle.stmt_reading.specs.Leaves.{Read}
use Rattle.stmt_reading.specs.Statements.{body_in, in_body, while_in, set_in, sequence_in, trap_in, always_in, def_in_stmt}
use Rattle.stmt_laws.specs.Ends.{ends_stmt, not_else, behind_stmt, ends_after}
use Rattle.stmt_laws.proofs.Readers.{Reads, at_mark, by_mark, last_reads, then_reads}
use Rattle.stmt_laws.proofs.Leaves.{expr_reads, pattern_reads}

abbrev pub OneReads : (List Token → Read StmtTree) → StmtTree → Type 0
OneReads one s = Reads one (stmt_spelling s) s (ends_after s)

pub body_reads : (one : List Token → Read StmtTree) (made : StmtTree → StmtTree) (s : StmtTree) → OneReads one s
    → Reads (body_in one made) (mark word_is.Do ∷ stmt_spelling s) (made s) (ends_after s)
body_reads one made s r = at_mark word_is.Do _ refl (λ place. last_reads made r)

pub while_reads : (one : List Token → Read StmtTree) (c : ExprTree) (s : StmtTree) (place : Place) → Binds c far_pull → OneReads one s
    → Reads (while_in one place) (whole (spelling c) ++ (mark word_is.Do ∷ stmt_spelling s)) (while_do c s place) (ends_after s)
while_reads one c s place b r = then_reads _ (expr_reads c b) (by_mark word_is.Do refl) (body_reads one (λ body. while_do c body place) s r)

pub set_reads : (one : List Token → Read StmtTree) (p : PatternTree) (e : ExprTree) (s : StmtTree) (place : Place) → IsPattern p
    → Binds e far_pull → OneReads one s → Reads (set_in one place)
    (whole (pattern_spelling p) ++ (mark (word_is.Operator sign_is.InSet) ∷ (whole (spelling e) ++ (mark word_is.Do ∷ stmt_spelling s))))
    (for_set p e s place) (ends_after s)
set_reads one p e s place g b r =
    then_reads _ (pattern_reads p g) (by_mark (word_is.Operator sign_is.InSet) refl) (at_mark (word_is.Operator sign_is.InSet) _ refl (λ spot.
    then_reads _ (expr_reads e b) (by_mark word_is.Do refl) (body_reads one (λ body. for_set p e body place) s r)))

pub sequence_reads : (one : List Token → Read StmtTree) (p : PatternTree) (e : ExprTree) (s : StmtTree) (place : Place) → IsPattern p
    → Binds e far_pull → OneReads one s → Reads (sequence_in one place)
    (whole (pattern_spelling p) ++ (mark word_is.In ∷ (whole (spelling e) ++ (mark word_is.Do ∷ stmt_spelling s))))
    (for_sequence p e s place) (ends_after s)
sequence_reads one p e s place g b r =
    then_reads _ (pattern_reads p g) (by_mark word_is.In refl) (at_mark word_is.In _ refl (λ spot.
    then_reads _ (expr_reads e b) (by_mark word_is.Do refl) (body_reads one (λ body. for_sequence p e body place) s r)))

-- a statement before a word that ends statements, and takes no `else`
pub before_mark : (takes : Bool) (w : Word) → ends_stmt w ≡ true → not_else w ≡ true → behind_stmt takes w ≡ true
before_mark true w e n = ap (λ (b : Bool). b && not_else w) e ∙ n
before_mark false w e n = ap (λ (b : Bool). b && true) e

pub in_body_reads : (one : List Token → Read StmtTree) (made : StmtTree → StmtTree) (s : StmtTree) → OneReads one s
    → Reads (in_body one made) (mark word_is.In ∷ stmt_spelling s) (made s) (ends_after s)
in_body_reads one made s r = at_mark word_is.In _ refl (λ place. last_reads made r)

pub trap_reads : (one : List Token → Read StmtTree) (p : PatternTree) (h s : StmtTree) (place : Place) → IsPattern p → OneReads one h
    → OneReads one s → Reads (trap_in one place)
    (whole (pattern_spelling p) ++ (mark word_is.With ∷ (stmt_spelling h ++ (mark word_is.In ∷ stmt_spelling s))))
    (trap_exit p h s place) (ends_after s)
trap_reads one p h s place g r q =
    then_reads _ (pattern_reads p g) (by_mark word_is.With refl) (at_mark word_is.With _ refl (λ spot.
    then_reads _ r (by_mark word_is.In (before_mark (takes_else h) word_is.In refl refl)) (in_body_reads one (λ body. trap_exit p h body place) s q)))

pub always_reads : (one : List Token → Read StmtTree) (l s : StmtTree) (place : Place) → OneReads one l → OneReads one s
    → Reads (always_in one place) (stmt_spelling l ++ (mark word_is.In ∷ stmt_spelling s)) (always_after l s place) (ends_after s)
always_reads one l s place r q =
    then_reads _ r (by_mark word_is.In (before_mark (takes_else l) word_is.In refl refl)) (in_body_reads one (λ body. always_after l body place) s q)

pub def_reads : (one : List Token → Read StmtTree) (p : PatternTree) (e : ExprTree) (s : StmtTree) (place : Place) → IsPattern p
    → Binds e far_pull → OneReads one s → Reads (def_in_stmt one place)
    (whole (pattern_spelling p) ++ (mark (word_is.Operator sign_is.Equal) ∷ (whole (spelling e) ++ (mark word_is.In ∷ stmt_spelling s))))
    (def_then p e s place) (ends_after s)
def_reads one p e s place g b r =
    then_reads _ (pattern_reads p g) (by_mark (word_is.Operator sign_is.Equal) refl) (at_mark (word_is.Operator sign_is.Equal) _ refl (λ spot.
    then_reads _ (expr_reads e b) (by_mark word_is.In refl) (at_mark word_is.In _ refl (λ other. last_reads (λ body. def_then p e body place) r))))
