-- `for` is read, and what a statement begins with.
use Rattle.std.proofs.Common.{◌≡◌, Bool, true, false, List, [], ◌∷◌, ◌++◌, map, Option, Some, None, refl, ap, sym, ◌∙◌}
use Rattle.std.specs.Option.{option_and_then}
use Rattle.vdm_kinds.specs.declared.name.Name.{Name}
use Rattle.vdm_kinds.specs.declared.name_at.NameAt.{NameAt}
use Rattle.vdm_kinds.specs.declared.place.Place.{Place}
use Rattle.vdm_kinds.specs.declared.sign.Sign.TheVariants as sign_is
use Rattle.abstract_syntax.specs.Expressions.{ExprTree, PatternTree}
use Rattle.abstract_syntax.specs.Statements.{StmtTree, for_numbers, for_set, for_sequence}
use Rattle.grammar_words.specs.declared.word.Word.{Word}
use Rattle.grammar_words.specs.declared.word.Word.TheVariants as word_is
use Rattle.grammar_words.specs.Pulls.{far_pull}
use Rattle.grammar_words.specs.Tokens.{Token, identifier, quote, whole as whole_token, character, text, make_named, is_named, plain, word_of}
use Rattle.grammar_words.specs.Written.{at}
use Rattle.grammar_trees.specs.Spelling.{spelling, pattern_spelling}
use Rattle.grammar_trees.specs.Binding.{Binds, IsPattern}
use Rattle.grammar_fronts.specs.declared.kind.Kind.TheVariants as kind
use Rattle.grammar_fronts.specs.Viable.{after, taken, start}
use Rattle.front_laws.specs.Whole.{IsWholeFront}
use Rattle.front_laws.proofs.Whole.{pattern-whole}
use Rattle.stmt_trees.specs.Pieces.{Piece, must, mark, whole}
use Rattle.stmt_trees.specs.StmtSpelling.{behind_word, stmt_spelling}
use Rattle.stmt_trees.specs.StmtGrammar.{IsGivenExpr}
use Rattle.stmt_reading.specs.Leaves.{Read, onto, choice, is_word}
use Rattle.stmt_reading.specs.Statements.{for_in, numbers_in, sequence_in}
use Rattle.stmt_laws.specs.Ends.{first_word, ends_after}
use Rattle.stmt_laws.proofs.WordNumbers.{word-found}
use Rattle.stmt_laws.proofs.Readers.{Reads, by_token, may_come, left_away, word-is_not, Spelled-split}
use Rattle.stmt_laws.proofs.Leaves.{fronted}
use Rattle.stmt_laws.proofs.Parts.{OneReads, set_reads, sequence_reads}
use Rattle.stmt_laws.proofs.MoreParts.{numbers_reads}
use Rattle.stmt_laws.proofs.SoundForms.{counted_in}
use Rattle.stmt_laws.proofs.Firsts.{by_pattern, no_words, no_empty_pattern}

pub for_set-reads : (one : List Token → Read StmtTree) (p : PatternTree) (e : ExprTree) (s : StmtTree) (place : Place) → IsPattern p
    → Binds e far_pull → OneReads one s → Reads (for_in one place)
    (mark word_is.All ∷ (whole (pattern_spelling p) ++ (mark (word_is.Operator sign_is.InSet) ∷ (whole (spelling e) ++ (mark word_is.Do ∷ stmt_spelling s)))))
    (for_set p e s place) (ends_after s)
for_set-reads one p e s place g b r = may_come word_is.All _ _ refl (λ all. set_reads one p e s place g b r)

-- ---- a name before `=`

counted-comes : {B : Type 0} {b : B} {vs : List Piece} {ends : Word → Bool} (name : Name) (place : Place) (q : NameAt → List Token → Read B)
    (other : List Token → Read B) → Reads (q (record { name = name; place = place })) vs b ends
    → Reads (λ (ts : List Token). choice (counted_in ts) q (other ts))
    (must (at (identifier name place)) ∷ mark (word_is.Operator sign_is.Equal) ∷ vs) b ends
counted-comes name place q other more =
    record {
      reads = λ tokens rest h e.
          ap (λ ts. choice (counted_in ts) q (other tokens)) (h.1 ∙ ap (λ ts. identifier name place ∷ ts) h.2.1.1)
          ∙ more.reads h.2.0 rest h.2.2 e;
    }

pub for_numbers-reads : (one : List Token → Read StmtTree) (name : Name) (name_place : Place) (first last : ExprTree) (step : Option ExprTree)
    (s : StmtTree) (place : Place) → Binds first far_pull → Binds last far_pull → IsGivenExpr step → OneReads one s → Reads (for_in one place)
    (must (at (identifier name name_place)) ∷ mark (word_is.Operator sign_is.Equal) ∷ (whole (spelling first) ++ (mark word_is.To ∷ (whole (spelling last)
    ++ (behind_word word_is.By step ++ (mark word_is.Do ∷ stmt_spelling s))))))
    (for_numbers name name_place first last step s place) (ends_after s)
for_numbers-reads one name name_place first last step s place b c g r =
    left_away word_is.All _ _ (by_token (identifier name name_place) refl)
    (counted-comes name name_place (numbers_in one place) (λ ts. sequence_in one place ts)
    (numbers_reads one (record { name = name; place = name_place }) first last step s place b c g r))

-- ---- no pattern begins with a name and `=`

in_or_equal : (w : Word) → w ≡ word_is.In → w ≡ word_is.Operator sign_is.Equal → ⊥
in_or_equal w e f = let g : word_is.In ≡ word_is.Operator sign_is.Equal = sym e ∙ f in absurd (cc)

pub same_tail : (a b : Token) (s t : List Token) → a ∷ s ≡ b ∷ t → s ≡ t
same_tail a b s t e = cc

pub same_head : (a b : Token) (s t : List Token) → a ∷ s ≡ b ∷ t → a ≡ b
same_head a b s t e = cc

no_second : (front rest : List Token) (t : Token) (ts : List Token) → front ++ rest ≡ t ∷ ts → IsWholeFront kind.Pattern (map word_of front)
    → word_of t ≡ word_is.Identifier → first_word rest ≡ word_is.In → first_word ts ≡ word_is.Operator sign_is.Equal → ⊥
no_second [] rest t ts e h a b c = no_empty_pattern h
no_second (u ∷ []) rest t ts e h a b c =
    let same : rest ≡ ts = same_tail u t rest ts e in in_or_equal (first_word rest) b (ap first_word same ∙ c)
no_second (u ∷ v ∷ more) rest t ts e h a b c =
    let first : word_of u ≡ word_is.Identifier = ap word_of (same_head u t (v ∷ (more ++ rest)) ts e) ∙ a in
    let second : word_of v ≡ word_is.Operator sign_is.Equal = ap first_word (same_tail u t (v ∷ (more ++ rest)) ts e) ∙ c in
    let f = ap (λ w. option_and_then (taken (word_of v ∷ map word_of more)) (after w (start kind.Pattern))) first in
    let g = ap (λ w. option_and_then (taken (w ∷ map word_of more)) (after word_is.Identifier (start kind.Pattern))) second in
    no_words h.wanted (sym g ∙ sym f ∙ h.viable)

pub word_absent : (w found : Word) (b : Bool) → is_word w found ≡ b → (is_word w found ≡ true → ⊥) → is_word w found ≡ false
word_absent w found true q none = absurd (none q)
word_absent w found false q none = q

uncounted : (tokens front rest : List Token) → tokens ≡ front ++ rest → IsWholeFront kind.Pattern (map word_of front) → first_word rest ≡ word_is.In
    → counted_in tokens ≡ None
uncounted [] front rest e h b = refl
uncounted (identifier n p ∷ ts) front rest e h b =
    ap (λ o. onto o (λ equal c. Some (record { name = n; place = p }, c)))
    (word-is_not (word_is.Operator sign_is.Equal) ts
    (word_absent (word_is.Operator sign_is.Equal) (first_word ts) (is_word (word_is.Operator sign_is.Equal) (first_word ts)) refl (λ q.
    no_second front rest (identifier n p) ts (sym e) h refl b (word-found (word_is.Operator sign_is.Equal) (first_word ts) q))))
uncounted (quote n p ∷ ts) front rest e h b = refl
uncounted (whole_token n p ∷ ts) front rest e h b = refl
uncounted (character n p ∷ ts) front rest e h b = refl
uncounted (text n p ∷ ts) front rest e h b = refl
uncounted (make_named n p ∷ ts) front rest e h b = refl
uncounted (is_named n p ∷ ts) front rest e h b = refl
uncounted (plain w p ∷ ts) front rest e h b = refl

pub for_sequence-reads : (one : List Token → Read StmtTree) (p : PatternTree) (e : ExprTree) (s : StmtTree) (place : Place) → IsPattern p
    → Binds e far_pull → OneReads one s → Reads (for_in one place)
    (whole (pattern_spelling p) ++ (mark word_is.In ∷ (whole (spelling e) ++ (mark word_is.Do ∷ stmt_spelling s))))
    (for_sequence p e s place) (ends_after s)
for_sequence-reads one p e s place g b r =
    left_away word_is.All _ _ (by_pattern (mark word_is.In ∷ (whole (spelling e) ++ (mark word_is.Do ∷ stmt_spelling s))) word_is.All p g refl)
    (record {
      reads = λ tokens rest h x.
          let k = Spelled-split tokens (whole (pattern_spelling p)) (mark word_is.In ∷ (whole (spelling e) ++ (mark word_is.Do ∷ stmt_spelling s))) rest h in
          let f = fronted (pattern_spelling p) tokens k.0 k.1 in
          let whole_front = pattern-whole f.front p (record { spelled = f.written; grammatical = g }) in
          ap (λ o. choice o (numbers_in one place) (sequence_in one place tokens)) (uncounted tokens f.front k.0 f.is whole_front (ap first_word k.2.1.1))
          ∙ (sequence_reads one p e s place g b r).reads tokens rest h x;
    })
