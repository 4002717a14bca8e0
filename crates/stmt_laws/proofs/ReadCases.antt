-- `cases` is read.
use Rattle.std.proofs.Common.{◌≡◌, ℕ, zero, suc, ◌+◌, ◌≤◌, ◌<◌, Bool, true, false, List, [], ◌∷◌, ◌++◌, Some, refl, ap, sym, subst, ◌∙◌, append_assoc, arith}
use Rattle.vdm_kinds.specs.declared.place.Place.{Place}
use Rattle.abstract_syntax.specs.Expressions.{ExprTree, PatternTree, PatternTrees, no_patterns, one_pattern}
use Rattle.abstract_syntax.specs.Statements.{StmtTree, MaybeStmt, StmtCases, cases_then, no_stmt, given_stmt, no_stmt_cases, one_stmt_case}
use Rattle.grammar_words.specs.declared.word.Word.{Word}
use Rattle.grammar_words.specs.declared.word.Word.TheVariants as word_is
use Rattle.grammar_words.specs.Pulls.{far_pull}
use Rattle.grammar_words.specs.Tokens.{Token}
use Rattle.grammar_trees.specs.Spelling.{spelling, pattern_spelling, patterns_spelling, further_patterns}
use Rattle.grammar_trees.specs.Binding.{Binds, AreSomePatterns, ArePatterns}
use Rattle.stmt_trees.specs.Pieces.{Piece, mark, whole}
use Rattle.stmt_trees.specs.StmtSpelling.{stmt_spelling, stmt_cases_spelling, further_stmt_cases, others_spelling}
use Rattle.stmt_trees.specs.StmtGrammar.{takes_else, AreStmtCases}
use Rattle.stmt_reading.specs.Leaves.{Read, onto, choice, word_in, expr_in}
use Rattle.stmt_reading.specs.Statements.{CasesRead, patterns_in, others_in, cases_in, cases_in_stmt}
use Rattle.stmt_laws.specs.Ends.{ends_pattern, ends_after}
use Rattle.stmt_laws.proofs.Readers.{Reads, Begins, is_other, by_mark, at_mark, done, may_come, left_away, last_reads, then_reads}
use Rattle.stmt_laws.proofs.Leaves.{expr_reads}
use Rattle.stmt_laws.proofs.Lists.{Between, marks, marks-append, counted}
use Rattle.stmt_laws.proofs.Parts.{OneReads}
use Rattle.stmt_laws.proofs.Spellings.{whole-append}
use Rattle.stmt_laws.proofs.Firsts.{apart, behind_any, by_pattern, same_pieces}
use Rattle.stmt_laws.proofs.ReadLets.{patterns-read}

abbrev pub CasesAreRead : (List Token → Read StmtTree) → StmtCases → Type 0
CasesAreRead one no_stmt_cases = Unit {0}
CasesAreRead one (one_stmt_case ps s others) = OneReads one s × CasesAreRead one others

abbrev pub GivenRead : (List Token → Read StmtTree) → MaybeStmt → Type 0
GivenRead one no_stmt = Unit {0}
GivenRead one (given_stmt s) = OneReads one s

abbrev ending : MaybeStmt → List Piece
ending others = others_spelling others ++ (mark word_is.End ∷ [])

abbrev case_pieces : PatternTrees → StmtTree → StmtCases → MaybeStmt → List Piece
case_pieces ps s more others =
    whole (patterns_spelling ps) ++ (mark word_is.Arrow ∷ (stmt_spelling s ++ (further_stmt_cases more ++ ending others)))

abbrev only_arrow : Word → Bool
only_arrow word_is.Arrow = true
only_arrow _ = false

arrow_pattern : (w : Word) → only_arrow w ≡ true → ends_pattern w ≡ true
arrow_pattern word_is.Arrow e = refl
arrow_pattern _ e = absurd (cc)

between_patterns : Between word_is.Comma (λ (p : PatternTree). ends_pattern) only_arrow
between_patterns =
    record { known = refl; next = λ p. refl; last = λ p w e. arrow_pattern w e; other = apart word_is.Comma only_arrow refl }

-- what stands behind an alternative
tail_begins : (s : StmtTree) (more : StmtCases) (others : MaybeStmt) (ends : Word → Bool) → Begins (further_stmt_cases more ++ ending others) ends (ends_after s)
tail_begins s no_stmt_cases no_stmt ends = by_mark word_is.End (behind_any (takes_else s) word_is.End refl refl)
tail_begins s no_stmt_cases (given_stmt t) ends = by_mark word_is.Comma (behind_any (takes_else s) word_is.Comma refl refl)
tail_begins s (one_stmt_case ps t rest) others ends = by_mark word_is.Comma (behind_any (takes_else s) word_is.Comma refl refl)

case_begins : (p : PatternTree) (ps : PatternTrees) (vs : List Piece) (ends : Word → Bool) → ArePatterns (one_pattern p ps)
    → Begins (whole (patterns_spelling (one_pattern p ps)) ++ vs) ends (is_other word_is.Others)
case_begins p ps vs ends g =
    same_begins (sym (ap (λ x. x ++ vs) (whole-append (pattern_spelling p) (further_patterns ps))
    ∙ append_assoc (whole (pattern_spelling p)) (whole (further_patterns ps)) vs))
    (by_pattern (whole (further_patterns ps) ++ vs) word_is.Others p g.0 refl)
  where
    same_begins : {a b : List Piece} {ends begins : Word → Bool} → a ≡ b → Begins a ends begins → Begins b ends begins
    same_begins {ends = ends} {begins = begins} e f = subst (λ x. Begins x ends begins) e f

-- the first pattern of an alternative, which has some
some_begin : (ps : PatternTrees) (vs : List Piece) (ends : Word → Bool) → AreSomePatterns ps → ArePatterns ps
    → Begins (whole (patterns_spelling ps) ++ vs) ends (is_other word_is.Others)
some_begin no_patterns vs ends some g = absurd some
some_begin (one_pattern p ps) vs ends some g = case_begins p ps vs ends g

some_read : (ps : PatternTrees) → AreSomePatterns ps → ArePatterns ps → Reads patterns_in (whole (patterns_spelling ps)) ps only_arrow
some_read no_patterns some g = absurd some
some_read (one_pattern p ps) some g = patterns-read p ps only_arrow between_patterns g

others-read : (one : List Token → Read StmtTree) (s : StmtTree) (ends : Word → Bool) → OneReads one s
    → Reads (others_in one) (mark word_is.Arrow ∷ (stmt_spelling s ++ (mark word_is.End ∷ []))) (no_stmt_cases, given_stmt s) ends
others-read one s ends r =
    at_mark word_is.Arrow _ refl (λ spot. then_reads _ r (by_mark word_is.End (behind_any (takes_else s) word_is.End refl refl))
    (at_mark word_is.End _ refl (λ end. done (no_stmt_cases, given_stmt s) ends)))

abbrev pub case_count : StmtCases → ℕ
case_count no_stmt_cases = 0
case_count (one_stmt_case ps s others) = case_count others + 1

-- what is read behind an alternative's statement
abbrev tail_in : (List Token → Read StmtTree) → ℕ → PatternTrees → StmtTree → List Token → Read CasesRead
tail_in one turns ps s c =
    choice (word_in word_is.End c) (λ (end : Place) (d : List Token). Some ((one_stmt_case ps s no_stmt_cases, no_stmt), d))
    (onto (word_in word_is.Comma c) (λ (comma : Place) (d : List Token).
    onto (choice (word_in word_is.Others d) (λ (others : Place) (e : List Token). others_in one e) (cases_in one turns d))
    (λ (more : CasesRead) (f : List Token). Some ((one_stmt_case ps s more.0, more.1), f))))

record CaseRead (one : List Token → Read StmtTree) (turns : ℕ) (more : StmtCases) (others : MaybeStmt) : Type 0 where
  pub reads : (ps : PatternTrees) (s : StmtTree) (ends : Word → Bool) → AreSomePatterns ps → ArePatterns ps → OneReads one s
      → Reads (cases_in one turns) (case_pieces ps s more others) (one_stmt_case ps s more, others) ends

tail-read : (one : List Token → Read StmtTree) (turns : ℕ) (ps : PatternTrees) (s : StmtTree) (more : StmtCases) (others : MaybeStmt) (ends : Word → Bool)
    → AreStmtCases more → CasesAreRead one more → GivenRead one others
    → ((qs : PatternTrees) (t : StmtTree) (rest : StmtCases) → more ≡ one_stmt_case qs t rest → CaseRead one turns rest others)
    → Reads (tail_in one turns ps s) (further_stmt_cases more ++ ending others) (one_stmt_case ps s more, others) ends
tail-read one turns ps s no_stmt_cases no_stmt ends g r o next =
    may_come word_is.End _ _ refl (λ end. done (one_stmt_case ps s no_stmt_cases, no_stmt) ends)
tail-read one turns ps s no_stmt_cases (given_stmt t) ends g r o next =
    left_away word_is.End _ _ (by_mark word_is.Comma refl) (at_mark word_is.Comma _ refl (λ comma.
    last_reads (λ found. (one_stmt_case ps s found.0, found.1)) (may_come word_is.Others _ _ refl (λ spot. others-read one t ends o))))
tail-read one turns ps s (one_stmt_case qs t rest) others ends g r o next =
    left_away word_is.End _ _ (by_mark word_is.Comma refl) (at_mark word_is.Comma _ refl (λ comma.
    last_reads (λ found. (one_stmt_case ps s found.0, found.1))
    (left_away word_is.Others _ (λ ts. cases_in one turns ts) others_away
    (same_pieces case-alike ((next qs t rest refl).reads qs t ends g.0 g.1 r.0)))))
  where
    case-alike : case_pieces qs t rest others
        ≡ (whole (patterns_spelling qs) ++ (mark word_is.Arrow ∷ (stmt_spelling t ++ further_stmt_cases rest))) ++ ending others
    case-alike =
        sym (append_assoc (whole (patterns_spelling qs)) (mark word_is.Arrow ∷ (stmt_spelling t ++ further_stmt_cases rest)) (ending others)
        ∙ ap (λ x. whole (patterns_spelling qs) ++ (mark word_is.Arrow ∷ x)) (append_assoc (stmt_spelling t) (further_stmt_cases rest) (ending others)))

    others_away : Begins ((whole (patterns_spelling qs) ++ (mark word_is.Arrow ∷ (stmt_spelling t ++ further_stmt_cases rest))) ++ ending others)
        ends (is_other word_is.Others)
    others_away =
        subst (λ x. Begins x ends (is_other word_is.Others))
        (sym (append_assoc (whole (patterns_spelling qs)) (mark word_is.Arrow ∷ (stmt_spelling t ++ further_stmt_cases rest)) (ending others)))
        (some_begin qs ((mark word_is.Arrow ∷ (stmt_spelling t ++ further_stmt_cases rest)) ++ ending others) ends g.0 g.1)

case-read : (one : List Token → Read StmtTree) (turns : ℕ) (more : StmtCases) (others : MaybeStmt) → case_count more < turns
    → AreStmtCases more → CasesAreRead one more → GivenRead one others → CaseRead one turns more others
case-read one zero more others short g r o = absurd (omega arith)
case-read one (suc turns) no_stmt_cases others short g r o =
    record {
      reads = λ ps s ends some good q.
          then_reads _ (some_read ps some good) (by_mark word_is.Arrow refl) (at_mark word_is.Arrow _ refl (λ spot.
          then_reads _ q (tail_begins s no_stmt_cases others ends)
          (tail-read one turns ps s no_stmt_cases others ends tt tt o (λ qs t rest e. absurd (none_more qs t rest e)))));
    }
  where
    none_more : (qs : PatternTrees) (t : StmtTree) (rest : StmtCases) → no_stmt_cases ≡ one_stmt_case qs t rest → ⊥
    none_more qs t rest e = absurd (cc)
case-read one (suc turns) (one_stmt_case qs t rest) others short g r o =
    let further = case-read one turns rest others (omega arith) g.3 r.1 o in
    record {
      reads = λ ps s ends some good q.
          then_reads _ (some_read ps some good) (by_mark word_is.Arrow refl) (at_mark word_is.Arrow _ refl (λ spot.
          then_reads _ q (tail_begins s (one_stmt_case qs t rest) others ends)
          (tail-read one turns ps s (one_stmt_case qs t rest) others ends g r o (λ us v last e. same_rest last e further))));
    }
  where
    same_rest : {us : PatternTrees} {v : StmtTree} (last : StmtCases) → one_stmt_case qs t rest ≡ one_stmt_case us v last
        → CaseRead one turns rest others → CaseRead one turns last others
    same_rest last e f = let same : rest ≡ last = cc in subst (λ x. CaseRead one turns x others) same f

cases-fit : (cs : StmtCases) → case_count cs ≤ marks (further_stmt_cases cs)
cases-fit no_stmt_cases = omega arith
cases-fit (one_stmt_case ps s cs) =
    let k : case_count cs ≤ marks (further_stmt_cases cs) = cases-fit cs in
    let a = marks-append (whole (patterns_spelling ps)) (mark word_is.Arrow ∷ (stmt_spelling s ++ further_stmt_cases cs)) in
    let b = marks-append (stmt_spelling s) (further_stmt_cases cs) in omega arith

abbrev all_pieces : ExprTree → PatternTrees → StmtTree → StmtCases → MaybeStmt → List Piece
all_pieces e ps s cs others = whole (spelling e) ++ (mark word_is.Colon ∷ case_pieces ps s cs others)

all-fit : (e : ExprTree) (ps : PatternTrees) (s : StmtTree) (cs : StmtCases) (others : MaybeStmt) → case_count cs ≤ marks (all_pieces e ps s cs others)
all-fit e ps s cs others =
    let k : case_count cs ≤ marks (further_stmt_cases cs) = cases-fit cs in
    let a = marks-append (whole (spelling e)) (mark word_is.Colon ∷ case_pieces ps s cs others) in
    let b = marks-append (whole (patterns_spelling ps)) (mark word_is.Arrow ∷ (stmt_spelling s ++ (further_stmt_cases cs ++ ending others))) in
    let c = marks-append (stmt_spelling s) (further_stmt_cases cs ++ ending others) in
    let d = marks-append (further_stmt_cases cs) (ending others) in omega arith

pub cases-reads : (one : List Token → Read StmtTree) (e : ExprTree) (ps : PatternTrees) (s : StmtTree) (cs : StmtCases) (others : MaybeStmt) (place : Place)
    (ends : Word → Bool) → Binds e far_pull → AreStmtCases (one_stmt_case ps s cs) → CasesAreRead one (one_stmt_case ps s cs) → GivenRead one others
    → Reads (cases_in_stmt one place)
    (whole (spelling e) ++ (mark word_is.Colon ∷ (stmt_cases_spelling (one_stmt_case ps s cs) ++ ending others)))
    (cases_then e (one_stmt_case ps s cs) others place) ends
cases-reads one e ps s cs others place ends b g r o =
    same_pieces (ap (λ x. whole (spelling e) ++ (mark word_is.Colon ∷ x)) alike)
    (counted (λ turns ts. onto (expr_in ts) (λ subject a. onto (word_in word_is.Colon a) (λ colon c. onto (cases_in one turns c) (λ found d.
    Some (cases_then subject found.0 found.1 place, d)))))
    _ _ ends (case_count cs) (all-fit e ps s cs others) (λ turns short.
    then_reads _ (expr_reads e b) (by_mark word_is.Colon refl) (at_mark word_is.Colon _ refl (λ spot.
    last_reads (λ found. cases_then e found.0 found.1 place)
    ((case-read one turns cs others short g.3 r.1 o).reads ps s ends g.0 g.1 r.0)))))
  where
    alike : case_pieces ps s cs others ≡ stmt_cases_spelling (one_stmt_case ps s cs) ++ ending others
    alike =
        sym (append_assoc (whole (patterns_spelling ps)) (mark word_is.Arrow ∷ (stmt_spelling s ++ further_stmt_cases cs)) (ending others)
        ∙ ap (λ x. whole (patterns_spelling ps) ++ (mark word_is.Arrow ∷ x)) (append_assoc (stmt_spelling s) (further_stmt_cases cs) (ending others)))
