-- What is read of `if` and of `cases` is written so, and the grammar has it: each `else` goes to the nearest `if` that lacks one.
use Rattle.std.proofs.Common.{◌≡◌, ℕ, zero, suc, Bool, true, false, List, [], ◌∷◌, ◌++◌, None, refl, ap, ◌∙◌}
use Rattle.vdm_kinds.specs.declared.place.Place.{Place}
use Rattle.abstract_syntax.specs.Expressions.{ExprTree}
use Rattle.abstract_syntax.specs.Statements.{StmtTree, MaybeStmt, StmtBranches, StmtCases, if_then, cases_then, no_stmt, given_stmt, no_stmt_branches, one_stmt_branch, no_stmt_cases, one_stmt_case}
use Rattle.grammar_words.specs.declared.word.Word.{Word}
use Rattle.grammar_words.specs.declared.word.Word.TheVariants as word_is
use Rattle.grammar_words.specs.Tokens.{Token, identifier, quote, whole as whole_token, character, text, make_named, is_named, plain}
use Rattle.stmt_trees.specs.Pieces.{mark}
use Rattle.stmt_trees.specs.StmtSpelling.{stmt_branches_spelling, else_spelling, stmt_cases_spelling, further_stmt_cases, others_spelling}
use Rattle.stmt_trees.specs.StmtGrammar.{takes_else, LeavesElse, AreStmtBranches, IsGivenStmt, AreStmtCases, AreSomeStmtCases}
use Rattle.stmt_reading.specs.Leaves.{Read, word_in, turns_for}
use Rattle.stmt_reading.specs.Statements.{else_in, branches_in, if_in, CasesRead, others_in, cases_in, cases_in_stmt}
use Rattle.stmt_laws.specs.Ends.{first_word, not_else}
use Rattle.stmt_laws.proofs.Gives.{Gives, gives_this, gives_none, gives_onto, gives_choice, Spells, two, ended, begun, AtWord, marked, gives_word}
use Rattle.stmt_laws.proofs.SoundParts.{gives_expr, gives_patterns, StmtAt, no_lack}
use Rattle.stmt_laws.proofs.SoundForms.{OneGives}

-- ---- `else`

-- where neither word comes, no `else` does
neither : (tokens : List Token) → word_in word_is.Else tokens ≡ None → word_in word_is.Elseif tokens ≡ None → not_else (first_word tokens) ≡ true
neither [] e f = refl
neither (plain word_is.Else place ∷ tokens) e f = absurd (cc)
neither (plain word_is.Elseif place ∷ tokens) e f = absurd (cc)
neither (plain _ place ∷ tokens) e f = refl
neither (identifier n p ∷ tokens) e f = refl
neither (quote n p ∷ tokens) e f = refl
neither (whole_token n p ∷ tokens) e f = refl
neither (character n p ∷ tokens) e f = refl
neither (text n p ∷ tokens) e f = refl
neither (make_named n p ∷ tokens) e f = refl
neither (is_named n p ∷ tokens) e f = refl

else_comes : {w : Word} {tokens rest : List Token} {place : Place} → not_else w ≡ false → AtWord w tokens place rest → not_else (first_word tokens) ≡ false
else_comes e f = ap (λ ts. not_else (first_word ts)) f.is ∙ e

untaken : (takes is_not : Bool) → (takes ≡ true → is_not ≡ true) → is_not ≡ false → takes ≡ false
untaken false is_not h e = refl
untaken true is_not h e = let k = h refl in absurd (cc)

-- an `elseif` or an `else` comes, as the grammar has it
abbrev goes_on : StmtBranches → MaybeStmt → Bool
goes_on (one_stmt_branch condition body others) otherwise = true
goes_on no_stmt_branches (given_stmt s) = true
goes_on no_stmt_branches no_stmt = false

-- what an `else` reading gives
pub record ElseAt (tokens : List Token) (otherwise : MaybeStmt) (rest : List Token) : Type 0 where
  pub spelled : Spells tokens (else_spelling otherwise) rest
  pub good : IsGivenStmt otherwise
  pub comes : goes_on no_stmt_branches otherwise ≡ true → not_else (first_word tokens) ≡ false
  pub no_else : word_in word_is.Elseif tokens ≡ None → (c : ExprTree) (s : StmtTree) (bs : StmtBranches) (place : Place)
      → takes_else (if_then c s bs otherwise place) ≡ true → not_else (first_word rest) ≡ true

gives_else : (one : List Token → Read StmtTree) → OneGives one → (tokens : List Token) → Gives (else_in one tokens) (ElseAt tokens)
gives_else one o tokens =
    gives_choice _ _ (gives_word word_is.Else tokens) (λ place a f. gives_onto _ (o.gives a) (λ s b g.
    gives_this (given_stmt s) b (record {
      spelled = marked f g.spelled;
      good = g.good;
      comes = λ e. else_comes refl f;
      no_else = λ none c x bs spot e. g.no_else e;
    })))
    (λ none. gives_this no_stmt tokens (record {
      spelled = ended;
      good = tt;
      comes = λ e. absurd (cc);
      no_else = λ other c x bs spot e. neither tokens none other;
    }))

-- branches, and what stands behind them
pub record BranchesAt (tokens : List Token) (bs : StmtBranches) (rest : List Token) : Type 0 where
  pub spelled : Spells tokens (stmt_branches_spelling bs) rest
  pub over : word_in word_is.Elseif rest ≡ None
  pub comes : (otherwise : MaybeStmt) → (goes_on no_stmt_branches otherwise ≡ true → not_else (first_word rest) ≡ false)
      → goes_on bs otherwise ≡ true → not_else (first_word tokens) ≡ false
  pub good : (otherwise : MaybeStmt) → (goes_on no_stmt_branches otherwise ≡ true → not_else (first_word rest) ≡ false)
      → AreStmtBranches bs otherwise

leaves : {tokens rest : List Token} {bs : StmtBranches} {before : List Token} {s : StmtTree} (otherwise : MaybeStmt) → StmtAt before s tokens
    → BranchesAt tokens bs rest → (goes_on no_stmt_branches otherwise ≡ true → not_else (first_word rest) ≡ false) → LeavesElse s bs otherwise
leaves {tokens = tokens} {s = s} otherwise f g comes =
    λ goes. untaken (takes_else s) (not_else (first_word tokens)) f.no_else (g.comes otherwise comes goes)

gives_branches : (one : List Token → Read StmtTree) → OneGives one → (turns : ℕ) (tokens : List Token)
    → Gives (branches_in one turns tokens) (BranchesAt tokens)
gives_branches one o zero tokens = gives_none
gives_branches one o (suc turns) tokens =
    gives_choice _ _ (gives_word word_is.Elseif tokens) (λ place a f. gives_onto _ (gives_expr a) (λ c b g.
    gives_onto _ (gives_word word_is.Then b) (λ spot d h. gives_onto _ (o.gives d) (λ s e i.
    gives_onto _ (gives_branches one o turns e) (λ others rest k.
    gives_this (one_stmt_branch c s others) rest (record {
      spelled = marked f (two g.spelled (marked h (two i.spelled k.spelled)));
      over = k.over;
      comes = λ otherwise other goes. else_comes refl f;
      good = λ otherwise other. (g.good, i.good, leaves otherwise i k other, k.good otherwise other);
    }))))))
    (λ none. gives_this no_stmt_branches tokens (record {
      spelled = ended;
      over = none;
      comes = λ otherwise other goes. other goes;
      good = λ otherwise other. tt;
    }))

pub gives_if : (one : List Token → Read StmtTree) → OneGives one → (place : Place) (tokens : List Token)
    → Gives (if_in one place tokens) (StmtAt (plain word_is.If place ∷ tokens))
gives_if one o place tokens =
    gives_onto _ (gives_expr tokens) (λ c a f. gives_onto _ (gives_word word_is.Then a) (λ spot b g. gives_onto _ (o.gives b) (λ s d h.
    gives_onto _ (gives_branches one o (turns_for tokens) d) (λ elseifs e i. gives_onto _ (gives_else one o e) (λ otherwise rest k.
    gives_this (if_then c s elseifs otherwise place) rest (record {
      spelled = begun (two f.spelled (marked g (two h.spelled (two i.spelled k.spelled))));
      good = (f.good, h.good, leaves otherwise h i k.comes, i.good otherwise k.comes, k.good);
      no_else = k.no_else i.over c s elseifs place;
    }))))))

-- ---- `cases`

-- alternatives and what stands behind `others`, up to `end`
pub record CasesAt (tokens : List Token) (found : CasesRead) (rest : List Token) : Type 0 where
  pub middle : List Token
  pub spelled : Spells tokens (stmt_cases_spelling found.0) middle
  pub ended : Spells middle (others_spelling found.1 ++ (mark word_is.End ∷ [])) rest
  pub some : AreSomeStmtCases found.0
  pub good : AreStmtCases found.0
  pub given : IsGivenStmt found.1

-- the same behind a comma, where there may be no further alternatives
pub record MoreCasesAt (before : List Token) (found : CasesRead) (rest : List Token) : Type 0 where
  pub middle : List Token
  pub spelled : Spells before (further_stmt_cases found.0) middle
  pub ended : Spells middle (others_spelling found.1 ++ (mark word_is.End ∷ [])) rest
  pub good : AreStmtCases found.0
  pub given : IsGivenStmt found.1

behind_comma : {before tokens rest : List Token} {place : Place} (cases : StmtCases) (given : MaybeStmt) → AtWord word_is.Comma before place tokens
    → CasesAt tokens (cases, given) rest → MoreCasesAt before (cases, given) rest
behind_comma no_stmt_cases given f h = absurd h.some
behind_comma (one_stmt_case ps s others) given f h =
    record { middle = h.middle; spelled = marked f h.spelled; ended = h.ended; good = h.good; given = h.given }

gives_others : (one : List Token → Read StmtTree) → OneGives one → (before after tokens : List Token) (comma place : Place)
    → AtWord word_is.Comma before comma after → AtWord word_is.Others after place tokens
    → Gives (others_in one tokens) (MoreCasesAt before)
gives_others one o before after tokens comma place c w =
    gives_onto _ (gives_word word_is.Arrow tokens) (λ spot a f. gives_onto _ (o.gives a) (λ s b g.
    gives_onto _ (gives_word word_is.End b) (λ end d h.
    gives_this (no_stmt_cases, given_stmt s) d (record {
      middle = before;
      spelled = ended;
      ended = marked c (marked w (marked f (two g.spelled (marked h ended))));
      good = tt;
      given = g.good;
    }))))

gives_cases_in : (one : List Token → Read StmtTree) → OneGives one → (turns : ℕ) (tokens : List Token)
    → Gives (cases_in one turns tokens) (CasesAt tokens)
gives_cases_in one o zero tokens = gives_none
gives_cases_in one o (suc turns) tokens =
    gives_onto _ (gives_patterns tokens) (λ ps a f. gives_onto _ (gives_word word_is.Arrow a) (λ place b g. gives_onto _ (o.gives b) (λ s c h.
    gives_choice _ _ (gives_word word_is.End c) (λ end d i.
    gives_this (one_stmt_case ps s no_stmt_cases, no_stmt) d (record {
      middle = c;
      spelled = two f.spelled (marked g (two h.spelled ended));
      ended = marked i ended;
      some = tt;
      good = (f.good.0, f.good.1, h.good, tt);
      given = tt;
    }))
    (λ none. gives_onto _ (gives_word word_is.Comma c) (λ comma d i.
    gives_onto {P = MoreCasesAt c} _ (gives_choice _ _ (gives_word word_is.Others d)
    (λ spot e j. gives_others one o c d e comma spot i j)
    (λ other. gives_more_cases c d comma i (gives_cases_in one o turns d)))
    (λ more rest k. gives_this (one_stmt_case ps s more.0, more.1) rest (record {
      middle = k.middle;
      spelled = two f.spelled (marked g (two h.spelled k.spelled));
      ended = k.ended;
      some = tt;
      good = (f.good.0, f.good.1, h.good, k.good);
      given = k.given;
    })))))))
  where
    gives_more_cases : {r : Read CasesRead} (before tokens : List Token) (comma : Place) → AtWord word_is.Comma before comma tokens
        → Gives r (CasesAt tokens) → Gives r (MoreCasesAt before)
    gives_more_cases before tokens comma i first =
        record { gives = λ found rest e. behind_comma found.0 found.1 i (first.gives found rest e) }

pub gives_cases : (one : List Token → Read StmtTree) → OneGives one → (place : Place) (tokens : List Token)
    → Gives (cases_in_stmt one place tokens) (StmtAt (plain word_is.Cases place ∷ tokens))
gives_cases one o place tokens =
    gives_onto _ (gives_expr tokens) (λ subject a f. gives_onto _ (gives_word word_is.Colon a) (λ colon b g.
    gives_onto _ (gives_cases_in one o (turns_for tokens) b) (λ found rest h.
    gives_this (cases_then subject found.0 found.1 place) rest (record {
      spelled = begun (two f.spelled (marked g (two h.spelled h.ended)));
      good = (f.good, h.some, h.good, h.given);
      no_else = no_lack (not_else (first_word rest));
    }))))
