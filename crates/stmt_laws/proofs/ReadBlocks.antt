-- Blocks are read: their local variables, and their statements up to the bracket that closes them.
use Rattle.std.proofs.Common.{◌≡◌, ℕ, zero, suc, ◌+◌, ◌≤◌, ◌<◌, Bool, true, false, ◌||◌, if◌then◌else◌, List, [], ◌∷◌, ◌++◌, length, Option, Some, None, refl, ap, sym, subst, ◌∙◌, append_assoc, arith}
use Rattle.vdm_kinds.specs.declared.place.Place.{Place}
use Rattle.abstract_syntax.specs.Expressions.{ExprTree}
use Rattle.abstract_syntax.specs.Statements.{LocalTree, DclTree, StmtTree, StmtTrees, block, one_stmt}
use Rattle.grammar_words.specs.declared.word.Word.{Word}
use Rattle.grammar_words.specs.declared.word.Word.TheVariants as word_is
use Rattle.grammar_words.specs.Tokens.{Token, identifier, quote, whole as whole_token, character, text, make_named, is_named, plain}
use Rattle.stmt_trees.specs.Pieces.{Piece, mark, key, may, Spelled}
use Rattle.stmt_trees.specs.StmtSpelling.{behind_word, local_spelling, locals_spelling, dcls_spelling, stmt_spelling, further_stmts}
use Rattle.stmt_trees.specs.StmtGrammar.{takes_else, AreLocals, AreSomeLocals, AreDcls}
use Rattle.stmt_reading.specs.Leaves.{Read, onto, choice, word_in, is_word, list_in}
use Rattle.stmt_reading.specs.Statements.{local_in, dcls_in, stmts_tree, block_rest, block_in, behind_bracket, simple_in, stmt_in}
use Rattle.stmt_laws.specs.Ends.{ends_type, ends_expr, first_word, ends_stmt, ends_after}
use Rattle.stmt_laws.proofs.Readers.{Reads, Begins, is_other, by_mark, by_nothing, at_mark, at_name, done, may_come, left_away, last_reads, then_reads, word-is, word-is_not, Spelled-split}
use Rattle.stmt_laws.proofs.Leaves.{type_reads}
use Rattle.stmt_laws.proofs.Lists.{marks, marks-append, counted, AllRead, Between, list-reads}
use Rattle.stmt_laws.proofs.Parts.{OneReads}
use Rattle.stmt_laws.proofs.MoreParts.{given_reads}
use Rattle.stmt_laws.proofs.Spellings.{locals-alike, IsLocal}
use Rattle.stmt_laws.proofs.SoundForms.{is_there}
use Rattle.stmt_laws.proofs.Levels.{dcls-closed, stmts-closed}
use Rattle.stmt_laws.proofs.Calls.{is_postfix, Stops, stops_here, stops_behind}
use Rattle.stmt_laws.proofs.Firsts.{apart, behind_any, MayCome, away, there, may_come_or_not, regrouped, same_pieces}
use Rattle.stmt_laws.proofs.ReadSimple.{stmt_list, stmts-back, StmtsRead, all_stmts}

-- ---- local variables

abbrev local_ends : Word → Bool
local_ends word_is.Comma = true
local_ends word_is.Semicolon = true
local_ends _ = false

abbrev only_semicolon : Word → Bool
only_semicolon word_is.Semicolon = true
only_semicolon _ = false

ends_of_local : (w : Word) → local_ends w ≡ true → ends_expr w ≡ true
ends_of_local word_is.Comma e = refl
ends_of_local word_is.Semicolon e = refl
ends_of_local _ e = absurd (cc)

type_of_local : (w : Word) → local_ends w ≡ true → ends_type w ≡ true
type_of_local word_is.Comma e = refl
type_of_local word_is.Semicolon e = refl
type_of_local _ e = absurd (cc)

last_local : (w : Word) → only_semicolon w ≡ true → local_ends w ≡ true
last_local word_is.Semicolon e = refl
last_local _ e = absurd (cc)

initial_begins : (e : Option ExprTree) → Begins (behind_word word_is.Becomes e) local_ends ends_type
initial_begins None = by_nothing type_of_local
initial_begins (Some e) = by_mark word_is.Becomes refl

local-reads : (l : LocalTree) → IsLocal l → Reads local_in (local_spelling l) l local_ends
local-reads l g =
    at_name l.name l.name_place _ (at_mark word_is.Colon _ refl (λ colon. then_reads _ (type_reads l.declared g.0) (initial_begins l.initial)
    (last_reads (λ initial. record { name = l.name; name_place = l.name_place; declared = l.declared; initial = initial })
    (given_reads word_is.Becomes l.initial local_ends refl g.1 ends_of_local (apart word_is.Becomes local_ends refl)))))

all_locals : (ls : List LocalTree) → AreLocals ls → AllRead local_in local_spelling (λ (l : LocalTree). local_ends) ls
all_locals [] g = tt
all_locals (l ∷ ls) g = (local-reads l (g.0, g.1), all_locals ls g.2)

between_locals : Between word_is.Comma (λ (l : LocalTree). local_ends) only_semicolon
between_locals =
    record { known = refl; next = λ l. refl; last = λ l w e. last_local w e; other = apart word_is.Comma only_semicolon refl }

locals-reads : (ls : List LocalTree) → AreSomeLocals ls → AreLocals ls → Reads (list_in word_is.Comma local_in) (locals_spelling ls) ls only_semicolon
locals-reads [] some g = absurd some
locals-reads (l ∷ ls) some g =
    same_pieces (ap (λ more. local_spelling l ++ more) (locals-alike ls))
    (list-reads word_is.Comma local_in local_spelling (λ x. local_ends) only_semicolon between_locals l ls (all_locals (l ∷ ls) g))

-- a word at its place, which may be left out
pub key_comes : {B : Type 0} {b : B} {vs : List Piece} {ends : Word → Bool} (w : Word) (place : Place) (q : Place → List Token → Read B)
    (other : List Token → Read B) → is_word w w ≡ true → Reads (q place) vs b ends
    → Reads (λ (ts : List Token). choice (word_in w ts) q (other ts)) (key w place ∷ vs) b ends
key_comes w place q other is more =
    record {
      reads = λ tokens rest h e.
          ap (λ ts. choice (word_in w ts) q (other tokens)) h.1 ∙ ap (λ o. choice o q (other tokens)) (word-is w place h.0 is)
          ∙ more.reads h.0 rest h.2 e;
    }

dcls-read : (ds : List DclTree) (turns : ℕ) → length ds < turns → AreDcls ds → Reads (dcls_in turns) (dcls_spelling ds) ds (is_other word_is.Dcl)
dcls-read ds zero short g = absurd (omega arith)
dcls-read [] (suc turns) short g = left_away word_is.Dcl _ _ (by_nothing (λ w e. e)) (done [] (is_other word_is.Dcl))
dcls-read (d ∷ ds) (suc turns) short g =
    key_comes word_is.Dcl d.place _ _ refl (then_reads _ (locals-reads d.locals g.0 g.1) (by_mark word_is.Semicolon refl)
    (at_mark word_is.Semicolon _ refl (λ spot.
    last_reads (λ others. record { locals = d.locals; place = d.place } ∷ others) (dcls-read ds turns (omega arith) g.2))))

dcls-fit : (ds : List DclTree) → length ds ≤ marks (dcls_spelling ds)
dcls-fit [] = omega arith
dcls-fit (d ∷ ds) =
    let k : length ds ≤ marks (dcls_spelling ds) = dcls-fit ds in
    let e = marks-append (locals_spelling d.locals) (mark word_is.Semicolon ∷ dcls_spelling ds) in omega arith

-- ---- further statements

abbrev closing : List Piece
closing = may word_is.Semicolon ∷ mark word_is.CloseRound ∷ []

-- a statement begins with no word that is looked for before it
abbrev pub begins_stmt : Word → Bool
begins_stmt word_is.Dcl = false
begins_stmt word_is.CloseRound = false
begins_stmt word_is.Is = false
begins_stmt word_is.Periodic = false
begins_stmt _ = true

pub record First (s : StmtTree) : Type 0 where
  pub first : (tokens rest : List Token) → Spelled tokens (stmt_spelling s) rest → begins_stmt (first_word tokens) ≡ true

pub by_stmt : {ends : Word → Bool} (w : Word) (s : StmtTree) (vs : List Piece) → begins_stmt w ≡ false → First s
    → Begins (stmt_spelling s ++ vs) ends (is_other w)
by_stmt w s vs fails f =
    record {
      opens = λ tokens rest h e.
          let k = Spelled-split tokens (stmt_spelling s) vs rest h in
          apart w begins_stmt fails (first_word tokens) (f.first tokens k.0 k.1);
    }

abbrev pub AllFirst : List StmtTree → Type 0
AllFirst [] = Unit {0}
AllFirst (s ∷ ss) = First s × AllFirst ss

closing_begins : (begins : Word → Bool) → begins word_is.Semicolon ≡ true → begins word_is.CloseRound ≡ true → (tokens rest : List Token)
    → MayCome word_is.Semicolon tokens (mark word_is.CloseRound ∷ []) rest → begins (first_word tokens) ≡ true
closing_begins begins one other tokens rest (away s) = ap (λ ts. begins (first_word ts)) s.1.1 ∙ other
closing_begins begins one other tokens rest (there s) = ap (λ ts. begins (first_word ts)) s.1.1 ∙ one

behind_begins : (s : StmtTree) (ss : List StmtTree) (ends : Word → Bool)
    → Begins (further_stmts word_is.Semicolon (stmts_tree ss) ++ closing) ends (ends_after s)
behind_begins s [] ends =
    record {
      opens = λ tokens rest h e.
          closing_begins (ends_after s) (behind_any (takes_else s) word_is.Semicolon refl refl)
          (behind_any (takes_else s) word_is.CloseRound refl refl) tokens rest
          (may_come_or_not word_is.Semicolon tokens rest (mark word_is.CloseRound ∷ []) h);
    }
behind_begins s (x ∷ xs) ends = by_mark word_is.Semicolon (behind_any (takes_else s) word_is.Semicolon refl refl)

closed_alone : (one : List Token → Read StmtTree) (turns : ℕ) (ends : Word → Bool)
    → Reads (block_rest one (suc turns)) (mark word_is.CloseRound ∷ []) [] ends
closed_alone one turns ends = may_come word_is.CloseRound _ _ refl (λ close. done [] ends)

closed_behind : (one : List Token → Read StmtTree) (turns : ℕ) (ends : Word → Bool)
    → Reads (block_rest one (suc turns)) (mark word_is.Semicolon ∷ mark word_is.CloseRound ∷ []) [] ends
closed_behind one turns ends =
    left_away word_is.CloseRound _ _ (by_mark word_is.Semicolon refl) (at_mark word_is.Semicolon _ refl (λ spot.
    may_come word_is.CloseRound _ _ refl (λ close. done [] ends)))

closed_either : (one : List Token → Read StmtTree) (turns : ℕ) (ends : Word → Bool) (tokens rest : List Token)
    → MayCome word_is.Semicolon tokens (mark word_is.CloseRound ∷ []) rest → ends (first_word rest) ≡ true
    → block_rest one (suc turns) tokens ≡ Some ([], rest)
closed_either one turns ends tokens rest (away s) e = (closed_alone one turns ends).reads tokens rest s e
closed_either one turns ends tokens rest (there s) e = (closed_behind one turns ends).reads tokens rest s e

rest-reads : (one : List Token → Read StmtTree) (ss : List StmtTree) (turns : ℕ) (ends : Word → Bool) → length ss < turns
    → AllRead one stmt_spelling (λ (s : StmtTree). ends_after s) ss → AllFirst ss
    → Reads (block_rest one turns) (further_stmts word_is.Semicolon (stmts_tree ss) ++ closing) ss ends
rest-reads one ss zero ends short r f = absurd (omega arith)
rest-reads one [] (suc turns) ends short r f =
    record {
      reads = λ tokens rest h e.
          closed_either one turns ends tokens rest (may_come_or_not word_is.Semicolon tokens rest (mark word_is.CloseRound ∷ []) h) e;
    }
rest-reads one (s ∷ ss) (suc turns) ends short r f =
    left_away word_is.CloseRound _ _ (by_mark word_is.Semicolon refl) (at_mark word_is.Semicolon _ refl (λ spot.
    regrouped (stmt_spelling s) (further_stmts word_is.Semicolon (stmts_tree ss)) closing
    (left_away word_is.CloseRound _ _
    (by_stmt word_is.CloseRound s (further_stmts word_is.Semicolon (stmts_tree ss) ++ closing) refl f.0)
    (then_reads _ r.0 (behind_begins s ss ends)
    (last_reads (λ more. s ∷ more) (rest-reads one ss turns ends (omega arith) r.1 f.1))))))

stmts-fit : (w : Word) (ss : List StmtTree) → length ss ≤ marks (further_stmts w (stmts_tree ss))
stmts-fit w [] = omega arith
stmts-fit w (s ∷ ss) =
    let k : length ss ≤ marks (further_stmts w (stmts_tree ss)) = stmts-fit w ss in
    let e = marks-append (stmt_spelling s) (further_stmts w (stmts_tree ss)) in omega arith

-- ---- blocks

abbrev inside : List DclTree → StmtTree → List StmtTree → List Piece
inside ds s ss = dcls_spelling ds ++ (stmt_spelling s ++ (further_stmts word_is.Semicolon (stmts_tree ss) ++ closing))

block-fits : (ds : List DclTree) (s : StmtTree) (ss : List StmtTree) → length ds + length ss ≤ marks (inside ds s ss)
block-fits ds s ss =
    let a : length ds ≤ marks (dcls_spelling ds) = dcls-fit ds in
    let b : length ss ≤ marks (further_stmts word_is.Semicolon (stmts_tree ss)) = stmts-fit word_is.Semicolon ss in
    let c = marks-append (dcls_spelling ds) (stmt_spelling s ++ (further_stmts word_is.Semicolon (stmts_tree ss) ++ closing)) in
    let d = marks-append (stmt_spelling s) (further_stmts word_is.Semicolon (stmts_tree ss) ++ closing) in
    let e = marks-append (further_stmts word_is.Semicolon (stmts_tree ss)) closing in omega arith

block_of : (one : List Token → Read StmtTree) (ds : List DclTree) (s : StmtTree) (ss : List StmtTree) (place : Place) (ends : Word → Bool)
    → AreDcls ds → OneReads one s → First s → AllRead one stmt_spelling (λ (x : StmtTree). ends_after x) ss → AllFirst ss
    → Reads (block_in one place) (inside ds s ss) (block ds (stmts_tree (s ∷ ss)) place) ends
block_of one ds s ss place ends g r f rs fs =
    counted (λ turns ts. onto (dcls_in turns ts) (λ locals a. onto (one a) (λ x b. onto (block_rest one turns b) (λ others c.
    Some (block locals (stmts_tree (x ∷ others)) place, c)))))
    _ _ ends (length ds + length ss) (block-fits ds s ss) (λ turns short.
    then_reads _ (dcls-read ds turns (omega arith) g)
    (by_stmt word_is.Dcl s (further_stmts word_is.Semicolon (stmts_tree ss) ++ closing) refl f)
    (then_reads _ r (behind_begins s ss ends)
    (last_reads (λ others. block ds (stmts_tree (s ∷ others)) place) (rest-reads one ss turns ends (omega arith) rs fs))))

stops_either : (tokens rest : List Token) → MayCome word_is.Semicolon tokens (mark word_is.CloseRound ∷ []) rest → behind_bracket 0 tokens ≡ rest
stops_either tokens rest (away s) = stops_here.stops tokens rest s
stops_either tokens rest (there s) = ap (behind_bracket 0) s.1.1 ∙ stops_here.stops s.0 rest s.2

stops_closing : Stops closing
stops_closing =
    record { stops = λ tokens rest h. stops_either tokens rest (may_come_or_not word_is.Semicolon tokens rest (mark word_is.CloseRound ∷ []) h) }

-- where no postfix stands behind the bracket that closes it, no call begins
abbrev not_postfix : Word → Bool
not_postfix w = if is_postfix w then false else true

absent : (w found : Word) (place : Place) (tokens : List Token) → is_other w found ≡ true → is_there (word_in w (plain found place ∷ tokens)) ≡ false
absent w found place tokens e = ap is_there (word-is_not w (plain found place ∷ tokens) (other_is (is_word w found) e))
  where
    other_is : (b : Bool) → (if b then false else true) ≡ true → b ≡ false
    other_is true h = absurd (cc)
    other_is false h = refl

no_postfix_word : (w : Word) (place : Place) (tokens : List Token) → is_postfix w ≡ false
    → (is_there (word_in word_is.OpenRound (plain w place ∷ tokens)) || is_there (word_in word_is.Dot (plain w place ∷ tokens))
    || is_there (word_in word_is.DotNumber (plain w place ∷ tokens))) ≡ false
no_postfix_word w place tokens e =
    let t : not_postfix w ≡ true = ap (λ (b : Bool). if b then false else true) e in
    let a = absent word_is.OpenRound w place tokens (apart word_is.OpenRound not_postfix refl w t) in
    let b = absent word_is.Dot w place tokens (apart word_is.Dot not_postfix refl w t) in
    let c = absent word_is.DotNumber w place tokens (apart word_is.DotNumber not_postfix refl w t) in
    three (is_there (word_in word_is.OpenRound (plain w place ∷ tokens))) (is_there (word_in word_is.Dot (plain w place ∷ tokens)))
    (is_there (word_in word_is.DotNumber (plain w place ∷ tokens))) a b c
  where
    three : (a b c : Bool) → a ≡ false → b ≡ false → c ≡ false → (a || b || c) ≡ false
    three false false false d e f = refl
    three true b c d e f = absurd (cc)
    three false true c d e f = absurd (cc)
    three false false true d e f = absurd (cc)

no_postfix : (tokens : List Token) → is_postfix (first_word tokens) ≡ false
    → (is_there (word_in word_is.OpenRound tokens) || is_there (word_in word_is.Dot tokens) || is_there (word_in word_is.DotNumber tokens)) ≡ false
no_postfix [] e = refl
no_postfix (plain w place ∷ tokens) e = no_postfix_word w place tokens e
no_postfix (identifier n p ∷ tokens) e = refl
no_postfix (quote n p ∷ tokens) e = refl
no_postfix (whole_token n p ∷ tokens) e = refl
no_postfix (character n p ∷ tokens) e = refl
no_postfix (text n p ∷ tokens) e = refl
no_postfix (make_named n p ∷ tokens) e = refl
no_postfix (is_named n p ∷ tokens) e = refl

stmt_no_postfix : (w : Word) → ends_stmt w ≡ true → is_postfix w ≡ false
stmt_no_postfix word_is.OpenRound e = absurd (cc)
stmt_no_postfix word_is.Dot e = absurd (cc)
stmt_no_postfix word_is.DotNumber e = absurd (cc)
stmt_no_postfix _ e = refl

pub block-reads : (room : ℕ) (ds : List DclTree) (s : StmtTree) (ss : StmtTrees) (place : Place) (ends : Word → Bool)
    → ((w : Word) → ends w ≡ true → ends_stmt w ≡ true) → AreDcls ds → StmtsRead (stmt_in room) (one_stmt s ss) → AllFirst (stmt_list (one_stmt s ss))
    → Reads (stmt_in (suc room)) (stmt_spelling (block ds (one_stmt s ss) place)) (block ds (one_stmt s ss) place) ends
block-reads room ds s ss place ends more g r f =
    let one = stmt_in room in
    let read = block_of one ds s (stmt_list ss) place ends g r.0 f.0 (all_stmts one ss r.1) f.1 in
    record {
      reads = λ tokens rest h e.
          let stop = (stops_behind (dcls-closed ds) (stops_behind (stmts-closed word_is.Semicolon (λ k. refl) (one_stmt s ss)) stops_closing)).stops h.0 rest h.2 in
          let fails = ap (λ ts. is_there (word_in word_is.OpenRound ts) || is_there (word_in word_is.Dot ts) || is_there (word_in word_is.DotNumber ts)) stop
          ∙ no_postfix rest (stmt_no_postfix (first_word rest) (more (first_word rest) e)) in
          let spelled = subst (λ ps. Spelled h.0 (dcls_spelling ds ++ ps) rest)
          (append_assoc (stmt_spelling s) (further_stmts word_is.Semicolon ss) closing) h.2 in
          let again = subst (λ x. Spelled h.0 (dcls_spelling ds ++ (stmt_spelling s ++ (further_stmts word_is.Semicolon x ++ closing))) rest)
          (sym (stmts-back ss)) spelled in
          ap (stmt_in (suc room)) h.1
          ∙ ap (λ (b : Bool). if b then simple_in (plain word_is.OpenRound place ∷ h.0) else block_in one place h.0) fails
          ∙ read.reads h.0 rest again e
          ∙ ap (λ x. Some (block ds (one_stmt s x) place, rest)) (stmts-back ss);
    }
