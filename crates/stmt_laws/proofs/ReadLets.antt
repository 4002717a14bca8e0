-- `let` and `tixe` are read.
use Rattle.std.proofs.Common.{◌≡◌, Bool, true, false, ◌||◌, if◌then◌else◌, List, [], ◌∷◌, ◌++◌, length, Option, Some, None, refl, ap, sym, ◌∙◌, append_assoc}
use Rattle.vdm_kinds.specs.declared.place.Place.{Place}
use Rattle.vdm_kinds.specs.declared.sign.Sign.TheVariants.{Equal, InSet}
use Rattle.abstract_syntax.specs.Types.{TypeTree}
use Rattle.abstract_syntax.specs.Expressions.{ExprTree, PatternTree, PatternTrees, no_patterns, one_pattern, DefinedTrees, no_defined, one_defined, bind_in}
use Rattle.abstract_syntax.specs.Statements.{StmtTree, HandlerTrees, no_handlers, one_handler, let_then, let_be_then, trap_exits}
use Rattle.grammar_words.specs.declared.word.Word.{Word}
use Rattle.grammar_words.specs.declared.word.Word.TheVariants as word_is
use Rattle.grammar_words.specs.Pulls.{far_pull}
use Rattle.grammar_words.specs.Tokens.{Token, plain}
use Rattle.grammar_trees.specs.Spelling.{spelling, pattern_spelling, patterns_spelling, declared_spelling, definitions_spelling, bind_spelling}
use Rattle.grammar_trees.specs.Binding.{Binds, IsPattern, ArePatterns, IsDeclared, AreDefinitions}
use Rattle.stmt_trees.specs.Pieces.{Piece, mark, whole, Spelled}
use Rattle.stmt_trees.specs.StmtSpelling.{such_that, stmt_spelling, handlers_spelling, further_handlers}
use Rattle.stmt_trees.specs.StmtGrammar.{takes_else, IsGivenExpr, AreHandlers}
use Rattle.stmt_trees.specs.ClassSpelling.{each_behind}
use Rattle.stmt_reading.specs.Leaves.{Read, word_in, further, turns_for, pattern_in}
use Rattle.stmt_reading.specs.Statements.{such_that_in, patterns_tree, patterns_in, Definition, declared_in, defined_in, definition_in, definitions_tree, let_definitions, let_bind, let_in_stmt, Handler, handler_in, handlers_tree, tixe_in}
use Rattle.stmt_laws.specs.Ends.{ends_expr, ends_pattern, ends_type, first_word, ends_after}
use Rattle.stmt_laws.proofs.Readers.{Reads, Begins, is_other, by_mark, by_nothing, at_mark, done, may_come, left_away, last_reads, then_reads, word-is_not}
use Rattle.stmt_laws.proofs.Leaves.{expr_reads, pattern_reads, type_reads}
use Rattle.stmt_laws.proofs.Lists.{AllRead, Between, further-reads, list-reads, each-fits, counted}
use Rattle.stmt_laws.proofs.Parts.{OneReads, in_body_reads}
use Rattle.stmt_laws.proofs.MoreParts.{fewer_end}
use Rattle.stmt_laws.proofs.Spellings.{pattern_pieces, whole-append, some_patterns-alike, definition_pieces, IsDefinition, some_definitions-alike, handler_pieces, handlers-alike, handler-alike}
use Rattle.stmt_laws.proofs.SoundForms.{is_there}
use Rattle.stmt_laws.proofs.Firsts.{apart, behind_any, same_pieces}
use Rattle.stmt_laws.proofs.ReadSimple.{same_result}

-- ---- a choice by what comes next

either_reads : {A : Type 0} {ws : List Piece} {a : A} {ends : Word → Bool} (test : List Token → Bool) (p q : List Token → Read A)
    → ((tokens rest : List Token) → Spelled tokens ws rest → ends (first_word rest) ≡ true → test tokens ≡ true) → Reads p ws a ends
    → Reads (λ (ts : List Token). if test ts then p ts else q ts) ws a ends
either_reads test p q comes r =
    record {
      reads = λ tokens rest h e.
          ap (λ (b : Bool). if b then p tokens else q tokens) (comes tokens rest h e) ∙ r.reads tokens rest h e;
    }

other_reads : {A : Type 0} {ws : List Piece} {a : A} {ends : Word → Bool} (test : List Token → Bool) (p q : List Token → Read A)
    → ((tokens rest : List Token) → Spelled tokens ws rest → ends (first_word rest) ≡ true → test tokens ≡ false) → Reads q ws a ends
    → Reads (λ (ts : List Token). if test ts then p ts else q ts) ws a ends
other_reads test p q comes r =
    record {
      reads = λ tokens rest h e.
          ap (λ (b : Bool). if b then p tokens else q tokens) (comes tokens rest h e) ∙ r.reads tokens rest h e;
    }

-- as many further items as are written
pub all_further : {A : Type 0} (w : Word) (one : List Token → Read A) (spell : A → List Piece) (middle : A → Word → Bool) (ends : Word → Bool)
    → Between w middle ends → (items : List A) → AllRead one spell middle items
    → Reads (λ (ts : List Token). further w one (turns_for ts) ts) (each_behind w spell items) items ends
all_further w one spell middle ends between items all =
    counted (λ turns ts. further w one turns ts) _ _ ends (length items) (each-fits w spell items) (λ turns short.
    further-reads w one spell middle ends between items all turns short)

-- ---- patterns

abbrev pub pattern_list : PatternTrees → List PatternTree
pattern_list no_patterns = []
pattern_list (one_pattern p ps) = p ∷ pattern_list ps

pub patterns-back : (ps : PatternTrees) → patterns_tree (pattern_list ps) ≡ ps
patterns-back no_patterns = refl
patterns-back (one_pattern p ps) = ap (λ more. one_pattern p more) (patterns-back ps)

pub all_patterns : (ps : PatternTrees) → ArePatterns ps → AllRead pattern_in pattern_pieces (λ (p : PatternTree). ends_pattern) (pattern_list ps)
all_patterns no_patterns g = tt
all_patterns (one_pattern p ps) g = (pattern_reads p g.0, all_patterns ps g.1)

pub patterns-read : (p : PatternTree) (ps : PatternTrees) (ends : Word → Bool)
    → Between word_is.Comma (λ (q : PatternTree). ends_pattern) ends → ArePatterns (one_pattern p ps)
    → Reads patterns_in (whole (patterns_spelling (one_pattern p ps))) (one_pattern p ps) ends
patterns-read p ps ends between g =
    same_result (ap (λ more. one_pattern p more) (patterns-back ps))
    (last_reads (λ found. patterns_tree found)
    (same_pieces (some_patterns-alike p (pattern_list ps) ∙ ap (λ more. whole (patterns_spelling (one_pattern p more))) (patterns-back ps))
    (list-reads word_is.Comma pattern_in pattern_pieces (λ q. ends_pattern) ends between p (pattern_list ps) (all_patterns (one_pattern p ps) g))))

-- ---- definitions

abbrev pub only_equal : Word → Bool
only_equal (word_is.Operator Equal) = true
only_equal _ = false

equal_type : (w : Word) → only_equal w ≡ true → ends_type w ≡ true
equal_type (word_is.Operator Equal) e = refl
equal_type _ e = absurd (cc)

pub declared-reads : (t : Option TypeTree) → IsDeclared t → Reads declared_in (whole (declared_spelling t)) t only_equal
declared-reads None g = left_away word_is.Colon _ _ (by_nothing (apart word_is.Colon only_equal refl)) (done None only_equal)
declared-reads (Some t) g = may_come word_is.Colon _ _ refl (λ place. last_reads (λ found. Some found) (fewer_end equal_type (type_reads t g)))

abbrev behind_pattern : Option TypeTree → ExprTree → List Piece
behind_pattern t e = whole (declared_spelling t) ++ (mark (word_is.Operator Equal) ∷ whole (spelling e))

defined-reads : (p : PatternTree) (t : Option TypeTree) (e : ExprTree) → IsDeclared t → Binds e far_pull
    → Reads (defined_in p) (behind_pattern t e) (p, t, e) ends_expr
defined-reads p t e g b =
    then_reads _ (declared-reads t g) (by_mark (word_is.Operator Equal) refl) (at_mark (word_is.Operator Equal) _ refl (λ spot.
    last_reads (λ found. (p, t, found)) (expr_reads e b)))

behind_begins : (t : Option TypeTree) (e : ExprTree) (vs : List Piece) (ends : Word → Bool) → Begins (behind_pattern t e ++ vs) ends ends_pattern
behind_begins None e vs ends = by_mark (word_is.Operator Equal) refl
behind_begins (Some t) e vs ends = by_mark word_is.Colon refl

alone_begins : (t : Option TypeTree) (e : ExprTree) (ends : Word → Bool) → Begins (behind_pattern t e) ends ends_pattern
alone_begins None e ends = by_mark (word_is.Operator Equal) refl
alone_begins (Some t) e ends = by_mark word_is.Colon refl

definition-reads : (d : Definition) → IsDefinition d → Reads definition_in (definition_pieces d) d ends_expr
definition-reads d g = then_reads _ (pattern_reads d.0 g.0) (alone_begins d.1 d.2 ends_expr) (defined-reads d.0 d.1 d.2 g.1 g.2)

abbrev definition_list : DefinedTrees → List Definition
definition_list no_defined = []
definition_list (one_defined p t e ds) = (p, t, e) ∷ definition_list ds

definitions-back : (ds : DefinedTrees) → definitions_tree (definition_list ds) ≡ ds
definitions-back no_defined = refl
definitions-back (one_defined p t e ds) = ap (λ more. one_defined p t e more) (definitions-back ds)

all_definitions : (ds : DefinedTrees) → AreDefinitions ds → AllRead definition_in definition_pieces (λ (d : Definition). ends_expr) (definition_list ds)
all_definitions no_defined g = tt
all_definitions (one_defined p t e ds) g = (definition-reads (p, t, e) (g.0, g.1, g.2), all_definitions ds g.3)

abbrev only_in : Word → Bool
only_in word_is.In = true
only_in _ = false

in_expr : (w : Word) → only_in w ≡ true → ends_expr w ≡ true
in_expr word_is.In e = refl
in_expr _ e = absurd (cc)

between_definitions : Between word_is.Comma (λ (d : Definition). ends_expr) only_in
between_definitions =
    record { known = refl; next = λ d. refl; last = λ d w e. in_expr w e; other = apart word_is.Comma only_in refl }

further_begin : (ds : List Definition) (s : StmtTree) (ends : Word → Bool)
    → Begins (each_behind word_is.Comma definition_pieces ds ++ (mark word_is.In ∷ stmt_spelling s)) ends ends_expr
further_begin [] s ends = by_mark word_is.In refl
further_begin (d ∷ ds) s ends = by_mark word_is.Comma refl

let_definitions-read : (one : List Token → Read StmtTree) (place : Place) (p : PatternTree) (t : Option TypeTree) (e : ExprTree) (ds : List Definition)
    (s : StmtTree) → IsDeclared t → Binds e far_pull → AllRead definition_in definition_pieces (λ (d : Definition). ends_expr) ds → OneReads one s
    → Reads (let_definitions one place p)
    (behind_pattern t e ++ (each_behind word_is.Comma definition_pieces ds ++ (mark word_is.In ∷ stmt_spelling s)))
    (let_then (definitions_tree ((p, t, e) ∷ ds)) s place) (ends_after s)
let_definitions-read one place p t e ds s g b all r =
    then_reads _ (defined-reads p t e g b) (further_begin ds s (ends_after s))
    (then_reads _ (all_further word_is.Comma definition_in definition_pieces (λ d. ends_expr) only_in between_definitions ds all)
    (by_mark word_is.In refl) (at_mark word_is.In _ refl (λ spot. last_reads (λ x. let_then (definitions_tree ((p, t, e) ∷ ds)) x place) r)))

-- a `:` or a `=` is there, or neither
abbrev tells : List Token → Bool
tells ts = is_there (word_in word_is.Colon ts) || is_there (word_in (word_is.Operator Equal) ts)

or_true : (b : Bool) → (b || true) ≡ true
or_true true = refl
or_true false = refl

told : (t : Option TypeTree) (e : ExprTree) (vs : List Piece) (tokens rest : List Token) → Spelled tokens (behind_pattern t e ++ vs) rest → tells tokens ≡ true
told None e vs tokens rest h =
    ap tells h.1.1 ∙ or_true (is_there (word_in word_is.Colon (plain (word_is.Operator Equal) h.1.0 ∷ h.0)))
told (Some t) e vs tokens rest h = ap tells h.1.1

both_false : (a b : Bool) → a ≡ false → b ≡ false → (a || b) ≡ false
both_false false false d e = refl
both_false true b d e = absurd (cc)
both_false false true d e = absurd (cc)

is_false : (b : Bool) → (if b then false else true) ≡ true → b ≡ false
is_false true h = absurd (cc)
is_false false h = refl

absent : (w : Word) (tokens : List Token) → is_other w (first_word tokens) ≡ true → is_there (word_in w tokens) ≡ false
absent w tokens e = ap is_there (word-is_not w tokens (is_false _ e))

not_told : (tokens : List Token) → is_other word_is.Colon (first_word tokens) ≡ true
    → is_other (word_is.Operator Equal) (first_word tokens) ≡ true → tells tokens ≡ false
not_told tokens a b = both_false _ _ (absent word_is.Colon tokens a) (absent (word_is.Operator Equal) tokens b)

-- the pieces of `let`, one after the other
let-alike : (p : PatternTree) (t : Option TypeTree) (e : ExprTree) (ds : DefinedTrees) (more : List Piece)
    → whole (pattern_spelling p) ++ (behind_pattern t e ++ (each_behind word_is.Comma definition_pieces (definition_list ds) ++ more))
    ≡ whole (definitions_spelling (one_defined p t e ds)) ++ more
let-alike p t e ds more =
    sym (append_assoc (whole (pattern_spelling p)) (behind_pattern t e) (each_behind word_is.Comma definition_pieces (definition_list ds) ++ more))
    ∙ sym (append_assoc (definition_pieces (p, t, e)) (each_behind word_is.Comma definition_pieces (definition_list ds)) more)
    ∙ ap (λ x. x ++ more) (some_definitions-alike (p, t, e) (definition_list ds)
    ∙ ap (λ x. whole (definitions_spelling (one_defined p t e x))) (definitions-back ds))

pub let-reads : (one : List Token → Read StmtTree) (p : PatternTree) (t : Option TypeTree) (e : ExprTree) (ds : DefinedTrees) (s : StmtTree) (place : Place)
    → AreDefinitions (one_defined p t e ds) → OneReads one s
    → Reads (let_in_stmt one place) (whole (definitions_spelling (one_defined p t e ds)) ++ (mark word_is.In ∷ stmt_spelling s))
    (let_then (one_defined p t e ds) s place) (ends_after s)
let-reads one p t e ds s place g r =
    same_result (ap (λ more. let_then (one_defined p t e more) s place) (definitions-back ds))
    (same_pieces (let-alike p t e ds (mark word_is.In ∷ stmt_spelling s))
    (then_reads _ (pattern_reads p g.0) (behind_begins t e _ (ends_after s))
    (either_reads tells (λ ts. let_definitions one place p ts) (λ ts. let_bind one place p ts) (λ tokens rest h x. told t e _ tokens rest h)
    (let_definitions-read one place p t e (definition_list ds) s g.1 g.2 (all_definitions ds g.3) r))))

-- ---- binds

abbrev only_member : Word → Bool
only_member (word_is.Operator InSet) = true
only_member _ = false

member_pattern : (w : Word) → only_member w ≡ true → ends_pattern w ≡ true
member_pattern (word_is.Operator InSet) e = refl
member_pattern _ e = absurd (cc)

between_bound : Between word_is.Comma (λ (p : PatternTree). ends_pattern) only_member
between_bound =
    record { known = refl; next = λ p. refl; last = λ p w e. member_pattern w e; other = apart word_is.Comma only_member refl }

such_that-reads : (e : Option ExprTree) → IsGivenExpr e → Reads such_that_in (such_that e) e only_in
such_that-reads None g = left_away word_is.Be _ _ (by_nothing (apart word_is.Be only_in refl)) (done None only_in)
such_that-reads (Some e) g =
    may_come word_is.Be _ _ refl (λ place. at_mark word_is.St _ refl (λ other. last_reads (λ found. Some found) (fewer_end in_expr (expr_reads e g))))

such_begins : (e : Option ExprTree) (s : StmtTree) (ends : Word → Bool) → Begins (such_that e ++ (mark word_is.In ∷ stmt_spelling s)) ends ends_expr
such_begins None s ends = by_mark word_is.In refl
such_begins (Some e) s ends = by_mark word_is.Be refl

bound_begin : (ps : List PatternTree) (vs : List Piece) (ends : Word → Bool)
    → Begins (each_behind word_is.Comma pattern_pieces ps ++ (mark (word_is.Operator InSet) ∷ vs)) ends ends_pattern
bound_begin [] vs ends = by_mark (word_is.Operator InSet) refl
bound_begin (p ∷ ps) vs ends = by_mark word_is.Comma refl

bound_other : (w : Word) → is_other w word_is.Comma ≡ true → is_other w (word_is.Operator InSet) ≡ true → (ps : List PatternTree) (vs : List Piece)
    (ends : Word → Bool) → Begins (each_behind word_is.Comma pattern_pieces ps ++ (mark (word_is.Operator InSet) ∷ vs)) ends (is_other w)
bound_other w a b [] vs ends = by_mark (word_is.Operator InSet) b
bound_other w a b (p ∷ ps) vs ends = by_mark word_is.Comma a

let_bind-read : (one : List Token → Read StmtTree) (place : Place) (p : PatternTree) (ps : List PatternTree) (set : ExprTree) (condition : Option ExprTree)
    (s : StmtTree) → AllRead pattern_in pattern_pieces (λ (q : PatternTree). ends_pattern) ps → Binds set far_pull → IsGivenExpr condition → OneReads one s
    → Reads (let_bind one place p)
    (each_behind word_is.Comma pattern_pieces ps ++ (mark (word_is.Operator InSet) ∷ (whole (spelling set) ++ (such_that condition
    ++ (mark word_is.In ∷ stmt_spelling s)))))
    (let_be_then (bind_in (patterns_tree (p ∷ ps)) set) condition s place) (ends_after s)
let_bind-read one place p ps set condition s all b c r =
    then_reads _ (all_further word_is.Comma pattern_in pattern_pieces (λ q. ends_pattern) only_member between_bound ps all)
    (by_mark (word_is.Operator InSet) refl) (at_mark (word_is.Operator InSet) _ refl (λ spot.
    then_reads _ (expr_reads set b) (such_begins condition s (ends_after s))
    (then_reads _ (such_that-reads condition c) (by_mark word_is.In refl)
    (at_mark word_is.In _ refl (λ behind. last_reads (λ x. let_be_then (bind_in (patterns_tree (p ∷ ps)) set) condition x place) r)))))

bind-alike : (p : PatternTree) (ps : PatternTrees) (set : ExprTree) (more : List Piece)
    → whole (pattern_spelling p) ++ (each_behind word_is.Comma pattern_pieces (pattern_list ps) ++ (mark (word_is.Operator InSet) ∷ (whole (spelling set) ++ more)))
    ≡ whole (bind_spelling (bind_in (one_pattern p ps) set)) ++ more
bind-alike p ps set more =
    sym (append_assoc (whole (pattern_spelling p)) (each_behind word_is.Comma pattern_pieces (pattern_list ps)) (mark (word_is.Operator InSet) ∷ (whole (spelling set) ++ more)))
    ∙ ap (λ x. x ++ (mark (word_is.Operator InSet) ∷ (whole (spelling set) ++ more))) (some_patterns-alike p (pattern_list ps)
    ∙ ap (λ x. whole (patterns_spelling (one_pattern p x))) (patterns-back ps))
    ∙ sym (append_assoc (whole (patterns_spelling (one_pattern p ps))) (mark (word_is.Operator InSet) ∷ whole (spelling set)) more)
    ∙ ap (λ x. x ++ more) (sym (whole-append (patterns_spelling (one_pattern p ps)) _))

pub let_be-reads : (one : List Token → Read StmtTree) (p : PatternTree) (ps : PatternTrees) (set : ExprTree) (condition : Option ExprTree) (s : StmtTree)
    (place : Place) → ArePatterns (one_pattern p ps) → Binds set far_pull → IsGivenExpr condition → OneReads one s
    → Reads (let_in_stmt one place) (whole (bind_spelling (bind_in (one_pattern p ps) set)) ++ (such_that condition ++ (mark word_is.In ∷ stmt_spelling s)))
    (let_be_then (bind_in (one_pattern p ps) set) condition s place) (ends_after s)
let_be-reads one p ps set condition s place g b c r =
    let more = such_that condition ++ (mark word_is.In ∷ stmt_spelling s) in
    same_result (ap (λ x. let_be_then (bind_in (one_pattern p x) set) condition s place) (patterns-back ps))
    (same_pieces (bind-alike p ps set more)
    (then_reads _ (pattern_reads p g.0) (bound_begin (pattern_list ps) (whole (spelling set) ++ more) (ends_after s))
    (other_reads tells (λ ts. let_definitions one place p ts) (λ ts. let_bind one place p ts) (λ tokens rest h x.
    not_told tokens ((bound_other word_is.Colon refl refl (pattern_list ps) (whole (spelling set) ++ more) (ends_after s)).opens tokens rest h x)
    ((bound_other (word_is.Operator Equal) refl refl (pattern_list ps) (whole (spelling set) ++ more) (ends_after s)).opens tokens rest h x))
    (let_bind-read one place p (pattern_list ps) set condition s (all_patterns ps g.1) b c r))))

-- ---- `tixe`

abbrev handler_list : HandlerTrees → List Handler
handler_list no_handlers = []
handler_list (one_handler p s hs) = (p, s) ∷ handler_list hs

handlers-back : (hs : HandlerTrees) → handlers_tree (handler_list hs) ≡ hs
handlers-back no_handlers = refl
handlers-back (one_handler p s hs) = ap (λ more. one_handler p s more) (handlers-back hs)

abbrev pub HandlersRead : (List Token → Read StmtTree) → HandlerTrees → Type 0
HandlersRead one no_handlers = Unit {0}
HandlersRead one (one_handler p s hs) = OneReads one s × HandlersRead one hs

abbrev handler_ends : Handler → Word → Bool
handler_ends h w = ends_after h.1 w

handler-reads : (one : List Token → Read StmtTree) (p : PatternTree) (s : StmtTree) → IsPattern p → OneReads one s
    → Reads (handler_in one) (handler_pieces (p, s)) (p, s) (handler_ends (p, s))
handler-reads one p s g r =
    then_reads _ (pattern_reads p g) (by_mark word_is.MapsTo refl) (at_mark word_is.MapsTo _ refl (λ spot. last_reads (λ x. (p, x)) r))

all_handlers : (one : List Token → Read StmtTree) (hs : HandlerTrees) → AreHandlers hs → HandlersRead one hs
    → AllRead (handler_in one) handler_pieces (λ (h : Handler). handler_ends h) (handler_list hs)
all_handlers one no_handlers g r = tt
all_handlers one (one_handler p s hs) g r = (handler-reads one p s g.0 r.0, all_handlers one hs g.2 r.1)

abbrev only_curly : Word → Bool
only_curly word_is.CloseCurly = true
only_curly _ = false

curly_after : (s : StmtTree) (w : Word) → only_curly w ≡ true → ends_after s w ≡ true
curly_after s word_is.CloseCurly e = behind_any (takes_else s) word_is.CloseCurly refl refl
curly_after s _ e = absurd (cc)

between_handlers : Between word_is.Comma (λ (h : Handler). handler_ends h) only_curly
between_handlers =
    record {
      known = refl;
      next = λ h. behind_any (takes_else h.1) word_is.Comma refl refl;
      last = λ h w e. curly_after h.1 w e;
      other = apart word_is.Comma only_curly refl;
    }

handlers-spelled : (p : PatternTree) (s : StmtTree) (hs : HandlerTrees)
    → handler_pieces (p, s) ++ each_behind word_is.Comma handler_pieces (handler_list hs) ≡ handlers_spelling (one_handler p s hs)
handlers-spelled p s hs =
    ap (λ more. handler_pieces (p, s) ++ more) (handlers-alike (handler_list hs) ∙ ap (λ more. further_handlers more) (handlers-back hs))
    ∙ handler-alike (p, s) (further_handlers hs)

pub tixe-reads : (one : List Token → Read StmtTree) (p : PatternTree) (h : StmtTree) (hs : HandlerTrees) (s : StmtTree) (place : Place)
    → AreHandlers (one_handler p h hs) → HandlersRead one (one_handler p h hs) → OneReads one s
    → Reads (tixe_in one place)
    (mark word_is.OpenCurly ∷ (handlers_spelling (one_handler p h hs) ++ (mark word_is.CloseCurly ∷ (mark word_is.In ∷ stmt_spelling s))))
    (trap_exits (one_handler p h hs) s place) (ends_after s)
tixe-reads one p h hs s place g r q =
    same_result (ap (λ more. trap_exits (one_handler p h more) s place) (handlers-back hs))
    (at_mark word_is.OpenCurly _ refl (λ spot.
    then_reads _ (same_pieces (handlers-spelled p h hs)
    (list-reads word_is.Comma (handler_in one) handler_pieces (λ x. handler_ends x) only_curly between_handlers (p, h) (handler_list hs)
    (all_handlers one (one_handler p h hs) g r)))
    (by_mark word_is.CloseCurly refl)
    (at_mark word_is.CloseCurly _ refl (λ close.
    in_body_reads one (λ body. trap_exits (handlers_tree ((p, h) ∷ handler_list hs)) body place) s q))))
