-- What is read of a kind of statement is written so, and the grammar has it: blocks, `let`, `def`, loops, exits and several together.
use Rattle.std.proofs.Common.{◌≡◌, ℕ, zero, suc, Bool, true, false, ◌||◌, if◌then◌else◌, List, [], ◌∷◌, ◌++◌, Option, Some, None, refl, ap, sym, subst, ◌∙◌}
use Rattle.vdm_kinds.specs.declared.name_at.NameAt.{NameAt}
use Rattle.vdm_kinds.specs.declared.place.Place.{Place}
use Rattle.vdm_kinds.specs.declared.sign.Sign.TheVariants.{Equal, InSet}
use Rattle.abstract_syntax.specs.Types.{TypeTree}
use Rattle.abstract_syntax.specs.Expressions.{ExprTree, PatternTree, bind_in}
use Rattle.abstract_syntax.specs.Statements.{AssignmentTree, StmtTree, HandlerTrees, block, assign_together, let_then, let_be_then, def_then, while_do, for_numbers, for_set, for_sequence, trap_exit, trap_exits, always_after, in_parallel, start_thread, start_threads}
use Rattle.grammar_words.specs.declared.word.Word.{Word}
use Rattle.grammar_words.specs.declared.word.Word.TheVariants as word_is
use Rattle.grammar_words.specs.Tokens.{Token, plain}
use Rattle.grammar_trees.specs.Spelling.{spelling, patterns_spelling, declared_spelling, bind_spelling}
use Rattle.grammar_trees.specs.Binding.{IsPattern, IsDeclared}
use Rattle.stmt_trees.specs.Pieces.{Piece, mark, may, whole}
use Rattle.stmt_trees.specs.StmtSpelling.{assignment_spelling, stmt_spelling, further_stmts, handlers_spelling}
use Rattle.stmt_trees.specs.StmtGrammar.{takes_else, IsAssignment, IsStmt, AreStmts, AreSomeHandlers, AreHandlers}
use Rattle.stmt_trees.specs.ClassSpelling.{list_spelling}
use Rattle.stmt_reading.specs.Leaves.{Read, onto, word_in, name_in, pattern_in, expr_in, list_in, turns_for}
use Rattle.stmt_reading.specs.Statements.{assignment_in, stmts_tree, block_rest, block_in, declared_in, defined_in, definition_in, definitions_tree, let_definitions, let_bind, let_in_stmt, def_in_stmt, patterns_tree, body_in, in_body, while_in, numbers_in, sequence_in, set_in, for_in, trap_in, Handler, handler_in, handlers_tree, tixe_in, always_in, bracketed_in}
use Rattle.stmt_laws.specs.Ends.{first_word, not_else}
use Rattle.stmt_laws.proofs.Spellings.{expr_pieces, IsFar, pattern_pieces, whole-append, some_patterns-alike, patterns-good, definition_pieces, IsDefinition, some_definitions-alike, definitions-good, assignments-alike, assignments-good, stmts-alike, stmts-good, handler_pieces, IsHandler, handlers-alike, handler-alike, handlers-good}
use Rattle.stmt_laws.proofs.Gives.{Gives, gives_this, gives_none, gives_onto, gives_choice, gives_more, Spells, two, ended, begun, respelled, AtWord, marked, AtName, named_at, left_out, not_left_out, gives_word, gives_name, Found, AreSome, gives_further, gives_list}
use Rattle.stmt_laws.proofs.SoundParts.{gives_expr, gives_pattern, gives_type, gives_behind, gives_such_that, gives_assignment, gives_dcls, StmtAt, no_lack}

-- what is read by this is a statement
pub record OneGives (one : List Token → Read StmtTree) : Type 0 where
  pub gives : (tokens : List Token) → Gives (one tokens) (StmtAt tokens)

-- ---- a statement behind a word

-- what is made with a body that stands behind a word
pub record BodyAt (w : Word) (made : StmtTree → StmtTree) (tokens : List Token) (s : StmtTree) (rest : List Token) : Type 0 where
  pub body : StmtTree
  pub is : made body ≡ s
  pub spelled : Spells tokens (mark w ∷ stmt_spelling body) rest
  pub good : IsStmt body
  pub no_else : takes_else body ≡ true → not_else (first_word rest) ≡ true

pub gives_body : (one : List Token → Read StmtTree) → OneGives one → (made : StmtTree → StmtTree) (tokens : List Token)
    → Gives (body_in one made tokens) (BodyAt word_is.Do made tokens)
gives_body one o made tokens =
    gives_onto _ (gives_word word_is.Do tokens) (λ place a f. gives_onto _ (o.gives a) (λ s b g.
    gives_this (made s) b (record { body = s; is = refl; spelled = marked f g.spelled; good = g.good; no_else = g.no_else })))

pub gives_in_body : (one : List Token → Read StmtTree) → OneGives one → (made : StmtTree → StmtTree) (tokens : List Token)
    → Gives (in_body one made tokens) (BodyAt word_is.In made tokens)
gives_in_body one o made tokens =
    gives_onto _ (gives_word word_is.In tokens) (λ place a f. gives_onto _ (o.gives a) (λ s b g.
    gives_this (made s) b (record { body = s; is = refl; spelled = marked f g.spelled; good = g.good; no_else = g.no_else })))

made_so : {w : Word} {made : StmtTree → StmtTree} {tokens before rest : List Token} {s : StmtTree} (h : BodyAt w made tokens s rest)
    → StmtAt before (made h.body) rest → StmtAt before s rest
made_so {before = before} {rest = rest} h k = subst (λ x. StmtAt before x rest) h.is k

-- ---- loops

pub gives_while : (one : List Token → Read StmtTree) → OneGives one → (place : Place) (tokens : List Token)
    → Gives (while_in one place tokens) (StmtAt (plain word_is.While place ∷ tokens))
gives_while one o place tokens =
    gives_onto _ (gives_expr tokens) (λ c a f.
    gives_more (λ s rest h. made_so h (record { spelled = begun (two f.spelled h.spelled); good = (f.good, h.good); no_else = h.no_else }))
    (gives_body one o (λ s. while_do c s place) a))

-- `for` and its name
gives_numbers : (one : List Token → Read StmtTree) → OneGives one → (place : Place) (name : NameAt) (before equal tokens : List Token) (spot : Place)
    → AtName before name equal → AtWord (word_is.Operator Equal) equal spot tokens
    → Gives (numbers_in one place name tokens) (StmtAt (plain word_is.For place ∷ before))
gives_numbers one o place name before equal tokens spot n e =
    gives_onto _ (gives_expr tokens) (λ first a f. gives_onto _ (gives_word word_is.To a) (λ to b g.
    gives_onto _ (gives_expr b) (λ last c h. gives_onto _ (gives_behind word_is.By c) (λ step d i.
    gives_more (λ s rest k. made_so k (record {
      spelled = begun (named_at n (marked e (two f.spelled (marked g (two h.spelled (two i.spelled k.spelled))))));
      good = (f.good, h.good, i.good, k.good);
      no_else = k.no_else;
    }))
    (gives_body one o (λ s. for_numbers name.name name.place first last step s place) d)))))

gives_sequence : (one : List Token → Read StmtTree) → OneGives one → (place : Place) (tokens : List Token)
    → Gives (sequence_in one place tokens) (StmtAt (plain word_is.For place ∷ tokens))
gives_sequence one o place tokens =
    gives_onto _ (gives_pattern tokens) (λ p a f. gives_onto _ (gives_word word_is.In a) (λ spot b g.
    gives_onto _ (gives_expr b) (λ e c h.
    gives_more (λ s rest k. made_so k (record {
      spelled = begun (two f.spelled (marked g (two h.spelled k.spelled)));
      good = (f.good, h.good, k.good);
      no_else = k.no_else;
    }))
    (gives_body one o (λ s. for_sequence p e s place) c))))

gives_set : (one : List Token → Read StmtTree) → OneGives one → (place all : Place) (before tokens : List Token)
    → AtWord word_is.All before all tokens → Gives (set_in one place tokens) (StmtAt (plain word_is.For place ∷ before))
gives_set one o place all before tokens w =
    gives_onto _ (gives_pattern tokens) (λ p a f. gives_onto _ (gives_word (word_is.Operator InSet) a) (λ spot b g.
    gives_onto _ (gives_expr b) (λ e c h.
    gives_more (λ s rest k. made_so k (record {
      spelled = begun (marked w (two f.spelled (marked g (two h.spelled k.spelled))));
      good = (f.good, h.good, k.good);
      no_else = k.no_else;
    }))
    (gives_body one o (λ s. for_set p e s place) c))))

-- a name before `=`, as the reading has it
abbrev pub counted_in : List Token → Read NameAt
counted_in tokens =
    onto (name_in tokens) (λ (name : NameAt) (a : List Token).
    onto (word_in (word_is.Operator Equal) a) (λ (equal : Place) (b : List Token). Some (name, b)))

record CountedAt (tokens : List Token) (name : NameAt) (rest : List Token) : Type 0 where
  pub equal : List Token
  pub spot : Place
  pub named : AtName tokens name equal
  pub equals : AtWord (word_is.Operator Equal) equal spot rest

gives_counted : (tokens : List Token) → Gives (counted_in tokens) (CountedAt tokens)
gives_counted tokens =
    gives_onto _ (gives_name tokens) (λ name a f. gives_onto _ (gives_word (word_is.Operator Equal) a) (λ spot b g.
    gives_this name b (record { equal = a; spot = spot; named = f; equals = g })))

pub gives_for : (one : List Token → Read StmtTree) → OneGives one → (place : Place) (tokens : List Token)
    → Gives (for_in one place tokens) (StmtAt (plain word_is.For place ∷ tokens))
gives_for one o place tokens =
    gives_choice _ _ (gives_word word_is.All tokens) (λ all a f. gives_set one o place all tokens a f)
    (λ none. gives_choice _ _ (gives_counted tokens) (λ name a f. gives_numbers one o place name tokens f.equal a f.spot f.named f.equals)
    (λ other. gives_sequence one o place tokens))

-- ---- exits

pub gives_trap : (one : List Token → Read StmtTree) → OneGives one → (place : Place) (tokens : List Token)
    → Gives (trap_in one place tokens) (StmtAt (plain word_is.Trap place ∷ tokens))
gives_trap one o place tokens =
    gives_onto _ (gives_pattern tokens) (λ p a f. gives_onto _ (gives_word word_is.With a) (λ spot b g.
    gives_onto _ (o.gives b) (λ handler c h.
    gives_more (λ s rest k. made_so k (record {
      spelled = begun (two f.spelled (marked g (two h.spelled k.spelled)));
      good = (f.good, h.good, k.good);
      no_else = k.no_else;
    }))
    (gives_in_body one o (λ s. trap_exit p handler s place) c))))

pub gives_always : (one : List Token → Read StmtTree) → OneGives one → (place : Place) (tokens : List Token)
    → Gives (always_in one place tokens) (StmtAt (plain word_is.Always place ∷ tokens))
gives_always one o place tokens =
    gives_onto _ (o.gives tokens) (λ last a f.
    gives_more (λ s rest k. made_so k (record { spelled = begun (two f.spelled k.spelled); good = (f.good, k.good); no_else = k.no_else }))
    (gives_in_body one o (λ s. always_after last s place) a))

gives_handler : (one : List Token → Read StmtTree) → OneGives one → (tokens : List Token)
    → Gives (handler_in one tokens) (Found handler_pieces IsHandler tokens)
gives_handler one o tokens =
    gives_onto _ (gives_pattern tokens) (λ p a f. gives_onto _ (gives_word word_is.MapsTo a) (λ to b g. gives_onto _ (o.gives b) (λ s c h.
    gives_this (p, s) c (record { spelled = two f.spelled (marked g h.spelled); good = (f.good, h.good) }))))

record HandlersAt (tokens : List Token) (traps : HandlerTrees) (rest : List Token) : Type 0 where
  pub spelled : Spells tokens (handlers_spelling traps) rest
  pub some : AreSomeHandlers traps
  pub good : AreHandlers traps

handlers_found : (tokens rest : List Token) (hs : List Handler) → Spells tokens (list_spelling word_is.Comma handler_pieces hs) rest
    → AreSome IsHandler hs → HandlersAt tokens (handlers_tree hs) rest
handlers_found tokens rest [] s g = absurd g
handlers_found tokens rest (h ∷ hs) s g =
    record {
      spelled = respelled (ap (λ more. handler_pieces h ++ more) (handlers-alike hs) ∙ handler-alike h _) s;
      some = tt;
      good = (g.0.0, g.0.1, handlers-good hs g.1);
    }

pub gives_tixe : (one : List Token → Read StmtTree) → OneGives one → (place : Place) (tokens : List Token)
    → Gives (tixe_in one place tokens) (StmtAt (plain word_is.Tixe place ∷ tokens))
gives_tixe one o place tokens =
    gives_onto _ (gives_word word_is.OpenCurly tokens) (λ open_place a f.
    gives_onto _ (gives_list word_is.Comma (handler_in one) handler_pieces IsHandler (gives_handler one o) a) (λ traps b g.
    gives_onto _ (gives_word word_is.CloseCurly b) (λ close c h.
    let t = handlers_found a b traps g.spelled g.good in
    gives_more (λ s rest k. made_so k (record {
      spelled = begun (marked f (two t.spelled (marked h k.spelled)));
      good = (t.some, t.good, k.good);
      no_else = k.no_else;
    }))
    (gives_in_body one o (λ s. trap_exits (handlers_tree traps) s place) c))))

-- ---- `let` and `def`

pub gives_def : (one : List Token → Read StmtTree) → OneGives one → (place : Place) (tokens : List Token)
    → Gives (def_in_stmt one place tokens) (StmtAt (plain word_is.Def place ∷ tokens))
gives_def one o place tokens =
    gives_onto _ (gives_pattern tokens) (λ p a f. gives_onto _ (gives_word (word_is.Operator Equal) a) (λ spot b g.
    gives_onto _ (gives_expr b) (λ e c h. gives_onto _ (gives_word word_is.In c) (λ behind d i. gives_onto _ (o.gives d) (λ s rest k.
    gives_this (def_then p e s place) rest (record {
      spelled = begun (two f.spelled (marked g (two h.spelled (marked i k.spelled))));
      good = (f.good, h.good, k.good);
      no_else = k.no_else;
    }))))))

abbrev declared_pieces : Option TypeTree → List Piece
declared_pieces t = whole (declared_spelling t)

pub gives_declared : (tokens : List Token) → Gives (declared_in tokens) (Found declared_pieces IsDeclared tokens)
gives_declared tokens =
    gives_choice _ _ (gives_word word_is.Colon tokens) (λ place a f. gives_onto _ (gives_type a) (λ t b g.
    gives_this (Some t) b (record { spelled = marked f g.spelled; good = g.good })))
    (λ none. gives_this None tokens (record { spelled = ended; good = tt }))

gives_defined : (before : List Token) (p : PatternTree) (tokens : List Token) → Found pattern_pieces IsPattern before p tokens
    → Gives (defined_in p tokens) (Found definition_pieces IsDefinition before)
gives_defined before p tokens n =
    gives_onto _ (gives_declared tokens) (λ t a f. gives_onto _ (gives_word (word_is.Operator Equal) a) (λ equal b g.
    gives_onto _ (gives_expr b) (λ e c h.
    gives_this (p, t, e) c (record { spelled = two n.spelled (two f.spelled (marked g h.spelled)); good = (n.good, f.good, h.good) }))))

gives_definition : (tokens : List Token) → Gives (definition_in tokens) (Found definition_pieces IsDefinition tokens)
gives_definition tokens = gives_onto _ (gives_pattern tokens) (λ p a f. gives_defined tokens p a f)

gives_let_definitions : (one : List Token → Read StmtTree) → OneGives one → (place : Place) (before : List Token) (p : PatternTree)
    (tokens : List Token) → Found pattern_pieces IsPattern before p tokens
    → Gives (let_definitions one place p tokens) (StmtAt (plain word_is.Let place ∷ before))
gives_let_definitions one o place before p tokens n =
    gives_onto _ (gives_defined before p tokens n) (λ first a f.
    gives_onto _ (gives_further word_is.Comma definition_in definition_pieces IsDefinition gives_definition (turns_for a) a) (λ others b g.
    gives_onto _ (gives_word word_is.In b) (λ behind c h. gives_onto _ (o.gives c) (λ s rest k.
    gives_this (let_then (definitions_tree (first ∷ others)) s place) rest (record {
      spelled = begun (two (respelled (some_definitions-alike first others) (two f.spelled g.spelled)) (marked h k.spelled));
      good = (tt, definitions-good (first ∷ others) (f.good, g.good), k.good);
      no_else = k.no_else;
    })))))

-- a bind that is written before others
bind-alike : (p : PatternTree) (ps : List PatternTree) (set : ExprTree)
    → whole (patterns_spelling (patterns_tree (p ∷ ps))) ++ (mark (word_is.Operator InSet) ∷ whole (spelling set))
    ≡ whole (bind_spelling (bind_in (patterns_tree (p ∷ ps)) set))
bind-alike p ps set = sym (whole-append (patterns_spelling (patterns_tree (p ∷ ps))) _)

gives_let_bind : (one : List Token → Read StmtTree) → OneGives one → (place : Place) (before : List Token) (p : PatternTree)
    (tokens : List Token) → Found pattern_pieces IsPattern before p tokens
    → Gives (let_bind one place p tokens) (StmtAt (plain word_is.Let place ∷ before))
gives_let_bind one o place before p tokens n =
    gives_onto _ (gives_further word_is.Comma pattern_in pattern_pieces IsPattern gives_pattern (turns_for tokens) tokens) (λ others a f.
    gives_onto _ (gives_word (word_is.Operator InSet) a) (λ member b g. gives_onto _ (gives_expr b) (λ set c h.
    gives_onto _ (gives_such_that c) (λ condition d i. gives_onto _ (gives_word word_is.In d) (λ behind e j.
    gives_onto _ (o.gives e) (λ s rest k.
    gives_this (let_be_then (bind_in (patterns_tree (p ∷ others)) set) condition s place) rest (record {
      spelled = begun (two
          (respelled (bind-alike p others set) (two (respelled (some_patterns-alike p others) (two n.spelled f.spelled)) (marked g h.spelled)))
          (two i.spelled (marked j k.spelled)));
      good = ((tt, (n.good, patterns-good others f.good), h.good), i.good, k.good);
      no_else = k.no_else;
    })))))))

pub gives_either : {A : Type 0} {P : A → List Token → Type 0} (b : Bool) (r q : Read A) → Gives r P → Gives q P → Gives (if b then r else q) P
gives_either true r q h k = h
gives_either false r q h k = k

-- as the reading has it
abbrev pub is_there : {A : Type 0} → Read A → Bool
is_there None = false
is_there (Some found) = true

pub gives_let : (one : List Token → Read StmtTree) → OneGives one → (place : Place) (tokens : List Token)
    → Gives (let_in_stmt one place tokens) (StmtAt (plain word_is.Let place ∷ tokens))
gives_let one o place tokens =
    gives_onto _ (gives_pattern tokens) (λ p a f.
    gives_either (is_there (word_in word_is.Colon a) || is_there (word_in (word_is.Operator Equal) a)) _ _
    (gives_let_definitions one o place tokens p a f) (gives_let_bind one o place tokens p a f))

-- ---- what stands between brackets

record BracketsAt {A B : Type 0} (made : A → B) (spell : A → List Piece) (Good : A → Type 0) (tokens : List Token) (b : B) (rest : List Token) : Type 0 where
  pub inner : A
  pub is : made inner ≡ b
  pub spelled : Spells tokens (mark word_is.OpenRound ∷ (spell inner ++ (mark word_is.CloseRound ∷ []))) rest
  pub good : Good inner

gives_brackets : {A B : Type 0} (one : List Token → Read A) (made : A → B) (spell : A → List Piece) (Good : A → Type 0)
    → ((ts : List Token) → Gives (one ts) (Found spell Good ts)) → (tokens : List Token)
    → Gives (bracketed_in one made tokens) (BracketsAt made spell Good tokens)
gives_brackets one made spell Good sound tokens =
    gives_onto _ (gives_word word_is.OpenRound tokens) (λ open_place a f. gives_onto _ (sound a) (λ x b g.
    gives_onto _ (gives_word word_is.CloseRound b) (λ close c h.
    gives_this (made x) c (record { inner = x; is = refl; spelled = marked f (two g.spelled (marked h ended)); good = g.good }))))

-- what ends in a bracket takes no `else`
closed_so : {w : Word} {place : Place} {tokens rest : List Token} {made s : StmtTree} {pieces : List Piece} → made ≡ s → Spells tokens pieces rest
    → StmtAt (plain w place ∷ tokens) made rest → StmtAt (plain w place ∷ tokens) s rest
closed_so {w = w} {place = place} {tokens = tokens} {rest = rest} e h k = subst (λ x. StmtAt (plain w place ∷ tokens) x rest) e k

pub gives_start : (place : Place) (tokens : List Token)
    → Gives (bracketed_in expr_in (λ (e : ExprTree). start_thread e place) tokens) (StmtAt (plain word_is.Start place ∷ tokens))
gives_start place tokens =
    gives_more (λ s rest h. closed_so h.is h.spelled (record {
      spelled = begun h.spelled;
      good = h.good;
      no_else = no_lack (not_else (first_word rest));
    }))
    (gives_brackets expr_in (λ e. start_thread e place) expr_pieces IsFar gives_expr tokens)

pub gives_start_list : (place : Place) (tokens : List Token)
    → Gives (bracketed_in expr_in (λ (e : ExprTree). start_threads e place) tokens) (StmtAt (plain word_is.StartList place ∷ tokens))
gives_start_list place tokens =
    gives_more (λ s rest h. closed_so h.is h.spelled (record {
      spelled = begun h.spelled;
      good = h.good;
      no_else = no_lack (not_else (first_word rest));
    }))
    (gives_brackets expr_in (λ e. start_threads e place) expr_pieces IsFar gives_expr tokens)

-- ---- several statements, and several assignments

brackets-alike : {a b : List Piece} → a ≡ b
    → mark word_is.OpenRound ∷ (a ++ (mark word_is.CloseRound ∷ [])) ≡ mark word_is.OpenRound ∷ (b ++ (mark word_is.CloseRound ∷ []))
brackets-alike e = ap (λ x. mark word_is.OpenRound ∷ (x ++ (mark word_is.CloseRound ∷ []))) e

stmts_together : (place : Place) (tokens rest : List Token) (ss : List StmtTree)
    → Spells tokens (mark word_is.OpenRound ∷ (list_spelling word_is.Comma stmt_spelling ss ++ (mark word_is.CloseRound ∷ []))) rest
    → AreSome IsStmt ss → StmtAt (plain word_is.DoubleBar place ∷ tokens) (in_parallel (stmts_tree ss) place) rest
stmts_together place tokens rest [] h g = absurd g
stmts_together place tokens rest (s ∷ ss) h g =
    record {
      spelled = begun (respelled (brackets-alike (ap (λ more. stmt_spelling s ++ more) (stmts-alike word_is.Comma ss))) h);
      good = (tt, (g.0, stmts-good ss g.1));
      no_else = no_lack (not_else (first_word rest));
    }

pub gives_parallel : (one : List Token → Read StmtTree) → OneGives one → (place : Place) (tokens : List Token)
    → Gives (bracketed_in (list_in word_is.Comma one) (λ (found : List StmtTree). in_parallel (stmts_tree found) place) tokens)
    (StmtAt (plain word_is.DoubleBar place ∷ tokens))
gives_parallel one o place tokens =
    gives_more (λ s rest h. closed_so h.is h.spelled (stmts_together place tokens rest h.inner h.spelled h.good))
    (gives_brackets (list_in word_is.Comma one) (λ found. in_parallel (stmts_tree found) place) (list_spelling word_is.Comma stmt_spelling)
    (AreSome IsStmt) (gives_list word_is.Comma one stmt_spelling IsStmt (λ ts.
    gives_more (λ s rest h. record { spelled = h.spelled; good = h.good }) (o.gives ts))) tokens)

assigned_together : (place : Place) (tokens rest : List Token) (xs : List AssignmentTree)
    → Spells tokens (mark word_is.OpenRound ∷ (list_spelling word_is.Semicolon assignment_spelling xs ++ (mark word_is.CloseRound ∷ []))) rest
    → AreSome IsAssignment xs → StmtAt (plain word_is.Atomic place ∷ tokens) (assign_together xs place) rest
assigned_together place tokens rest [] h g = absurd g
assigned_together place tokens rest (x ∷ xs) h g =
    record {
      spelled = begun (respelled (brackets-alike (ap (λ more. assignment_spelling x ++ more) (assignments-alike xs))) h);
      good = (tt, (g.0, assignments-good xs g.1));
      no_else = no_lack (not_else (first_word rest));
    }

pub gives_atomic : (place : Place) (tokens : List Token)
    → Gives (bracketed_in (list_in word_is.Semicolon assignment_in) (λ (found : List AssignmentTree). assign_together found place) tokens)
    (StmtAt (plain word_is.Atomic place ∷ tokens))
gives_atomic place tokens =
    gives_more (λ s rest h. closed_so h.is h.spelled (assigned_together place tokens rest h.inner h.spelled h.good))
    (gives_brackets (list_in word_is.Semicolon assignment_in) (λ found. assign_together found place)
    (list_spelling word_is.Semicolon assignment_spelling) (AreSome IsAssignment)
    (gives_list word_is.Semicolon assignment_in assignment_spelling IsAssignment gives_assignment) tokens)

-- ---- blocks

-- further statements, and what closes them
record RestAt (tokens : List Token) (ss : List StmtTree) (rest : List Token) : Type 0 where
  pub middle : List Token
  pub spelled : Spells tokens (further_stmts word_is.Semicolon (stmts_tree ss)) middle
  pub closed : Spells middle (may word_is.Semicolon ∷ mark word_is.CloseRound ∷ []) rest
  pub good : AreStmts (stmts_tree ss)

gives_rest : (one : List Token → Read StmtTree) → OneGives one → (turns : ℕ) (tokens : List Token)
    → Gives (block_rest one turns tokens) (RestAt tokens)
gives_rest one o zero tokens = gives_none
gives_rest one o (suc turns) tokens =
    gives_choice _ _ (gives_word word_is.CloseRound tokens) (λ close a f.
    gives_this [] a (record { middle = tokens; spelled = ended; closed = left_out (marked f ended); good = tt }))
    (λ none. gives_onto _ (gives_word word_is.Semicolon tokens) (λ semicolon a f.
    gives_choice _ _ (gives_word word_is.CloseRound a) (λ close b g.
    gives_this [] b (record { middle = tokens; spelled = ended; closed = not_left_out f (marked g ended); good = tt }))
    (λ other. gives_onto _ (o.gives a) (λ s b g. gives_onto _ (gives_rest one o turns b) (λ others c h.
    gives_this (s ∷ others) c (record {
      middle = h.middle;
      spelled = marked f (two g.spelled h.spelled);
      closed = h.closed;
      good = (g.good, h.good);
    }))))))

pub gives_block : (one : List Token → Read StmtTree) → OneGives one → (place : Place) (tokens : List Token)
    → Gives (block_in one place tokens) (StmtAt (plain word_is.OpenRound place ∷ tokens))
gives_block one o place tokens =
    gives_onto _ (gives_dcls (turns_for tokens) tokens) (λ locals a f. gives_onto _ (o.gives a) (λ s b g.
    gives_onto _ (gives_rest one o (turns_for tokens) b) (λ others c h.
    gives_this (block locals (stmts_tree (s ∷ others)) place) c (record {
      spelled = begun (two f.spelled (two (two g.spelled h.spelled) h.closed));
      good = (f.good, tt, (g.good, h.good));
      no_else = no_lack (not_else (first_word c));
    }))))
