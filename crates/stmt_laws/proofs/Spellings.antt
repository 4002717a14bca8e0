-- Lists are spelled alike as lists and as trees.
use Rattle.std.proofs.Common.{◌≡◌, List, [], ◌∷◌, ◌++◌, refl, ap, sym, ◌∙◌, append_assoc}
use Rattle.std.proofs.lemmas.List.{map-append}
use Rattle.vdm_kinds.specs.declared.name_at.NameAt.{NameAt}
use Rattle.vdm_kinds.specs.declared.sign.Sign.TheVariants.{Equal}
use Rattle.abstract_syntax.specs.Types.{TypeTree}
use Rattle.abstract_syntax.specs.Expressions.{ExprTree, PatternTree}
use Rattle.abstract_syntax.specs.Statements.{AssignmentTree, LocalTree, StmtTree}
use Rattle.grammar_words.specs.declared.word.Word.{Word}
use Rattle.grammar_words.specs.declared.word.Word.TheVariants as word_is
use Rattle.grammar_words.specs.Pulls.{far_pull}
use Rattle.grammar_words.specs.Tokens.{identifier}
use Rattle.grammar_words.specs.Written.{Written, at, word}
use Rattle.type_reading.specs.TypeSpelling.{type_spelling, IsType, union}
use Rattle.grammar_trees.specs.Spelling.{spelling, pattern_spelling, patterns_spelling, further_patterns, declared_spelling, definitions_spelling, further_definitions, further_names}
use Rattle.grammar_trees.specs.Binding.{Binds, IsPattern, ArePatterns, IsDeclared, AreDefinitions}
use Rattle.stmt_trees.specs.Pieces.{Piece, must, mark, whole, ◌⌢◌}
use Rattle.stmt_trees.specs.StmtSpelling.{assignment_spelling, further_assignments, local_spelling, further_locals, stmt_spelling, further_stmts, further_handlers}
use Rattle.stmt_trees.specs.StmtGrammar.{IsGivenExpr, IsAssignment, AreAssignments, AreLocals, IsStmt, AreStmts, AreHandlers}
use Rattle.stmt_trees.specs.ClassSpelling.{each_behind}
use Rattle.stmt_trees.specs.ClassGrammar.{AreAll}
use Rattle.stmt_reading.specs.Statements.{Definition, definitions_tree, patterns_tree, stmts_tree, Handler, handlers_tree}

abbrev pub expr_pieces : ExprTree → List Piece
expr_pieces e = whole (spelling e)

abbrev pub pattern_pieces : PatternTree → List Piece
pattern_pieces p = whole (pattern_spelling p)

abbrev pub type_pieces : TypeTree → List Piece
type_pieces t = whole (type_spelling t)

abbrev pub name_pieces : NameAt → List Piece
name_pieces name = must (at (identifier name.name name.place)) ∷ []

abbrev pub IsFar : ExprTree → Type 0
IsFar e = Binds e far_pull

abbrev pub IsWhole : TypeTree → Type 0
IsWhole t = IsType t union

pub whole-append : (a b : List Written) → whole (a ++ b) ≡ whole a ++ whole b
whole-append a b = map-append (λ (w : Written). must w) a b

-- ---- patterns and names

pub patterns-alike : (ps : List PatternTree) → each_behind word_is.Comma pattern_pieces ps ≡ whole (further_patterns (patterns_tree ps))
patterns-alike [] = refl
patterns-alike (p ∷ ps) =
    ap (λ x. mark word_is.Comma ∷ (whole (pattern_spelling p) ++ x)) (patterns-alike ps)
    ∙ ap (λ (x : List Piece). mark word_is.Comma ∷ x) (sym (whole-append (pattern_spelling p) (further_patterns (patterns_tree ps))))

pub some_patterns-alike : (p : PatternTree) (ps : List PatternTree)
    → pattern_pieces p ++ each_behind word_is.Comma pattern_pieces ps ≡ whole (patterns_spelling (patterns_tree (p ∷ ps)))
some_patterns-alike p ps =
    ap (λ x. whole (pattern_spelling p) ++ x) (patterns-alike ps)
    ∙ sym (whole-append (pattern_spelling p) (further_patterns (patterns_tree ps)))

pub patterns-good : (ps : List PatternTree) → AreAll IsPattern ps → ArePatterns (patterns_tree ps)
patterns-good [] h = tt
patterns-good (p ∷ ps) h = (h.0, patterns-good ps h.1)

pub names-alike : (names : List NameAt) → each_behind word_is.Comma name_pieces names ≡ whole (further_names names)
names-alike [] = refl
names-alike (n ∷ ns) =
    ap (λ (x : List Piece). mark word_is.Comma ∷ must (at (identifier n.name n.place)) ∷ x) (names-alike ns)

-- ---- definitions

abbrev pub definition_pieces : Definition → List Piece
definition_pieces d =
    whole (pattern_spelling d.0) ⌢ whole (declared_spelling d.1) ⌢ mark (word_is.Operator Equal) ∷ whole (spelling d.2)

abbrev pub IsDefinition : Definition → Type 0
IsDefinition d = IsPattern d.0 × IsDeclared d.1 × Binds d.2 far_pull

-- one definition before others
definition-alike : (p t e others : List Written)
    → (whole p ++ (whole t ++ (mark (word_is.Operator Equal) ∷ whole e))) ++ whole others
    ≡ whole (p ++ (t ++ (word (word_is.Operator Equal) ∷ (e ++ others))))
definition-alike p t e others =
    append_assoc (whole p) (whole t ++ (mark (word_is.Operator Equal) ∷ whole e)) (whole others)
    ∙ ap (λ x. whole p ++ x) (append_assoc (whole t) (mark (word_is.Operator Equal) ∷ whole e) (whole others))
    ∙ ap (λ x. whole p ++ (whole t ++ (mark (word_is.Operator Equal) ∷ x))) (sym (whole-append e others))
    ∙ ap (λ x. whole p ++ x) (sym (whole-append t (word (word_is.Operator Equal) ∷ (e ++ others))))
    ∙ sym (whole-append p (t ++ (word (word_is.Operator Equal) ∷ (e ++ others))))

pub definitions-alike : (ds : List Definition) → each_behind word_is.Comma definition_pieces ds ≡ whole (further_definitions (definitions_tree ds))
definitions-alike [] = refl
definitions-alike (d ∷ ds) =
    ap (λ x. mark word_is.Comma ∷ (definition_pieces d ++ x)) (definitions-alike ds)
    ∙ ap (λ (x : List Piece). mark word_is.Comma ∷ x)
    (definition-alike (pattern_spelling d.0) (declared_spelling d.1) (spelling d.2) (further_definitions (definitions_tree ds)))

pub some_definitions-alike : (d : Definition) (ds : List Definition)
    → definition_pieces d ++ each_behind word_is.Comma definition_pieces ds ≡ whole (definitions_spelling (definitions_tree (d ∷ ds)))
some_definitions-alike d ds =
    ap (λ x. definition_pieces d ++ x) (definitions-alike ds)
    ∙ definition-alike (pattern_spelling d.0) (declared_spelling d.1) (spelling d.2) (further_definitions (definitions_tree ds))

pub definitions-good : (ds : List Definition) → AreAll IsDefinition ds → AreDefinitions (definitions_tree ds)
definitions-good [] h = tt
definitions-good (d ∷ ds) h = (h.0.0, h.0.1, h.0.2, definitions-good ds h.1)

-- ---- assignments and local variables

pub assignments-alike : (xs : List AssignmentTree) → each_behind word_is.Semicolon assignment_spelling xs ≡ further_assignments xs
assignments-alike [] = refl
assignments-alike (x ∷ xs) = ap (λ more. mark word_is.Semicolon ∷ (assignment_spelling x ++ more)) (assignments-alike xs)

pub assignments-good : (xs : List AssignmentTree) → AreAll IsAssignment xs → AreAssignments xs
assignments-good [] h = tt
assignments-good (x ∷ xs) h = (h.0, assignments-good xs h.1)

abbrev pub IsLocal : LocalTree → Type 0
IsLocal l = IsType l.declared union × IsGivenExpr l.initial

pub locals-alike : (xs : List LocalTree) → each_behind word_is.Comma local_spelling xs ≡ further_locals xs
locals-alike [] = refl
locals-alike (x ∷ xs) = ap (λ more. mark word_is.Comma ∷ (local_spelling x ++ more)) (locals-alike xs)

pub locals-good : (xs : List LocalTree) → AreAll IsLocal xs → AreLocals xs
locals-good [] h = tt
locals-good (x ∷ xs) h = (h.0.0, h.0.1, locals-good xs h.1)

-- ---- statements

pub stmts-alike : (w : Word) (ss : List StmtTree) → each_behind w stmt_spelling ss ≡ further_stmts w (stmts_tree ss)
stmts-alike w [] = refl
stmts-alike w (s ∷ ss) = ap (λ more. mark w ∷ (stmt_spelling s ++ more)) (stmts-alike w ss)

pub stmts-good : (ss : List StmtTree) → AreAll IsStmt ss → AreStmts (stmts_tree ss)
stmts-good [] h = tt
stmts-good (s ∷ ss) h = (h.0, stmts-good ss h.1)

abbrev pub handler_pieces : Handler → List Piece
handler_pieces h = whole (pattern_spelling h.0) ⌢ mark word_is.MapsTo ∷ stmt_spelling h.1

abbrev pub IsHandler : Handler → Type 0
IsHandler h = IsPattern h.0 × IsStmt h.1

-- one handler before others
pub handler-alike : (h : Handler) (others : List Piece)
    → handler_pieces h ++ others ≡ whole (pattern_spelling h.0) ++ (mark word_is.MapsTo ∷ (stmt_spelling h.1 ++ others))
handler-alike h others = append_assoc (whole (pattern_spelling h.0)) (mark word_is.MapsTo ∷ stmt_spelling h.1) others

pub handlers-alike : (hs : List Handler) → each_behind word_is.Comma handler_pieces hs ≡ further_handlers (handlers_tree hs)
handlers-alike [] = refl
handlers-alike (h ∷ hs) =
    ap (λ (x : List Piece). mark word_is.Comma ∷ x) (handler-alike h (each_behind word_is.Comma handler_pieces hs))
    ∙ ap (λ more. mark word_is.Comma ∷ (whole (pattern_spelling h.0) ++ (mark word_is.MapsTo ∷ (stmt_spelling h.1 ++ more)))) (handlers-alike hs)

pub handlers-good : (hs : List Handler) → AreAll IsHandler hs → AreHandlers (handlers_tree hs)
handlers-good [] h = tt
handlers-good (x ∷ xs) h = (h.0.0, h.0.1, handlers-good xs h.1)
