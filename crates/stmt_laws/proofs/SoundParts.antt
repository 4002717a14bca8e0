-- What is read of a statement's parts is written so, and the grammar has it.
use Rattle.std.proofs.Common.{◌≡◌, ℕ, zero, suc, Bool, true, false, if◌then◌else◌, List, [], ◌∷◌, ◌++◌, Option, Some, None, refl, ap, sym, subst, ◌∙◌, append_assoc}
use Rattle.abstract_syntax.specs.Expressions.{ExprTree, PatternTree, PatternTrees, no_exprs, one_expr, named, qualified, apply, select, sequence_enumeration, sequence_comprehension, cases_of, expr_place}
use Rattle.abstract_syntax.specs.Statements.{TargetStepTree, TargetTree, field_of, element_at, variable, variable_of_class, target_place, AssignmentTree, LocalTree, StmtTree, assign, call}
use Rattle.grammar_words.specs.declared.word.Word.{Word}
use Rattle.grammar_words.specs.declared.word.Word.TheVariants as word_is
use Rattle.grammar_words.specs.Pulls.{far_pull}
use Rattle.grammar_words.specs.Tokens.{Token, word_of}
use Rattle.type_reading.specs.TypeSpelling.{type_spelling}
use Rattle.type_reading.specs.Reading.{type_of}
use Rattle.type_reading.proofs.Spelled.{read-type}
use Rattle.grammar_trees.specs.Spelling.{spelling, pattern_spelling, patterns_spelling}
use Rattle.grammar_trees.specs.Binding.{Binds, IsPattern, ArePatterns, AreSomePatterns}
use Rattle.grammar_trees.specs.Reading.{expr_of, pattern_of}
use Rattle.grammar_trees.proofs.Trees.{expr-is, pattern-is}
use Rattle.grammar_fronts.specs.declared.kind.Kind.TheVariants as kind
use Rattle.grammar_fronts.specs.Operands.{expression}
use Rattle.grammar_fronts.specs.Turns.{Turn}
use Rattle.stmt_trees.specs.Pieces.{Piece, mark, whole}
use Rattle.stmt_trees.specs.Targets.{target_read, IsTarget, stepped}
use Rattle.stmt_trees.specs.StmtSpelling.{maybe_expr, behind_word, such_that, assignment_spelling, local_spelling, locals_spelling, dcls_spelling, stmt_spelling}
use Rattle.stmt_trees.specs.StmtGrammar.{primary, takes_else, IsGivenExpr, IsAssignment, AreLocals, AreSomeLocals, AreDcls, IsStmt}
use Rattle.stmt_trees.specs.ClassSpelling.{list_spelling}
use Rattle.stmt_reading.specs.Leaves.{Read, onto, expr_in, pattern_in, type_in}
use Rattle.stmt_reading.specs.Statements.{behind_word_in, such_that_in, value_in, patterns_tree, patterns_in, target_of, assigned, assignment_in, simple_in, local_in, dcls_in}
use Rattle.stmt_laws.specs.Ends.{first_word, not_else}
use Rattle.stmt_laws.proofs.Spellings.{expr_pieces, pattern_pieces, type_pieces, IsFar, IsWhole, some_patterns-alike, patterns-good, IsLocal, locals-alike, locals-good}
use Rattle.stmt_laws.proofs.Gives.{Gives, gives_this, gives_none, gives_onto, gives_choice, gives_more, Spells, two, ended, respelled, marked, keyed, named_at, gives_word, gives_name, Found, gives_leaf, AreSome, gives_list}

-- ---- leaves

pub gives_expr : (tokens : List Token) → Gives (expr_in tokens) (Found expr_pieces IsFar tokens)
gives_expr = gives_leaf kind.Expr expr_of spelling IsFar (λ front e q. let h = (expr-is front e).0 q in (h.spelled, h.binds))

pub gives_pattern : (tokens : List Token) → Gives (pattern_in tokens) (Found pattern_pieces IsPattern tokens)
gives_pattern =
    gives_leaf kind.Pattern pattern_of pattern_spelling IsPattern (λ front p q. let h = (pattern-is front p).0 q in (h.spelled, h.grammatical))

pub gives_type : (tokens : List Token) → Gives (type_in tokens) (Found type_pieces IsWhole tokens)
gives_type = gives_leaf kind.TypeExpr type_of type_spelling IsWhole (λ front t q. let h = read-type front t q in (h.spelled, h.grammatical))

-- ---- expressions that may be left out

pub gives_behind : (w : Word) (tokens : List Token) → Gives (behind_word_in w tokens) (Found (behind_word w) IsGivenExpr tokens)
gives_behind w tokens =
    gives_choice _ _ (gives_word w tokens) (λ place a f. gives_onto _ (gives_expr a) (λ e b g.
    gives_this (Some e) b (record { spelled = marked f g.spelled; good = g.good })))
    (λ none. gives_this None tokens (record { spelled = ended; good = tt }))

pub gives_such_that : (tokens : List Token) → Gives (such_that_in tokens) (Found such_that IsGivenExpr tokens)
gives_such_that tokens =
    gives_choice _ _ (gives_word word_is.Be tokens) (λ place a f. gives_onto _ (gives_word word_is.St a) (λ other b g.
    gives_onto _ (gives_expr b) (λ e c h. gives_this (Some e) c (record { spelled = marked f (marked g h.spelled); good = h.good }))))
    (λ none. gives_this None tokens (record { spelled = ended; good = tt }))

-- a value, where the next word begins one
abbrev pub begun : Option Turn → List Token → Read (Option ExprTree)
begun None tokens = Some (None, tokens)
begun (Some turn) tokens = onto (expr_in tokens) (λ (e : ExprTree) (rest : List Token). Some (Some e, rest))

gives_begun : (turn : Option Turn) (tokens : List Token) → Gives (begun turn tokens) (Found maybe_expr IsGivenExpr tokens)
gives_begun None tokens = gives_this None tokens (record { spelled = ended; good = tt })
gives_begun (Some turn) tokens =
    gives_onto _ (gives_expr tokens) (λ e rest g. gives_this (Some e) rest (record { spelled = g.spelled; good = g.good }))

pub gives_value : (tokens : List Token) → Gives (value_in tokens) (Found maybe_expr IsGivenExpr tokens)
gives_value [] = gives_this None [] (record { spelled = ended; good = tt })
gives_value (token ∷ tokens) = gives_begun (expression (word_of token)) (token ∷ tokens)

-- ---- patterns

abbrev pub patterns_pieces : PatternTrees → List Piece
patterns_pieces ps = whole (patterns_spelling ps)

abbrev pub AreGoodPatterns : PatternTrees → Type 0
AreGoodPatterns ps = AreSomePatterns ps × ArePatterns ps

patterns_found : (tokens rest : List Token) (ps : List PatternTree) → Spells tokens (list_spelling word_is.Comma pattern_pieces ps) rest → AreSome IsPattern ps
    → Found patterns_pieces AreGoodPatterns tokens (patterns_tree ps) rest
patterns_found tokens rest [] s g = absurd g
patterns_found tokens rest (p ∷ ps) s g = record { spelled = respelled (some_patterns-alike p ps) s; good = (tt, (g.0, patterns-good ps g.1)) }

pub gives_patterns : (tokens : List Token) → Gives (patterns_in tokens) (Found patterns_pieces AreGoodPatterns tokens)
gives_patterns tokens =
    gives_onto _ (gives_list word_is.Comma pattern_in pattern_pieces IsPattern gives_pattern tokens)
    (λ ps rest f. gives_this (patterns_tree ps) rest (patterns_found tokens rest ps f.spelled f.good))

-- ---- assignments

abbrev pub AreSteps : List TargetStepTree → Type 0
AreSteps [] = Unit {0}
AreSteps (field_of name name_place place ∷ steps) = AreSteps steps
AreSteps (element_at index place ∷ steps) = IsFar index × AreSteps steps

-- the target that an expression is, with steps behind it
pub record TargetAt (e : ExprTree) (steps : List TargetStepTree) (t : TargetTree) : Type 0 where
  pub reads : target_read t ≡ stepped e steps
  pub good : IsTarget t
  pub begins : target_place t ≡ expr_place (primary e)

same_target : (a b : TargetTree) → Some a ≡ Some b → a ≡ b
same_target a b e = cc

target_found : (e : ExprTree) (steps : List TargetStepTree) (t : TargetTree) → Binds e far_pull → AreSteps steps → target_of e steps ≡ Some t
    → TargetAt e steps t
target_found (named name place) steps t b g q =
    subst (TargetAt (named name place) steps) (same_target (variable name steps place) t q) (record { reads = refl; good = g; begins = refl })
target_found (qualified class name name_place place) steps t b g q =
    subst (TargetAt (qualified class name name_place place) steps) (same_target (variable_of_class class name name_place steps place) t q)
    (record { reads = refl; good = g; begins = refl })
target_found (select read name name_place place) steps t b g q =
    let h = target_found read (field_of name name_place place ∷ steps) t b.0 g q in
    record { reads = h.reads; good = h.good; begins = h.begins }
target_found (apply read (one_expr index no_exprs) place) steps t b g q =
    let h = target_found read (element_at index place ∷ steps) t b.0 (b.3.0, g) q in
    record { reads = h.reads; good = h.good; begins = h.begins }
target_found (apply read no_exprs place) steps t b g q = absurd (cc)
target_found (apply read (one_expr first (one_expr second others)) place) steps t b g q = absurd (cc)
target_found _ steps t b g q = absurd (cc)

-- an assignment to the target that an expression is
pub record AssignedAt (e : ExprTree) (tokens : List Token) (x : AssignmentTree) (rest : List Token) : Type 0 where
  pub spelled : Spells tokens (assignment_spelling x) rest
  pub good : IsAssignment x
  pub begins : target_place x.target ≡ expr_place (primary e)

assignment-alike : (e : ExprTree) (t : TargetTree) (value : ExprTree) → target_read t ≡ e
    → (whole (spelling e) ++ (mark word_is.Becomes ∷ [])) ++ whole (spelling value)
    ≡ whole (spelling (target_read t)) ++ (mark word_is.Becomes ∷ whole (spelling value))
assignment-alike e t value q =
    append_assoc (whole (spelling e)) (mark word_is.Becomes ∷ []) (whole (spelling value))
    ∙ ap (λ x. whole (spelling x) ++ (mark word_is.Becomes ∷ whole (spelling value))) (sym q)

assigned_given : (e : ExprTree) (t : Option TargetTree) → ((found : TargetTree) → t ≡ Some found → TargetAt e [] found) → (before tokens : List Token)
    → Spells before (whole (spelling e) ++ (mark word_is.Becomes ∷ [])) tokens
    → Gives (assigned t tokens) (AssignedAt e before)
assigned_given e None found before tokens s = gives_none
assigned_given e (Some t) found before tokens s =
    let h = found t refl in
    gives_onto _ (gives_expr tokens) (λ value rest g.
    gives_this (record { target = t; value = value }) rest (record {
      spelled = respelled (assignment-alike e t value h.reads) (two s g.spelled);
      good = (h.good, g.good);
      begins = h.begins;
    }))

pub gives_assignment : (tokens : List Token) → Gives (assignment_in tokens) (Found assignment_spelling IsAssignment tokens)
gives_assignment tokens =
    gives_onto _ (gives_expr tokens) (λ e a f. gives_onto _ (gives_word word_is.Becomes a) (λ place b g.
    gives_more (λ x rest h. record { spelled = h.spelled; good = h.good })
    (assigned_given e (target_of e []) (λ t q. target_found e [] t f.good tt q) tokens b (two f.spelled (marked g ended)))))

-- ---- calls

abbrev pub IsApplication : ExprTree → Type 0
IsApplication (apply head arguments place) = Unit {0}
IsApplication _ = ⊥

abbrev pub IsHead : ExprTree → Type 0
IsHead (sequence_enumeration items place) = ⊥
IsHead (sequence_comprehension item pattern set condition place) = ⊥
IsHead (cases_of subject cases others place) = ⊥
IsHead _ = Unit {0}

abbrev pub is_application : ExprTree → Bool
is_application (apply head arguments place) = true
is_application _ = false

abbrev pub is_head : ExprTree → Bool
is_head (sequence_enumeration items place) = false
is_head (sequence_comprehension item pattern set condition place) = false
is_head (cases_of subject cases others place) = false
is_head _ = true

applied : (e : ExprTree) → is_application e ≡ true → IsApplication e
applied (apply head arguments place) q = tt
applied _ q = absurd (cc)

headed : (e : ExprTree) → is_head e ≡ true → IsHead e
headed (sequence_enumeration items place) q = absurd (cc)
headed (sequence_comprehension item pattern set condition place) q = absurd (cc)
headed (cases_of subject cases others place) q = absurd (cc)
headed _ q = tt

-- a statement that is read: how it is written, that the grammar has it, and that no `else` is left that it would take
pub record StmtAt (tokens : List Token) (s : StmtTree) (rest : List Token) : Type 0 where
  pub spelled : Spells tokens (stmt_spelling s) rest
  pub good : IsStmt s
  pub no_else : takes_else s ≡ true → not_else (first_word rest) ≡ true

pub no_lack : (b : Bool) → false ≡ true → b ≡ true
no_lack b e = absurd (cc)

called_given : (e : ExprTree) (tokens rest : List Token) (applies head : Bool) → is_application e ≡ applies → is_head (primary e) ≡ head → IsFar e
    → Spells tokens (whole (spelling e)) rest
    → Gives (if applies then if head then Some (call e (expr_place (primary e)), rest) else None else None) (StmtAt tokens)
called_given e tokens rest true true a h b s =
    gives_this (call e (expr_place (primary e))) rest (record {
      spelled = s;
      good = record { applies = applied e a; head = headed (primary e) h; binds = b; begins = refl };
      no_else = no_lack (not_else (first_word rest));
    })
called_given e tokens rest true false a h b s = gives_none
called_given e tokens rest false head a h b s = gives_none

pub gives_simple : (tokens : List Token) → Gives (simple_in tokens) (StmtAt tokens)
gives_simple tokens =
    gives_onto _ (gives_expr tokens) (λ e a f.
    gives_choice _ _ (gives_word word_is.Becomes a) (λ place b g.
    gives_onto _ (assigned_given e (target_of e []) (λ t q. target_found e [] t f.good tt q) tokens b (two f.spelled (marked g ended)))
    (λ x rest h. gives_this (assign x.target x.value (target_place x.target)) rest (record {
      spelled = h.spelled;
      good = (h.good.0, h.good.1, refl);
      no_else = no_lack (not_else (first_word rest));
    })))
    (λ none. called_given e tokens a (is_application e) (is_head (primary e)) refl refl f.good f.spelled))

-- ---- local variables

pub gives_local : (tokens : List Token) → Gives (local_in tokens) (Found local_spelling IsLocal tokens)
gives_local tokens =
    gives_onto _ (gives_name tokens) (λ name a f. gives_onto _ (gives_word word_is.Colon a) (λ colon b g.
    gives_onto _ (gives_type b) (λ declared c h. gives_onto _ (gives_behind word_is.Becomes c) (λ initial d i.
    gives_this (record { name = name.name; name_place = name.place; declared = declared; initial = initial }) d
    (record { spelled = named_at f (marked g (two h.spelled i.spelled)); good = (h.good, i.good) })))))

-- the variables of one `dcl`
pub record LocalsAt (tokens : List Token) (locals : List LocalTree) (rest : List Token) : Type 0 where
  pub spelled : Spells tokens (locals_spelling locals) rest
  pub some : AreSomeLocals locals
  pub good : AreLocals locals

locals_found : (tokens rest : List Token) (locals : List LocalTree) → Spells tokens (list_spelling word_is.Comma local_spelling locals) rest
    → AreSome IsLocal locals → LocalsAt tokens locals rest
locals_found tokens rest [] s g = absurd g
locals_found tokens rest (l ∷ ls) s g =
    record { spelled = respelled (ap (λ more. local_spelling l ++ more) (locals-alike ls)) s; some = tt; good = locals-good (l ∷ ls) g }

pub gives_dcls : (turns : ℕ) (tokens : List Token) → Gives (dcls_in turns tokens) (Found dcls_spelling AreDcls tokens)
gives_dcls zero tokens = gives_none
gives_dcls (suc turns) tokens =
    gives_choice _ _ (gives_word word_is.Dcl tokens) (λ place a f.
    gives_onto _ (gives_more (λ ls rest x. locals_found a rest ls x.spelled x.good) (gives_list word_is.Comma local_in local_spelling IsLocal gives_local a))
    (λ locals b g. gives_onto _ (gives_word word_is.Semicolon b) (λ semicolon c h.
    gives_onto _ (gives_dcls turns c) (λ others d i.
    gives_this (record { locals = locals; place = place } ∷ others) d
    (record { spelled = keyed f (two g.spelled (marked h i.spelled)); good = (g.some, g.good, i.good) })))))
    (λ none. gives_this [] tokens (record { spelled = ended; good = tt }))
