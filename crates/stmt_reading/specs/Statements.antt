-- The statement that tokens begin with, from left to right, and the tokens that are left.
use Rattle.std.specs.Prelude.{ℕ, zero, suc, Bool, true, false, ◌||◌, if◌then◌else◌, List, [], ◌∷◌, Option, Some, None}
use Rattle.vdm_kinds.specs.declared.name_at.NameAt.{NameAt}
use Rattle.vdm_kinds.specs.declared.place.Place.{Place}
use Rattle.vdm_kinds.specs.declared.sign.Sign.TheVariants.{Equal, InSet}
use Rattle.abstract_syntax.specs.Types.{TypeTree}
use Rattle.abstract_syntax.specs.Expressions.{ExprTree, ExprTrees, no_exprs, one_expr, DefinedTrees, no_defined, one_defined, bind_in, PatternTree, PatternTrees, no_patterns, one_pattern, expr_place, named, qualified, apply, select, sequence_enumeration, sequence_comprehension, cases_of}
use Rattle.abstract_syntax.specs.Statements.{TargetStepTree, TargetTree, field_of, element_at, variable, variable_of_class, target_place, AssignmentTree, LocalTree, DclTree, StmtTree, StmtTrees, MaybeStmt, StmtBranches, StmtCases, HandlerTrees, block, assign, assign_together, call, returns, exits, let_then, let_be_then, def_then, if_then, cases_then, while_do, for_numbers, for_set, for_sequence, trap_exit, trap_exits, always_after, in_parallel, start_thread, start_threads, skips, errs, no_stmts, one_stmt, no_stmt, given_stmt, no_stmt_branches, one_stmt_branch, no_stmt_cases, one_stmt_case, no_handlers, one_handler}
use Rattle.grammar_words.specs.declared.word.Word.{Word}
use Rattle.grammar_words.specs.declared.word.Word.TheVariants as word_is
use Rattle.grammar_words.specs.Tokens.{Token, plain, word_of}
use Rattle.grammar_fronts.specs.Operands.{expression}
use Rattle.grammar_fronts.specs.Turns.{Turn}
use Rattle.stmt_trees.specs.StmtGrammar.{primary}
use Rattle.stmt_reading.specs.Leaves.{Read, onto, choice, expr_in, pattern_in, type_in, word_in, name_in, turns_for, further, list_in}

-- ---- parts

-- an expression behind a word, where the word comes
abbrev pub behind_word_in : Word → List Token → Read (Option ExprTree)
behind_word_in w tokens =
    choice (word_in w tokens) (λ (place : Place) (a : List Token). onto (expr_in a) (λ (e : ExprTree) (b : List Token). Some (Some e, b)))
    (Some (None, tokens))

abbrev pub such_that_in : List Token → Read (Option ExprTree)
such_that_in tokens =
    choice (word_in word_is.Be tokens)
    (λ (place : Place) (a : List Token). onto (word_in word_is.St a) (λ (other : Place) (b : List Token).
    onto (expr_in b) (λ (e : ExprTree) (c : List Token). Some (Some e, c))))
    (Some (None, tokens))

-- an expression, where the next word begins one
abbrev pub begun : Option Turn → List Token → Read (Option ExprTree)
begun None tokens = Some (None, tokens)
begun (Some turn) tokens = onto (expr_in tokens) (λ (e : ExprTree) (rest : List Token). Some (Some e, rest))

abbrev pub value_in : List Token → Read (Option ExprTree)
value_in [] = Some (None, [])
value_in (token ∷ tokens) = begun (expression (word_of token)) (token ∷ tokens)

abbrev pub patterns_tree : List PatternTree → PatternTrees
patterns_tree [] = no_patterns
patterns_tree (p ∷ ps) = one_pattern p (patterns_tree ps)

abbrev pub patterns_in : List Token → Read PatternTrees
patterns_in tokens = onto (list_in word_is.Comma pattern_in tokens) (λ (ps : List PatternTree) (rest : List Token). Some (patterns_tree ps, rest))

-- ---- assignments

-- the steps of postfixes of the kinds that a target has, innermost first, behind those that follow them
abbrev pub applied_target : (List TargetStepTree → Option TargetTree) → ExprTrees → Place → List TargetStepTree → Option TargetTree
applied_target target (one_expr index no_exprs) place steps = target (element_at index place ∷ steps)
applied_target target _ place steps = None

abbrev pub target_of : ExprTree → List TargetStepTree → Option TargetTree
target_of (named name place) steps = Some (variable name steps place)
target_of (qualified class name name_place place) steps = Some (variable_of_class class name name_place steps place)
target_of (select read name name_place place) steps = target_of read (field_of name name_place place ∷ steps)
target_of (apply read arguments place) steps = applied_target (target_of read) arguments place steps
target_of _ steps = None

abbrev pub assigned : Option TargetTree → List Token → Read AssignmentTree
assigned None tokens = None
assigned (Some target) tokens =
    onto (expr_in tokens) (λ (value : ExprTree) (rest : List Token). Some (record { target = target; value = value }, rest))

-- a target, `:=` and its value
abbrev pub assignment_in : List Token → Read AssignmentTree
assignment_in tokens =
    onto (expr_in tokens) (λ (read : ExprTree) (a : List Token).
    onto (word_in word_is.Becomes a) (λ (place : Place) (b : List Token). assigned (target_of read []) b))

-- ---- calls

abbrev pub is_application : ExprTree → Bool
is_application (apply head arguments place) = true
is_application _ = false

abbrev pub is_head : ExprTree → Bool
is_head (sequence_enumeration items place) = false
is_head (sequence_comprehension item pattern set condition place) = false
is_head (cases_of subject cases others place) = false
is_head _ = true

abbrev pub called : ExprTree → List Token → Read StmtTree
called e tokens =
    if is_application e then if is_head (primary e) then Some (call e (expr_place (primary e)), tokens) else None else None

-- an assignment or a call, which both begin with what could be an expression
abbrev pub simple_in : List Token → Read StmtTree
simple_in tokens =
    onto (expr_in tokens) (λ (e : ExprTree) (a : List Token).
    choice (word_in word_is.Becomes a)
    (λ (place : Place) (b : List Token). onto (assigned (target_of e []) b)
    (λ (x : AssignmentTree) (rest : List Token). Some (assign x.target x.value (target_place x.target), rest)))
    (called e a))

-- ---- blocks

abbrev pub local_in : List Token → Read LocalTree
local_in tokens =
    onto (name_in tokens) (λ (name : NameAt) (a : List Token).
    onto (word_in word_is.Colon a) (λ (colon : Place) (b : List Token).
    onto (type_in b) (λ (declared : TypeTree) (c : List Token).
    onto (behind_word_in word_is.Becomes c) (λ (initial : Option ExprTree) (d : List Token).
    Some (record { name = name.name; name_place = name.place; declared = declared; initial = initial }, d)))))

-- each `dcl`, with the `;` behind it
abbrev pub dcls_in : ℕ → List Token → Read (List DclTree)
dcls_in zero tokens = None
dcls_in (suc turns) tokens =
    choice (word_in word_is.Dcl tokens)
    (λ (place : Place) (a : List Token). onto (list_in word_is.Comma local_in a) (λ (locals : List LocalTree) (b : List Token).
    onto (word_in word_is.Semicolon b) (λ (semicolon : Place) (c : List Token).
    onto (dcls_in turns c) (λ (others : List DclTree) (d : List Token). Some (record { locals = locals; place = place } ∷ others, d)))))
    (Some ([], tokens))

abbrev pub stmts_tree : List StmtTree → StmtTrees
stmts_tree [] = no_stmts
stmts_tree (s ∷ ss) = one_stmt s (stmts_tree ss)

-- further statements of a block behind a `;` each, up to its `)`, before which a `;` may stand
abbrev pub block_rest : (List Token → Read StmtTree) → ℕ → List Token → Read (List StmtTree)
block_rest one zero tokens = None
block_rest one (suc turns) tokens =
    choice (word_in word_is.CloseRound tokens) (λ (close : Place) (a : List Token). Some ([], a))
    (onto (word_in word_is.Semicolon tokens) (λ (semicolon : Place) (a : List Token).
    choice (word_in word_is.CloseRound a) (λ (close : Place) (b : List Token). Some ([], b))
    (onto (one a) (λ (s : StmtTree) (b : List Token).
    onto (block_rest one turns b) (λ (others : List StmtTree) (c : List Token). Some (s ∷ others, c))))))

abbrev pub block_in : (List Token → Read StmtTree) → Place → List Token → Read StmtTree
block_in one place tokens =
    onto (dcls_in (turns_for tokens) tokens) (λ (locals : List DclTree) (a : List Token).
    onto (one a) (λ (s : StmtTree) (b : List Token).
    onto (block_rest one (turns_for tokens) b) (λ (others : List StmtTree) (c : List Token).
    Some (block locals (stmts_tree (s ∷ others)) place, c))))

-- ---- `let`, `def`, `if` and `cases`

abbrev pub Definition : Type 0
Definition = PatternTree × Option TypeTree × ExprTree

abbrev pub declared_in : List Token → Read (Option TypeTree)
declared_in tokens =
    choice (word_in word_is.Colon tokens) (λ (place : Place) (a : List Token). onto (type_in a) (λ (t : TypeTree) (b : List Token). Some (Some t, b)))
    (Some (None, tokens))

abbrev pub defined_in : PatternTree → List Token → Read Definition
defined_in p tokens =
    onto (declared_in tokens) (λ (t : Option TypeTree) (a : List Token).
    onto (word_in (word_is.Operator Equal) a) (λ (equal : Place) (b : List Token).
    onto (expr_in b) (λ (e : ExprTree) (c : List Token). Some ((p, t, e), c))))

abbrev pub definition_in : List Token → Read Definition
definition_in tokens = onto (pattern_in tokens) defined_in

abbrev pub definitions_tree : List Definition → DefinedTrees
definitions_tree [] = no_defined
definitions_tree (d ∷ ds) = one_defined d.0 d.1 d.2 (definitions_tree ds)

abbrev pub let_definitions : (List Token → Read StmtTree) → Place → PatternTree → List Token → Read StmtTree
let_definitions one place p tokens =
    onto (defined_in p tokens) (λ (first : Definition) (a : List Token).
    onto (further word_is.Comma definition_in (turns_for a) a) (λ (others : List Definition) (b : List Token).
    onto (word_in word_is.In b) (λ (behind : Place) (c : List Token).
    onto (one c) (λ (s : StmtTree) (d : List Token). Some (let_then (definitions_tree (first ∷ others)) s place, d)))))

abbrev pub let_bind : (List Token → Read StmtTree) → Place → PatternTree → List Token → Read StmtTree
let_bind one place p tokens =
    onto (further word_is.Comma pattern_in (turns_for tokens) tokens) (λ (others : List PatternTree) (a : List Token).
    onto (word_in (word_is.Operator InSet) a) (λ (member : Place) (b : List Token).
    onto (expr_in b) (λ (set : ExprTree) (c : List Token).
    onto (such_that_in c) (λ (condition : Option ExprTree) (d : List Token).
    onto (word_in word_is.In d) (λ (behind : Place) (e : List Token).
    onto (one e) (λ (s : StmtTree) (f : List Token).
    Some (let_be_then (bind_in (patterns_tree (p ∷ others)) set) condition s place, f)))))))

abbrev pub is_there : {A : Type 0} → Read A → Bool
is_there None = false
is_there (Some found) = true

-- a `:` or a `=` behind the first pattern tells definitions from a bind
abbrev pub let_in_stmt : (List Token → Read StmtTree) → Place → List Token → Read StmtTree
let_in_stmt one place tokens =
    onto (pattern_in tokens) (λ (p : PatternTree) (a : List Token).
    if is_there (word_in word_is.Colon a) || is_there (word_in (word_is.Operator Equal) a)
    then let_definitions one place p a else let_bind one place p a)

abbrev pub def_in_stmt : (List Token → Read StmtTree) → Place → List Token → Read StmtTree
def_in_stmt one place tokens =
    onto (pattern_in tokens) (λ (p : PatternTree) (a : List Token).
    onto (word_in (word_is.Operator Equal) a) (λ (equal : Place) (b : List Token).
    onto (expr_in b) (λ (e : ExprTree) (c : List Token).
    onto (word_in word_is.In c) (λ (behind : Place) (d : List Token).
    onto (one d) (λ (s : StmtTree) (f : List Token). Some (def_then p e s place, f))))))

abbrev pub else_in : (List Token → Read StmtTree) → List Token → Read MaybeStmt
else_in one tokens =
    choice (word_in word_is.Else tokens) (λ (place : Place) (a : List Token). onto (one a) (λ (s : StmtTree) (b : List Token). Some (given_stmt s, b)))
    (Some (no_stmt, tokens))

-- what stands behind `if` and `elseif`
abbrev pub branches_in : (List Token → Read StmtTree) → ℕ → List Token → Read StmtBranches
branches_in one zero tokens = None
branches_in one (suc turns) tokens =
    choice (word_in word_is.Elseif tokens)
    (λ (place : Place) (a : List Token). onto (expr_in a) (λ (condition : ExprTree) (b : List Token).
    onto (word_in word_is.Then b) (λ (then_place : Place) (c : List Token).
    onto (one c) (λ (s : StmtTree) (d : List Token).
    onto (branches_in one turns d) (λ (others : StmtBranches) (e : List Token). Some (one_stmt_branch condition s others, e))))))
    (Some (no_stmt_branches, tokens))

abbrev pub if_in : (List Token → Read StmtTree) → Place → List Token → Read StmtTree
if_in one place tokens =
    onto (expr_in tokens) (λ (condition : ExprTree) (a : List Token).
    onto (word_in word_is.Then a) (λ (then_place : Place) (b : List Token).
    onto (one b) (λ (s : StmtTree) (c : List Token).
    onto (branches_in one (turns_for tokens) c) (λ (elseifs : StmtBranches) (d : List Token).
    onto (else_in one d) (λ (otherwise : MaybeStmt) (e : List Token). Some (if_then condition s elseifs otherwise place, e))))))

-- alternatives, and what stands behind `others`
abbrev pub CasesRead : Type 0
CasesRead = StmtCases × MaybeStmt

abbrev pub others_in : (List Token → Read StmtTree) → List Token → Read CasesRead
others_in one tokens =
    onto (word_in word_is.Arrow tokens) (λ (place : Place) (a : List Token).
    onto (one a) (λ (s : StmtTree) (b : List Token).
    onto (word_in word_is.End b) (λ (end : Place) (c : List Token). Some ((no_stmt_cases, given_stmt s), c))))

abbrev pub cases_in : (List Token → Read StmtTree) → ℕ → List Token → Read CasesRead
cases_in one zero tokens = None
cases_in one (suc turns) tokens =
    onto (patterns_in tokens) (λ (ps : PatternTrees) (a : List Token).
    onto (word_in word_is.Arrow a) (λ (place : Place) (b : List Token).
    onto (one b) (λ (s : StmtTree) (c : List Token).
    choice (word_in word_is.End c) (λ (end : Place) (d : List Token). Some ((one_stmt_case ps s no_stmt_cases, no_stmt), d))
    (onto (word_in word_is.Comma c) (λ (comma : Place) (d : List Token).
    onto (choice (word_in word_is.Others d) (λ (others : Place) (e : List Token). others_in one e) (cases_in one turns d))
    (λ (more : CasesRead) (f : List Token). Some ((one_stmt_case ps s more.0, more.1), f)))))))

abbrev pub cases_in_stmt : (List Token → Read StmtTree) → Place → List Token → Read StmtTree
cases_in_stmt one place tokens =
    onto (expr_in tokens) (λ (subject : ExprTree) (a : List Token).
    onto (word_in word_is.Colon a) (λ (colon : Place) (b : List Token).
    onto (cases_in one (turns_for tokens) b) (λ (found : CasesRead) (c : List Token). Some (cases_then subject found.0 found.1 place, c))))

-- ---- loops

abbrev pub body_in : {A : Type 0} → (List Token → Read StmtTree) → (StmtTree → A) → List Token → Read A
body_in one made tokens =
    onto (word_in word_is.Do tokens) (λ (place : Place) (a : List Token).
    onto (one a) (λ (s : StmtTree) (b : List Token). Some (made s, b)))

abbrev pub while_in : (List Token → Read StmtTree) → Place → List Token → Read StmtTree
while_in one place tokens =
    onto (expr_in tokens) (λ (condition : ExprTree) (a : List Token). body_in one (λ (s : StmtTree). while_do condition s place) a)

abbrev pub numbers_in : (List Token → Read StmtTree) → Place → NameAt → List Token → Read StmtTree
numbers_in one place name tokens =
    onto (expr_in tokens) (λ (first : ExprTree) (a : List Token).
    onto (word_in word_is.To a) (λ (to : Place) (b : List Token).
    onto (expr_in b) (λ (last : ExprTree) (c : List Token).
    onto (behind_word_in word_is.By c) (λ (step : Option ExprTree) (d : List Token).
    body_in one (λ (s : StmtTree). for_numbers name.name name.place first last step s place) d))))

abbrev pub sequence_in : (List Token → Read StmtTree) → Place → List Token → Read StmtTree
sequence_in one place tokens =
    onto (pattern_in tokens) (λ (p : PatternTree) (a : List Token).
    onto (word_in word_is.In a) (λ (behind : Place) (b : List Token).
    onto (expr_in b) (λ (e : ExprTree) (c : List Token). body_in one (λ (s : StmtTree). for_sequence p e s place) c)))

abbrev pub set_in : (List Token → Read StmtTree) → Place → List Token → Read StmtTree
set_in one place tokens =
    onto (pattern_in tokens) (λ (p : PatternTree) (a : List Token).
    onto (word_in (word_is.Operator InSet) a) (λ (member : Place) (b : List Token).
    onto (expr_in b) (λ (e : ExprTree) (c : List Token). body_in one (λ (s : StmtTree). for_set p e s place) c)))

-- a name before `=`
abbrev pub counted_in : List Token → Read NameAt
counted_in tokens =
    onto (name_in tokens) (λ (name : NameAt) (a : List Token).
    onto (word_in (word_is.Operator Equal) a) (λ (equal : Place) (b : List Token). Some (name, b)))

abbrev pub for_in : (List Token → Read StmtTree) → Place → List Token → Read StmtTree
for_in one place tokens =
    choice (word_in word_is.All tokens) (λ (all : Place) (a : List Token). set_in one place a)
    (choice (counted_in tokens) (numbers_in one place) (sequence_in one place tokens))

-- ---- exits, and several statements

abbrev pub in_body : {A : Type 0} → (List Token → Read StmtTree) → (StmtTree → A) → List Token → Read A
in_body one made tokens =
    onto (word_in word_is.In tokens) (λ (place : Place) (a : List Token).
    onto (one a) (λ (s : StmtTree) (b : List Token). Some (made s, b)))

abbrev pub trap_in : (List Token → Read StmtTree) → Place → List Token → Read StmtTree
trap_in one place tokens =
    onto (pattern_in tokens) (λ (p : PatternTree) (a : List Token).
    onto (word_in word_is.With a) (λ (with : Place) (b : List Token).
    onto (one b) (λ (handler : StmtTree) (c : List Token). in_body one (λ (s : StmtTree). trap_exit p handler s place) c)))

abbrev pub Handler : Type 0
Handler = PatternTree × StmtTree

abbrev pub handler_in : (List Token → Read StmtTree) → List Token → Read Handler
handler_in one tokens =
    onto (pattern_in tokens) (λ (p : PatternTree) (a : List Token).
    onto (word_in word_is.MapsTo a) (λ (to : Place) (b : List Token).
    onto (one b) (λ (s : StmtTree) (c : List Token). Some ((p, s), c))))

abbrev pub handlers_tree : List Handler → HandlerTrees
handlers_tree [] = no_handlers
handlers_tree (h ∷ hs) = one_handler h.0 h.1 (handlers_tree hs)

abbrev pub tixe_in : (List Token → Read StmtTree) → Place → List Token → Read StmtTree
tixe_in one place tokens =
    onto (word_in word_is.OpenCurly tokens) (λ (open_place : Place) (a : List Token).
    onto (list_in word_is.Comma (handler_in one) a) (λ (traps : List Handler) (b : List Token).
    onto (word_in word_is.CloseCurly b) (λ (close : Place) (c : List Token).
    in_body one (λ (s : StmtTree). trap_exits (handlers_tree traps) s place) c)))

abbrev pub always_in : (List Token → Read StmtTree) → Place → List Token → Read StmtTree
always_in one place tokens =
    onto (one tokens) (λ (last : StmtTree) (a : List Token). in_body one (λ (s : StmtTree). always_after last s place) a)

-- what stands between brackets
abbrev pub bracketed_in : {A B : Type 0} → (List Token → Read A) → (A → B) → List Token → Read B
bracketed_in {A = A} one made tokens =
    onto (word_in word_is.OpenRound tokens) (λ (open_place : Place) (a : List Token).
    onto (one a) (λ (found : A) (b : List Token).
    onto (word_in word_is.CloseRound b) (λ (close : Place) (c : List Token). Some (made found, c))))

-- ---- statements

-- what stands behind the bracket that closes what is open, and so many more
abbrev pub at_bracket : Word → ℕ → (ℕ → List Token) → List Token → List Token
at_bracket word_is.OpenRound inside next tokens = next (suc inside)
at_bracket word_is.CloseRound zero next tokens = tokens
at_bracket word_is.CloseRound (suc fewer) next tokens = next fewer
at_bracket _ inside next tokens = next inside

abbrev pub behind_bracket : ℕ → List Token → List Token
behind_bracket inside [] = []
behind_bracket inside (token ∷ tokens) = at_bracket (word_of token) inside (λ (k : ℕ). behind_bracket k tokens) tokens

-- a `(` begins a call where a postfix stands behind its `)`, and else a block
abbrev pub begins_call : List Token → Bool
begins_call tokens =
    is_there (word_in word_is.OpenRound (behind_bracket 0 tokens)) || is_there (word_in word_is.Dot (behind_bracket 0 tokens))
    || is_there (word_in word_is.DotNumber (behind_bracket 0 tokens))

-- the statement that a token begins, where this reads the statements in it
abbrev pub stmt_begun : (List Token → Read StmtTree) → Token → List Token → Read StmtTree
stmt_begun one (plain word_is.OpenRound place) tokens =
    if begins_call tokens then simple_in (plain word_is.OpenRound place ∷ tokens) else block_in one place tokens
stmt_begun one (plain word_is.Atomic place) tokens =
    bracketed_in (list_in word_is.Semicolon assignment_in) (λ (found : List AssignmentTree). assign_together found place) tokens
stmt_begun one (plain word_is.Return place) tokens =
    onto (value_in tokens) (λ (value : Option ExprTree) (rest : List Token). Some (returns value place, rest))
stmt_begun one (plain word_is.Exit place) tokens =
    onto (value_in tokens) (λ (value : Option ExprTree) (rest : List Token). Some (exits value place, rest))
stmt_begun one (plain word_is.Let place) tokens = let_in_stmt one place tokens
stmt_begun one (plain word_is.Def place) tokens = def_in_stmt one place tokens
stmt_begun one (plain word_is.If place) tokens = if_in one place tokens
stmt_begun one (plain word_is.Cases place) tokens = cases_in_stmt one place tokens
stmt_begun one (plain word_is.While place) tokens = while_in one place tokens
stmt_begun one (plain word_is.For place) tokens = for_in one place tokens
stmt_begun one (plain word_is.Trap place) tokens = trap_in one place tokens
stmt_begun one (plain word_is.Tixe place) tokens = tixe_in one place tokens
stmt_begun one (plain word_is.Always place) tokens = always_in one place tokens
stmt_begun one (plain word_is.DoubleBar place) tokens =
    bracketed_in (list_in word_is.Comma one) (λ (found : List StmtTree). in_parallel (stmts_tree found) place) tokens
stmt_begun one (plain word_is.Start place) tokens = bracketed_in expr_in (λ (e : ExprTree). start_thread e place) tokens
stmt_begun one (plain word_is.StartList place) tokens = bracketed_in expr_in (λ (e : ExprTree). start_threads e place) tokens
stmt_begun one (plain word_is.Skip place) tokens = Some (skips place, tokens)
stmt_begun one (plain word_is.Error place) tokens = Some (errs place, tokens)
stmt_begun one token tokens = simple_in (token ∷ tokens)

abbrev pub begun_by : (List Token → Read StmtTree) → List Token → Read StmtTree
begun_by one [] = None
begun_by one (token ∷ tokens) = stmt_begun one token tokens

-- a statement in which at most so many are nested
abbrev pub stmt_in : ℕ → List Token → Read StmtTree
stmt_in zero tokens = None
stmt_in (suc room) tokens = begun_by (stmt_in room) tokens

-- so many statements may be nested
abbrev pub nesting_limit : ℕ
nesting_limit = 200

abbrev pub all_read : {A : Type 0} → Read A → Option A
all_read None = None
all_read (Some (a, [])) = Some a
all_read (Some (a, token ∷ tokens)) = None

-- the statement that the tokens are, if they are one
abbrev pub stmt_of : List Token → Option StmtTree
stmt_of tokens = all_read (stmt_in nesting_limit tokens)
