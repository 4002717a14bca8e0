-- Parts of statements are taken: targets, assignments, local variables, patterns, binds and definitions.
use Rattle.std.proofs.Common.{◌≡◌, Bool, true, false, List, [], ◌∷◌, ◌++◌, Option, Some, None, refl, ap, sym, ◌∙◌, append_assoc}
use Rattle.std.proofs.lemmas.List.{append-nil}
use Rattle.vdm_kinds.specs.declared.sign.Sign.TheVariants.{Equal, InSet}
use Rattle.abstract_syntax.specs.Types.{TypeTree}
use Rattle.abstract_syntax.specs.Expressions.{ExprTree, PatternTree, PatternTrees, DefinedTrees, BindTree, bind_in, no_patterns, one_pattern, no_defined, one_defined, named, qualified, select, apply, one_expr, no_exprs}
use Rattle.abstract_syntax.specs.Statements.{AssignmentTree, LocalTree, DclTree, TargetStepTree, TargetTree, field_of, element_at, variable, variable_of_class}
use Rattle.grammar_words.specs.declared.word.Word.{Word}
use Rattle.grammar_words.specs.declared.word.Word.TheVariants as word_is
use Rattle.grammar_words.specs.Pulls.{far_pull}
use Rattle.grammar_words.specs.Tokens.{Token, identifier, plain, word_of}
use Rattle.grammar_words.specs.Written.{Written, at, word, at_word}
use Rattle.type_reading.specs.TypeSpelling.{IsType, union}
use Rattle.grammar_trees.specs.Spelling.{spelling, pattern_spelling, patterns_spelling, further_patterns, declared_spelling, definitions_spelling, further_definitions, bind_spelling}
use Rattle.grammar_trees.specs.Binding.{Binds, IsPattern, ArePatterns, AreSomePatterns, IsDeclared, AreDefinitions, AreSomeDefinitions, IsBind}
use Rattle.grammar_fronts.specs.declared.wanted.Wanted.TheVariants as want
use Rattle.stmt_trees.specs.Pieces.{Piece, must, key, mark, whole}
use Rattle.stmt_trees.specs.Targets.{stepped, target_read, IsTarget}
use Rattle.stmt_trees.specs.StmtSpelling.{behind_word, such_that, assignment_spelling, further_assignments, local_spelling, further_locals, locals_spelling, dcls_spelling}
use Rattle.stmt_trees.specs.StmtGrammar.{IsGivenExpr, IsAssignment, AreAssignments, AreLocals, AreSomeLocals, AreDcls}
use Rattle.stmt_fronts.specs.declared.expected.Expected.{Expected}
use Rattle.stmt_fronts.specs.declared.expected.Expected.TheVariants.{Within, Statement, InBlock, Initial, MoreVariables, Target, TargetSteps, MoreAssignments, Becomes, Semicolon}
use Rattle.stmt_fronts.specs.Turns.{goes_on}
use Rattle.stmt_fronts.specs.Table.{turns}
use Rattle.stmt_fronts.specs.Viable.{Names, fits}
use Rattle.stmt_laws.specs.Ends.{ends_expr, ends_pattern, ends_type}
use Rattle.stmt_laws.proofs.Readers.{Begins, by_mark, by_token, by_nothing}
use Rattle.stmt_laws.proofs.Spellings.{whole-append}
use Rattle.stmt_laws.proofs.SoundParts.{AreSteps}
use Rattle.viable_laws.proofs.Takes.{Takes, fewer, nothing, both, token, marked, left_out, left_before, left_last, same_pieces, regroup}
use Rattle.viable_laws.proofs.Leaves.{expr_taken, pattern_taken, type_taken}

-- a word of the grammar's own has no name to compare
abbrev pub fits_none : Expected → Type 0
fits_none x = (n : Names) → fits n x None ≡ true

pub joined : (a b : List Written) {x : List Expected} {ends : Word → Bool} {n m : Names} → Takes (whole a ++ whole b) x ends n m → Takes (whole (a ++ b)) x ends n m
joined a b t = same_pieces (sym (whole-append a b)) t

-- ---- targets

abbrev pub only_becomes : Word → Bool
only_becomes word_is.Becomes = true
only_becomes _ = false

steps_written : List TargetStepTree → List Written
steps_written [] = []
steps_written (field_of name name_place place ∷ steps) = at_word word_is.Dot place ∷ at (identifier name name_place) ∷ steps_written steps
steps_written (element_at index place ∷ steps) =
    at_word word_is.OpenRound place ∷ (spelling index ++ (word word_is.CloseRound ∷ steps_written steps))

stepped-written : (steps : List TargetStepTree) (e : ExprTree) → spelling (stepped e steps) ≡ spelling e ++ steps_written steps
unfolding steps_written
stepped-written [] e = sym (append-nil (spelling e))
stepped-written (field_of name name_place place ∷ steps) e =
    stepped-written steps (select e name name_place place)
    ∙ append_assoc (spelling e) (at_word word_is.Dot place ∷ at (identifier name name_place) ∷ []) (steps_written steps)
stepped-written (element_at index place ∷ steps) e =
    stepped-written steps (apply e (one_expr index no_exprs) place)
    ∙ append_assoc (spelling e) (at_word word_is.OpenRound place ∷ ((spelling index ++ []) ++ (word word_is.CloseRound ∷ []))) (steps_written steps)
    ∙ ap (λ all. spelling e ++ (at_word word_is.OpenRound place ∷ all))
    (ap (λ i. (i ++ (word word_is.CloseRound ∷ [])) ++ steps_written steps) (append-nil (spelling index))
    ∙ append_assoc (spelling index) (word word_is.CloseRound ∷ []) (steps_written steps))

no_step : (w : Word) → only_becomes w ≡ true → turns TargetSteps w ≡ []
no_step word_is.Becomes e = refl
no_step _ e = absurd (cc)

steps_taken : {n : Names} (steps : List TargetStepTree) → AreSteps steps → Takes (whole (steps_written steps)) (TargetSteps ∷ []) only_becomes n n
unfolding steps_written
steps_taken [] g = left_last refl no_step
steps_taken (field_of name name_place place ∷ steps) g =
    token (plain word_is.Dot place) [] _ _ refl refl (token (identifier name name_place) [] _ _ refl refl (steps_taken steps g))
steps_taken (element_at index place ∷ steps) g =
    token (plain word_is.OpenRound place) [] _ _ refl refl
    (joined (spelling index) (word word_is.CloseRound ∷ steps_written steps)
    (both (expr_taken index g.0) (by_mark word_is.CloseRound refl) (marked word_is.CloseRound [] _ _ refl refl (steps_taken steps g.1))))

abbrev not_backquote : Word → Bool
not_backquote word_is.Becomes = true
not_backquote word_is.Dot = true
not_backquote word_is.OpenRound = true
not_backquote _ = false

no_class : (w : Word) → not_backquote w ≡ true → turns (Within want.BehindClass) w ≡ []
no_class word_is.Becomes e = refl
no_class word_is.Dot e = refl
no_class word_is.OpenRound e = refl
no_class _ e = absurd (cc)

becomes_behind : (w : Word) → only_becomes w ≡ true → not_backquote w ≡ true
becomes_behind word_is.Becomes e = refl
becomes_behind _ e = absurd (cc)

steps_begin : (steps : List TargetStepTree) → Begins (whole (steps_written steps)) only_becomes not_backquote
unfolding steps_written
steps_begin [] = by_nothing becomes_behind
steps_begin (field_of name name_place place ∷ steps) = by_token (plain word_is.Dot place) refl
steps_begin (element_at index place ∷ steps) = by_token (plain word_is.OpenRound place) refl

-- the first name of a target, and what stands behind it
pub target_first : TargetTree → Token
target_first (variable name steps place) = identifier name place
target_first (variable_of_class class name name_place steps place) = identifier class place

pub behind_first : TargetTree → List Written
behind_first (variable name steps place) = steps_written steps
behind_first (variable_of_class class name name_place steps place) = word word_is.Backquote ∷ at (identifier name name_place) ∷ steps_written steps

pub target-written : (t : TargetTree) → spelling (target_read t) ≡ at (target_first t) ∷ behind_first t
unfolding target_first behind_first
target-written (variable name steps place) = stepped-written steps (named name place)
target-written (variable_of_class class name name_place steps place) = stepped-written steps (qualified class name name_place place)

pub behind_first_taken : {n : Names} (t : TargetTree) → IsTarget t → Takes (whole (behind_first t)) (Within want.BehindClass ∷ TargetSteps ∷ []) only_becomes n n
unfolding behind_first
behind_first_taken (variable name steps place) g = left_out refl no_class (steps_begin steps) (steps_taken steps g)
behind_first_taken (variable_of_class class name name_place steps place) g =
    marked word_is.Backquote [] _ _ refl refl (token (identifier name name_place) [] _ _ refl refl (steps_taken steps g))

pub is_name : (t : TargetTree) → word_of (target_first t) ≡ word_is.Identifier
unfolding target_first
is_name (variable name steps place) = refl
is_name (variable_of_class class name name_place steps place) = refl

-- ---- assignments

-- behind the first name
pub value_taken : {n : Names} (x : AssignmentTree) → IsAssignment x
    → Takes (whole (behind_first x.target) ++ (mark word_is.Becomes ∷ whole (spelling x.value)))
    (Within want.BehindClass ∷ TargetSteps ∷ Becomes ∷ Within want.Expression ∷ []) ends_expr n n
value_taken x g =
    both (behind_first_taken x.target g.0) (by_mark word_is.Becomes refl) (marked word_is.Becomes [] _ _ refl refl (expr_taken x.value g.1))

pub assignment-pieces : (x : AssignmentTree)
    → must (at (target_first x.target)) ∷ (whole (behind_first x.target) ++ (mark word_is.Becomes ∷ whole (spelling x.value))) ≡ assignment_spelling x
assignment-pieces x = ap (λ ws. whole ws ++ (mark word_is.Becomes ∷ whole (spelling x.value))) (sym (target-written x.target))

target_begun : {n : Names} {vs : List Piece} {y : List Expected} {ends : Word → Bool} (t : TargetTree)
    → Takes vs (Within want.BehindClass ∷ TargetSteps ∷ y) ends n n → Takes (must (at (target_first t)) ∷ vs) (Target ∷ y) ends n n
unfolding target_first
target_begun (variable name steps place) t = token (identifier name place) [] _ _ refl refl t
target_begun (variable_of_class class name name_place steps place) t = token (identifier class place) [] _ _ refl refl t

-- where a statement is wanted
pub assign_begun : {n : Names} {vs : List Piece} {ends : Word → Bool} (t : TargetTree)
    → Takes vs (Within want.BehindClass ∷ TargetSteps ∷ Becomes ∷ Within want.Expression ∷ []) ends n n → Takes (must (at (target_first t)) ∷ vs) (Statement ∷ []) ends n n
unfolding target_first
assign_begun (variable name steps place) t = token (identifier name place) [] _ _ refl refl t
assign_begun (variable_of_class class name name_place steps place) t = token (identifier class place) [] _ _ refl refl t

pub assignment_taken : {n : Names} (x : AssignmentTree) → IsAssignment x → Takes (assignment_spelling x) (Target ∷ Becomes ∷ Within want.Expression ∷ []) ends_expr n n
assignment_taken x g = same_pieces (assignment-pieces x) (target_begun x.target (value_taken x g))

assignments_begin : (xs : List AssignmentTree) {ends : Word → Bool} → Begins (further_assignments xs ++ (mark word_is.CloseRound ∷ [])) ends ends_expr
assignments_begin [] = by_mark word_is.CloseRound refl
assignments_begin (x ∷ xs) = by_mark word_is.Semicolon refl

further_assignments_taken : {n : Names} {ends : Word → Bool} (xs : List AssignmentTree) → AreAssignments xs
    → Takes (further_assignments xs ++ (mark word_is.CloseRound ∷ [])) (MoreAssignments ∷ Within want.CloseRound ∷ []) ends n n
further_assignments_taken [] g = left_before word_is.CloseRound refl refl (marked word_is.CloseRound [] _ _ refl refl nothing)
further_assignments_taken (x ∷ xs) g =
    marked word_is.Semicolon [] _ _ refl refl
    (regroup (assignment_spelling x) _ _ (both (assignment_taken x g.0) (assignments_begin xs) (further_assignments_taken xs g.1)))

pub assignments_taken : {n : Names} {ends : Word → Bool} (x : AssignmentTree) (xs : List AssignmentTree) → AreAssignments (x ∷ xs)
    → Takes ((assignment_spelling x ++ further_assignments xs) ++ (mark word_is.CloseRound ∷ []))
    (Target ∷ Becomes ∷ Within want.Expression ∷ MoreAssignments ∷ Within want.CloseRound ∷ []) ends n n
assignments_taken x xs g =
    regroup (assignment_spelling x) _ _ (both (assignment_taken x g.0) (assignments_begin xs) (further_assignments_taken xs g.1))

-- ---- local variables

-- behind the type or the value of one
abbrev ends_local : Word → Bool
ends_local word_is.Comma = true
ends_local word_is.Semicolon = true
ends_local _ = false

local_ends_type : (w : Word) → ends_local w ≡ true → ends_type w ≡ true
local_ends_type word_is.Comma e = refl
local_ends_type word_is.Semicolon e = refl
local_ends_type _ e = absurd (cc)

local_ends_expr : (w : Word) → ends_local w ≡ true → ends_expr w ≡ true
local_ends_expr word_is.Comma e = refl
local_ends_expr word_is.Semicolon e = refl
local_ends_expr _ e = absurd (cc)

no_initial : (w : Word) → ends_local w ≡ true → turns Initial w ≡ []
no_initial word_is.Comma e = refl
no_initial word_is.Semicolon e = refl
no_initial _ e = absurd (cc)

initial_begins : (e : Option ExprTree) → Begins (behind_word word_is.Becomes e) ends_local ends_type
initial_begins None = by_nothing local_ends_type
initial_begins (Some e) = by_mark word_is.Becomes refl

initial_taken : {n : Names} (e : Option ExprTree) → IsGivenExpr e → Takes (behind_word word_is.Becomes e) (Initial ∷ []) ends_local n n
initial_taken None g = left_last refl no_initial
initial_taken (Some e) g = marked word_is.Becomes [] _ _ refl refl (fewer local_ends_expr (expr_taken e g))

local_taken : {n : Names} (l : LocalTree) → IsType l.declared union → IsGivenExpr l.initial
    → Takes (local_spelling l) (Within want.Identifier ∷ Within want.Colon ∷ Within want.WholeType ∷ Initial ∷ []) ends_local n n
local_taken l t g =
    token (identifier l.name l.name_place) [] _ _ refl refl (marked word_is.Colon [] _ _ refl refl
    (both (type_taken l.declared t) (initial_begins l.initial) (initial_taken l.initial g)))

locals_begin : (ls : List LocalTree) (vs : List Piece) {ends : Word → Bool} → Begins (further_locals ls ++ (mark word_is.Semicolon ∷ vs)) ends ends_local
locals_begin [] vs = by_mark word_is.Semicolon refl
locals_begin (l ∷ ls) vs = by_mark word_is.Comma refl

further_locals_taken : {n : Names} {vs : List Piece} {y : List Expected} {ends : Word → Bool} (ls : List LocalTree) → AreLocals ls → Takes vs y ends n n
    → Takes (further_locals ls ++ (mark word_is.Semicolon ∷ vs)) (MoreVariables ∷ Semicolon ∷ y) ends n n
further_locals_taken [] g t = left_before word_is.Semicolon refl refl (marked word_is.Semicolon [] _ _ refl refl t)
further_locals_taken {vs = vs} (l ∷ ls) g t =
    marked word_is.Comma [] _ _ refl refl
    (regroup (local_spelling l) _ _ (both (local_taken l g.0 g.1) (locals_begin ls vs) (further_locals_taken ls g.2 t)))

dcl_taken : {n : Names} {vs : List Piece} {ends : Word → Bool} (d : DclTree) (ls : List LocalTree) → AreSomeLocals ls → AreLocals ls → Takes vs (InBlock ∷ []) ends n n
    → Takes (key word_is.Dcl d.place ∷ (locals_spelling ls ++ (mark word_is.Semicolon ∷ vs))) (InBlock ∷ []) ends n n
dcl_taken d [] some g t = absurd some
dcl_taken {vs = vs} d (l ∷ ls) some g t =
    token (plain word_is.Dcl d.place) [] _ _ refl refl
    (regroup (local_spelling l) _ _ (both (local_taken l g.0 g.1) (locals_begin ls vs) (further_locals_taken ls g.2 t)))

pub dcls_taken : {n : Names} {vs : List Piece} {ends : Word → Bool} (ds : List DclTree) → AreDcls ds → Takes vs (InBlock ∷ []) ends n n
    → Takes (dcls_spelling ds ++ vs) (InBlock ∷ []) ends n n
dcls_taken [] g t = t
dcls_taken {vs = vs} (d ∷ ds) g t =
    same_pieces (sym (ap (λ ps. key word_is.Dcl d.place ∷ ps) (append_assoc (locals_spelling d.locals) (mark word_is.Semicolon ∷ dcls_spelling ds) vs)))
    (dcl_taken d d.locals g.0 g.1 (dcls_taken ds g.2 t))

-- ---- patterns, with a comma between each two, and what is wanted behind each of them

patterns_begin : (ps : PatternTrees) (vs : List Piece) {ends : Word → Bool} → Begins vs ends ends_pattern → Begins (whole (further_patterns ps) ++ vs) ends ends_pattern
patterns_begin no_patterns vs b = b
patterns_begin (one_pattern p ps) vs b = by_mark word_is.Comma refl

further_patterns_taken : {n : Names} {vs : List Piece} {y : List Expected} {ends : Word → Bool} (x : Expected)
    → turns x word_is.Comma ≡ goes_on (Within want.Pattern ∷ x ∷ []) ∷ [] → fits_none x → (ps : PatternTrees) → ArePatterns ps → Begins vs ends ends_pattern
    → Takes vs (x ∷ y) ends n n → Takes (whole (further_patterns ps) ++ vs) (x ∷ y) ends n n
further_patterns_taken x is fit no_patterns g b t = t
further_patterns_taken {vs = vs} x is fit (one_pattern p ps) g b t =
    marked word_is.Comma [] _ _ is (fit _)
    (same_pieces (sym (ap (λ w. w ++ vs) (whole-append (pattern_spelling p) (further_patterns ps))))
    (regroup (whole (pattern_spelling p)) _ _
    (both (pattern_taken p g.0) (patterns_begin ps vs b) (further_patterns_taken x is fit ps g.1 b t))))

pub patterns_taken : {n : Names} {vs : List Piece} {y : List Expected} {ends : Word → Bool} (x : Expected)
    → turns x word_is.Comma ≡ goes_on (Within want.Pattern ∷ x ∷ []) ∷ [] → fits_none x → (ps : PatternTrees) → AreSomePatterns ps → ArePatterns ps
    → Begins vs ends ends_pattern → Takes vs (x ∷ y) ends n n → Takes (whole (patterns_spelling ps) ++ vs) (Within want.Pattern ∷ x ∷ y) ends n n
patterns_taken x is fit no_patterns some g b t = absurd some
patterns_taken {vs = vs} x is fit (one_pattern p ps) some g b t =
    same_pieces (sym (ap (λ w. w ++ vs) (whole-append (pattern_spelling p) (further_patterns ps))))
    (regroup (whole (pattern_spelling p)) _ _
    (both (pattern_taken p g.0) (patterns_begin ps vs b) (further_patterns_taken x is fit ps g.1 b t)))

-- ---- binds

fit_bound : fits_none (Within want.BehindBound)
fit_bound n = refl

pub bind_taken : {n : Names} (b : BindTree) → IsBind b → Takes (whole (bind_spelling b)) (Within want.Pattern ∷ Within want.BehindBound ∷ []) ends_expr n n
bind_taken (bind_in ps set) g =
    joined (patterns_spelling ps) (word (word_is.Operator InSet) ∷ spelling set)
    (patterns_taken (Within want.BehindBound) refl fit_bound ps g.0 g.1 (by_mark (word_is.Operator InSet) refl)
    (marked (word_is.Operator InSet) [] _ _ refl refl (expr_taken set g.2)))

pub such_that_taken : {n : Names} {vs : List Piece} {y : List Expected} {ends : Word → Bool} (c : Option ExprTree) → IsGivenExpr c
    → Takes vs y ends n n → Takes (such_that c ++ (mark word_is.In ∷ vs)) (Within want.SuchThat ∷ Within want.In ∷ y) ends n n
such_that_taken None g t = left_before word_is.In refl refl (marked word_is.In [] _ _ refl refl t)
such_that_taken (Some c) g t =
    marked word_is.Be [] _ _ refl refl (marked word_is.St [] _ _ refl refl
    (both (expr_taken c g) (by_mark word_is.In refl) (marked word_is.In [] _ _ refl refl t)))

pub such_that_begins : (c : Option ExprTree) (vs : List Piece) {ends : Word → Bool} → Begins (such_that c ++ (mark word_is.In ∷ vs)) ends ends_expr
such_that_begins None vs = by_mark word_is.In refl
such_that_begins (Some c) vs = by_mark word_is.Be refl

-- ---- local definitions

-- one, before what stands behind it
definition_taken : {n : Names} {vs : List Piece} {y : List Expected} {ends : Word → Bool} (p : PatternTree) (d : Option TypeTree) (v : ExprTree) → IsPattern p → IsDeclared d
    → Binds v far_pull → Begins vs ends ends_expr → Takes vs y ends n n
    → Takes (whole (pattern_spelling p) ++ (whole (declared_spelling d) ++ (mark (word_is.Operator Equal) ∷ (whole (spelling v) ++ vs))))
    (Within want.Pattern ∷ Within want.LocalType ∷ Within want.Equals ∷ Within want.Expression ∷ y) ends n n
definition_taken p None v g h b begins t =
    both (pattern_taken p g) (by_mark (word_is.Operator Equal) refl)
    (left_before (word_is.Operator Equal) refl refl (marked (word_is.Operator Equal) [] _ _ refl refl (both (expr_taken v b) begins t)))
definition_taken p (Some d) v g h b begins t =
    both (pattern_taken p g) (by_mark word_is.Colon refl)
    (marked word_is.Colon [] _ _ refl refl
    (both (type_taken d h) (by_mark (word_is.Operator Equal) refl) (marked (word_is.Operator Equal) [] _ _ refl refl (both (expr_taken v b) begins t))))

definition-pieces : (p t e others : List Written) (vs : List Piece)
    → whole p ++ (whole t ++ (mark (word_is.Operator Equal) ∷ (whole e ++ (whole others ++ vs))))
    ≡ whole (p ++ (t ++ (word (word_is.Operator Equal) ∷ (e ++ others)))) ++ vs
definition-pieces p t e others vs =
    ap (λ x. whole p ++ (whole t ++ (mark (word_is.Operator Equal) ∷ x))) (sym (append_assoc (whole e) (whole others) vs) ∙ ap (λ x. x ++ vs) (sym (whole-append e others)))
    ∙ ap (λ x. whole p ++ x) (sym (append_assoc (whole t) (mark (word_is.Operator Equal) ∷ whole (e ++ others)) vs)
    ∙ ap (λ x. x ++ vs) (sym (whole-append t (word (word_is.Operator Equal) ∷ (e ++ others)))))
    ∙ sym (append_assoc (whole p) (whole (t ++ (word (word_is.Operator Equal) ∷ (e ++ others)))) vs)
    ∙ ap (λ x. x ++ vs) (sym (whole-append p (t ++ (word (word_is.Operator Equal) ∷ (e ++ others)))))

definitions_begin : (ds : DefinedTrees) (vs : List Piece) {ends : Word → Bool} → Begins (whole (further_definitions ds) ++ (mark word_is.In ∷ vs)) ends ends_expr
definitions_begin no_defined vs = by_mark word_is.In refl
definitions_begin (one_defined p d v ds) vs = by_mark word_is.Comma refl

further_definitions_taken : {n : Names} {vs : List Piece} {y : List Expected} {ends : Word → Bool} (ds : DefinedTrees) → AreDefinitions ds → Takes vs y ends n n
    → Takes (whole (further_definitions ds) ++ (mark word_is.In ∷ vs)) (Within want.MoreLocals ∷ Within want.In ∷ y) ends n n
further_definitions_taken no_defined g t = left_before word_is.In refl refl (marked word_is.In [] _ _ refl refl t)
further_definitions_taken {vs = vs} (one_defined p d v ds) g t =
    marked word_is.Comma [] _ _ refl refl
    (same_pieces (definition-pieces (pattern_spelling p) (declared_spelling d) (spelling v) (further_definitions ds) (mark word_is.In ∷ vs))
    (definition_taken p d v g.0 g.1 g.2 (definitions_begin ds vs) (further_definitions_taken ds g.3 t)))

pub definitions_taken : {n : Names} {vs : List Piece} {y : List Expected} {ends : Word → Bool} (ds : DefinedTrees) → AreSomeDefinitions ds → AreDefinitions ds
    → Takes vs y ends n n → Takes (whole (definitions_spelling ds) ++ (mark word_is.In ∷ vs))
    (Within want.Pattern ∷ Within want.LocalType ∷ Within want.Equals ∷ Within want.Expression ∷ Within want.MoreLocals ∷ Within want.In ∷ y) ends n n
definitions_taken no_defined some g t = absurd some
definitions_taken {vs = vs} (one_defined p d v ds) some g t =
    same_pieces (definition-pieces (pattern_spelling p) (declared_spelling d) (spelling v) (further_definitions ds) (mark word_is.In ∷ vs))
    (definition_taken p d v g.0 g.1 g.2 (definitions_begin ds vs) (further_definitions_taken ds g.3 t))
