-- The definitions that tokens begin with, from left to right, and the tokens that are left.
use Rattle.std.specs.Prelude.{ℕ, zero, suc, Bool, true, false, if◌then◌else◌, List, [], ◌∷◌, Option, Some, None}
use Rattle.vdm_kinds.specs.declared.access.Access.{Access}
use Rattle.vdm_kinds.specs.declared.access.Level.{Level}
use Rattle.vdm_kinds.specs.declared.access.Level.TheVariants.{Private, Protected, Public}
use Rattle.vdm_kinds.specs.declared.name.Name.{Name}
use Rattle.vdm_kinds.specs.declared.name_at.NameAt.{NameAt}
use Rattle.vdm_kinds.specs.declared.place.Place.{Place}
use Rattle.vdm_kinds.specs.declared.sign.Sign.TheVariants.{Equal, Implies, Not}
use Rattle.abstract_syntax.specs.Types.{TypeTree, TypeTrees, no_types, one_type, product_type}
use Rattle.abstract_syntax.specs.Expressions.{ExprTree, PatternTree}
use Rattle.abstract_syntax.specs.Statements.{StmtTree}
use Rattle.abstract_syntax.specs.Classes.{FieldTree, TypeBody, same_as, with_fields, InvariantTree, TypeDefTree, ValueDefTree, VariableTree, VariableItem, variable_item, invariant_item, Body, written, not_yet_specified, subclass_responsibility, FunctionTree, OperationTree, PhaseTree, ThreadTree, periodic, procedural, SyncTree, permission, mutex_all, mutex_of}
use Rattle.grammar_words.specs.declared.word.Word.{Word}
use Rattle.grammar_words.specs.declared.word.Word.TheVariants as word_is
use Rattle.grammar_words.specs.Tokens.{Token, identifier, plain, word_of}
use Rattle.stmt_reading.specs.Leaves.{Read, onto, choice, expr_in, pattern_in, type_in, word_in, name_in, name_again, put, list_in}
use Rattle.stmt_reading.specs.Statements.{behind_word_in, declared_in, nesting_limit, stmt_in}

abbrev pub next_word : List Token → Word
next_word [] = word_is.TextEnd
next_word (token ∷ tokens) = word_of token

-- an item and further ones, each behind a `;`, while the next word begins one; one `;` may stand behind the last
abbrev pub items_in : {A : Type 0} → (Word → Bool) → (List Token → Read A) → ℕ → List Token → Read (List A)
items_in begins one zero tokens = None
items_in {A = A} begins one (suc turns) tokens =
    if begins (next_word tokens)
    then onto (one tokens) (λ (x : A) (a : List Token).
    choice (word_in word_is.Semicolon a) (λ (place : Place) (b : List Token). onto (items_in begins one turns b) (put x))
    (Some (x ∷ [], a)))
    else Some ([], tokens)

-- ---- heads

pub record Head : Type 0 where
  pub access : Access
  pub name : Name
  pub name_place : Place
  pub place : Place

abbrev pub named_head : Bool → Level → Place → List Token → Read Head
named_head is_static level place tokens =
    onto (name_in tokens) (λ (name : NameAt) (rest : List Token).
    Some (
      record {
        access = record { is_static = is_static; level = level };
        name = name.name;
        name_place = name.place;
        place = place;
      },
      rest,
    ))

abbrev pub level_of : Word → Option Level
level_of word_is.Private = Some Private
level_of word_is.Protected = Some Protected
level_of word_is.Public = Some Public
level_of _ = None

abbrev pub behind_level : Option Level → Place → List Token → Read Head
behind_level None place tokens = None
behind_level (Some level) place tokens =
    choice (word_in word_is.Static tokens) (λ (spot : Place) (rest : List Token). named_head true level place rest)
    (named_head false level place tokens)

abbrev pub level_at : Option Level → Place → List Token → List Token → Read Head
level_at None place tokens behind = named_head true Private place tokens
level_at (Some level) place tokens behind = named_head true level place behind

abbrev pub behind_static : Place → List Token → Read Head
behind_static place [] = None
behind_static place (token ∷ tokens) = level_at (level_of (word_of token)) place (token ∷ tokens) tokens

abbrev pub head_begun : Token → List Token → Read Head
head_begun (identifier name place) tokens = named_head false Private place (identifier name place ∷ tokens)
head_begun (plain word_is.Static place) tokens = behind_static place tokens
head_begun (plain w place) tokens = behind_level (level_of w) place tokens
head_begun _ tokens = None

abbrev pub head_in : List Token → Read Head
head_in [] = None
head_in (token ∷ tokens) = head_begun token tokens

abbrev pub begins_head : Word → Bool
begins_head word_is.Identifier = true
begins_head word_is.Static = true
begins_head word_is.Private = true
begins_head word_is.Protected = true
begins_head word_is.Public = true
begins_head _ = false

-- ---- types, values and variables

abbrev pub fields_in : ℕ → List Token → Read (List FieldTree)
fields_in zero tokens = None
fields_in (suc turns) tokens =
    choice (name_in tokens)
    (λ (name : NameAt) (a : List Token). onto (word_in word_is.Colon a) (λ (colon : Place) (b : List Token).
    onto (type_in b) (λ (t : TypeTree) (c : List Token).
    onto (fields_in turns c) (put (record { name = name.name; name_place = name.place; declared = t })))))
    (Some ([], tokens))

abbrev pub type_body_in : ℕ → List Token → Read TypeBody
type_body_in turns tokens =
    choice (word_in (word_is.Operator Equal) tokens)
    (λ (place : Place) (a : List Token). onto (type_in a) (λ (t : TypeTree) (b : List Token). Some (same_as t, b)))
    (onto (word_in word_is.DoubleColon tokens) (λ (place : Place) (a : List Token).
    onto (fields_in turns a) (λ (fields : List FieldTree) (b : List Token). Some (with_fields fields, b))))

abbrev pub invariant_in : List Token → Read (Option InvariantTree)
invariant_in tokens =
    choice (word_in word_is.Inv tokens)
    (λ (place : Place) (a : List Token). onto (pattern_in a) (λ (p : PatternTree) (b : List Token).
    onto (word_in word_is.DoubleEqual b) (λ (spot : Place) (c : List Token).
    onto (expr_in c) (λ (e : ExprTree) (d : List Token). Some (Some (record { pattern = p; condition = e }), d)))))
    (Some (None, tokens))

abbrev pub type_def_in : ℕ → Name → List Token → Read TypeDefTree
type_def_in turns class tokens =
    onto (head_in tokens) (λ (head : Head) (a : List Token).
    onto (type_body_in turns a) (λ (body : TypeBody) (b : List Token).
    onto (invariant_in b) (λ (invariant : Option InvariantTree) (c : List Token).
    Some (
      record {
        access = head.access;
        class = class;
        name = head.name;
        name_place = head.name_place;
        body = body;
        invariant = invariant;
        place = head.place;
      },
      c,
    ))))

abbrev pub value_def_in : List Token → Read ValueDefTree
value_def_in tokens =
    onto (head_in tokens) (λ (head : Head) (a : List Token).
    onto (declared_in a) (λ (declared : Option TypeTree) (b : List Token).
    onto (word_in (word_is.Operator Equal) b) (λ (equal : Place) (c : List Token).
    onto (expr_in c) (λ (e : ExprTree) (d : List Token).
    Some (
      record {
        access = head.access;
        name = head.name;
        name_place = head.name_place;
        declared = declared;
        value = e;
        place = head.place;
      },
      d,
    )))))

abbrev pub variable_in : List Token → Read VariableItem
variable_in tokens =
    onto (head_in tokens) (λ (head : Head) (a : List Token).
    onto (word_in word_is.Colon a) (λ (colon : Place) (b : List Token).
    onto (type_in b) (λ (t : TypeTree) (c : List Token).
    onto (behind_word_in word_is.Becomes c) (λ (initial : Option ExprTree) (d : List Token).
    Some (
      variable_item (record {
        access = head.access;
        name = head.name;
        name_place = head.name_place;
        declared = t;
        initial = initial;
        place = head.place;
      }),
      d,
    )))))

abbrev pub variable_item_in : List Token → Read VariableItem
variable_item_in tokens =
    choice (word_in word_is.Inv tokens)
    (λ (place : Place) (a : List Token). onto (expr_in a) (λ (e : ExprTree) (b : List Token). Some (invariant_item e place, b)))
    (variable_in tokens)

abbrev pub begins_variable : Word → Bool
begins_variable word_is.Inv = true
begins_variable w = begins_head w

-- ---- functions and operations

abbrev pub brackets_in : List Token → Read Place
brackets_in tokens = onto (word_in word_is.OpenRound tokens) (λ (place : Place) (a : List Token). word_in word_is.CloseRound a)

abbrev pub types_of : TypeTrees → List TypeTree
types_of no_types = []
types_of (one_type t ts) = t ∷ types_of ts

abbrev pub factors_of : TypeTree → List TypeTree
factors_of (product_type factors place) = types_of factors
factors_of t = t ∷ []

abbrev pub parameters_in : List Token → Read (List TypeTree)
parameters_in tokens =
    choice (brackets_in tokens) (λ (place : Place) (a : List Token). Some ([], a))
    (onto (type_in tokens) (λ (t : TypeTree) (a : List Token). Some (factors_of t, a)))

abbrev pub result_in : List Token → Read (Option TypeTree)
result_in tokens =
    choice (brackets_in tokens) (λ (place : Place) (a : List Token). Some (None, a))
    (onto (type_in tokens) (λ (t : TypeTree) (a : List Token). Some (Some t, a)))

-- the name again, the patterns of the parameters in brackets, and `==`
abbrev pub patterns_of : Name → List Token → Read (List PatternTree)
patterns_of name tokens =
    onto (name_again name tokens) (λ (second : NameAt) (a : List Token).
    choice (brackets_in a)
    (λ (place : Place) (b : List Token). onto (word_in word_is.DoubleEqual b) (λ (spot : Place) (c : List Token). Some ([], c)))
    (onto (word_in word_is.OpenRound a) (λ (place : Place) (b : List Token).
    onto (list_in word_is.Comma pattern_in b) (λ (ps : List PatternTree) (c : List Token).
    onto (word_in word_is.CloseRound c) (λ (close : Place) (d : List Token).
    onto (word_in word_is.DoubleEqual d) (λ (spot : Place) (e : List Token). Some (ps, e)))))))

abbrev pub open_in : {A : Type 0} → List Token → Read (Body A)
open_in {A = A} tokens =
    choice (word_in (word_is.Operator Not) tokens)
    (λ (place : Place) (a : List Token). onto (word_in word_is.Yet a) (λ (yet : Place) (b : List Token).
    onto (word_in word_is.Specified b) (λ (specified : Place) (c : List Token). Some (not_yet_specified, c))))
    (onto (word_in word_is.Subclass tokens) (λ (place : Place) (a : List Token).
    onto (word_in word_is.Responsibility a) (λ (spot : Place) (b : List Token). Some (subclass_responsibility, b))))

abbrev pub body_of : {A : Type 0} → (List Token → Read A) → List Token → Read (Body A)
body_of {A = A} one tokens =
    choice (word_in word_is.Is tokens) (λ (place : Place) (a : List Token). open_in {A = A} a)
    (onto (one tokens) (λ (found : A) (a : List Token). Some (written found, a)))

abbrev pub arrow_in : List Token → Read Place
arrow_in tokens =
    choice (word_in word_is.Arrow tokens) (λ (place : Place) (a : List Token). Some (place, a)) (word_in word_is.TotalArrow tokens)

abbrev pub function_in : List Token → Read FunctionTree
function_in tokens =
    onto (head_in tokens) (λ (head : Head) (a : List Token).
    onto (word_in word_is.Colon a) (λ (colon : Place) (b : List Token).
    onto (parameters_in b) (λ (parameters : List TypeTree) (c : List Token).
    onto (arrow_in c) (λ (arrow : Place) (d : List Token).
    onto (type_in d) (λ (result : TypeTree) (e : List Token).
    onto (patterns_of head.name e) (λ (patterns : List PatternTree) (f : List Token).
    onto (body_of expr_in f) (λ (body : Body ExprTree) (g : List Token).
    onto (behind_word_in word_is.Pre g) (λ (pre : Option ExprTree) (h : List Token).
    onto (behind_word_in word_is.Post h) (λ (post : Option ExprTree) (i : List Token).
    onto (behind_word_in word_is.Measure i) (λ (measure : Option ExprTree) (j : List Token).
    Some (
      record {
        access = head.access;
        name = head.name;
        name_place = head.name_place;
        parameters = parameters;
        result_type = result;
        patterns = patterns;
        body = body;
        pre = pre;
        post = post;
        measure = measure;
        place = head.place;
      },
      j,
    )))))))))))

abbrev pub statement_in : List Token → Read StmtTree
statement_in tokens = stmt_in nesting_limit tokens

abbrev pub operation_in : List Token → Read OperationTree
operation_in tokens =
    onto (head_in tokens) (λ (head : Head) (a : List Token).
    onto (word_in word_is.Colon a) (λ (colon : Place) (b : List Token).
    onto (parameters_in b) (λ (parameters : List TypeTree) (c : List Token).
    onto (word_in word_is.DoubleArrow c) (λ (arrow : Place) (d : List Token).
    onto (result_in d) (λ (result : Option TypeTree) (e : List Token).
    onto (patterns_of head.name e) (λ (patterns : List PatternTree) (f : List Token).
    onto (body_of statement_in f) (λ (body : Body StmtTree) (g : List Token).
    onto (behind_word_in word_is.Pre g) (λ (pre : Option ExprTree) (h : List Token).
    onto (behind_word_in word_is.Post h) (λ (post : Option ExprTree) (i : List Token).
    Some (
      record {
        access = head.access;
        name = head.name;
        name_place = head.name_place;
        parameters = parameters;
        result_type = result;
        patterns = patterns;
        body = body;
        pre = pre;
        post = post;
        place = head.place;
      },
      i,
    ))))))))))

-- ---- threads and synchronisation

abbrev pub phase_in : List Token → Read (Option PhaseTree)
phase_in tokens =
    choice (word_in word_is.Comma tokens)
    (λ (first : Place) (a : List Token). onto (expr_in a) (λ (jitter : ExprTree) (b : List Token).
    onto (word_in word_is.Comma b) (λ (second : Place) (c : List Token).
    onto (expr_in c) (λ (delay : ExprTree) (d : List Token).
    onto (word_in word_is.Comma d) (λ (third : Place) (e : List Token).
    onto (expr_in e) (λ (offset : ExprTree) (f : List Token).
    Some (Some (record { jitter = jitter; delay = delay; offset = offset }), f)))))))
    (Some (None, tokens))

abbrev pub periodic_in : Place → List Token → Read ThreadTree
periodic_in place tokens =
    onto (word_in word_is.OpenRound tokens) (λ (open_place : Place) (a : List Token).
    onto (expr_in a) (λ (period : ExprTree) (b : List Token).
    onto (phase_in b) (λ (phase : Option PhaseTree) (c : List Token).
    onto (word_in word_is.CloseRound c) (λ (close : Place) (d : List Token).
    onto (word_in word_is.OpenRound d) (λ (other_open : Place) (e : List Token).
    onto (name_in e) (λ (name : NameAt) (f : List Token).
    onto (word_in word_is.CloseRound f) (λ (other_close : Place) (g : List Token).
    Some (periodic period phase name.name name.place place, g))))))))

abbrev pub thread_in : List Token → Read ThreadTree
thread_in tokens =
    choice (word_in word_is.Periodic tokens) periodic_in
    (onto (statement_in tokens) (λ (s : StmtTree) (a : List Token). Some (procedural s, a)))

abbrev pub permission_in : Place → List Token → Read SyncTree
permission_in place tokens =
    onto (name_in tokens) (λ (name : NameAt) (a : List Token).
    onto (word_in (word_is.Operator Implies) a) (λ (arrow : Place) (b : List Token).
    onto (expr_in b) (λ (e : ExprTree) (c : List Token). Some (permission name.name name.place e place, c))))

abbrev pub mutex_in : Place → List Token → Read SyncTree
mutex_in place tokens =
    onto (word_in word_is.OpenRound tokens) (λ (open_place : Place) (a : List Token).
    choice (word_in word_is.All a)
    (λ (all : Place) (b : List Token). onto (word_in word_is.CloseRound b) (λ (close : Place) (c : List Token). Some (mutex_all place, c)))
    (onto (list_in word_is.Comma name_in a) (λ (names : List NameAt) (b : List Token).
    onto (word_in word_is.CloseRound b) (λ (close : Place) (c : List Token). Some (mutex_of names place, c)))))

abbrev pub sync_in : List Token → Read SyncTree
sync_in tokens =
    choice (word_in word_is.Per tokens) permission_in (onto (word_in word_is.Mutex tokens) mutex_in)

abbrev pub begins_sync : Word → Bool
begins_sync word_is.Per = true
begins_sync word_is.Mutex = true
begins_sync _ = false
