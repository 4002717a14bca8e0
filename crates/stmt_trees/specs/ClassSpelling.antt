-- The tokens that definitions, blocks, classes and a specification are written with.
use Rattle.std.specs.Prelude.{List, [], ◌∷◌, Option, Some, None}
use Rattle.vdm_kinds.specs.declared.name_at.NameAt.{NameAt}
use Rattle.vdm_kinds.specs.declared.sign.Sign.TheVariants.{Equal, Implies, Not, Times}
use Rattle.abstract_syntax.specs.Types.{TypeTree}
use Rattle.abstract_syntax.specs.Expressions.{ExprTree, PatternTree}
use Rattle.abstract_syntax.specs.Classes.{FieldTree, TypeBody, same_as, with_fields, InvariantTree, TypeDefTree, ValueDefTree, VariableTree, VariableItem, variable_item, invariant_item, Body, written, not_yet_specified, subclass_responsibility, FunctionTree, OperationTree, PhaseTree, ThreadTree, periodic, procedural, SyncTree, permission, mutex_all, mutex_of, BlockTree, types, values, variables, functions, operations, thread_of, synchronisation, ClassTree, SpecTree}
use Rattle.grammar_words.specs.declared.word.Word.{Word}
use Rattle.grammar_words.specs.declared.word.Word.TheVariants as word_is
use Rattle.grammar_words.specs.Tokens.{identifier}
use Rattle.grammar_words.specs.Written.{at, word}
use Rattle.type_reading.specs.TypeSpelling.{type_spelling}
use Rattle.grammar_trees.specs.Spelling.{spelling, pattern_spelling, names_spelling}
use Rattle.stmt_trees.specs.Pieces.{Piece, must, again, one_of, key, mark, may, whole, ◌⌢◌}
use Rattle.stmt_trees.specs.StmtSpelling.{behind_word, stmt_spelling}
use Rattle.stmt_trees.specs.Heads.{head_spelling}

-- ---- lists

-- with a `;` between each two, and one or none behind the last
abbrev pub further_items : {A : Type 0} → (A → List Piece) → List A → List Piece
further_items spell [] = may word_is.Semicolon ∷ []
further_items spell (next ∷ others) = mark word_is.Semicolon ∷ spell next ⌢ further_items spell others

abbrev pub items_spelling : {A : Type 0} → (A → List Piece) → List A → List Piece
items_spelling spell [] = []
items_spelling spell (first ∷ others) = spell first ⌢ further_items spell others

-- one after the other
abbrev pub all_spelling : {A : Type 0} → (A → List Piece) → List A → List Piece
all_spelling spell [] = []
all_spelling spell (first ∷ others) = spell first ⌢ all_spelling spell others

-- with the word before each
abbrev pub each_behind : {A : Type 0} → Word → (A → List Piece) → List A → List Piece
each_behind before spell [] = []
each_behind before spell (next ∷ others) = mark before ∷ spell next ⌢ each_behind before spell others

-- with the word between each two
abbrev pub list_spelling : {A : Type 0} → Word → (A → List Piece) → List A → List Piece
list_spelling between spell [] = []
list_spelling between spell (first ∷ others) = spell first ⌢ each_behind between spell others

-- ---- types, values and variables

abbrev pub field_spelling : FieldTree → List Piece
field_spelling f = must (at (identifier f.name f.name_place)) ∷ mark word_is.Colon ∷ whole (type_spelling f.declared)

abbrev pub type_body_spelling : TypeBody → List Piece
type_body_spelling (same_as declared) = mark (word_is.Operator Equal) ∷ whole (type_spelling declared)
type_body_spelling (with_fields fields) = mark word_is.DoubleColon ∷ all_spelling field_spelling fields

abbrev pub invariant_spelling : Option InvariantTree → List Piece
invariant_spelling None = []
invariant_spelling (Some i) =
    mark word_is.Inv ∷ whole (pattern_spelling i.pattern) ⌢ mark word_is.DoubleEqual ∷ whole (spelling i.condition)

abbrev pub type_def_spelling : TypeDefTree → List Piece
type_def_spelling d =
    head_spelling d.access d.name d.name_place d.place ⌢ type_body_spelling d.body ⌢ invariant_spelling d.invariant

abbrev pub declared_spelling : Option TypeTree → List Piece
declared_spelling None = []
declared_spelling (Some declared) = mark word_is.Colon ∷ whole (type_spelling declared)

abbrev pub value_def_spelling : ValueDefTree → List Piece
value_def_spelling d =
    head_spelling d.access d.name d.name_place d.place ⌢ declared_spelling d.declared
    ⌢ mark (word_is.Operator Equal) ∷ whole (spelling d.value)

abbrev pub variable_spelling : VariableTree → List Piece
variable_spelling v =
    head_spelling v.access v.name v.name_place v.place ⌢ mark word_is.Colon ∷ whole (type_spelling v.declared)
    ⌢ behind_word word_is.Becomes v.initial

abbrev pub variable_item_spelling : VariableItem → List Piece
variable_item_spelling (variable_item v) = variable_spelling v
variable_item_spelling (invariant_item condition place) = key word_is.Inv place ∷ whole (spelling condition)

-- ---- functions and operations

-- no parameters, or the factors of a product that stands in no brackets
abbrev pub parameters_spelling : List TypeTree → List Piece
parameters_spelling [] = mark word_is.OpenRound ∷ mark word_is.CloseRound ∷ []
parameters_spelling (first ∷ others) =
    list_spelling (word_is.Operator Times) (λ (t : TypeTree). whole (type_spelling t)) (first ∷ others)

-- the patterns of the parameters, in brackets
abbrev pub patterns_in_brackets : List PatternTree → List Piece
patterns_in_brackets patterns =
    mark word_is.OpenRound ∷ list_spelling word_is.Comma (λ (p : PatternTree). whole (pattern_spelling p)) patterns
    ⌢ mark word_is.CloseRound ∷ []

abbrev pub body_spelling : {A : Type 0} → (A → List Piece) → Body A → List Piece
body_spelling spell (written a) = spell a
body_spelling spell not_yet_specified =
    mark word_is.Is ∷ mark (word_is.Operator Not) ∷ mark word_is.Yet ∷ mark word_is.Specified ∷ []
body_spelling spell subclass_responsibility = mark word_is.Is ∷ mark word_is.Subclass ∷ mark word_is.Responsibility ∷ []

abbrev pub arrow : Piece
arrow = one_of ((word word_is.Arrow ∷ []) ∷ (word word_is.TotalArrow ∷ []) ∷ [])

abbrev pub expr_pieces : ExprTree → List Piece
expr_pieces e = whole (spelling e)

abbrev pub function_spelling : FunctionTree → List Piece
function_spelling f =
    head_spelling f.access f.name f.name_place f.place ⌢ mark word_is.Colon ∷ parameters_spelling f.parameters ⌢ arrow
    ∷ whole (type_spelling f.result_type) ⌢ again f.name ∷ patterns_in_brackets f.patterns ⌢ mark word_is.DoubleEqual
    ∷ body_spelling expr_pieces f.body ⌢ behind_word word_is.Pre f.pre ⌢ behind_word word_is.Post f.post
    ⌢ behind_word word_is.Measure f.measure

abbrev pub result_spelling : Option TypeTree → List Piece
result_spelling None = mark word_is.OpenRound ∷ mark word_is.CloseRound ∷ []
result_spelling (Some declared) = whole (type_spelling declared)

abbrev pub operation_spelling : OperationTree → List Piece
operation_spelling o =
    head_spelling o.access o.name o.name_place o.place ⌢ mark word_is.Colon ∷ parameters_spelling o.parameters
    ⌢ mark word_is.DoubleArrow ∷ result_spelling o.result_type ⌢ again o.name ∷ patterns_in_brackets o.patterns
    ⌢ mark word_is.DoubleEqual ∷ body_spelling stmt_spelling o.body ⌢ behind_word word_is.Pre o.pre
    ⌢ behind_word word_is.Post o.post

-- ---- threads and synchronisation

abbrev pub phase_spelling : Option PhaseTree → List Piece
phase_spelling None = []
phase_spelling (Some p) =
    mark word_is.Comma ∷ whole (spelling p.jitter) ⌢ mark word_is.Comma ∷ whole (spelling p.delay)
    ⌢ mark word_is.Comma ∷ whole (spelling p.offset)

abbrev pub thread_spelling : ThreadTree → List Piece
thread_spelling (periodic period phase name name_place place) =
    key word_is.Periodic place ∷ mark word_is.OpenRound ∷ whole (spelling period) ⌢ phase_spelling phase ⌢ mark word_is.CloseRound
    ∷ mark word_is.OpenRound ∷ must (at (identifier name name_place)) ∷ mark word_is.CloseRound ∷ []
thread_spelling (procedural body) = stmt_spelling body

abbrev pub sync_spelling : SyncTree → List Piece
sync_spelling (permission name name_place condition place) =
    key word_is.Per place ∷ must (at (identifier name name_place)) ∷ mark (word_is.Operator Implies) ∷ whole (spelling condition)
sync_spelling (mutex_all place) =
    key word_is.Mutex place ∷ mark word_is.OpenRound ∷ mark word_is.All ∷ mark word_is.CloseRound ∷ []
sync_spelling (mutex_of names place) =
    key word_is.Mutex place ∷ mark word_is.OpenRound ∷ whole (names_spelling names) ⌢ mark word_is.CloseRound ∷ []

-- ---- classes

abbrev pub block_spelling : BlockTree → List Piece
block_spelling (types definitions place) = key word_is.Types place ∷ items_spelling type_def_spelling definitions
block_spelling (values definitions place) = key word_is.Values place ∷ items_spelling value_def_spelling definitions
block_spelling (variables items place) =
    key word_is.Instance place ∷ mark word_is.Variables ∷ items_spelling variable_item_spelling items
block_spelling (functions definitions place) = key word_is.Functions place ∷ items_spelling function_spelling definitions
block_spelling (operations definitions place) = key word_is.Operations place ∷ items_spelling operation_spelling definitions
block_spelling (thread_of t place) = key word_is.Thread place ∷ thread_spelling t ⌢ may word_is.Semicolon ∷ []
block_spelling (synchronisation clauses place) = key word_is.Sync place ∷ items_spelling sync_spelling clauses

abbrev pub superclasses_spelling : List NameAt → List Piece
superclasses_spelling [] = []
superclasses_spelling (first ∷ others) =
    mark word_is.Is ∷ mark word_is.Subclass ∷ mark word_is.Of ∷ whole (names_spelling (first ∷ others))

abbrev pub class_spelling : ClassTree → List Piece
class_spelling c =
    key word_is.Class c.place ∷ must (at (identifier c.name c.name_place)) ∷ superclasses_spelling c.superclasses
    ⌢ all_spelling block_spelling c.blocks ⌢ mark word_is.End ∷ again c.name ∷ []

abbrev pub spec_spelling : SpecTree → List Piece
spec_spelling s = all_spelling class_spelling s.classes
