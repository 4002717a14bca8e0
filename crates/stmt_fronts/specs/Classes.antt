-- What a word does in definitions, blocks and classes.
use Rattle.std.specs.Prelude.{List, [], ◌∷◌, ◌++◌}
use Rattle.vdm_kinds.specs.declared.sign.Sign.TheVariants.{Equal, Not}
use Rattle.grammar_words.specs.declared.word.Word.{Word}
use Rattle.grammar_words.specs.declared.word.Word.TheVariants as word
use Rattle.grammar_fronts.specs.declared.wanted.Wanted.TheVariants as want
use Rattle.grammar_fronts.specs.Operands.{expression as expression_turn}
use Rattle.grammar_fronts.specs.Types.{whole_type as type_turn}
use Rattle.stmt_fronts.specs.declared.expected.Expected.{Expected}
use Rattle.stmt_fronts.specs.declared.expected.Expected.TheVariants.{Within, Initial, LevelOrName, StaticOrName, DefinedName, DefinedNameAgain, TypeDefs, MoreTypeDefs, TypeBody, Fields, Invariant, ValueDefs, MoreValueDefs, VariableItems, MoreVariableItems, FunctionDefs, MoreFunctionDefs, OperationDefs, MoreOperationDefs, TypeOrNone, FunctionArrow, Defined, FunctionBody, OperationBody, BehindIs, Pre, Post, Measure, ThreadBody, PhaseOrClose, LastSemicolon, SyncClauses, MoreSyncClauses, MutexNames, Classes, ClassName, ClassNameAgain, Superclasses, Blocks, DoubleArrow, DoubleEqual, Implies, Responsibility, Specified, Subclass, Variables, Yet}
use Rattle.stmt_fronts.specs.Turns.{Turn, no_way, own, inner}
use Rattle.stmt_fronts.specs.Statements.{expression, pattern, declared_type, identifier, equals, open_round, close_round, comma, colon, statement}

-- ---- the head of a definition: `[ static ] [ private | protected | public ] [ static ]` with at most one `static`, and its name

abbrev pub head : Word → List Expected → List Turn
head word.Identifier parts = own parts
head word.Static parts = own (LevelOrName ∷ parts)
head word.Private parts = own (StaticOrName ∷ parts)
head word.Protected parts = own (StaticOrName ∷ parts)
head word.Public parts = own (StaticOrName ∷ parts)
head _ parts = no_way

abbrev pub level_or_name : Word → List Turn
level_or_name word.Identifier = own []
level_or_name word.Private = own (DefinedName ∷ [])
level_or_name word.Protected = own (DefinedName ∷ [])
level_or_name word.Public = own (DefinedName ∷ [])
level_or_name _ = no_way

abbrev pub static_or_name : Word → List Turn
static_or_name word.Identifier = own []
static_or_name word.Static = own (DefinedName ∷ [])
static_or_name _ = no_way

abbrev pub name : Word → List Turn
name word.Identifier = own []
name _ = no_way

-- ---- types, values and variables

abbrev pub type_defs : Word → List Turn
type_defs w = head w (TypeBody ∷ Invariant ∷ MoreTypeDefs ∷ [])

abbrev pub more_type_defs : Word → List Turn
more_type_defs word.Semicolon = own (TypeDefs ∷ [])
more_type_defs _ = no_way

abbrev pub type_body : Word → List Turn
type_body (word.Operator Equal) = own (declared_type ∷ [])
type_body word.DoubleColon = own (Fields ∷ [])
type_body _ = no_way

abbrev pub fields : Word → List Turn
fields word.Identifier = own (colon ∷ declared_type ∷ Fields ∷ [])
fields _ = no_way

abbrev pub invariant : Word → List Turn
invariant word.Inv = own (pattern ∷ DoubleEqual ∷ expression ∷ [])
invariant _ = no_way

abbrev pub value_defs : Word → List Turn
value_defs w = head w (Within want.LocalType ∷ equals ∷ expression ∷ MoreValueDefs ∷ [])

abbrev pub more_value_defs : Word → List Turn
more_value_defs word.Semicolon = own (ValueDefs ∷ [])
more_value_defs _ = no_way

abbrev pub variable_items : Word → List Turn
variable_items word.Inv = own (expression ∷ MoreVariableItems ∷ [])
variable_items w = head w (colon ∷ declared_type ∷ Initial ∷ MoreVariableItems ∷ [])

abbrev pub more_variable_items : Word → List Turn
more_variable_items word.Semicolon = own (VariableItems ∷ [])
more_variable_items _ = no_way

-- ---- functions and operations

abbrev pub function_defs : Word → List Turn
function_defs w =
    head w (colon ∷ TypeOrNone ∷ FunctionArrow ∷ declared_type ∷ DefinedNameAgain ∷ open_round ∷ Within want.PatternParts
    ∷ Defined ∷ FunctionBody ∷ Pre ∷ Post ∷ Measure ∷ MoreFunctionDefs ∷ [])

abbrev pub more_function_defs : Word → List Turn
more_function_defs word.Semicolon = own (FunctionDefs ∷ [])
more_function_defs _ = no_way

abbrev pub operation_defs : Word → List Turn
operation_defs w =
    head w (colon ∷ TypeOrNone ∷ DoubleArrow ∷ TypeOrNone ∷ DefinedNameAgain ∷ open_round ∷ Within want.PatternParts
    ∷ Defined ∷ OperationBody ∷ Pre ∷ Post ∷ MoreOperationDefs ∷ [])

abbrev pub more_operation_defs : Word → List Turn
more_operation_defs word.Semicolon = own (OperationDefs ∷ [])
more_operation_defs _ = no_way

abbrev pub type_or_none : Word → List Turn
type_or_none word.OpenRound = own (close_round ∷ []) ++ inner (type_turn word.OpenRound)
type_or_none w = inner (type_turn w)

abbrev pub function_arrow : Word → List Turn
function_arrow word.Arrow = own []
function_arrow word.TotalArrow = own []
function_arrow _ = no_way

-- a body that is written, or one that is not there
abbrev pub function_body : Word → List Turn
function_body word.Is = own (BehindIs ∷ [])
function_body w = inner (expression_turn w)

abbrev pub operation_body : Word → List Turn
operation_body word.Is = own (BehindIs ∷ [])
operation_body w = statement w

abbrev pub behind_is : Word → List Turn
behind_is (word.Operator Not) = own (Yet ∷ Specified ∷ [])
behind_is word.Subclass = own (Responsibility ∷ [])
behind_is _ = no_way

abbrev pub pre : Word → List Turn
pre word.Pre = own (expression ∷ [])
pre _ = no_way

abbrev pub post : Word → List Turn
post word.Post = own (expression ∷ [])
post _ = no_way

abbrev pub measure : Word → List Turn
measure word.Measure = own (expression ∷ [])
measure _ = no_way

-- ---- threads and synchronisation

abbrev pub thread_body : Word → List Turn
thread_body word.Periodic = own (open_round ∷ expression ∷ PhaseOrClose ∷ open_round ∷ identifier ∷ close_round ∷ [])
thread_body w = statement w

abbrev pub phase_or_close : Word → List Turn
phase_or_close word.CloseRound = own []
phase_or_close word.Comma = own (expression ∷ comma ∷ expression ∷ comma ∷ expression ∷ close_round ∷ [])
phase_or_close _ = no_way

abbrev pub last_semicolon : Word → List Turn
last_semicolon word.Semicolon = own []
last_semicolon _ = no_way

abbrev pub sync_clauses : Word → List Turn
sync_clauses word.Per = own (identifier ∷ Implies ∷ expression ∷ MoreSyncClauses ∷ [])
sync_clauses word.Mutex = own (open_round ∷ MutexNames ∷ MoreSyncClauses ∷ [])
sync_clauses _ = no_way

abbrev pub more_sync_clauses : Word → List Turn
more_sync_clauses word.Semicolon = own (SyncClauses ∷ [])
more_sync_clauses _ = no_way

abbrev pub mutex_names : Word → List Turn
mutex_names word.All = own (close_round ∷ [])
mutex_names word.Identifier = own (Within want.MoreNames ∷ close_round ∷ [])
mutex_names _ = no_way

-- ---- classes

abbrev pub classes : Word → List Turn
classes word.Class = own (ClassName ∷ Superclasses ∷ Blocks ∷ Within want.End ∷ ClassNameAgain ∷ Classes ∷ [])
classes _ = no_way

abbrev pub superclasses : Word → List Turn
superclasses word.Is = own (Subclass ∷ Within want.Of ∷ identifier ∷ Within want.MoreNames ∷ [])
superclasses _ = no_way

abbrev pub blocks : Word → List Turn
blocks word.Types = own (TypeDefs ∷ Blocks ∷ [])
blocks word.Values = own (ValueDefs ∷ Blocks ∷ [])
blocks word.Instance = own (Variables ∷ VariableItems ∷ Blocks ∷ [])
blocks word.Functions = own (FunctionDefs ∷ Blocks ∷ [])
blocks word.Operations = own (OperationDefs ∷ Blocks ∷ [])
blocks word.Thread = own (ThreadBody ∷ LastSemicolon ∷ Blocks ∷ [])
blocks word.Sync = own (SyncClauses ∷ Blocks ∷ [])
blocks _ = no_way
