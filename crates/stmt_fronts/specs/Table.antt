-- What may come where something is wanted: one table of what each word does, one of what may be left out, and one of what is a form
-- that the profile leaves out. What is wanted in types, patterns and expressions stands in its own table.
use Rattle.std.specs.Prelude.{Bool, true, false, List, [], Option, Some, None}
use Rattle.vdm_kinds.specs.declared.sign.Sign.TheVariants as sign
use Rattle.grammar_words.specs.declared.word.Word.{Word}
use Rattle.grammar_words.specs.declared.word.Word.TheVariants as word
use Rattle.grammar_fronts.specs.Table.{turn as inner_turn, is_optional as is_inner_optional, is_left_out_at as is_inner_left_out_at}
use Rattle.grammar_fronts.specs.Turns.{Turn as InnerTurn}
use Rattle.grammar_fronts.specs.Types.{single_type}
use Rattle.stmt_fronts.specs.declared.expected.Expected.{Expected}
use Rattle.stmt_fronts.specs.declared.expected.Expected.TheVariants.{Within, Statement, InBlock, BehindStatement, StatementOrClose, Initial, MoreVariables, Target, TargetSteps, MoreAssignments, Value, Otherwise, BehindCase, MoreCases, NextCase, Loop, InSetOfLoop, Step, MoreHandlers, MoreParallel, Call, Called, LevelOrName, StaticOrName, DefinedName, DefinedNameAgain, TypeDefs, MoreTypeDefs, TypeBody, Fields, Invariant, ValueDefs, MoreValueDefs, VariableItems, MoreVariableItems, FunctionDefs, MoreFunctionDefs, OperationDefs, MoreOperationDefs, TypeOrNone, FunctionArrow, Defined, FunctionBody, OperationBody, BehindIs, Pre, Post, Measure, ThreadBody, PhaseOrClose, LastSemicolon, SyncClauses, MoreSyncClauses, MutexNames, Classes, ClassName, ClassNameAgain, Superclasses, Blocks, Becomes, Do, Dots, DoubleArrow, DoubleEqual, Implies, OpenCurly, Responsibility, Semicolon, Specified, Subclass, Variables, With, Yet}
use Rattle.stmt_fronts.specs.Turns.{Turn, no_way, own, inner}
use Rattle.stmt_fronts.specs.Statements.{statement, in_block, behind_statement, statement_or_close, initial, more_variables, target, target_steps, more_assignments, value, otherwise, behind_case, more_cases, next_case, loop, in_set_of_loop, step, more_handlers, more_parallel, call_goes_on}
use Rattle.stmt_fronts.specs.Classes.{level_or_name, static_or_name, name, type_defs, more_type_defs, type_body, fields, invariant, value_defs, more_value_defs, variable_items, more_variable_items, function_defs, more_function_defs, operation_defs, more_operation_defs, type_or_none, function_arrow, function_body, operation_body, behind_is, pre, post, measure, thread_body, phase_or_close, last_semicolon, sync_clauses, more_sync_clauses, mutex_names, classes, superclasses, blocks}

-- where one word alone is wanted
abbrev pub alone : Expected → Word → List Turn
alone Defined word.DoubleEqual = own []
alone Becomes word.Becomes = own []
alone Do word.Do = own []
alone Dots word.Dots = own []
alone DoubleArrow word.DoubleArrow = own []
alone DoubleEqual word.DoubleEqual = own []
alone Implies (word.Operator sign.Implies) = own []
alone OpenCurly word.OpenCurly = own []
alone Responsibility word.Responsibility = own []
alone Semicolon word.Semicolon = own []
alone Specified word.Specified = own []
alone Subclass word.Subclass = own []
alone Variables word.Variables = own []
alone With word.With = own []
alone Yet word.Yet = own []
alone _ _ = no_way

-- the ways in which a word may go on
abbrev pub turns : Expected → Word → List Turn
turns (Within wanted) w = inner (inner_turn wanted w)
turns Statement w = statement w
turns InBlock w = in_block w
turns BehindStatement w = behind_statement w
turns StatementOrClose w = statement_or_close w
turns Initial w = initial w
turns MoreVariables w = more_variables w
turns Target w = target w
turns TargetSteps w = target_steps w
turns MoreAssignments w = more_assignments w
turns Value w = value w
turns Otherwise w = otherwise w
turns BehindCase w = behind_case w
turns MoreCases w = more_cases w
turns NextCase w = next_case w
turns Loop w = loop w
turns InSetOfLoop w = in_set_of_loop w
turns Step w = step w
turns MoreHandlers w = more_handlers w
turns MoreParallel w = more_parallel w
turns Call w = call_goes_on w
turns Called w = call_goes_on w
turns LevelOrName w = level_or_name w
turns StaticOrName w = static_or_name w
turns DefinedName w = name w
turns DefinedNameAgain w = name w
turns TypeDefs w = type_defs w
turns MoreTypeDefs w = more_type_defs w
turns TypeBody w = type_body w
turns Fields w = fields w
turns Invariant w = invariant w
turns ValueDefs w = value_defs w
turns MoreValueDefs w = more_value_defs w
turns VariableItems w = variable_items w
turns MoreVariableItems w = more_variable_items w
turns FunctionDefs w = function_defs w
turns MoreFunctionDefs w = more_function_defs w
turns OperationDefs w = operation_defs w
turns MoreOperationDefs w = more_operation_defs w
turns TypeOrNone w = type_or_none w
turns FunctionArrow w = function_arrow w
turns FunctionBody w = function_body w
turns OperationBody w = operation_body w
turns BehindIs w = behind_is w
turns Pre w = pre w
turns Post w = post w
turns Measure w = measure w
turns ThreadBody w = thread_body w
turns PhaseOrClose w = phase_or_close w
turns LastSemicolon w = last_semicolon w
turns SyncClauses w = sync_clauses w
turns MoreSyncClauses w = more_sync_clauses w
turns MutexNames w = mutex_names w
turns Classes w = classes w
turns ClassName w = name w
turns ClassNameAgain w = name w
turns Superclasses w = superclasses w
turns Blocks w = blocks w
turns expected w = alone expected w

-- what need not come: parts that are optional or repeated
abbrev pub is_optional : Expected → Bool
is_optional (Within wanted) = is_inner_optional wanted
is_optional Initial = true
is_optional MoreVariables = true
is_optional TargetSteps = true
is_optional MoreAssignments = true
is_optional Value = true
is_optional Otherwise = true
is_optional Step = true
is_optional MoreHandlers = true
is_optional MoreParallel = true
is_optional Called = true
is_optional TypeDefs = true
is_optional MoreTypeDefs = true
is_optional Fields = true
is_optional Invariant = true
is_optional ValueDefs = true
is_optional MoreValueDefs = true
is_optional VariableItems = true
is_optional MoreVariableItems = true
is_optional FunctionDefs = true
is_optional MoreFunctionDefs = true
is_optional OperationDefs = true
is_optional MoreOperationDefs = true
is_optional Pre = true
is_optional Post = true
is_optional Measure = true
is_optional LastSemicolon = true
is_optional SyncClauses = true
is_optional MoreSyncClauses = true
is_optional Classes = true
is_optional Superclasses = true
is_optional Blocks = true
is_optional _ = false

-- a type that no name begins
abbrev begins : Option InnerTurn → Bool
begins (Some turn) = true
begins None = false

abbrev pub begins_type : Word → Bool
begins_type word.Identifier = false
begins_type w = begins (single_type w)

-- what is left out in types, patterns and expressions; `[` where a statement is wanted, a type where a field's name is, `(` behind
-- the parameters of a definition, and `pre` and `post` where its second name is wanted
abbrev pub is_left_out_at : Expected → Word → Bool
is_left_out_at (Within wanted) w = is_inner_left_out_at wanted w
is_left_out_at Statement word.OpenSquare = true
is_left_out_at InBlock word.OpenSquare = true
is_left_out_at StatementOrClose word.OpenSquare = true
is_left_out_at OperationBody word.OpenSquare = true
is_left_out_at ThreadBody word.OpenSquare = true
is_left_out_at Fields w = begins_type w
is_left_out_at Defined word.OpenRound = true
is_left_out_at DefinedNameAgain word.Pre = true
is_left_out_at DefinedNameAgain word.Post = true
is_left_out_at _ _ = false
