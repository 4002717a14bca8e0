-- What is wanted in statements, and what in definitions.
use Rattle.std.specs.Prelude.{Bool, true, false}
use Rattle.stmt_fronts.specs.declared.expected.Expected.{Expected}
use Rattle.stmt_fronts.specs.declared.expected.Expected.TheVariants.{Statement, InBlock, BehindStatement, StatementOrClose, Initial, MoreVariables, Target, TargetSteps, MoreAssignments, Value, Otherwise, BehindCase, MoreCases, NextCase, Loop, InSetOfLoop, Step, MoreHandlers, MoreParallel, Call, Called, LevelOrName, StaticOrName, DefinedName, DefinedNameAgain, TypeDefs, MoreTypeDefs, TypeBody, Fields, Invariant, ValueDefs, MoreValueDefs, VariableItems, MoreVariableItems, FunctionDefs, MoreFunctionDefs, OperationDefs, MoreOperationDefs, TypeOrNone, FunctionArrow, FunctionBody, OperationBody, BehindIs, Pre, Post, Measure}

abbrev pub is_of_statements : Expected → Bool
is_of_statements Statement = true
is_of_statements InBlock = true
is_of_statements BehindStatement = true
is_of_statements StatementOrClose = true
is_of_statements Initial = true
is_of_statements MoreVariables = true
is_of_statements Target = true
is_of_statements TargetSteps = true
is_of_statements MoreAssignments = true
is_of_statements Value = true
is_of_statements Otherwise = true
is_of_statements BehindCase = true
is_of_statements MoreCases = true
is_of_statements NextCase = true
is_of_statements Loop = true
is_of_statements InSetOfLoop = true
is_of_statements Step = true
is_of_statements MoreHandlers = true
is_of_statements MoreParallel = true
is_of_statements Call = true
is_of_statements Called = true
is_of_statements _ = false

abbrev pub is_of_definitions : Expected → Bool
is_of_definitions LevelOrName = true
is_of_definitions StaticOrName = true
is_of_definitions DefinedName = true
is_of_definitions DefinedNameAgain = true
is_of_definitions TypeDefs = true
is_of_definitions MoreTypeDefs = true
is_of_definitions TypeBody = true
is_of_definitions Fields = true
is_of_definitions Invariant = true
is_of_definitions ValueDefs = true
is_of_definitions MoreValueDefs = true
is_of_definitions VariableItems = true
is_of_definitions MoreVariableItems = true
is_of_definitions FunctionDefs = true
is_of_definitions MoreFunctionDefs = true
is_of_definitions OperationDefs = true
is_of_definitions MoreOperationDefs = true
is_of_definitions TypeOrNone = true
is_of_definitions FunctionArrow = true
is_of_definitions FunctionBody = true
is_of_definitions OperationBody = true
is_of_definitions BehindIs = true
is_of_definitions Pre = true
is_of_definitions Post = true
is_of_definitions Measure = true
is_of_definitions _ = false
