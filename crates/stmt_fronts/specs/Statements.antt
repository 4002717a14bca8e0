-- What a word does in statements.
use Rattle.std.specs.Prelude.{Bool, true, false, if◌then◌else◌, List, [], ◌∷◌, ◌++◌}
use Rattle.vdm_kinds.specs.declared.sign.Sign.TheVariants.{InSet}
use Rattle.grammar_words.specs.declared.word.Word.{Word}
use Rattle.grammar_words.specs.declared.word.Word.TheVariants as word
use Rattle.grammar_words.specs.Pulls.{postfix_pull}
use Rattle.grammar_fronts.specs.declared.wanted.Wanted.TheVariants as want
use Rattle.grammar_fronts.specs.Patterns.{pattern as pattern_turn}
use Rattle.grammar_fronts.specs.Operands.{expression as expression_turn}
use Rattle.stmt_fronts.specs.declared.expected.Expected.{Expected}
use Rattle.stmt_fronts.specs.declared.expected.Expected.TheVariants.{Within, Statement, InBlock, BehindStatement, StatementOrClose, Initial, MoreVariables, Target, TargetSteps, MoreAssignments, Value, Otherwise, BehindCase, MoreCases, NextCase, Loop, InSetOfLoop, SetOfLoop, Step, MoreHandlers, MoreParallel, Call, Called, Becomes, Do, Dots, OpenCurly, Semicolon, With}
use Rattle.stmt_fronts.specs.Turns.{Turn, joins, no_way, own, node, inner, call_of, then_wanted}

-- short names for what is wanted in expressions, patterns and types
abbrev pub expression : Expected
expression = Within want.Expression

abbrev pub pattern : Expected
pattern = Within want.Pattern

abbrev pub declared_type : Expected
declared_type = Within want.WholeType

abbrev pub identifier : Expected
identifier = Within want.Identifier

abbrev pub equals : Expected
equals = Within want.Equals

abbrev pub in_word : Expected
in_word = Within want.In

abbrev pub open_round : Expected
open_round = Within want.OpenRound

abbrev pub close_round : Expected
close_round = Within want.CloseRound

abbrev pub comma : Expected
comma = Within want.Comma

abbrev pub colon : Expected
colon = Within want.Colon

-- ---- calls

-- what may begin a call: what begins an operand, but no operator, no form that reaches to the right, no `cases` and no `[`
abbrev pub begins_call : Word → Bool
begins_call (word.Operator sign) = false
begins_call word.OpenSquare = false
begins_call word.Let = false
begins_call word.Def = false
begins_call word.If = false
begins_call word.Cases = false
begins_call word.Forall = false
begins_call word.Exists = false
begins_call word.ExistsOne = false
begins_call word.Iota = false
begins_call _ = true

abbrev pub call : Word → List Turn
call w = if begins_call w then call_of (expression_turn w) else no_way

abbrev postfix : List Expected → Expected → List Turn
postfix parts behind = joins postfix_pull 0 parts (behind ∷ []) ∷ []

-- Behind a primary or a postfix. The postfix that comes last is an application; with `...` it is a subsequence, which is none.
abbrev pub call_goes_on : Word → List Turn
call_goes_on word.OpenRound =
    postfix (Within want.Parts ∷ []) Called ++ postfix (expression ∷ comma ∷ Dots ∷ comma ∷ expression ∷ close_round ∷ []) Call
call_goes_on word.Dot = postfix (identifier ∷ Within want.BehindClass ∷ []) Call
call_goes_on word.DotNumber = postfix (Within want.Whole ∷ []) Call
call_goes_on _ = no_way

-- ---- assignments

abbrev pub target : Word → List Turn
target word.Identifier = own (Within want.BehindClass ∷ TargetSteps ∷ [])
target _ = no_way

abbrev pub target_steps : Word → List Turn
target_steps word.Dot = own (identifier ∷ TargetSteps ∷ [])
target_steps word.OpenRound = own (expression ∷ close_round ∷ TargetSteps ∷ [])
target_steps _ = no_way

abbrev pub more_assignments : Word → List Turn
more_assignments word.Semicolon = own (Target ∷ Becomes ∷ expression ∷ MoreAssignments ∷ [])
more_assignments _ = no_way

-- ---- statements

-- `let C(Pattern [ ":" Type ] "=" Expr) in Stmt`, and `let Bind [ be st Expr ] in Stmt`
abbrev let_ways : List Turn
let_ways =
    node (pattern ∷ Within want.LocalType ∷ equals ∷ expression ∷ Within want.MoreLocals ∷ in_word ∷ Statement ∷ [])
    ++ node (pattern ∷ Within want.BehindBound ∷ Within want.SuchThat ∷ in_word ∷ Statement ∷ [])

-- a name begins an assignment or a call, a `(` a block or the bracketed head of a call
abbrev pub statement : Word → List Turn
statement word.OpenRound = node (InBlock ∷ []) ++ call word.OpenRound
statement word.Identifier = node (Within want.BehindClass ∷ TargetSteps ∷ Becomes ∷ expression ∷ []) ++ call word.Identifier
statement word.Atomic = node (open_round ∷ Target ∷ Becomes ∷ expression ∷ MoreAssignments ∷ close_round ∷ [])
statement word.Return = node (Value ∷ [])
statement word.Exit = node (Value ∷ [])
statement word.Let = let_ways
statement word.Def = node (pattern ∷ equals ∷ expression ∷ Within want.InOfDef ∷ Statement ∷ [])
statement word.If = node (expression ∷ Within want.Then ∷ Statement ∷ Otherwise ∷ [])
statement word.Cases = node (expression ∷ colon ∷ pattern ∷ BehindCase ∷ MoreCases ∷ [])
statement word.While = node (expression ∷ Do ∷ Statement ∷ [])
statement word.For = node (Loop ∷ Do ∷ Statement ∷ [])
statement word.Trap = node (pattern ∷ With ∷ Statement ∷ in_word ∷ Statement ∷ [])
statement word.Tixe =
    node (OpenCurly ∷ pattern ∷ Within want.MapsTo ∷ Statement ∷ MoreHandlers ∷ Within want.CloseCurly ∷ in_word ∷ Statement ∷ [])
statement word.Always = node (Statement ∷ in_word ∷ Statement ∷ [])
statement word.DoubleBar = node (open_round ∷ Statement ∷ MoreParallel ∷ close_round ∷ [])
statement word.Start = node (open_round ∷ expression ∷ close_round ∷ [])
statement word.StartList = node (open_round ∷ expression ∷ close_round ∷ [])
statement word.Skip = node []
statement word.Error = node []
statement w = call w

-- ---- parts of statements

-- `"(" { Dcl ";" } Stmt { ";" Stmt } [ ";" ] ")"`
abbrev pub in_block : Word → List Turn
in_block word.Dcl = own (identifier ∷ colon ∷ declared_type ∷ Initial ∷ MoreVariables ∷ Semicolon ∷ InBlock ∷ [])
in_block w = then_wanted (statement w) (BehindStatement ∷ [])

abbrev pub behind_statement : Word → List Turn
behind_statement word.CloseRound = own []
behind_statement word.Semicolon = own (StatementOrClose ∷ [])
behind_statement _ = no_way

abbrev pub statement_or_close : Word → List Turn
statement_or_close word.CloseRound = own []
statement_or_close w = then_wanted (statement w) (BehindStatement ∷ [])

abbrev pub initial : Word → List Turn
initial word.Becomes = own (expression ∷ [])
initial _ = no_way

abbrev pub more_variables : Word → List Turn
more_variables word.Comma = own (identifier ∷ colon ∷ declared_type ∷ Initial ∷ MoreVariables ∷ [])
more_variables _ = no_way

abbrev pub value : Word → List Turn
value w = inner (expression_turn w)

-- `{ elseif Expr then Stmt } [ else Stmt ]`
abbrev pub otherwise : Word → List Turn
otherwise word.Elseif = own (expression ∷ Within want.Then ∷ Statement ∷ Otherwise ∷ [])
otherwise word.Else = own (Statement ∷ [])
otherwise _ = no_way

-- `C( C(Pattern) "->" Stmt ) [ "," others "->" Stmt ] end`
abbrev pub behind_case : Word → List Turn
behind_case word.Comma = own (pattern ∷ BehindCase ∷ [])
behind_case word.Arrow = own (Statement ∷ [])
behind_case _ = no_way

abbrev pub more_cases : Word → List Turn
more_cases word.Comma = own (NextCase ∷ [])
more_cases word.End = own []
more_cases _ = no_way

abbrev pub next_case : Word → List Turn
next_case word.Others = own (Within want.Arrow ∷ Statement ∷ Within want.End ∷ [])
next_case w = then_wanted (inner (pattern_turn w)) (BehindCase ∷ MoreCases ∷ [])

-- `for Id "=" Expr to Expr [ by Expr ]`, `for all Pattern in set Expr`, `for Pattern in Expr`
abbrev pub loop : Word → List Turn
loop word.All = own (pattern ∷ InSetOfLoop ∷ [])
loop word.Identifier =
    own (equals ∷ expression ∷ Within want.To ∷ expression ∷ Step ∷ [])
    ++ then_wanted (inner (pattern_turn word.Identifier)) (in_word ∷ expression ∷ [])
loop w = then_wanted (inner (pattern_turn w)) (in_word ∷ expression ∷ [])

abbrev pub in_set_of_loop : Word → List Turn
in_set_of_loop (word.Operator InSet) = own (expression ∷ [])
in_set_of_loop word.In = own (SetOfLoop ∷ [])
in_set_of_loop _ = no_way

abbrev pub step : Word → List Turn
step word.By = own (expression ∷ [])
step _ = no_way

abbrev pub more_handlers : Word → List Turn
more_handlers word.Comma = own (pattern ∷ Within want.MapsTo ∷ Statement ∷ MoreHandlers ∷ [])
more_handlers _ = no_way

abbrev pub more_parallel : Word → List Turn
more_parallel word.Comma = own (Statement ∷ MoreParallel ∷ [])
more_parallel _ = no_way
