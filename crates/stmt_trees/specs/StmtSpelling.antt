-- The tokens that statements are written with.
use Rattle.std.specs.Prelude.{List, [], ◌∷◌, Option, Some, None}
use Rattle.vdm_kinds.specs.declared.sign.Sign.TheVariants.{Equal, InSet}
use Rattle.abstract_syntax.specs.Expressions.{ExprTree}
use Rattle.abstract_syntax.specs.Statements.{AssignmentTree, LocalTree, DclTree, StmtTree, StmtTrees, MaybeStmt, StmtBranches, StmtCases, HandlerTrees, block, assign, assign_together, call, returns, exits, let_then, let_be_then, def_then, if_then, cases_then, while_do, for_numbers, for_set, for_sequence, trap_exit, trap_exits, always_after, in_parallel, start_thread, start_threads, skips, errs, no_stmts, one_stmt, no_stmt, given_stmt, no_stmt_branches, one_stmt_branch, no_stmt_cases, one_stmt_case, no_handlers, one_handler}
use Rattle.grammar_words.specs.declared.word.Word.{Word}
use Rattle.grammar_words.specs.declared.word.Word.TheVariants as word_is
use Rattle.grammar_words.specs.Tokens.{identifier}
use Rattle.grammar_words.specs.Written.{at}
use Rattle.type_reading.specs.TypeSpelling.{type_spelling}
use Rattle.grammar_trees.specs.Spelling.{spelling, definitions_spelling, bind_spelling, pattern_spelling, patterns_spelling}
use Rattle.stmt_trees.specs.Pieces.{Piece, must, key, mark, may, whole, ◌⌢◌}
use Rattle.stmt_trees.specs.Targets.{target_read}

-- ---- parts that may be left out

-- an expression alone, and one behind a word of its own
abbrev pub maybe_expr : Option ExprTree → List Piece
maybe_expr None = []
maybe_expr (Some e) = whole (spelling e)

abbrev pub behind_word : Word → Option ExprTree → List Piece
behind_word w None = []
behind_word w (Some e) = mark w ∷ whole (spelling e)

abbrev pub such_that : Option ExprTree → List Piece
such_that None = []
such_that (Some e) = mark word_is.Be ∷ mark word_is.St ∷ whole (spelling e)

-- ---- assignments and local variables

abbrev pub assignment_spelling : AssignmentTree → List Piece
assignment_spelling a = whole (spelling (target_read a.target)) ⌢ mark word_is.Becomes ∷ whole (spelling a.value)

abbrev pub further_assignments : List AssignmentTree → List Piece
further_assignments [] = []
further_assignments (next ∷ others) = mark word_is.Semicolon ∷ assignment_spelling next ⌢ further_assignments others

-- assignments with a `;` between each two
abbrev pub assignments_spelling : List AssignmentTree → List Piece
assignments_spelling [] = []
assignments_spelling (first ∷ others) = assignment_spelling first ⌢ further_assignments others

abbrev pub local_spelling : LocalTree → List Piece
local_spelling l =
    must (at (identifier l.name l.name_place)) ∷ mark word_is.Colon ∷ whole (type_spelling l.declared)
    ⌢ behind_word word_is.Becomes l.initial

abbrev pub further_locals : List LocalTree → List Piece
further_locals [] = []
further_locals (next ∷ others) = mark word_is.Comma ∷ local_spelling next ⌢ further_locals others

abbrev pub locals_spelling : List LocalTree → List Piece
locals_spelling [] = []
locals_spelling (first ∷ others) = local_spelling first ⌢ further_locals others

-- each `dcl` with a `;` behind it
abbrev pub dcls_spelling : List DclTree → List Piece
dcls_spelling [] = []
dcls_spelling (first ∷ others) =
    key word_is.Dcl first.place ∷ locals_spelling first.locals ⌢ mark word_is.Semicolon ∷ dcls_spelling others

-- ---- statements

abbrev mutual
  pub stmt_spelling : StmtTree → List Piece
  stmt_spelling (block locals statements place) =
      key word_is.OpenRound place ∷ dcls_spelling locals ⌢ stmts_spelling word_is.Semicolon statements
      ⌢ may word_is.Semicolon ∷ mark word_is.CloseRound ∷ []
  stmt_spelling (assign target value place) =
      whole (spelling (target_read target)) ⌢ mark word_is.Becomes ∷ whole (spelling value)
  stmt_spelling (assign_together assignments place) =
      key word_is.Atomic place ∷ mark word_is.OpenRound ∷ assignments_spelling assignments ⌢ mark word_is.CloseRound ∷ []
  stmt_spelling (call application place) = whole (spelling application)
  stmt_spelling (returns value place) = key word_is.Return place ∷ maybe_expr value
  stmt_spelling (exits value place) = key word_is.Exit place ∷ maybe_expr value
  stmt_spelling (let_then definitions body place) =
      key word_is.Let place ∷ whole (definitions_spelling definitions) ⌢ mark word_is.In ∷ stmt_spelling body
  stmt_spelling (let_be_then bind condition body place) =
      key word_is.Let place ∷ whole (bind_spelling bind) ⌢ such_that condition ⌢ mark word_is.In ∷ stmt_spelling body
  stmt_spelling (def_then pattern value body place) =
      key word_is.Def place ∷ whole (pattern_spelling pattern) ⌢ mark (word_is.Operator Equal) ∷ whole (spelling value)
      ⌢ mark word_is.In ∷ stmt_spelling body
  stmt_spelling (if_then condition body elseifs otherwise place) =
      key word_is.If place ∷ whole (spelling condition) ⌢ mark word_is.Then ∷ stmt_spelling body ⌢ stmt_branches_spelling elseifs
      ⌢ else_spelling otherwise
  stmt_spelling (cases_then subject cases others place) =
      key word_is.Cases place ∷ whole (spelling subject) ⌢ mark word_is.Colon ∷ stmt_cases_spelling cases ⌢ others_spelling others
      ⌢ mark word_is.End ∷ []
  stmt_spelling (while_do condition body place) =
      key word_is.While place ∷ whole (spelling condition) ⌢ mark word_is.Do ∷ stmt_spelling body
  stmt_spelling (for_numbers name name_place first last step body place) =
      key word_is.For place ∷ must (at (identifier name name_place)) ∷ mark (word_is.Operator Equal) ∷ whole (spelling first)
      ⌢ mark word_is.To ∷ whole (spelling last) ⌢ behind_word word_is.By step ⌢ mark word_is.Do ∷ stmt_spelling body
  stmt_spelling (for_set pattern set body place) =
      key word_is.For place ∷ mark word_is.All ∷ whole (pattern_spelling pattern) ⌢ mark (word_is.Operator InSet) ∷ whole (spelling set)
      ⌢ mark word_is.Do ∷ stmt_spelling body
  stmt_spelling (for_sequence pattern sequence body place) =
      key word_is.For place ∷ whole (pattern_spelling pattern) ⌢ mark word_is.In ∷ whole (spelling sequence)
      ⌢ mark word_is.Do ∷ stmt_spelling body
  stmt_spelling (trap_exit pattern handler body place) =
      key word_is.Trap place ∷ whole (pattern_spelling pattern) ⌢ mark word_is.With ∷ stmt_spelling handler
      ⌢ mark word_is.In ∷ stmt_spelling body
  stmt_spelling (trap_exits traps body place) =
      key word_is.Tixe place ∷ mark word_is.OpenCurly ∷ handlers_spelling traps ⌢ mark word_is.CloseCurly ∷ mark word_is.In
      ∷ stmt_spelling body
  stmt_spelling (always_after last body place) =
      key word_is.Always place ∷ stmt_spelling last ⌢ mark word_is.In ∷ stmt_spelling body
  stmt_spelling (in_parallel statements place) =
      key word_is.DoubleBar place ∷ mark word_is.OpenRound ∷ stmts_spelling word_is.Comma statements ⌢ mark word_is.CloseRound ∷ []
  stmt_spelling (start_thread object place) =
      key word_is.Start place ∷ mark word_is.OpenRound ∷ whole (spelling object) ⌢ mark word_is.CloseRound ∷ []
  stmt_spelling (start_threads objects place) =
      key word_is.StartList place ∷ mark word_is.OpenRound ∷ whole (spelling objects) ⌢ mark word_is.CloseRound ∷ []
  stmt_spelling (skips place) = key word_is.Skip place ∷ []
  stmt_spelling (errs place) = key word_is.Error place ∷ []

  -- statements with the word between each two
  pub stmts_spelling : Word → StmtTrees → List Piece
  stmts_spelling between no_stmts = []
  stmts_spelling between (one_stmt first others) = stmt_spelling first ⌢ further_stmts between others

  pub further_stmts : Word → StmtTrees → List Piece
  further_stmts between no_stmts = []
  further_stmts between (one_stmt next others) = mark between ∷ stmt_spelling next ⌢ further_stmts between others

  pub stmt_branches_spelling : StmtBranches → List Piece
  stmt_branches_spelling no_stmt_branches = []
  stmt_branches_spelling (one_stmt_branch condition body others) =
      mark word_is.Elseif ∷ whole (spelling condition) ⌢ mark word_is.Then ∷ stmt_spelling body ⌢ stmt_branches_spelling others

  pub else_spelling : MaybeStmt → List Piece
  else_spelling no_stmt = []
  else_spelling (given_stmt s) = mark word_is.Else ∷ stmt_spelling s

  pub stmt_cases_spelling : StmtCases → List Piece
  stmt_cases_spelling no_stmt_cases = []
  stmt_cases_spelling (one_stmt_case patterns body others) =
      whole (patterns_spelling patterns) ⌢ mark word_is.Arrow ∷ stmt_spelling body ⌢ further_stmt_cases others

  pub further_stmt_cases : StmtCases → List Piece
  further_stmt_cases no_stmt_cases = []
  further_stmt_cases (one_stmt_case patterns body others) =
      mark word_is.Comma ∷ whole (patterns_spelling patterns) ⌢ mark word_is.Arrow ∷ stmt_spelling body ⌢ further_stmt_cases others

  pub others_spelling : MaybeStmt → List Piece
  others_spelling no_stmt = []
  others_spelling (given_stmt s) = mark word_is.Comma ∷ mark word_is.Others ∷ mark word_is.Arrow ∷ stmt_spelling s

  pub handlers_spelling : HandlerTrees → List Piece
  handlers_spelling no_handlers = []
  handlers_spelling (one_handler pattern body others) =
      whole (pattern_spelling pattern) ⌢ mark word_is.MapsTo ∷ stmt_spelling body ⌢ further_handlers others

  pub further_handlers : HandlerTrees → List Piece
  further_handlers no_handlers = []
  further_handlers (one_handler pattern body others) =
      mark word_is.Comma ∷ whole (pattern_spelling pattern) ⌢ mark word_is.MapsTo ∷ stmt_spelling body ⌢ further_handlers others
