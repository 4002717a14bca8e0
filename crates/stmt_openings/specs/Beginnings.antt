-- Which statement a word begins, and how it goes on.
use Rattle.std.specs.Prelude.{if◌then◌else◌, List, ◌∷◌, Option, Some, None}
use Rattle.vdm_kinds.specs.declared.place.Place.{Place}
use Rattle.abstract_syntax.specs.Expressions.{ExprTree}
use Rattle.abstract_syntax.specs.Statements.{AssignmentTree, StmtTree, assign_together, returns, exits, in_parallel, start_thread, start_threads, skips, errs}
use Rattle.grammar_words.specs.declared.word.Word.{Word}
use Rattle.grammar_words.specs.declared.word.Word.TheVariants as word_is
use Rattle.grammar_words.specs.Tokens.{Token, plain}
use Rattle.stmt_reading.specs.Leaves.{Read, onto, expr_in, list_in}
use Rattle.stmt_reading.specs.Statements.{always_in, assignment_in, begins_call, block_in, bracketed_in, cases_in_stmt, def_in_stmt, for_in, if_in, let_in_stmt, simple_in, stmts_tree, tixe_in, trap_in, value_in, while_in}
use Rattle.stmt_openings.specs.declared.beginning.Beginning.{Beginning}
use Rattle.stmt_openings.specs.declared.beginning.Beginning.TheVariants as begins

abbrev pub beginning_of : Word → Beginning
beginning_of word_is.OpenRound = begins.Bracket
beginning_of word_is.Atomic = begins.Atomic
beginning_of word_is.Return = begins.Return
beginning_of word_is.Exit = begins.Exit
beginning_of word_is.Let = begins.Let
beginning_of word_is.Def = begins.Def
beginning_of word_is.If = begins.If
beginning_of word_is.Cases = begins.Cases
beginning_of word_is.While = begins.While
beginning_of word_is.For = begins.For
beginning_of word_is.Trap = begins.Trap
beginning_of word_is.Tixe = begins.Tixe
beginning_of word_is.Always = begins.Always
beginning_of word_is.DoubleBar = begins.Parallel
beginning_of word_is.Start = begins.Start
beginning_of word_is.StartList = begins.StartList
beginning_of word_is.Skip = begins.Skip
beginning_of word_is.Error = begins.Error
beginning_of _ = begins.Simple

-- the statement that begins so with this word
abbrev pub begun_as : (List Token → Read StmtTree) → Beginning → Word → Place → List Token → Read StmtTree
begun_as one begins.Bracket word place tokens = if begins_call tokens then simple_in (plain word place ∷ tokens) else block_in one place tokens
begun_as one begins.Atomic word place tokens = bracketed_in (list_in word_is.Semicolon assignment_in) (λ (found : List AssignmentTree). assign_together found place) tokens
begun_as one begins.Return word place tokens = onto (value_in tokens) (λ (value : Option ExprTree) (rest : List Token). Some (returns value place, rest))
begun_as one begins.Exit word place tokens = onto (value_in tokens) (λ (value : Option ExprTree) (rest : List Token). Some (exits value place, rest))
begun_as one begins.Let word place tokens = let_in_stmt one place tokens
begun_as one begins.Def word place tokens = def_in_stmt one place tokens
begun_as one begins.If word place tokens = if_in one place tokens
begun_as one begins.Cases word place tokens = cases_in_stmt one place tokens
begun_as one begins.While word place tokens = while_in one place tokens
begun_as one begins.For word place tokens = for_in one place tokens
begun_as one begins.Trap word place tokens = trap_in one place tokens
begun_as one begins.Tixe word place tokens = tixe_in one place tokens
begun_as one begins.Always word place tokens = always_in one place tokens
begun_as one begins.Parallel word place tokens = bracketed_in (list_in word_is.Comma one) (λ (found : List StmtTree). in_parallel (stmts_tree found) place) tokens
begun_as one begins.Start word place tokens = bracketed_in expr_in (λ (e : ExprTree). start_thread e place) tokens
begun_as one begins.StartList word place tokens = bracketed_in expr_in (λ (e : ExprTree). start_threads e place) tokens
begun_as one begins.Skip word place tokens = Some (skips place, tokens)
begun_as one begins.Error word place tokens = Some (errs place, tokens)
begun_as one begins.Simple word place tokens = simple_in (plain word place ∷ tokens)

-- the statement that a token begins, which is no more than this word, or is a name or a value
abbrev pub begun_with : (List Token → Read StmtTree) → Token → Option (Word × Place) → List Token → Read StmtTree
begun_with one token None tokens = simple_in (token ∷ tokens)
begun_with one token (Some (word, place)) tokens = begun_as one (beginning_of word) word place tokens
