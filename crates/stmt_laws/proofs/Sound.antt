-- Each statement that is read is written so, and the grammar has it.
use Rattle.std.proofs.Common.{◌≡◌, ℕ, zero, suc, List, [], ◌∷◌, Some, None, ap}
use Rattle.abstract_syntax.specs.Statements.{StmtTree, returns, exits, skips, errs}
use Rattle.grammar_words.specs.declared.word.Word.TheVariants as word_is
use Rattle.grammar_words.specs.Tokens.{Token, plain}
use Rattle.stmt_trees.specs.Trees.{IsStatement}
use Rattle.stmt_reading.specs.Leaves.{Read}
use Rattle.stmt_reading.specs.Statements.{stmt_begun, begins_call, stmt_in, nesting_limit, all_read, stmt_of}
use Rattle.stmt_laws.specs.Ends.{first_word, not_else}
use Rattle.stmt_laws.proofs.Gives.{Gives, gives_this, gives_none, gives_onto, ended, begun}
use Rattle.stmt_laws.proofs.SoundParts.{gives_value, gives_simple, StmtAt, no_lack}
use Rattle.stmt_laws.proofs.SoundForms.{OneGives, gives_either, gives_while, gives_for, gives_trap, gives_always, gives_tixe, gives_def, gives_let, gives_start, gives_start_list, gives_parallel, gives_atomic, gives_block}
use Rattle.stmt_laws.proofs.SoundChoices.{gives_if, gives_cases}

gives_begun : (one : List Token → Read StmtTree) → OneGives one → (token : Token) (tokens : List Token)
    → Gives (stmt_begun one token tokens) (StmtAt (token ∷ tokens))
gives_begun one o (plain word_is.OpenRound place) tokens =
    gives_either (begins_call tokens) _ _ (gives_simple (plain word_is.OpenRound place ∷ tokens)) (gives_block one o place tokens)
gives_begun one o (plain word_is.Atomic place) tokens = gives_atomic place tokens
gives_begun one o (plain word_is.Return place) tokens =
    gives_onto _ (gives_value tokens) (λ value rest f. gives_this (returns value place) rest
    (record { spelled = begun f.spelled; good = f.good; no_else = no_lack (not_else (first_word rest)) }))
gives_begun one o (plain word_is.Exit place) tokens =
    gives_onto _ (gives_value tokens) (λ value rest f. gives_this (exits value place) rest
    (record { spelled = begun f.spelled; good = f.good; no_else = no_lack (not_else (first_word rest)) }))
gives_begun one o (plain word_is.Let place) tokens = gives_let one o place tokens
gives_begun one o (plain word_is.Def place) tokens = gives_def one o place tokens
gives_begun one o (plain word_is.If place) tokens = gives_if one o place tokens
gives_begun one o (plain word_is.Cases place) tokens = gives_cases one o place tokens
gives_begun one o (plain word_is.While place) tokens = gives_while one o place tokens
gives_begun one o (plain word_is.For place) tokens = gives_for one o place tokens
gives_begun one o (plain word_is.Trap place) tokens = gives_trap one o place tokens
gives_begun one o (plain word_is.Tixe place) tokens = gives_tixe one o place tokens
gives_begun one o (plain word_is.Always place) tokens = gives_always one o place tokens
gives_begun one o (plain word_is.DoubleBar place) tokens = gives_parallel one o place tokens
gives_begun one o (plain word_is.Start place) tokens = gives_start place tokens
gives_begun one o (plain word_is.StartList place) tokens = gives_start_list place tokens
gives_begun one o (plain word_is.Skip place) tokens =
    gives_this (skips place) tokens (record { spelled = begun ended; good = tt; no_else = no_lack (not_else (first_word tokens)) })
gives_begun one o (plain word_is.Error place) tokens =
    gives_this (errs place) tokens (record { spelled = begun ended; good = tt; no_else = no_lack (not_else (first_word tokens)) })
gives_begun one o token tokens = gives_simple (token ∷ tokens)

gives_at : (room : ℕ) (tokens : List Token) → OneGives (stmt_in room) → Gives (stmt_in (suc room) tokens) (StmtAt tokens)
gives_at room [] o = gives_none
gives_at room (token ∷ tokens) o = gives_begun (stmt_in room) o token tokens

-- what is read as a statement, in any room
pub gives_stmt : (room : ℕ) → OneGives (stmt_in room)
gives_stmt zero = record { gives = λ tokens. gives_none }
gives_stmt (suc room) = record { gives = λ tokens. gives_at room tokens (gives_stmt room) }

-- all tokens
pub all_found : {A : Type 0} (r : Read A) (a : A) → all_read r ≡ Some a → r ≡ Some (a, [])
all_found None a e = absurd (cc)
all_found (Some (x, [])) a e = let same : x ≡ a = cc in ap (λ b. Some (b, [])) same
all_found (Some (x, token ∷ tokens)) a e = absurd (cc)

pub statement_found : (tokens : List Token) (tree : StmtTree) → stmt_of tokens ≡ Some tree → IsStatement tokens tree
statement_found tokens tree e =
    let h = ((gives_stmt nesting_limit).gives tokens).gives tree [] (all_found (stmt_in nesting_limit tokens) tree e) in
    record { spelled = h.spelled.is; grammatical = h.good }
