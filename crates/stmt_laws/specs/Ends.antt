-- Words with which no type, pattern, expression or statement goes on: a tree that is whole before one of them ends there.
use Rattle.std.specs.Prelude.{Bool, true, false, ◌&&◌, if◌then◌else◌, List, [], ◌∷◌}
use Rattle.vdm_kinds.specs.declared.sign.Sign.TheVariants.{Equal, InSet}
use Rattle.abstract_syntax.specs.Statements.{StmtTree}
use Rattle.grammar_words.specs.declared.word.Word.{Word}
use Rattle.grammar_words.specs.declared.word.Word.TheVariants as word_is
use Rattle.grammar_words.specs.Tokens.{Token, word_of}
use Rattle.stmt_trees.specs.StmtGrammar.{takes_else}

-- no operator, no postfix, and nothing that goes on with a list or a bind
abbrev pub stops : Word → Bool
stops (word_is.Operator sign) = false
stops word_is.OpenRound = false
stops word_is.Dot = false
stops word_is.DotNumber = false
stops word_is.Backquote = false
stops word_is.Tilde = false
stops word_is.Bar = false
stops word_is.Ampersand = false
stops word_is.Be = false
stops word_is.Comma = false
stops word_is.Colon = false
stops _ = true

-- besides them, where these stand behind the whole
abbrev pub ends_expr : Word → Bool
ends_expr word_is.Comma = true
ends_expr word_is.Colon = true
ends_expr word_is.Be = true
ends_expr w = stops w

abbrev pub ends_pattern : Word → Bool
ends_pattern word_is.Comma = true
ends_pattern word_is.Colon = true
ends_pattern (word_is.Operator Equal) = true
ends_pattern (word_is.Operator InSet) = true
ends_pattern w = stops w

abbrev pub ends_type : Word → Bool
ends_type word_is.Comma = true
ends_type (word_is.Operator Equal) = true
ends_type w = stops w

-- the first word, which is the end where there is none
abbrev pub first_word : List Token → Word
first_word [] = word_is.TextEnd
first_word (token ∷ tokens) = word_of token

-- ---- statements

-- what stands behind a statement
abbrev pub ends_stmt : Word → Bool
ends_stmt word_is.CloseRound = true
ends_stmt word_is.CloseCurly = true
ends_stmt word_is.Comma = true
ends_stmt word_is.Semicolon = true
ends_stmt word_is.In = true
ends_stmt word_is.Else = true
ends_stmt word_is.Elseif = true
ends_stmt word_is.End = true
ends_stmt word_is.Pre = true
ends_stmt word_is.Post = true
ends_stmt word_is.Types = true
ends_stmt word_is.Values = true
ends_stmt word_is.Instance = true
ends_stmt word_is.Functions = true
ends_stmt word_is.Operations = true
ends_stmt word_is.Thread = true
ends_stmt word_is.Sync = true
ends_stmt word_is.TextEnd = true
ends_stmt _ = false

abbrev pub not_else : Word → Bool
not_else word_is.Else = false
not_else word_is.Elseif = false
not_else _ = true

-- no `else` stands behind a statement that would take it
abbrev pub behind_stmt : Bool → Word → Bool
behind_stmt takes w = ends_stmt w && (if takes then not_else w else true)

abbrev pub ends_after : StmtTree → Word → Bool
ends_after s w = behind_stmt (takes_else s) w
