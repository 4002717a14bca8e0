-- Statements with no statement in them, by their parts.
use Rattle.std.specs.Prelude.{List, Option, Some, None}
use Rattle.vdm_kinds.specs.declared.place.Place.{Place}
use Rattle.abstract_syntax.specs.Expressions.{ExprTree}
use Rattle.abstract_syntax.specs.Statements.{AssignmentTree, StmtTree, assign, call, target_place}
use Rattle.grammar_words.specs.Tokens.{Token}
use Rattle.stmt_reading.specs.Leaves.{Read}

-- the statement of one assignment
abbrev pub assigning : AssignmentTree → StmtTree
assigning x = assign x.target x.value (target_place x.target)

-- a call that begins there, if it is one
abbrev pub called_at : Option Place → ExprTree → List Token → Read StmtTree
called_at None e tokens = None
called_at (Some place) e tokens = Some (call e place, tokens)
