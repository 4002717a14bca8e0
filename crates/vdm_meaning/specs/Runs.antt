-- Which lists of entries are runs.
use Rattle.std.specs.Prelude.{ℕ, List, [], ◌∷◌, ◌++◌}
use Rattle.abstract_syntax.specs.Classes.{SpecTree}
use Rattle.abstract_syntax.specs.Expressions.{ExprTree}
use Rattle.run_journal.specs.declared.entry.Entry.{Entry}
use Rattle.run_journal.specs.Parts.{object_part, thread_part}
use Rattle.vdm_legal.specs.AtObject.{IsLegalAtObject}
use Rattle.vdm_meaning.specs.Entries.{IsLegalForThread}

-- an entry is legal behind others: at its object behind that object's, and for its thread behind that thread's
pub record IsLegal (names : List (List ℕ)) (spec : SpecTree) (tree : ExprTree) (units : ℕ) (before : List Entry) (entry : Entry) : Type 0 where
  pub at_object : IsLegalAtObject spec entry.object (object_part entry.object before) entry.deed
  pub for_thread : IsLegalForThread names spec tree units entry.thread (thread_part entry.thread before) entry

-- each of the entries is legal behind those before it
abbrev pub AreLegal : List (List ℕ) → SpecTree → ExprTree → ℕ → List Entry → List Entry → Type 0
AreLegal names spec tree units before [] = Unit {0}
AreLegal names spec tree units before (entry ∷ entries) =
    IsLegal names spec tree units before entry × AreLegal names spec tree units (before ++ entry ∷ []) entries

-- a run of a specification and an expression over the names of their texts, whose threads have this many units each
abbrev pub IsRun : List (List ℕ) → SpecTree → ExprTree → ℕ → List Entry → Type 0
IsRun names spec tree units entries = AreLegal names spec tree units [] entries
