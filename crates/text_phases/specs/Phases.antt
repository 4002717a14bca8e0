-- Which texts are accepted: by phases, of which the first that refuses names the fault.
use Rattle.std.specs.Prelude.{◌≡◌, ℕ, List, [], ◌∷◌, drop, Option, Some, None, Result, Ok, Err}
use Rattle.vdm_kinds.specs.NameList.{built_in_names}
use Rattle.vdm_kinds.specs.declared.part.Part.TheVariants.{Spec, Expr}
use Rattle.vdm_kinds.specs.declared.spec_fault.SpecFault.{SpecFault}
use Rattle.vdm_kinds.specs.declared.spec_kind.SpecKind.TheVariants.{SyntaxFault}
use Rattle.abstract_syntax.specs.Expressions.{ExprTree}
use Rattle.abstract_syntax.specs.Classes.{SpecTree}
use Rattle.vdm_lexer.specs.declared.lexeme.Lexeme.{Lexeme}
use Rattle.vdm_lexer.specs.Lexemes.{Reading, fault_at, limit_of, lexemes}
use Rattle.grammar_fronts.specs.declared.kind.Kind.TheVariants as kind
use Rattle.grammar_trees.specs.Reading.{expr_of}
use Rattle.text_answers.specs.Answers.{Answer, answer, names_read}
use Rattle.spec_answers.specs.Answers.{spec_answer, spec_names}
use Rattle.class_meaning.specs.Faults.{table_fault}
use Rattle.spec_checks.specs.Definitions.{spec_fault}
use Rattle.spec_checks.specs.Threads.{run_fault}
use Rattle.text_phases.specs.Built.{or_behind, unbuilt_fault}

-- the most bytes of a specification, 4 MiB, and of an expression, 64 KiB
abbrev pub spec_limit : ℕ
spec_limit = limit_of Spec

abbrev pub expr_limit : ℕ
expr_limit = limit_of Expr

-- the names of a text behind those before it, and its tree; or its first fault
abbrev pub Read : Type 0 → Type 0
Read T = Result (List (List ℕ) × T) SpecFault

-- ---- a tree that the grammar has

-- the tree, with the names behind its text
abbrev pub with_names : {T : Type 0} → List (List ℕ) → Result T SpecFault → Read T
with_names names (Err told) = Err told
with_names names (Ok tree) = Ok (names, tree)

-- what is refused of it refuses the text
abbrev pub unless_refused : {T : Type 0} → List (List ℕ) → T → Option SpecFault → Read T
unless_refused names tree None = Ok (names, tree)
unless_refused names tree (Some told) = Err told

-- ---- a specification

-- grammar, behind lexing
abbrev pub parsed_spec : List ℕ → Reading → Read SpecTree
parsed_spec text (Err told) = Err told
parsed_spec text (Ok found) = with_names (spec_names built_in_names text found) (spec_answer built_in_names text found)

-- the table of the classes, and then the checks
unfoldable pub checks_fault : SpecTree → Option SpecFault
checks_fault spec = or_behind (table_fault spec) (spec_fault spec)

-- both, behind grammar
abbrev pub accepted_spec : Read SpecTree → Read SpecTree
accepted_spec (Err told) = Err told
accepted_spec (Ok read) = unless_refused read.0 read.1 (checks_fault read.1)

-- lexing, grammar, the table of the classes, checks
abbrev pub read_spec : List ℕ → Read SpecTree
read_spec text = accepted_spec (parsed_spec text (lexemes Spec text))

-- ---- an expression behind a specification

-- only the end is left, or what is left begins with the fault
abbrev pub unless_end : List Lexeme → Option SpecFault
unless_end [] = None
unless_end (last ∷ []) = None
unless_end (lexeme ∷ next ∷ lexemes) = Some (fault_at SyntaxFault lexeme.place)

abbrev pub by_end : ExprTree → Option SpecFault → Result ExprTree SpecFault
by_end tree None = Ok tree
by_end tree (Some told) = Err told

-- the whole text is one expression
abbrev pub whole : List Lexeme → Answer ExprTree → Result ExprTree SpecFault
whole found (Err told) = Err told
whole found (Ok front) = by_end front.0 (unless_end (drop front.1 found))

-- grammar, behind lexing
abbrev pub parsed_expr : List (List ℕ) → List ℕ → Reading → Read ExprTree
parsed_expr first text (Err told) = Err told
parsed_expr first text (Ok found) =
    with_names (names_read kind.Expr first text found 0) (whole found (answer expr_of kind.Expr first text found 0))

-- the checks of the expression, and then what is built so far, of both
unfoldable pub main_checks_fault : SpecTree → ExprTree → Option SpecFault
main_checks_fault spec tree = or_behind (run_fault spec tree) (unbuilt_fault spec tree)

-- both, behind grammar
abbrev pub accepted_expr : SpecTree → Read ExprTree → Read ExprTree
accepted_expr spec (Err told) = Err told
accepted_expr spec (Ok read) = unless_refused read.0 read.1 (main_checks_fault spec read.1)

-- lexing, grammar, checks, what is built so far: behind the names and the tree of a specification
abbrev pub read_expr : List (List ℕ) → SpecTree → List ℕ → Read ExprTree
read_expr first spec text = accepted_expr spec (parsed_expr first text (lexemes Expr text))

-- ---- both texts

abbrev pub refusal_in : {T : Type 0} → Read T → Option SpecFault
refusal_in (Ok read) = None
refusal_in (Err told) = Some told

-- what a check of a specification refuses
abbrev pub spec_refusal : List ℕ → Option SpecFault
spec_refusal spec = refusal_in (read_spec spec)

abbrev pub refusal_behind : Read SpecTree → List ℕ → Option SpecFault
refusal_behind (Ok read) text = refusal_in (read_expr read.0 read.1 text)
refusal_behind (Err told) text = Some told

-- what a run refuses: the specification comes before the expression
abbrev pub first_refusal : List ℕ → List ℕ → Option SpecFault
first_refusal spec text = refusal_behind (read_spec spec) text

-- a specification that is accepted has this tree
pub record IsChecked (spec : List ℕ) (tree : SpecTree) : Type 0 where
  pub names : List (List ℕ)
  pub specification : read_spec spec ≡ Ok (names, tree)

-- two texts that are accepted have these trees, over the names of both
pub record IsAccepted (spec text : List ℕ) (names : List (List ℕ)) (tree : SpecTree) (expression : ExprTree) : Type 0 where
  pub first : List (List ℕ)
  pub specification : read_spec spec ≡ Ok (first, tree)
  pub expression_tree : read_expr first tree text ≡ Ok (names, expression)
