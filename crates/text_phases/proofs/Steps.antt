-- What the phases give, step by step.
use Rattle.std.specs.Prelude.{◌≡◌, ℕ, List, Option, Some, None, Ok, Err}
use Rattle.std.proofs.Common.{ap, ◌∙◌}
use Rattle.abstract_syntax.specs.Classes.{SpecTree}
use Rattle.abstract_syntax.specs.Expressions.{ExprTree}
use Rattle.vdm_kinds.specs.declared.part.Part.TheVariants.{Spec, Expr}
use Rattle.vdm_kinds.specs.declared.spec_fault.SpecFault.{SpecFault}
use Rattle.vdm_lexer.specs.Lexemes.{lexemes}
use Rattle.class_meaning.specs.Faults.{table_fault}
use Rattle.spec_checks.specs.Definitions.{spec_fault}
use Rattle.spec_checks.specs.Threads.{run_fault}
use Rattle.text_phases.specs.Built.{or_behind, unbuilt_fault}
use Rattle.text_phases.specs.Phases.{unless_refused, checks_fault, main_checks_fault, parsed_spec, accepted_spec, read_spec, parsed_expr, accepted_expr, read_expr}

-- ---- what refuses a specification

pub by_table : (spec : SpecTree) (fault : SpecFault) → table_fault spec ≡ Some fault → checks_fault spec ≡ Some fault
unfolding checks_fault
by_table spec fault e = ap (λ (f : Option SpecFault). or_behind f (spec_fault spec)) e

pub by_checks : (spec : SpecTree) (found : Option SpecFault) → table_fault spec ≡ None → spec_fault spec ≡ found → checks_fault spec ≡ found
unfolding checks_fault
by_checks spec found none e = ap (λ (f : Option SpecFault). or_behind f (spec_fault spec)) none ∙ e

pub unread_spec : (text : List ℕ) (fault : SpecFault) → parsed_spec text (lexemes Spec text) ≡ Err fault → read_spec text ≡ Err fault
unread_spec text fault e = ap accepted_spec e

pub accepted : (text : List ℕ) (names : List (List ℕ)) (tree : SpecTree)
    → parsed_spec text (lexemes Spec text) ≡ Ok (names, tree) → checks_fault tree ≡ None → read_spec text ≡ Ok (names, tree)
accepted text names tree e fine = ap accepted_spec e ∙ ap (unless_refused names tree) fine

pub refused : (text : List ℕ) (names : List (List ℕ)) (tree : SpecTree) (fault : SpecFault)
    → parsed_spec text (lexemes Spec text) ≡ Ok (names, tree) → checks_fault tree ≡ Some fault → read_spec text ≡ Err fault
refused text names tree fault e told = ap accepted_spec e ∙ ap (unless_refused names tree) told

-- ---- what refuses an expression behind it

pub by_main : (spec : SpecTree) (tree : ExprTree) (fault : SpecFault) → run_fault spec tree ≡ Some fault → main_checks_fault spec tree ≡ Some fault
unfolding main_checks_fault
by_main spec tree fault e = ap (λ (f : Option SpecFault). or_behind f (unbuilt_fault spec tree)) e

pub by_forms : (spec : SpecTree) (tree : ExprTree) (found : Option SpecFault)
    → run_fault spec tree ≡ None → unbuilt_fault spec tree ≡ found → main_checks_fault spec tree ≡ found
unfolding main_checks_fault
by_forms spec tree found none e = ap (λ (f : Option SpecFault). or_behind f (unbuilt_fault spec tree)) none ∙ e

pub unread_expr : (first : List (List ℕ)) (spec : SpecTree) (text : List ℕ) (fault : SpecFault)
    → parsed_expr first text (lexemes Expr text) ≡ Err fault → read_expr first spec text ≡ Err fault
unread_expr first spec text fault e = ap (accepted_expr spec) e

pub accepted_behind : (first : List (List ℕ)) (spec : SpecTree) (text : List ℕ) (names : List (List ℕ)) (tree : ExprTree)
    → parsed_expr first text (lexemes Expr text) ≡ Ok (names, tree) → main_checks_fault spec tree ≡ None → read_expr first spec text ≡ Ok (names, tree)
accepted_behind first spec text names tree e fine = ap (accepted_expr spec) e ∙ ap (unless_refused names tree) fine

pub refused_behind : (first : List (List ℕ)) (spec : SpecTree) (text : List ℕ) (names : List (List ℕ)) (tree : ExprTree) (fault : SpecFault)
    → parsed_expr first text (lexemes Expr text) ≡ Ok (names, tree) → main_checks_fault spec tree ≡ Some fault → read_expr first spec text ≡ Err fault
refused_behind first spec text names tree fault e told = ap (accepted_expr spec) e ∙ ap (unless_refused names tree) told
