-- What is read of the two texts.
use Rattle.std.specs.Prelude.{◌≡◌, ℕ, List, Option, Some, None, Result, Ok, Err}
use Rattle.std.proofs.Common.{IfOk, OnOk, sym, ap, ◌∙◌}
use Rattle.abstract_syntax.specs.Classes.{ClassTree, SpecTree}
use Rattle.abstract_syntax.specs.Expressions.{ExprTree}
use Rattle.vdm_kinds.specs.declared.halt.Halt.{Halt}
use Rattle.vdm_kinds.specs.declared.halt.Halt.TheVariants.{Of}
use Rattle.vdm_kinds.specs.declared.part.Part.TheVariants.{Spec, Expr}
use Rattle.vdm_kinds.specs.declared.spec_fault.SpecFault.{SpecFault}
use Rattle.vdm_lexer.specs.Lexemes.{lexemes}
use Rattle.class_meaning.specs.Faults.{table_fault}
use Rattle.spec_checks.specs.Definitions.{spec_fault}
use Rattle.text_phases.specs.Built.{unbuilt_fault}
use Rattle.text_phases.proofs.Steps.{by_checks, accepted, accepted_behind}
use Rattle.text_phases.specs.Phases.{main_checks_fault, parsed_expr, Read, unless_refused, checks_fault, parsed_spec, accepted_spec, read_spec, read_expr, refusal_in, refusal_behind, first_refusal, IsAccepted}

-- what a call refuses is handed on as it was
pub handed_on : {T U H : Type 0} (halt told : H) (r : Result T H) (s : Result U H) → r ≡ Err halt → s ≡ Err halt → r ≡ Err told → s ≡ Err told
handed_on halt told r s is also e = cc

-- ---- what the checks give

pub fine_checked : {T E : Type 0} (r : Result T E) (from spec : SpecTree) → from ≡ spec → table_fault spec ≡ None
    → IfOk r (λ (t : T). spec_fault from ≡ None) → OnOk r (checks_fault spec ≡ None)
fine_checked (Ok t) from spec same none fine = by_checks spec None none (ap spec_fault (sym same) ∙ fine)
fine_checked (Err e) from spec same none fine = tt

pub refused_checked : {T : Type 0} (r : Result T (Halt SpecFault)) (from spec : SpecTree) → from ≡ spec → table_fault spec ≡ None
    → ((fault : SpecFault) → r ≡ Err (Of fault) → spec_fault from ≡ Some fault) → (fault : SpecFault) → r ≡ Err (Of fault) → checks_fault spec ≡ Some fault
refused_checked r from spec same none told fault e = by_checks spec (Some fault) none (ap spec_fault (sym same) ∙ told fault e)

-- the classes of a specification are all of it
pub of_classes : (spec : SpecTree) (tree of : ExprTree) (classes : List ClassTree) → classes ≡ spec.classes → tree ≡ of
    → unbuilt_fault (record { classes = classes }) tree ≡ unbuilt_fault spec of
of_classes spec tree of classes same is = ap (λ (cs : List ClassTree). unbuilt_fault (record { classes = cs }) tree) same ∙ ap (unbuilt_fault spec) is

-- ---- behind the grammar

pub accepted_if : {T E : Type 0} (r : Result T E) (tree_of : T → SpecTree) (text : List ℕ) (names : List (List ℕ)) (spec : SpecTree)
    → parsed_spec text (lexemes Spec text) ≡ Ok (names, spec) → IfOk r (λ (t : T). tree_of t ≡ spec) → OnOk r (checks_fault spec ≡ None)
    → IfOk r (λ (t : T). read_spec text ≡ Ok (names, tree_of t))
accepted_if (Ok t) tree_of text names spec e same fine = accepted text names spec e fine ∙ ap (λ (s : SpecTree). Ok (names, s)) (sym same)
accepted_if (Err told) tree_of text names spec e same fine = tt

pub accepted_expr_if : {T E : Type 0} (r : Result T E) (tree_of : T → ExprTree) (first : List (List ℕ)) (spec : SpecTree) (text : List ℕ) (names : List (List ℕ)) (tree : ExprTree)
    → parsed_expr first text (lexemes Expr text) ≡ Ok (names, tree) → IfOk r (λ (t : T). tree_of t ≡ tree) → OnOk r (main_checks_fault spec tree ≡ None)
    → IfOk r (λ (t : T). read_expr first spec text ≡ Ok (names, tree_of t))
accepted_expr_if (Ok t) tree_of first spec text names tree e same fine =
    accepted_behind first spec text names tree e fine ∙ ap (λ (s : ExprTree). Ok (names, s)) (sym same)
accepted_expr_if (Err told) tree_of first spec text names tree e same fine = tt

-- ---- both texts

pub both_accepted : (spec text : List ℕ) (first names : List (List ℕ)) (tree : SpecTree) (expression : ExprTree)
    → read_spec spec ≡ Ok (first, tree) → read_expr first tree text ≡ Ok (names, expression) → IsAccepted spec text names tree expression
both_accepted spec text first names tree expression e f = record { first = first; specification = e; expression_tree = f }

pub refused_spec : (spec text : List ℕ) (fault : SpecFault) → read_spec spec ≡ Err fault → first_refusal spec text ≡ Some fault
refused_spec spec text fault e = ap (λ (r : Read SpecTree). refusal_behind r text) e

pub refused_expr : (spec text : List ℕ) (first : List (List ℕ)) (tree : SpecTree) (fault : SpecFault)
    → read_spec spec ≡ Ok (first, tree) → read_expr first tree text ≡ Err fault → first_refusal spec text ≡ Some fault
refused_expr spec text first tree fault e f = ap (λ (r : Read SpecTree). refusal_behind r text) e ∙ ap refusal_in f
