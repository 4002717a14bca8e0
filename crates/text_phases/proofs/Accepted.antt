-- Two texts that are accepted are built.
use Rattle.std.specs.Prelude.{◌≡◌, ℕ, true, List, Option, Some, None, Ok, Err}
use Rattle.std.proofs.Common.{refl, subst}
use Rattle.abstract_syntax.specs.Classes.{SpecTree}
use Rattle.abstract_syntax.specs.Expressions.{ExprTree}
use Rattle.vdm_kinds.specs.declared.part.Part.TheVariants.{Expr}
use Rattle.vdm_kinds.specs.declared.place.Place.{Place}
use Rattle.vdm_kinds.specs.declared.spec_fault.SpecFault.{SpecFault}
use Rattle.vdm_lexer.specs.Lexemes.{lexemes}
use Rattle.spec_checks.specs.Threads.{run_fault}
use Rattle.text_phases.specs.Built.{or_behind, left_out_at, unbuilt_fault, unbuilt_in_spec, unbuilt_in_expr, IsBuilt, IsBuiltExpr}
use Rattle.text_phases.specs.Phases.{Read, unless_refused, main_checks_fault, parsed_expr, accepted_expr, IsAccepted}

-- nothing is refused where neither refuses
neither : {A : Type 0} (first behind : Option A) → or_behind first behind ≡ None → behind ≡ None
neither None behind e = e
neither (Some a) behind e = absurd (cc)

first_none : {A : Type 0} (first behind : Option A) → or_behind first behind ≡ None → first ≡ None
first_none None behind e = refl
first_none (Some a) behind e = absurd (cc)

nothing_left : (place : Option Place) → left_out_at place ≡ None → place ≡ None
nothing_left None e = refl
nothing_left (Some place) e = absurd (cc)

abbrev AreBuilt : SpecTree → ExprTree → Type 0
AreBuilt spec tree = IsBuilt spec × IsBuiltExpr tree

main_built : (spec : SpecTree) (tree : ExprTree) → main_checks_fault spec tree ≡ None → AreBuilt spec tree
unfolding main_checks_fault
main_built spec tree e =
    let all = nothing_left (or_behind (unbuilt_in_spec spec) (unbuilt_in_expr true tree)) (neither (run_fault spec tree) (unbuilt_fault spec tree) e) in
    (first_none (unbuilt_in_spec spec) (unbuilt_in_expr true tree) all, neither (unbuilt_in_spec spec) (unbuilt_in_expr true tree) all)

abbrev IsReadBuilt : SpecTree → List (List ℕ) × ExprTree → Type 0
IsReadBuilt spec read = AreBuilt spec read.1

unrefused : (spec : SpecTree) (names : List (List ℕ)) (tree : ExprTree) (fault : Option SpecFault) (read : List (List ℕ) × ExprTree)
    → (fault ≡ None → AreBuilt spec tree) → unless_refused names tree fault ≡ Ok read → IsReadBuilt spec read
unrefused spec names tree None read built e = let same : (names, tree) ≡ read = cc in subst (IsReadBuilt spec) same (built refl)
unrefused spec names tree (Some told) read built e = absurd (cc)

expr_built : (spec : SpecTree) (parsed : Read ExprTree) (read : List (List ℕ) × ExprTree) → accepted_expr spec parsed ≡ Ok read → IsReadBuilt spec read
expr_built spec (Err told) read e = absurd (cc)
expr_built spec (Ok tree) read e = unrefused spec tree.0 tree.1 (main_checks_fault spec tree.1) read (main_built spec tree.1) e

both_built : (spec text : List ℕ) (names : List (List ℕ)) (tree : SpecTree) (expression : ExprTree)
    → IsAccepted spec text names tree expression → AreBuilt tree expression
both_built spec text names tree expression h = expr_built tree (parsed_expr h.first text (lexemes Expr text)) (names, expression) h.expression_tree

pub built_specification : (spec text : List ℕ) (names : List (List ℕ)) (tree : SpecTree) (expression : ExprTree)
    → IsAccepted spec text names tree expression → IsBuilt tree
built_specification spec text names tree expression h = (both_built spec text names tree expression h).0

pub built_expression : (spec text : List ℕ) (names : List (List ℕ)) (tree : SpecTree) (expression : ExprTree)
    → IsAccepted spec text names tree expression → IsBuiltExpr expression
built_expression spec text names tree expression h = (both_built spec text names tree expression h).1
