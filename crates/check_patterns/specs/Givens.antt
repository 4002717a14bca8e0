-- The expressions in brackets in patterns, in text order; and that they are what is checked of patterns.
use Rattle.std.specs.Prelude.{◌≡◌, List, [], ◌∷◌, ◌++◌, map}
use Rattle.std.specs.Prelude.{Box}
use Rattle.std.specs.Borrow.{Bor}
use Rattle.std.specs.declared.alloc.Global.{Global}
use Rattle.std.proofs.Common.{refl, ap, sym, ◌∙◌}
use Rattle.abstract_syntax.specs.Expressions.{
  ExprTree,
  PatternTree,
  any_value,
  bound,
  literal_pattern,
  equal_to,
  set_pattern,
  sequence_pattern,
  map_pattern,
  empty_map_pattern,
  tuple_pattern,
  record_pattern,
  concatenation_pattern,
  PatternTrees,
  no_patterns,
  one_pattern,
  MapletPatterns,
  no_maplet_patterns,
  one_maplet_pattern,
}
use Rattle.abstract_syntax.specs.Classes.{SpecTree}
use Rattle.expr_tree.specs.declared.expr.Expr.{Expr}
use Rattle.expr_tree.specs.View.{boxed_view}
use Rattle.form_meaning.specs.Forms.{FormTree}
use Rattle.class_checks.specs.Expressions.{check, givens, givens_each, givens_maplets}
use Rattle.class_checks.specs.Results.{Checked, after}
use Rattle.class_checks.specs.Scopes.{ScopeTree}

-- what references lead to
abbrev pub expr_trees : List (Bor (Box Expr Global)) → List ExprTree
expr_trees = map (λ (e : Bor (Box Expr Global)). boxed_view e.now)

abbrev mutual
  pub given_in : PatternTree → List ExprTree
  given_in (any_value place) = []
  given_in (bound name place) = []
  given_in (literal_pattern value place) = []
  given_in (equal_to inner place) = inner ∷ []
  given_in (set_pattern elements place) = given_in_each elements
  given_in (sequence_pattern items place) = given_in_each items
  given_in (map_pattern maplets place) = given_in_maplets maplets
  given_in (empty_map_pattern place) = []
  given_in (tuple_pattern parts place) = given_in_each parts
  given_in (record_pattern t fields place) = given_in_each fields
  given_in (concatenation_pattern parts place) = given_in_each parts

  pub given_in_each : PatternTrees → List ExprTree
  given_in_each no_patterns = []
  given_in_each (one_pattern p ps) = given_in p ++ given_in_each ps

  pub given_in_maplets : MapletPatterns → List ExprTree
  given_in_maplets no_maplet_patterns = []
  given_in_maplets (one_maplet_pattern p q rest) = given_in p ++ (given_in q ++ given_in_maplets rest)

-- these, one behind the other, and then the rest
abbrev pub givens_list : SpecTree → ScopeTree → List ExprTree → Checked → Checked
givens_list spec scope [] rest = rest
givens_list spec scope (e ∷ es) rest = after (check spec scope e) (λ (form : FormTree). givens_list spec scope es rest)

-- of two lists one behind the other
pub givens_list-++ : (spec : SpecTree) (scope : ScopeTree) (ds es : List ExprTree) (rest : Checked)
    → givens_list spec scope (ds ++ es) rest ≡ givens_list spec scope ds (givens_list spec scope es rest)
givens_list-++ spec scope [] es rest = refl
givens_list-++ spec scope (d ∷ ds) es rest =
    ap (λ (r : Checked). after (check spec scope d) (λ (form : FormTree). r)) (givens_list-++ spec scope ds es rest)

-- a part, and the others behind it
both : (spec : SpecTree) (scope : ScopeTree) (ds es : List ExprTree) (part : Checked → Checked) (others rest : Checked)
    → ((r : Checked) → part r ≡ givens_list spec scope ds r) → others ≡ givens_list spec scope es rest
    → part others ≡ givens_list spec scope (ds ++ es) rest
both spec scope ds es part others rest one more =
    one others ∙ ap (givens_list spec scope ds) more ∙ sym (givens_list-++ spec scope ds es rest)

mutual
  unfolding givens

  -- what is checked of a pattern is what stands in brackets in it
  pub givens-listed : (spec : SpecTree) (scope : ScopeTree) (p : PatternTree) (rest : Checked)
      → givens spec scope p rest ≡ givens_list spec scope (given_in p) rest
  givens-listed spec scope (any_value place) rest = refl
  givens-listed spec scope (bound name place) rest = refl
  givens-listed spec scope (literal_pattern value place) rest = refl
  givens-listed spec scope (equal_to inner place) rest = refl
  givens-listed spec scope (set_pattern elements place) rest = givens_each-listed spec scope elements rest
  givens-listed spec scope (sequence_pattern items place) rest = givens_each-listed spec scope items rest
  givens-listed spec scope (map_pattern maplets place) rest = givens_maplets-listed spec scope maplets rest
  givens-listed spec scope (empty_map_pattern place) rest = refl
  givens-listed spec scope (tuple_pattern parts place) rest = givens_each-listed spec scope parts rest
  givens-listed spec scope (record_pattern t fields place) rest = givens_each-listed spec scope fields rest
  givens-listed spec scope (concatenation_pattern parts place) rest = givens_each-listed spec scope parts rest

  pub givens_each-listed : (spec : SpecTree) (scope : ScopeTree) (ps : PatternTrees) (rest : Checked)
      → givens_each spec scope ps rest ≡ givens_list spec scope (given_in_each ps) rest
  givens_each-listed spec scope no_patterns rest = refl
  givens_each-listed spec scope (one_pattern p ps) rest =
      both spec scope (given_in p) (given_in_each ps) (givens spec scope p) (givens_each spec scope ps rest) rest
      (givens-listed spec scope p) (givens_each-listed spec scope ps rest)

  pub givens_maplets-listed : (spec : SpecTree) (scope : ScopeTree) (ms : MapletPatterns) (rest : Checked)
      → givens_maplets spec scope ms rest ≡ givens_list spec scope (given_in_maplets ms) rest
  givens_maplets-listed spec scope no_maplet_patterns rest = refl
  givens_maplets-listed spec scope (one_maplet_pattern p q more) rest =
      both spec scope (given_in p) (given_in q ++ given_in_maplets more) (givens spec scope p)
      (givens spec scope q (givens_maplets spec scope more rest)) rest (givens-listed spec scope p)
      (both spec scope (given_in q) (given_in_maplets more) (givens spec scope q) (givens_maplets spec scope more rest) rest
      (givens-listed spec scope q) (givens_maplets-listed spec scope more rest))
