-- What is checked, and then the rest.
use Rattle.std.specs.Prelude.{List, []}
use Rattle.abstract_syntax.specs.Expressions.{ExprTree, MaybeExpr, BindTree, PatternTrees, bind_in}
use Rattle.abstract_syntax.specs.Classes.{SpecTree}
use Rattle.form_meaning.specs.Forms.{FormTree}
use Rattle.class_checks.specs.Expressions.{one_bound, where_true}
use Rattle.class_checks.specs.Results.{Checked}
use Rattle.class_checks.specs.Scopes.{LocalForm, ScopeTree, inside}
use Rattle.spec_checks.specs.Statements.{bind_names, inside_names}
use Rattle.spec_checks.specs.Targets.{StmtScope, patterns_names}

module _ (spec : SpecTree) where
  -- what patterns bind that are matched with the elements of a set
  abbrev pub found_then : ScopeTree → PatternTrees → ExprTree → (List LocalForm → Checked) → Checked
  found_then scope patterns set rest = one_bound spec scope [] (bind_in patterns set) (λ (found : List LocalForm) (form : FormTree). rest found)

  -- ... where expressions inside them stand
  abbrev pub inside_then : ScopeTree → PatternTrees → ExprTree → (ScopeTree → Checked) → Checked
  inside_then scope patterns set rest = found_then scope patterns set (λ (found : List LocalForm). rest (inside scope found))

  -- ... where statements inside them stand
  abbrev pub set_then : StmtScope → PatternTrees → ExprTree → (StmtScope → Checked) → Checked
  set_then scope patterns set rest =
      found_then scope.within patterns set (λ (found : List LocalForm). rest (inside_names scope found (patterns_names patterns)))

  -- a bind under a condition, and where statements inside it stand
  abbrev pub bind_then : StmtScope → BindTree → MaybeExpr → (StmtScope → Checked) → Checked
  bind_then scope bind condition rest = one_bound spec scope.within [] bind (λ (found : List LocalForm) (form : FormTree).
      where_true spec (inside scope.within found) condition (rest (inside_names scope found (bind_names bind))))
