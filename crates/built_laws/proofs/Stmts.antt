-- Statements, bodies and initial values that are built have a meaning.
use Rattle.std.proofs.Common.{◌≡◌, ℕ, zero, suc, Bool, true, false, true≢false, not, Option, Some, None, subst, sym}
use Rattle.abstract_syntax.specs.Expressions.{ExprTree}
use Rattle.abstract_syntax.specs.Statements.{StmtTree}
use Rattle.abstract_syntax.specs.Classes.{VariableTree, Body, written, not_yet_specified, subclass_responsibility, OperationTree}
use Rattle.text_phases.specs.Built.{or_behind, unbuilt_if_given, unbuilt_in_body, unbuilt_in_each_pattern, unbuilt_in_initial, unbuilt_in_operation, unbuilt_in_variable, IsBuiltExpr}
use Rattle.built_laws.specs.Meant.{Each, IsMeant, MakesNothing}
use Rattle.built_laws.specs.MeantClasses.{IsMeantVariable}
use Rattle.built_laws.specs.MeantStmts.{inner, evaluated_in, IsMeantStmt, IsMeantBody}
use Rattle.built_laws.specs.Parts.{given_part}
use Rattle.built_laws.proofs.Exprs.{expr_meant, meant_in, nothing_made}
use Rattle.built_laws.proofs.Lists.{each-weaker}
use Rattle.built_laws.proofs.Nothing.{first-none, behind-none}
use Rattle.built_laws.proofs.StmtParts.{IsBuiltStmt, evaluated_built, inner_built, plain_there}

-- ---- statements

stmt_meant : (levels : ℕ) (statement : StmtTree) → IsBuiltStmt statement → IsMeantStmt levels statement
stmt_meant zero statement h = tt
stmt_meant (suc levels) statement h = (
  plain_there statement h,
  each-weaker IsBuiltExpr (IsMeant levels) (expr_meant levels) (evaluated_in statement) (evaluated_built statement h),
  each-weaker IsBuiltStmt (IsMeantStmt levels) (stmt_meant levels) (inner statement) (inner_built statement h),
)

-- ---- bodies

body_meant : (levels : ℕ) (body : Body StmtTree) → unbuilt_in_body body ≡ None → IsMeantBody levels body
body_meant levels (written body) h = stmt_meant levels body h
body_meant levels not_yet_specified h = tt
body_meant levels subclass_responsibility h = tt

pub body_of_meant : (levels : ℕ) (o : OperationTree) → unbuilt_in_operation o ≡ None → IsMeantBody levels o.body
body_of_meant levels o h =
    body_meant levels o.body
    (first-none (unbuilt_in_body o.body) (or_behind (unbuilt_if_given o.pre) (unbuilt_if_given o.post)) (behind-none (unbuilt_in_each_pattern o.patterns) _ h))

-- ---- initial values

initial_meant : (levels : ℕ) (is_static : Bool) (initial : Option ExprTree) → unbuilt_in_initial is_static initial ≡ None → Each (IsMeant levels) (given_part initial)
initial_meant levels is_static None h = tt
initial_meant levels is_static (Some value) h = (meant_in (not is_static) levels value h, tt)

static_makes_nothing : (levels : ℕ) (is_static : Bool) (initial : Option ExprTree) → unbuilt_in_initial is_static initial ≡ None → is_static ≡ true → Each (MakesNothing levels) (given_part initial)
static_makes_nothing levels is_static None h e = tt
static_makes_nothing levels true (Some value) h e = (nothing_made levels value h, tt)
static_makes_nothing levels false (Some value) h e = absurd (true≢false (sym e))

pub variable_meant : (levels : ℕ) (v : VariableTree) → unbuilt_in_variable v ≡ None → IsMeantVariable levels v
variable_meant levels v h = record {
  meant = initial_meant levels v.access.is_static v.initial h;
  static_makes_nothing = static_makes_nothing levels v.access.is_static v.initial h;
}

-- what holds of each initial value holds of the one that is given
of_given : (P : ExprTree → Type 0) (initial : Option ExprTree) (value : ExprTree) → initial ≡ Some value → Each P (given_part initial) → P value
of_given P initial value given h = (subst (λ (i : Option ExprTree). Each P (given_part i)) given h).0

pub initial_value_meant : (levels : ℕ) (v : VariableTree) (value : ExprTree) → unbuilt_in_variable v ≡ None → v.initial ≡ Some value → IsMeant levels value
initial_value_meant levels v value h given = of_given (IsMeant levels) v.initial value given (variable_meant levels v h).meant

pub static_value_makes_nothing : (levels : ℕ) (v : VariableTree) (value : ExprTree) → unbuilt_in_variable v ≡ None → v.initial ≡ Some value → v.access.is_static ≡ true → MakesNothing levels value
static_value_makes_nothing levels v value h given e =
    of_given (MakesNothing levels) v.initial value given ((variable_meant levels v h).static_makes_nothing e)
