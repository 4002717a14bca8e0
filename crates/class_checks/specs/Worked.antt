-- Expressions for worked examples, each token at its column.
use Rattle.std.specs.Prelude.{ℕ, pos, true, false, List, [], ◌∷◌, Option, Some, None}
use Rattle.vdm_kinds.specs.declared.part.Part.TheVariants.{Expr}
use Rattle.vdm_kinds.specs.declared.place.Place.{Place}
use Rattle.vdm_kinds.specs.declared.sign.Sign.{Sign}
use Rattle.vdm_kinds.specs.declared.spec_fault.SpecFault.{SpecFault}
use Rattle.vdm_kinds.specs.declared.spec_kind.SpecKind.{SpecKind}
use Rattle.abstract_syntax.specs.Literals.{whole_literal, boolean_literal}
use Rattle.abstract_syntax.specs.Expressions.{ExprTree, literal, named, prefixed, joined, set_enumeration, sequence_enumeration, make_tuple, apply, select, create, ExprTrees, no_exprs, one_expr, PatternTree, bound, PatternTrees, no_patterns, one_pattern, BindTree, bind_in}
use Rattle.abstract_syntax.specs.Classes.{SpecTree}
use Rattle.class_meaning.specs.Worked.{name, spec}
use Rattle.class_checks.specs.Scopes.{ScopeTree, of_run}
use Rattle.class_checks.specs.declared.reach.Reach.{Reach}

abbrev pub at : ℕ → Place
at column = record { part = Expr; line = 1; column = column }

abbrev pub nothing : SpecTree
nothing = spec []

abbrev pub refused : SpecKind → ℕ → Option SpecFault
refused kind column = Some (record { kind = kind; place = at column })

-- where all but the reach is as for the expression of a run
abbrev pub reaching : Reach → ScopeTree
reaching reach = record { class = None; locals = of_run.locals; result = None; old = false; object = true; reach = reach }

abbrev pub whole : ℕ → ℕ → ExprTree
whole n column = literal (whole_literal (pos n)) (at column)

abbrev pub yes_at : ℕ → ExprTree
yes_at column = literal (boolean_literal true) (at column)

abbrev pub x : ℕ
x = 11

abbrev pub y : ℕ
y = 12

abbrev pub named_at : ℕ → ℕ → ExprTree
named_at n column = named (name n) (at column)

abbrev pub both : ExprTree → Sign → ExprTree → ℕ → ExprTree
both left sign right column = joined left sign right (at column)

abbrev pub before : Sign → ExprTree → ℕ → ExprTree
before sign operand column = prefixed sign operand (at column)

abbrev pub all : List ExprTree → ExprTrees
all [] = no_exprs
all (e ∷ es) = one_expr e (all es)

abbrev pub set_of : List ExprTree → ℕ → ExprTree
set_of es column = set_enumeration (all es) (at column)

abbrev pub sequence_of : List ExprTree → ℕ → ExprTree
sequence_of es column = sequence_enumeration (all es) (at column)

abbrev pub tuple_of : List ExprTree → ℕ → ExprTree
tuple_of es column = make_tuple (all es) (at column)

abbrev pub applied_to : ExprTree → List ExprTree → ℕ → ExprTree
applied_to head es column = apply head (all es) (at column)

abbrev pub new_at : ℕ → ℕ → ℕ → ExprTree
new_at class class_column column = create (name class) (at class_column) no_exprs (at column)

abbrev pub member : ExprTree → ℕ → ℕ → ℕ → ExprTree
member target n name_column column = select target (name n) (at name_column) (at column)

abbrev pub bound_at : ℕ → ℕ → PatternTree
bound_at n column = bound (name n) (at column)

abbrev pub patterns : List PatternTree → PatternTrees
patterns [] = no_patterns
patterns (p ∷ ps) = one_pattern p (patterns ps)

abbrev pub in_set : List PatternTree → ExprTree → BindTree
in_set ps set = bind_in (patterns ps) set
