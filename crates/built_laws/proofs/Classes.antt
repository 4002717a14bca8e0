-- Definitions, classes and specifications that are built have a meaning.
use Rattle.std.proofs.Common.{◌≡◌, ℕ, true, false, List, [], ◌∷◌, ◌++◌, Option, Some, None}
use Rattle.abstract_syntax.specs.Expressions.{ExprTree, PatternTree}
use Rattle.abstract_syntax.specs.Classes.{
  InvariantTree,
  TypeDefTree,
  ValueDefTree,
  VariableItem,
  variable_item,
  invariant_item,
  Body,
  written,
  not_yet_specified,
  subclass_responsibility,
  FunctionTree,
  OperationTree,
  BlockTree,
  types,
  values,
  variables,
  functions,
  operations,
  thread_of,
  synchronisation,
  ClassTree,
  SpecTree,
}
use Rattle.pattern_meaning.specs.Brackets.{given_in, given_in_list}
use Rattle.text_phases.specs.Built.{or_behind, unbuilt_in_body, unbuilt_in_expr, unbuilt_in_pattern, unbuilt_in_invariant, unbuilt_in_types, unbuilt_in_values, unbuilt_in_each_pattern, unbuilt_if_written, unbuilt_if_given, unbuilt_in_function, unbuilt_in_functions, unbuilt_in_items, unbuilt_in_operation, unbuilt_in_operations, unbuilt_in_variable, unbuilt_in_class_block, unbuilt_in_class_blocks, unbuilt_in_class, unbuilt_in_classes, unbuilt_in_spec, IsBuiltExpr}
use Rattle.built_laws.specs.Meant.{Each, IsMeant}
use Rattle.built_laws.specs.Parts.{given_part}
use Rattle.built_laws.specs.MeantClasses.{body_part, function_parts, IsMeantFunction, invariant_parts, IsMeantType, IsMeantValue, IsMeantItem, IsMeantOperation, operation_parts, IsMeantBlock, IsMeantClass, IsMeantSpec}
use Rattle.built_laws.proofs.Exprs.{expr_meant, meant_in, nothing_made}
use Rattle.built_laws.proofs.Lists.{each-append, each-weaker}
use Rattle.built_laws.proofs.Nothing.{first-none, behind-none, told-none}
use Rattle.built_laws.proofs.PartsBuilt.{given_built}
use Rattle.built_laws.proofs.StmtParts.{given_part_built}
use Rattle.built_laws.proofs.Stmts.{body_of_meant, variable_meant}

-- ---- functions

patterns_built : (ps : List PatternTree) → unbuilt_in_each_pattern ps ≡ None → Each IsBuiltExpr (given_in_list ps)
patterns_built [] h = tt
patterns_built (p ∷ ps) h =
    each-append IsBuiltExpr (given_in p) (given_in_list ps) (given_built true p (first-none _ _ h)) (patterns_built ps (behind-none _ _ h))

body_built : (body : Body ExprTree) → unbuilt_if_written body ≡ None → Each IsBuiltExpr (body_part body)
body_built (written body) h = (h, tt)
body_built not_yet_specified h = tt
body_built subclass_responsibility h = tt

function_built : (f : FunctionTree) → unbuilt_in_function f ≡ None → Each IsBuiltExpr (function_parts f)
function_built f h =
    let behind = behind-none (unbuilt_in_each_pattern f.patterns) _ h in
    let last = behind-none (unbuilt_if_written f.body) _ behind in
    each-append IsBuiltExpr (given_in_list f.patterns) (body_part f.body ++ (given_part f.pre ++ given_part f.post))
    (patterns_built f.patterns (first-none (unbuilt_in_each_pattern f.patterns) _ h))
    (each-append IsBuiltExpr (body_part f.body) (given_part f.pre ++ given_part f.post)
    (body_built f.body (first-none (unbuilt_if_written f.body) _ behind))
    (each-append IsBuiltExpr (given_part f.pre) (given_part f.post)
    (given_part_built f.pre (first-none (unbuilt_if_given f.pre) (unbuilt_if_given f.post) last))
    (given_part_built f.post (behind-none (unbuilt_if_given f.pre) (unbuilt_if_given f.post) last))))

pub function_meant : (levels : ℕ) (f : FunctionTree) → unbuilt_in_function f ≡ None → IsMeantFunction levels f
function_meant levels f h = each-weaker IsBuiltExpr (IsMeant levels) (expr_meant levels) (function_parts f) (function_built f h)

-- ---- operations

conditions_built : (o : OperationTree) → unbuilt_in_operation o ≡ None → Each IsBuiltExpr (operation_parts o)
conditions_built o h =
    let behind = behind-none (unbuilt_in_each_pattern o.patterns) (or_behind (unbuilt_in_body o.body) (or_behind (unbuilt_if_given o.pre) (unbuilt_if_given o.post))) h in
    let last = behind-none (unbuilt_in_body o.body) (or_behind (unbuilt_if_given o.pre) (unbuilt_if_given o.post)) behind in
    each-append IsBuiltExpr (given_in_list o.patterns) (given_part o.pre ++ given_part o.post)
    (patterns_built o.patterns
    (first-none (unbuilt_in_each_pattern o.patterns) (or_behind (unbuilt_in_body o.body) (or_behind (unbuilt_if_given o.pre) (unbuilt_if_given o.post))) h))
    (each-append IsBuiltExpr (given_part o.pre) (given_part o.post)
    (given_part_built o.pre (first-none (unbuilt_if_given o.pre) (unbuilt_if_given o.post) last))
    (given_part_built o.post (behind-none (unbuilt_if_given o.pre) (unbuilt_if_given o.post) last)))

pub operation_meant : (levels : ℕ) (o : OperationTree) → unbuilt_in_operation o ≡ None → IsMeantOperation levels o
operation_meant levels o h = record {
  body = body_of_meant levels o h;
  conditions = each-weaker IsBuiltExpr (IsMeant levels) (expr_meant levels) (operation_parts o) (conditions_built o h);
}

-- ---- types

invariant_built : (i : Option InvariantTree) → unbuilt_in_invariant i ≡ None → Each IsBuiltExpr (invariant_parts i)
invariant_built None h = tt
invariant_built (Some i) h =
    each-append IsBuiltExpr (given_in i.pattern) (i.condition ∷ [])
    (given_built true i.pattern (first-none (unbuilt_in_pattern true i.pattern) (unbuilt_in_expr true i.condition) h))
    (behind-none (unbuilt_in_pattern true i.pattern) (unbuilt_in_expr true i.condition) h, tt)

pub type_meant : (levels : ℕ) (t : TypeDefTree) → unbuilt_in_invariant t.invariant ≡ None → IsMeantType levels t
type_meant levels t h =
    each-weaker IsBuiltExpr (IsMeant levels) (expr_meant levels) (invariant_parts t.invariant) (invariant_built t.invariant h)

-- ---- lists of definitions

types_meant : (levels : ℕ) (ts : List TypeDefTree) → unbuilt_in_types ts ≡ None → Each (IsMeantType levels) ts
types_meant levels [] h = tt
types_meant levels (t ∷ ts) h = (
  type_meant levels t (first-none (unbuilt_in_invariant t.invariant) (unbuilt_in_types ts) h),
  types_meant levels ts (behind-none (unbuilt_in_invariant t.invariant) (unbuilt_in_types ts) h),
)

values_meant : (levels : ℕ) (vs : List ValueDefTree) → unbuilt_in_values vs ≡ None → Each (IsMeantValue levels) vs
values_meant levels [] h = tt
values_meant levels (v ∷ vs) h = (expr_meant levels v.value (first-none _ _ h), values_meant levels vs (behind-none _ _ h))

items_meant : (levels : ℕ) (items : List VariableItem) → unbuilt_in_items items ≡ None → Each (IsMeantItem levels) items
items_meant levels [] h = tt
items_meant levels (variable_item v ∷ items) h = (
  variable_meant levels v (first-none (unbuilt_in_variable v) (unbuilt_in_items items) h),
  items_meant levels items (behind-none (unbuilt_in_variable v) (unbuilt_in_items items) h),
)
items_meant levels (invariant_item condition place ∷ items) h =
    let here = first-none (unbuilt_in_expr false condition) (unbuilt_in_items items) h in (
      record { meant = meant_in false levels condition here; makes_nothing = nothing_made levels condition here },
      items_meant levels items (behind-none (unbuilt_in_expr false condition) (unbuilt_in_items items) h),
    )

functions_meant : (levels : ℕ) (fs : List FunctionTree) → unbuilt_in_functions fs ≡ None → Each (IsMeantFunction levels) fs
functions_meant levels [] h = tt
functions_meant levels (f ∷ fs) h = (function_meant levels f (first-none _ _ h), functions_meant levels fs (behind-none _ _ h))

operations_meant : (levels : ℕ) (os : List OperationTree) → unbuilt_in_operations os ≡ None → Each (IsMeantOperation levels) os
operations_meant levels [] h = tt
operations_meant levels (o ∷ os) h = (
  operation_meant levels o (first-none (unbuilt_in_operation o) (unbuilt_in_operations os) h),
  operations_meant levels os (behind-none (unbuilt_in_operation o) (unbuilt_in_operations os) h),
)

-- ---- classes

block_meant : (levels : ℕ) (b : BlockTree) → unbuilt_in_class_block b ≡ None → IsMeantBlock levels b
block_meant levels (types definitions place) h = types_meant levels definitions h
block_meant levels (values definitions place) h = values_meant levels definitions h
block_meant levels (variables items place) h = items_meant levels items h
block_meant levels (functions definitions place) h = functions_meant levels definitions h
block_meant levels (operations definitions place) h = operations_meant levels definitions h
block_meant levels (thread_of thread place) h = told-none _ h
block_meant levels (synchronisation clauses place) h = told-none _ h

blocks_meant : (levels : ℕ) (bs : List BlockTree) → unbuilt_in_class_blocks bs ≡ None → Each (IsMeantBlock levels) bs
blocks_meant levels [] h = tt
blocks_meant levels (b ∷ bs) h = (
  block_meant levels b (first-none (unbuilt_in_class_block b) (unbuilt_in_class_blocks bs) h),
  blocks_meant levels bs (behind-none (unbuilt_in_class_block b) (unbuilt_in_class_blocks bs) h),
)

classes_meant : (levels : ℕ) (cs : List ClassTree) → unbuilt_in_classes cs ≡ None → Each (IsMeantClass levels) cs
classes_meant levels [] h = tt
classes_meant levels (c ∷ cs) h =
    let here = first-none (unbuilt_in_class c) (unbuilt_in_classes cs) h in (
      blocks_meant levels c.blocks here,
      classes_meant levels cs (behind-none (unbuilt_in_class c) (unbuilt_in_classes cs) h),
    )

pub spec_meant : (levels : ℕ) (spec : SpecTree) → unbuilt_in_spec spec ≡ None → IsMeantSpec levels spec
spec_meant levels spec h = classes_meant levels spec.classes h
