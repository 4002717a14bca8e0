-- What is to be shown of how deep expressions, patterns and lists of them are.
use Rattle.std.proofs.Common.{ℕ, ◌+◌, ◌≤◌, max, List, ◌∷◌, ◌++◌, length, arith}
use Rattle.abstract_syntax.specs.Depth.{expr_depth, pattern_depth}
use Rattle.abstract_syntax.specs.Expressions.{ExprTree, ExprTrees, MaybeExpr, MapletTrees, FieldValueTrees, DefinedTrees, BranchTrees, CaseTrees, BindTree, BindTrees, PatternTree, PatternTrees, MapletPatterns, no_exprs, one_expr, left_out, given_expr, no_maplets, one_maplet, no_field_values, one_field_value, no_defined, one_defined, no_branches, one_branch, no_cases, one_case, bind_in, no_binds, one_bind, any_value, bound, literal_pattern, equal_to, set_pattern, sequence_pattern, map_pattern, empty_map_pattern, tuple_pattern, record_pattern, concatenation_pattern, no_patterns, one_pattern, no_maplet_patterns, one_maplet_pattern}
use Rattle.grammar_words.specs.Pulls.{closed, far_pull}
use Rattle.grammar_words.specs.Written.{Written}
use Rattle.grammar_trees.specs.Spelling.{spelling, pattern_spelling}
use Rattle.grammar_trees.specs.Binding.{reach, Binds, IsPattern}
use Rattle.grammar_fronts.specs.declared.open_node.OpenNode.{OpenNode}
use Rattle.grammar_fronts.specs.declared.wanted.Wanted.{Wanted}
use Rattle.grammar_fronts.specs.declared.wanted.Wanted.TheVariants as want
use Rattle.grammar_fronts.specs.Patterns.{pattern}
use Rattle.grammar_fronts.specs.Operands.{expression}
use Rattle.front_laws.proofs.Starts.{Starts, at_expression, at_pattern}
use Rattle.front_laws.proofs.Fine.{node, Fine, Calm, Plain}
use Rattle.front_laws.proofs.Nests.{Own, Part, At}

-- where an expression is wanted, with more behind it
pub record ExprDeep (e : ExprTree) : Type 0 where
  pub deep : (m : ℕ) → m ≤ 31 → Binds e m → (next : Wanted) (more : List Wanted) → Starts expression next more → (behind : List Wanted)
      (nodes : List OpenNode) → Calm (length behind + 1) m nodes → (a : List Written) → Plain a → Fine (spelling e ++ a) (next ∷ behind) nodes
      → Part (expr_depth e) (reach e) want.BehindOperand (more ++ behind) nodes a

pub first_part : {e : ExprTree} → ExprDeep e → Binds e far_pull → {next : Wanted} {more : List Wanted} → Starts expression next more
    → {below deep : ℕ} {nodes : List OpenNode} {behind : List Wanted} {a : List Written} → Own below deep nodes (spelling e ++ a) (next ∷ behind)
    → below ≤ length behind → Plain a → At below (max deep (expr_depth e)) nodes want.BehindOperand (more ++ behind) a
first_part {e = e} t b {next = next} {more = more} s {below = below} {nodes = nodes} {behind = behind} {a = a} o less plain =
    let least = o.least in
    record {
      own = o.deepest;
      depth = expr_depth e;
      reach = reach e;
      bound = omega arith;
      part = t.deep far_pull (omega arith) b next more s behind (node 0 o.deepest below ∷ nodes) (omega arith, omega arith) a plain o.fine;
    }

pub expr_part : {e : ExprTree} → ExprDeep e → Binds e far_pull
    → {below deep : ℕ} {nodes : List OpenNode} {behind : List Wanted} {a : List Written} → Own below deep nodes (spelling e ++ a) (want.Expression ∷ behind)
    → below ≤ length behind → Plain a → At below (max deep (expr_depth e)) nodes want.BehindOperand behind a
expr_part t b o less plain = first_part t b at_expression o less plain

-- how weak what stands round a pattern is, and what ends it
abbrev pub IsLow : PatternTree → ℕ → Type 0
IsLow (concatenation_pattern ps place) low = low ≤ 1
IsLow _ low = Unit {0}

abbrev pub pattern_reach : PatternTree → ℕ
pattern_reach (concatenation_pattern ps place) = 2
pattern_reach _ = closed

pub record PatternDeep (p : PatternTree) : Type 0 where
  pub deep : IsPattern p → (low : ℕ) → low ≤ 31 → IsLow p low → (next : Wanted) (more : List Wanted) → Starts pattern next more
      → (behind : List Wanted) (nodes : List OpenNode) → Calm (length behind + 1) low nodes → (a : List Written)
      → Fine (pattern_spelling p ++ a) (next ∷ behind) nodes → Part (pattern_depth p) (pattern_reach p) want.BehindPattern (more ++ behind) nodes a

pub low_one : (p : PatternTree) → IsLow p 1
low_one (any_value place) = tt
low_one (bound name place) = tt
low_one (literal_pattern value place) = tt
low_one (equal_to inner place) = tt
low_one (set_pattern ps place) = tt
low_one (sequence_pattern ps place) = tt
low_one (map_pattern ms place) = tt
low_one (empty_map_pattern place) = tt
low_one (tuple_pattern ps place) = tt
low_one (record_pattern type_name ps place) = tt
low_one (concatenation_pattern ps place) = omega arith

pub first_pattern : {p : PatternTree} → PatternDeep p → IsPattern p → {next : Wanted} {more : List Wanted} → Starts pattern next more
    → {below deep : ℕ} {nodes : List OpenNode} {behind : List Wanted} {a : List Written} → Own below deep nodes (pattern_spelling p ++ a) (next ∷ behind)
    → below ≤ length behind → At below (max deep (pattern_depth p)) nodes want.BehindPattern (more ++ behind) a
first_pattern {p = p} t b {next = next} {more = more} s {below = below} {nodes = nodes} {behind = behind} {a = a} o less =
    let least = o.least in
    record {
      own = o.deepest;
      depth = pattern_depth p;
      reach = pattern_reach p;
      bound = omega arith;
      part = t.deep b 1 (omega arith) (low_one p) next more s behind (node 0 o.deepest below ∷ nodes) (omega arith, omega arith) a o.fine;
    }

pub pattern_part : {p : PatternTree} → PatternDeep p → IsPattern p
    → {below deep : ℕ} {nodes : List OpenNode} {behind : List Wanted} {a : List Written} → Own below deep nodes (pattern_spelling p ++ a) (want.Pattern ∷ behind)
    → below ≤ length behind → At below (max deep (pattern_depth p)) nodes want.BehindPattern behind a
pattern_part t b o less = first_pattern t b at_pattern o less

pub weak : {below more deep : ℕ} {nodes : List OpenNode} {a : List Written} {wanted : List Wanted} → Own below more nodes a wanted → deep ≤ more
    → Own below deep nodes a wanted
weak o less = record { deepest = o.deepest; least = (let l = o.least in omega arith); fine = o.fine }

abbrev pub ExprsDeep : ExprTrees → Type 0
ExprsDeep no_exprs = Unit {0}
ExprsDeep (one_expr e es) = ExprDeep e × ExprsDeep es

abbrev pub GivenDeep : MaybeExpr → Type 0
GivenDeep left_out = Unit {0}
GivenDeep (given_expr e) = ExprDeep e

abbrev pub MapletsDeep : MapletTrees → Type 0
MapletsDeep no_maplets = Unit {0}
MapletsDeep (one_maplet k v ms) = ExprDeep k × ExprDeep v × MapletsDeep ms

abbrev pub FieldValuesDeep : FieldValueTrees → Type 0
FieldValuesDeep no_field_values = Unit {0}
FieldValuesDeep (one_field_value n p v fs) = ExprDeep v × FieldValuesDeep fs

abbrev pub DefinitionsDeep : DefinedTrees → Type 0
DefinitionsDeep no_defined = Unit {0}
DefinitionsDeep (one_defined p t v ds) = PatternDeep p × ExprDeep v × DefinitionsDeep ds

abbrev pub BranchesDeep : BranchTrees → Type 0
BranchesDeep no_branches = Unit {0}
BranchesDeep (one_branch c v bs) = ExprDeep c × ExprDeep v × BranchesDeep bs

abbrev pub PatternsDeep : PatternTrees → Type 0
PatternsDeep no_patterns = Unit {0}
PatternsDeep (one_pattern p ps) = PatternDeep p × PatternsDeep ps

abbrev pub MapletPatternsDeep : MapletPatterns → Type 0
MapletPatternsDeep no_maplet_patterns = Unit {0}
MapletPatternsDeep (one_maplet_pattern k v ms) = PatternDeep k × PatternDeep v × MapletPatternsDeep ms

abbrev pub CasesDeep : CaseTrees → Type 0
CasesDeep no_cases = Unit {0}
CasesDeep (one_case ps v cs) = PatternsDeep ps × ExprDeep v × CasesDeep cs

abbrev pub BindDeep : BindTree → Type 0
BindDeep (bind_in ps set) = PatternsDeep ps × ExprDeep set

abbrev pub BindsDeep : BindTrees → Type 0
BindsDeep no_binds = Unit {0}
BindsDeep (one_bind b bs) = BindDeep b × BindsDeep bs
