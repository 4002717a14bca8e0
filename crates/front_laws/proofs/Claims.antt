-- What is to be shown of expressions, patterns and lists of them.
use Rattle.std.proofs.Common.{ℕ, List, [], ◌∷◌, ◌++◌}
use Rattle.abstract_syntax.specs.Expressions.{ExprTree, ExprTrees, MaybeExpr, MapletTrees, FieldValueTrees, DefinedTrees, BranchTrees, CaseTrees, BindTree, BindTrees, PatternTree, PatternTrees, MapletPatterns, no_exprs, one_expr, left_out, given_expr, no_maplets, one_maplet, no_field_values, one_field_value, no_defined, one_defined, no_branches, one_branch, no_cases, one_case, bind_in, no_binds, one_bind, no_patterns, one_pattern, no_maplet_patterns, one_maplet_pattern}
use Rattle.grammar_words.specs.Written.{Written}
use Rattle.grammar_trees.specs.Spelling.{spelling, pattern_spelling}
use Rattle.grammar_trees.specs.Binding.{Binds, IsPattern}
use Rattle.grammar_fronts.specs.declared.wanted.Wanted.{Wanted}
use Rattle.grammar_fronts.specs.declared.wanted.Wanted.TheVariants as want
use Rattle.grammar_fronts.specs.Patterns.{pattern}
use Rattle.grammar_fronts.specs.Operands.{expression}
use Rattle.front_laws.proofs.Passing.{Reads, Follows}
use Rattle.front_laws.proofs.Starts.{Starts, at_expression, at_pattern}

-- where an expression is wanted, with more behind it
pub record ExprRead (e : ExprTree) : Type 0 where
  pub reads : (m : ℕ) → Binds e m → (next : Wanted) (more : List Wanted) → Starts expression next more → (behind : List Wanted)
      (a : List Written) → Follows a (want.BehindOperand ∷ (more ++ behind)) → Reads (spelling e ++ a) (next ∷ behind)

pub within : {e : ExprTree} → ExprRead e → (m : ℕ) → Binds e m → {behind : List Wanted} {a : List Written}
    → Follows a (want.BehindOperand ∷ behind) → Reads (spelling e ++ a) (want.Expression ∷ behind)
within e m b {behind = behind} {a = a} f = e.reads m b want.Expression [] at_expression behind a f

-- where a pattern is wanted, with more behind it
pub record PatternRead (p : PatternTree) : Type 0 where
  pub reads : IsPattern p → (next : Wanted) (more : List Wanted) → Starts pattern next more → (behind : List Wanted) (a : List Written)
      → Reads a (want.BehindPattern ∷ (more ++ behind)) → Reads (pattern_spelling p ++ a) (next ∷ behind)

pub pattern_within : {p : PatternTree} → PatternRead p → IsPattern p → {behind : List Wanted} {a : List Written}
    → Reads a (want.BehindPattern ∷ behind) → Reads (pattern_spelling p ++ a) (want.Pattern ∷ behind)
pattern_within p b {behind = behind} {a = a} r = p.reads b want.Pattern [] at_pattern behind a r

abbrev pub ExprsRead : ExprTrees → Type 0
ExprsRead no_exprs = Unit {0}
ExprsRead (one_expr e es) = ExprRead e × ExprsRead es

abbrev pub GivenRead : MaybeExpr → Type 0
GivenRead left_out = Unit {0}
GivenRead (given_expr e) = ExprRead e

abbrev pub MapletsRead : MapletTrees → Type 0
MapletsRead no_maplets = Unit {0}
MapletsRead (one_maplet k v ms) = ExprRead k × ExprRead v × MapletsRead ms

abbrev pub FieldValuesRead : FieldValueTrees → Type 0
FieldValuesRead no_field_values = Unit {0}
FieldValuesRead (one_field_value n p v fs) = ExprRead v × FieldValuesRead fs

abbrev pub DefinitionsRead : DefinedTrees → Type 0
DefinitionsRead no_defined = Unit {0}
DefinitionsRead (one_defined p t v ds) = PatternRead p × ExprRead v × DefinitionsRead ds

abbrev pub BranchesRead : BranchTrees → Type 0
BranchesRead no_branches = Unit {0}
BranchesRead (one_branch c v bs) = ExprRead c × ExprRead v × BranchesRead bs

abbrev pub PatternsRead : PatternTrees → Type 0
PatternsRead no_patterns = Unit {0}
PatternsRead (one_pattern p ps) = PatternRead p × PatternsRead ps

abbrev pub MapletPatternsRead : MapletPatterns → Type 0
MapletPatternsRead no_maplet_patterns = Unit {0}
MapletPatternsRead (one_maplet_pattern k v ms) = PatternRead k × PatternRead v × MapletPatternsRead ms

abbrev pub CasesRead : CaseTrees → Type 0
CasesRead no_cases = Unit {0}
CasesRead (one_case ps v cs) = PatternsRead ps × ExprRead v × CasesRead cs

abbrev pub BindRead : BindTree → Type 0
BindRead (bind_in ps set) = PatternsRead ps × ExprRead set

abbrev pub BindsRead : BindTrees → Type 0
BindsRead no_binds = Unit {0}
BindsRead (one_bind b bs) = BindRead b × BindsRead bs
