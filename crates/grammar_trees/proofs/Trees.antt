-- A list of tokens is at most one tree, which is read off it.
use Rattle.std.proofs.Common.{◌≡◌, ◌↔◌, List, [], Some, sym, ap, ◌∙◌}
use Rattle.abstract_syntax.specs.Expressions.{ExprTree, PatternTree}
use Rattle.grammar_words.specs.Tokens.{Token}
use Rattle.type_reading.specs.Reading.{type_of}
use Rattle.type_reading.proofs.Read.{type-read}
use Rattle.type_reading.proofs.Spelled.{read-type}
use Rattle.grammar_trees.specs.Trees.{IsTree, IsPatternOf}
use Rattle.grammar_trees.specs.Frames.{Built, nothing, an_expr, a_pattern, wants, wants_pattern}
use Rattle.grammar_trees.specs.Machine.{in_mode, run}
use Rattle.grammar_trees.specs.Reading.{built_expr, built_pattern, expr_of, pattern_of}
use Rattle.grammar_trees.proofs.TypesTaken.{ReadsTypes}
use Rattle.grammar_trees.proofs.Takes.{expr-read, pattern-read}
use Rattle.grammar_trees.proofs.SoundRun.{FindsTypes, read-expr, read-pattern}

types-read : ReadsTypes type_of
types-read = record { reads = λ tokens tree s g. type-read tokens tree (record { spelled = s; grammatical = g }) }

types-found : FindsTypes type_of
types-found = record { finds = λ tokens tree e. read-type tokens tree e }

is_expr : (built : Built) (tree : ExprTree) → built_expr built ≡ Some tree → built ≡ an_expr tree
is_expr (an_expr e) tree q = let same : e ≡ tree = cc in ap (λ (x : ExprTree). an_expr x) same
is_expr (a_pattern p) tree q = absurd (cc)
is_expr nothing tree q = absurd (cc)

is_pattern : (built : Built) (tree : PatternTree) → built_pattern built ≡ Some tree → built ≡ a_pattern tree
is_pattern (an_expr e) tree q = absurd (cc)
is_pattern (a_pattern p) tree q = let same : p ≡ tree = cc in ap (λ (x : PatternTree). a_pattern x) same
is_pattern nothing tree q = absurd (cc)

pub expr-is : (tokens : List Token) (tree : ExprTree) → (expr_of tokens ≡ Some tree) ↔ IsTree tokens tree
expr-is tokens tree =
    (λ q. read-expr type_of types-found tokens tree (is_expr (run type_of tokens (in_mode wants [])) tree q), λ h. ap built_expr (expr-read type_of types-read tokens tree h))

pub pattern-is : (tokens : List Token) (tree : PatternTree) → (pattern_of tokens ≡ Some tree) ↔ IsPatternOf tokens tree
pattern-is tokens tree =
    (λ q. read-pattern type_of types-found tokens tree (is_pattern (run type_of tokens (in_mode wants_pattern [])) tree q), λ h. ap built_pattern (pattern-read type_of types-read tokens tree h))

same_expr : (a b : ExprTree) → Some a ≡ Some b → a ≡ b
same_expr a b e = cc

same_pattern : (a b : PatternTree) → Some a ≡ Some b → a ≡ b
same_pattern a b e = cc

pub one_tree : (tokens : List Token) (a b : ExprTree) → IsTree tokens a → IsTree tokens b → a ≡ b
one_tree tokens a b h k = same_expr a b (sym ((expr-is tokens a).1 h) ∙ (expr-is tokens b).1 k)

pub one_pattern : (tokens : List Token) (a b : PatternTree) → IsPatternOf tokens a → IsPatternOf tokens b → a ≡ b
one_pattern tokens a b h k = same_pattern a b (sym ((pattern-is tokens a).1 h) ∙ (pattern-is tokens b).1 k)
