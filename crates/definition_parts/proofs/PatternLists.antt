-- Patterns as a list, and as a part of a tree.
use Rattle.std.proofs.Common.{◌≡◌, List, [], ◌∷◌, Some, None, Result, Ok, Err, Vec, Global, refl, ap, sym, ◌∙◌}
use Rattle.vdm_kinds.specs.declared.halt.Halt.{Halt}
use Rattle.abstract_syntax.specs.Expressions.{PatternTree, PatternTrees, no_patterns, one_pattern}
use Rattle.expr_tree.specs.declared.pattern.Pattern.{Pattern}
use Rattle.expr_tree.specs.View.{pattern_trees, pattern_views}
use Rattle.grammar_words.specs.Tokens.{Token}
use Rattle.stmt_reading.specs.Leaves.{Read, onto}
use Rattle.stmt_reading.specs.Statements.{patterns_tree}
use Rattle.leaf_reader.specs.declared.no_tree.NoTree.{NoTree}
use Rattle.leaf_reader.specs.Reads.{Reads}
use Rattle.stmt_parts.specs.Lists.{patterns_view as trees_view}
use Rattle.definition_parts.specs.Parts.{patterns_view}

abbrev list_of : PatternTrees → List PatternTree
list_of no_patterns = []
list_of (one_pattern p ps) = p ∷ list_of ps

read-kept : (ps : List PatternTree) → list_of (patterns_tree ps) ≡ ps
read-kept [] = refl
read-kept (p ∷ ps) = ap (λ (others : List PatternTree). p ∷ others) (read-kept ps)

built-kept : (ps : List PatternTree) → list_of (pattern_trees ps) ≡ ps
built-kept [] = refl
built-kept (p ∷ ps) = ap (λ (others : List PatternTree). p ∷ others) (built-kept ps)

abbrev listed : Read PatternTrees → Read (List PatternTree)
listed None = None
listed (Some found) = Some (list_of found.0, found.1)

abbrev treed : Read (List PatternTree) → Read PatternTrees
treed read = onto read (λ (ps : List PatternTree) (rest : List Token). Some (patterns_tree ps, rest))

listed-back : (read : Read (List PatternTree)) → read ≡ listed (treed read)
listed-back None = refl
listed-back (Some (ps, rest)) = ap (λ (list : List PatternTree). Some (list, rest)) (sym (read-kept ps))

-- what is read as a part of a tree is read as a list
pub as-list : (result : Result (Vec Pattern Global) (Halt NoTree)) (read : Read (List PatternTree)) (rest : List Token) → Reads result trees_view (treed read) rest → Reads result patterns_view read rest
as-list (Ok patterns) read rest r =
    record {
      given = listed-back read ∙ ap listed r.given ∙ ap (λ (list : List PatternTree). Some (list, rest)) (built-kept (pattern_views patterns.items));
      refused = λ e. absurd (cc);
    }
as-list (Err stop) read rest r = record { given = tt; refused = λ e. listed-back read ∙ ap listed (r.refused e) }
