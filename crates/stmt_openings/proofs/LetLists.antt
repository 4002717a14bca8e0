-- Lists behind `let`, and their trees.
use Rattle.std.proofs.Common.{◌≡◌, List, [], ◌∷◌, Some, None, refl, ap}
use Rattle.vdm_kinds.specs.declared.place.Place.{Place}
use Rattle.abstract_syntax.specs.Expressions.{PatternTree, one_defined, one_pattern}
use Rattle.abstract_syntax.specs.Statements.{StmtTree}
use Rattle.expr_tree.specs.declared.parts.Defined.{Defined}
use Rattle.expr_tree.specs.View.{defined_trees, defined_view, pattern_trees}
use Rattle.grammar_words.specs.declared.word.Word.TheVariants.{Comma}
use Rattle.grammar_words.specs.Tokens.{Token}
use Rattle.stmt_reading.specs.Leaves.{Read, onto, further, pattern_in, put, turns_for}
use Rattle.stmt_reading.specs.Statements.{Definition, defined_in, definition_in, definitions_tree, let_bind, let_definitions, patterns_tree}
use Rattle.stmt_parts.specs.Lists.{added, definition_rows}
use Rattle.stmt_openings.specs.Lets.{definitions_in, let_bound, let_defined}
use Rattle.std.proofs.Common.{map}

pub same_patterns : (ps : List PatternTree) → patterns_tree ps ≡ pattern_trees ps
same_patterns [] = refl
same_patterns (p ∷ ps) = ap (one_pattern p) (same_patterns ps)

pub same_definitions : (ds : List Defined) → definitions_tree (definition_rows ds) ≡ defined_trees (map defined_view ds)
same_definitions [] = refl
same_definitions (d ∷ ds) = ap (one_defined (defined_view d).pattern (defined_view d).declared (defined_view d).value) (same_definitions ds)

module _ (one : List Token → Read StmtTree) (place : Place) where
  put-first : (first : Definition) (read : Read (List Definition))
      → onto read (λ others b. let_defined one place (Some (first ∷ others, b))) ≡ let_defined one place (onto read (put first))
  put-first first None = refl
  put-first first (Some (others, b)) = refl

  first-defined : (read : Read Definition)
      → onto read (λ first a. onto (further Comma definition_in (turns_for a) a) (λ others b. let_defined one place (Some (first ∷ others, b))))
      ≡ let_defined one place (onto read (λ first rest. onto (further Comma definition_in (turns_for rest) rest) (put first)))
  first-defined None = refl
  first-defined (Some (first, a)) = put-first first (further Comma definition_in (turns_for a) a)

  pub let-defined : (p : PatternTree) (tokens : List Token) → let_definitions one place p tokens ≡ let_defined one place (definitions_in p tokens)
  let-defined p tokens = first-defined (defined_in p tokens)

  added-first : (p : PatternTree) (read : Read (List PatternTree))
      → onto read (λ others a. let_bound one place (Some (p ∷ others, a))) ≡ let_bound one place (added (p ∷ []) read)
  added-first p None = refl
  added-first p (Some (others, a)) = refl

  pub let-bound : (p : PatternTree) (tokens : List Token)
      → let_bind one place p tokens ≡ let_bound one place (added (p ∷ []) (further Comma pattern_in (turns_for tokens) tokens))
  let-bound p tokens = added-first p (further Comma pattern_in (turns_for tokens) tokens)
