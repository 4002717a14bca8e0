-- What of a text is still to come: the last piece comes first.
use Rattle.std.specs.Prelude.{ℕ, List, [], ◌∷◌, ◌++◌}
use Rattle.abstract_syntax.specs.Values.{value_trees, pair_trees}
use Rattle.report_texts.specs.Values.{value_text, values_text, further_values, pairs_text, further_pairs}
use Rattle.value_text.specs.declared.piece.Piece.{Piece}
use Rattle.value_text.specs.declared.piece.Piece.TheVariants.{Word, One, Values, FurtherValues, Pairs, FurtherPairs}

abbrev pub piece_text : List (List ℕ) → Piece → List ℕ
piece_text names (Word word) = word.now
piece_text names (One value) = value_text names value.now
piece_text names (Values values) = values_text names (value_trees values.now)
piece_text names (FurtherValues values) = further_values names (value_trees values.now)
piece_text names (Pairs pairs) = pairs_text names (pair_trees pairs.now)
piece_text names (FurtherPairs pairs) = further_pairs names (pair_trees pairs.now)

unfoldable pub pieces_text : List (List ℕ) → List Piece → List ℕ
pieces_text names [] = []
pieces_text names (piece ∷ pieces) = pieces_text names pieces ++ piece_text names piece

-- what a text comes to with all that is still to come
abbrev pub whole_text : List (List ℕ) → List ℕ → List Piece → List ℕ
whole_text names text pieces = text ++ pieces_text names pieces
