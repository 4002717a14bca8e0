-- How long the sequences are that a pattern matches.
use Rattle.std.specs.Prelude.{◌≡◌, ℕ, ◌+◌, ◌≤◌, Bool, true, false, length, Option, Some, None}
use Rattle.abstract_syntax.specs.Literals.{text_literal}
use Rattle.abstract_syntax.specs.Expressions.{PatternTree, PatternTrees, literal_pattern, sequence_pattern, no_patterns, one_pattern}
use Rattle.pattern_meaning.specs.Ways.{count_of_patterns}

-- the one length, of a pattern that shows it
abbrev pub fixed_length : PatternTree → Option ℕ
fixed_length (sequence_pattern ps place) = Some (count_of_patterns ps)
fixed_length (literal_pattern (text_literal characters) place) = Some (length characters)
fixed_length _ = None

-- with what stands behind it
abbrev pub plus_length : Option ℕ → ℕ → ℕ
plus_length None n = n
plus_length (Some own) n = own + n

-- fronts of patterns one behind the other are at least as long as those together whose length shows
abbrev pub least_length : PatternTrees → ℕ
least_length no_patterns = 0
least_length (one_pattern p ps) = plus_length (fixed_length p) (least_length ps)

abbrev pub or_open : Option ℕ → Bool → Bool
or_open None rest = true
or_open (Some own) rest = rest

-- the length of some does not show
abbrev pub is_open : PatternTrees → Bool
is_open no_patterns = false
is_open (one_pattern p ps) = or_open (fixed_length p) (is_open ps)

-- a pattern may take a front of k of so many items, by the lengths that show
pub record MayTake (p : PatternTree) (ps : PatternTrees) (items : ℕ) (k : ℕ) : Type 0 where
  pub own : (n : ℕ) → fixed_length p ≡ Some n → k ≡ n
  pub rest : k + least_length ps ≤ items
  pub all : is_open ps ≡ false → k + least_length ps ≡ items
