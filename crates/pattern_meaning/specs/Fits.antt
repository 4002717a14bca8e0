-- What it is that a pattern matches a value, whatever is tried first: which of its names stand for what.
use Rattle.std.specs.Prelude.{◌≡◌, List, [], ◌∷◌, ◌++◌, drop, Option, Some}
use Rattle.vdm_kinds.specs.declared.name_at.TypeName.{TypeName}
use Rattle.abstract_syntax.specs.Expressions.{
  PatternTree,
  PatternTrees,
  MapletPatterns,
  any_value,
  bound,
  literal_pattern,
  equal_to,
  set_pattern,
  sequence_pattern,
  map_pattern,
  empty_map_pattern,
  tuple_pattern,
  record_pattern,
  concatenation_pattern,
  no_patterns,
  one_pattern,
  no_maplet_patterns,
  one_maplet_pattern,
}
use Rattle.abstract_syntax.specs.Values.{ValueTree, sequence, value_trees}
use Rattle.abstract_syntax.specs.ValueSets.{Entry}
use Rattle.pattern_meaning.specs.RecordTypes.{RecordType}
use Rattle.pattern_meaning.specs.Ways.{
  Way,
  literal_value,
  brackets,
  items_in,
  elements_in,
  components_in,
  entries_in,
  fields_in,
}

-- some first part fits, and the others with it
pub record Both (First Others : Way → Type 0) (w : Way) : Type 0 where
  pub front : Way
  pub behind : Way
  pub whole : w ≡ front ++ behind
  pub first : First front
  pub others : Others behind

-- one of the items fits, and what stands before and behind it fits with it
pub record OneOf (A : Type 0) (xs : List A) (Fit : A → List A → Type 0) : Type 0 where
  pub before : List A
  pub item : A
  pub behind : List A
  pub whole : xs ≡ before ++ item ∷ behind
  pub fits : Fit item (before ++ behind)

-- some front and the rest behind it fit
pub record Cut (A : Type 0) (xs : List A) (Fit : List A → List A → Type 0) : Type 0 where
  pub front : List A
  pub rest : List A
  pub whole : xs ≡ front ++ rest
  pub fits : Fit front rest

-- the value has such parts, and they fit
pub record HasParts (A : Type 0) (parts : Option A) (Fit : A → Type 0) : Type 0 where
  pub those : A
  pub are : parts ≡ Some those
  pub fits : Fit those

module _ (types : TypeName → Option RecordType) where
  abbrev mutual
    pub Fits : PatternTree → List ValueTree → ValueTree → Way → Type 0
    Fits (any_value place) given v w = w ≡ []
    Fits (bound name place) given v w = w ≡ (name, v) ∷ []
    Fits (literal_pattern literal place) given v w = (v ≡ literal_value literal) × (w ≡ [])
    Fits (equal_to inner place) given v w = ((rest : List ValueTree) × (given ≡ v ∷ rest)) × (w ≡ [])
    Fits (set_pattern ps place) given v w = HasParts (List ValueTree) (elements_in v) (λ vs. FitsSet ps given vs w)
    Fits (sequence_pattern ps place) given v w = HasParts (List ValueTree) (items_in v) (λ vs. FitsItems ps given vs w)
    Fits (map_pattern ms place) given v w = HasParts (List Entry) (entries_in v) (λ es. FitsMap ms given es w)
    Fits (empty_map_pattern place) given v w = (entries_in v ≡ Some []) × (w ≡ [])
    Fits (tuple_pattern ps place) given v w = HasParts (List ValueTree) (components_in v) (λ vs. FitsItems ps given vs w)
    Fits (record_pattern t ps place) given v w = HasParts (List ValueTree) (fields_in (types t) v) (λ vs. FitsItems ps given vs w)
    Fits (concatenation_pattern ps place) given v w = HasParts (List ValueTree) (items_in v) (λ vs. FitsFronts ps given vs w)

    -- each pattern its item
    pub FitsItems : PatternTrees → List ValueTree → List ValueTree → Way → Type 0
    FitsItems no_patterns given vs w = (vs ≡ []) × (w ≡ [])
    FitsItems (one_pattern p ps) given [] w = ⊥
    FitsItems (one_pattern p ps) given (v ∷ vs) w = Both (Fits p given v) (FitsItems ps (drop (brackets p) given) vs) w

    -- each pattern an element of its own, and no element is left
    pub FitsSet : PatternTrees → List ValueTree → List ValueTree → Way → Type 0
    FitsSet no_patterns given vs w = (vs ≡ []) × (w ≡ [])
    FitsSet (one_pattern p ps) given vs w =
        OneOf ValueTree vs (λ v others. Both (Fits p given v) (FitsSet ps (drop (brackets p) given) others) w)

    -- each maplet a pair of its own, and no pair is left
    pub FitsMap : MapletPatterns → List ValueTree → List Entry → Way → Type 0
    FitsMap no_maplet_patterns given es w = (es ≡ []) × (w ≡ [])
    FitsMap (one_maplet_pattern p q ms) given es w =
        OneOf Entry es
        (λ e others.
        Both (Fits p given e.0)
        (Both (Fits q (drop (brackets p) given) e.1) (FitsMap ms (drop (brackets q) (drop (brackets p) given)) others)) w)

    -- each pattern a front of what those before it leave, and nothing is left
    pub FitsFronts : PatternTrees → List ValueTree → List ValueTree → Way → Type 0
    FitsFronts no_patterns given vs w = (vs ≡ []) × (w ≡ [])
    FitsFronts (one_pattern p ps) given vs w =
        Cut ValueTree vs
        (λ front rest. Both (Fits p given (sequence (value_trees front))) (FitsFronts ps (drop (brackets p) given) rest) w)
