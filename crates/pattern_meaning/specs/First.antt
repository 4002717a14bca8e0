-- The first of the ways in which equal names stand for equal values.
use Rattle.std.specs.Prelude.{◌≡◌, List, [], ◌∷◌, ◌++◌, All, Some, None}
use Rattle.pattern_meaning.specs.Ways.{Way}
use Rattle.pattern_meaning.specs.Bindings.{Binding, with_way}

-- a way that comes to the binding, behind ways that come to none
pub record IsFirst (ways : List Way) (b : Binding) : Type 0 where
  pub before : List Way
  pub way : Way
  pub behind : List Way
  pub whole : ways ≡ before ++ way ∷ behind
  pub comes_to : with_way [] way ≡ Some b
  pub none_before : All (λ w. with_way [] w ≡ None) before
