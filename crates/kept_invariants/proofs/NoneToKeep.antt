-- An object whose class has no invariants keeps them always.
use Rattle.std.proofs.Common.{◌≡◌, ℕ, true, false, List, [], ◌∷◌, Option, Some, None, refl}
use Rattle.vdm_kinds.specs.declared.name.Name.{Name}
use Rattle.abstract_syntax.specs.Classes.{SpecTree}
use Rattle.class_meaning.specs.Classes.{class_number}
use Rattle.stmt_meaning.specs.Keeping.{Holding, Invariant, all_hold, invariants, keeps, kept_by}
use Rattle.kept_invariants.specs.Presence.{has_any, has_invariants, invariants_by}

module _ (spec : SpecTree) (class : Name) (holding : Holding) where
  none_hold : (is : List Invariant) → has_any is ≡ false → all_hold spec class holding is ≡ true
  none_hold [] e = refl
  none_hold (i ∷ is) e = absurd (cc)

  by_number : (o : Option ℕ) → has_any (invariants_by spec o) ≡ false → kept_by spec class holding o ≡ true
  by_number None e = refl
  by_number (Some k) e = none_hold (invariants spec k) e

  pub none_to_keep : has_invariants spec class ≡ false → keeps spec class holding ≡ true
  none_to_keep e = by_number (class_number spec class) e
