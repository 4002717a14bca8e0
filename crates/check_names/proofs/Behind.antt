-- What stands behind the name of a class that is there.
use Rattle.std.proofs.Common.{◌≡◌, ℕ, Bool, Option, Some, ap, sym, ◌∙◌}
use Rattle.vdm_kinds.specs.declared.name.Name.{Name}
use Rattle.vdm_kinds.specs.declared.place.Place.{Place}
use Rattle.abstract_syntax.specs.Classes.{SpecTree}
use Rattle.class_checks.specs.Members.{is_below_number, read_in, read_behind_class}
use Rattle.class_checks.specs.Scopes.{ScopeTree, scope_number}

module _ (spec : SpecTree) (scope : ScopeTree) where
  pub read_behind : (name : Name) (name_place place : Place) (o : Option ℕ) (k : ℕ) (own : Bool) → o ≡ Some k
      → own ≡ is_below_number spec (scope_number spec scope) k
      → read_behind_class spec scope name name_place place o ≡ read_in spec scope name_place own name o
  read_behind name name_place place o k own e is =
      ap (read_behind_class spec scope name name_place place) e
      ∙ ap (λ (b : Bool). read_in spec scope name_place b name (Some k)) (sym is)
      ∙ ap (read_in spec scope name_place own name) (sym e)
