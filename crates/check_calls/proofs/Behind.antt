-- What is called in a class, and behind the name of one that is there.
use Rattle.std.proofs.Common.{◌≡◌, ℕ, Bool, true, false, Option, Some, refl, ap, sym, ◌∙◌}
use Rattle.vdm_kinds.specs.declared.name.Name.{Name}
use Rattle.vdm_kinds.specs.declared.place.Place.{Place}
use Rattle.abstract_syntax.specs.Classes.{SpecTree}
use Rattle.class_meaning.specs.declared.ask.Ask.TheVariants.{Called}
use Rattle.member_meaning.specs.Meaning.{Meant, meaning}
use Rattle.class_meaning.specs.Members.{Member, of_type, of_value, of_variable, of_function, of_operation}
use Rattle.class_checks.specs.Callees.{callee_in, member_callee, meant_callee, callee_behind_class, looked_up_as}
use Rattle.class_checks.specs.Members.{is_below_number, read_member}
use Rattle.class_checks.specs.Scopes.{ScopeTree, scope_number}

-- neither a function nor an operation
abbrev pub is_looked_up : Member → Bool
is_looked_up (of_function f) = false
is_looked_up (of_operation o) = false
is_looked_up _ = true

module _ (spec : SpecTree) (scope : ScopeTree) where
  pub by_look_up : (own : Bool) (name_place head_place : Place) (n : ℕ) (place : Place) (owner : ℕ) (m : Member) → is_looked_up m ≡ true
      → member_callee spec scope own name_place head_place n place owner m
      ≡ looked_up_as spec scope (read_member spec scope name_place own owner m) head_place n place
  by_look_up own name_place head_place n place owner (of_type t) e = refl
  by_look_up own name_place head_place n place owner (of_value v) e = refl
  by_look_up own name_place head_place n place owner (of_variable v) e = refl
  by_look_up own name_place head_place n place owner (of_function f) e = absurd (cc)
  by_look_up own name_place head_place n place owner (of_operation o) e = absurd (cc)

  pub called_behind : (name : Name) (name_place head_place : Place) (n : ℕ) (place : Place) (o : Option ℕ) (k : ℕ) (own : Bool) → o ≡ Some k
      → own ≡ is_below_number spec (scope_number spec scope) k
      → callee_behind_class spec scope name name_place head_place n place o ≡ callee_in spec scope own name name_place head_place n place o
  called_behind name name_place head_place n place o k own e is =
      ap (callee_behind_class spec scope name name_place head_place n place) e
      ∙ ap (λ (b : Bool). callee_in spec scope b name name_place head_place n place (Some k)) (sym is)
      ∙ ap (callee_in spec scope own name name_place head_place n place) (sym e)

  pub called_in : (own : Bool) (name : Name) (name_place head_place : Place) (n : ℕ) (place : Place) (o : Option ℕ) (k : ℕ) (m : Meant) → o ≡ Some k
      → m ≡ meaning spec (Called name n) k
      → callee_in spec scope own name name_place head_place n place o ≡ meant_callee spec scope own name name_place head_place n place k m
  called_in own name name_place head_place n place o k m e is =
      ap (callee_in spec scope own name name_place head_place n place) e
      ∙ ap (meant_callee spec scope own name name_place head_place n place k) (sym is)
