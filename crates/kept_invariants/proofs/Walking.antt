-- The classes of an object, one after another.
use Rattle.std.proofs.Common.{◌≡◌, ℕ, ◌+◌, ◌<◌, ◌≤◌, Bool, true, false, List, length, get_or, drop, Some, None, refl, ap, ◌∙◌}
use Rattle.vdm_kinds.specs.declared.name.Name.{Name}
use Rattle.abstract_syntax.specs.Classes.{SpecTree}
use Rattle.expr_eval.specs.declared.env.Env.{Env}
use Rattle.kept_invariants.specs.Guarding.{all_hold_in, line_holds, own_conditions, own_hold}
use Rattle.kept_invariants.proofs.Rounds.{stops, goes_on, ended}

module _ (spec : SpecTree) (first : Env) (names : List Name) (i : ℕ) (so_far : line_holds spec first (drop i names) ≡ line_holds spec first names) where
  -- behind the last
  pub line_ended : length names ≤ i → true ≡ line_holds spec first names
  line_ended past = ended (line_holds spec first) (own_hold spec first) (λ x xs. refl) names i refl past so_far

  -- the object stands where it stood, but for the class
  module _ (env : Env) (same : record env { scope = None } ≡ record first { scope = None }) (below : i < length names) (other : Name) (b : Bool)
      (says : b ≡ all_hold_in spec (record env { scope = Some (get_or names i other) }) (own_conditions spec (get_or names i other))) where
    says_first : b ≡ own_hold spec first (get_or names i other)
    says_first = says ∙ ap (λ (e : Env). all_hold_in spec (record e { scope = Some (get_or names i other) }) (own_conditions spec (get_or names i other))) same

    pub line_stops : b ≡ false → false ≡ line_holds spec first names
    line_stops fails = stops (line_holds spec first) (own_hold spec first) (λ x xs. refl) names i (get_or names i other) other below refl so_far b says_first fails

    pub line_goes_on : b ≡ true → line_holds spec first (drop (i + 1) names) ≡ line_holds spec first names
    line_goes_on passes = goes_on (line_holds spec first) (own_hold spec first) (λ x xs. refl) names i (get_or names i other) other below refl so_far b says_first passes
