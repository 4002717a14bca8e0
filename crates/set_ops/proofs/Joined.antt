-- The set of the members of two.
use Rattle.std.proofs.Common.{◌≡◌, Bool, true, false, not, List, ◌++◌, refl, ap, ◌∙◌, inl, inr}
use Rattle.std.specs.List.{filter}
use Rattle.abstract_syntax.specs.Values.{ValueTree}
use Rattle.abstract_syntax.specs.ValueSets.{set_value}
use Rattle.abstract_syntax.proofs.RisingLaws.{In}
use Rattle.value_operators.specs.Members.{has}
use Rattle.value_operators.specs.Sets.{union}
use Rattle.value_operators.proofs.Lists.{in_from_has, in_filter, from_filter, in_left, in_right, from_append, set_level}

module _ (vs ws : List ValueTree) where
  abbrev added : List ValueTree
  added = filter (λ v. not (has vs v)) ws ++ vs

  into : (v : ValueTree) → In added v → In (vs ++ ws) v
  into v i = elim (from_append (filter (λ w. not (has vs w)) ws) vs v i) [ inl j ↦ in_right vs ws v (from_filter (λ w. not (has vs w)) ws v j).0 | inr j ↦ in_left vs ws v j ]

  from_second : (v : ValueTree) → In ws v → (r : Bool) → has vs v ≡ r → In added v
  from_second v i true e = in_right (filter (λ w. not (has vs w)) ws) vs v (in_from_has vs v e)
  from_second v i false e = in_left (filter (λ w. not (has vs w)) ws) vs v (in_filter (λ w. not (has vs w)) ws v i (ap not e))

  back : (v : ValueTree) → In (vs ++ ws) v → In added v
  back v i = elim (from_append vs ws v i) [ inl j ↦ in_right (filter (λ w. not (has vs w)) ws) vs v j | inr j ↦ from_second v j (has vs v) refl ]

  pub union_is : (us : List ValueTree) → us ≡ filter (λ v. not (has vs v)) ws ++ vs → set_value us ≡ union vs ws
  union_is us e = ap set_value e ∙ set_level added (vs ++ ws) into back
