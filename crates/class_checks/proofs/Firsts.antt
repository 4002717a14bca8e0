-- The first of some refusals.
use Rattle.std.proofs.Common.{◌≡◌, ◌↔◌, ◌⊎◌, inl, inr, Bool, true, false, List, [], ◌∷◌, Option, Some, None, cond, refl, ap, sym, ◌∙◌}
use Rattle.vdm_kinds.specs.declared.spec_fault.SpecFault.{SpecFault}
use Rattle.class_checks.specs.Results.{is_before, first_among}

none_is_some : {A B : Type 0} {a : A} → Some a ≡ None → B
none_is_some e = absurd (cc)

chosen : (b : Bool) (l r : SpecFault) → (f : SpecFault) × (cond b (Some r) (Some l) ≡ Some f) × ((f ≡ r) ⊎ (f ≡ l))
chosen true l r = (r, refl, inl refl)
chosen false l r = (l, refl, inr refl)

-- once something is refused, there is a first
some_first : (l : SpecFault) (xs : List SpecFault) → (f : SpecFault) × (first_among (Some l) xs ≡ Some f)
some_first l [] = (l, refl)
some_first l (x ∷ xs) =
    let c = chosen (is_before x l) l x in
    let r = some_first c.0 xs in
    (r.0, ap (λ (o : Option SpecFault). first_among o xs) c.1 ∙ r.1)

pub none_first : (xs : List SpecFault) → (first_among None xs ≡ None) ↔ (xs ≡ [])
none_first [] = (λ e. refl, λ e. refl)
none_first (x ∷ xs) =
    let r = some_first x xs in
    (λ (e : first_among (Some x) xs ≡ None). none_is_some (sym r.1 ∙ e), λ (e : x ∷ xs ≡ []). absurd (cc))
