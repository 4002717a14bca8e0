-- A search from its beginning to its end.
use Rattle.std.proofs.Common.{◌≡◌, ℕ, zero, suc, ◌<◌, ◌≤◌, Bool, true, false, List, [], ◌∷◌, map, length, get_or, refl, ap, sym, ◌∙◌, subst, arith, Option, Some, None, IsSomeAnd, Contains}
use Rattle.std.proofs.Common.{Result, Err}
use Rattle.std.specs.List.{filter_map}
use Rattle.vdm_kinds.specs.declared.halt.Halt.{Halt}
use Rattle.vdm_kinds.specs.declared.halt.Halt.TheVariants.{Of}
use Rattle.vdm_kinds.specs.declared.run_fault.RunFault.{RunFault}
use Rattle.vdm_kinds.specs.declared.name_at.TypeName.{TypeName}
use Rattle.abstract_syntax.specs.Expressions.{PatternTree}
use Rattle.abstract_syntax.specs.Values.{ValueTree}
use Rattle.pattern_meaning.specs.RecordTypes.{RecordType}
use Rattle.pattern_meaning.specs.Bindings.{Binding, first_of, with_way, IsPastLimits}
use Rattle.pattern_meaning.specs.Lists.{binding_of_list}
use Rattle.patterns.specs.Search.{binding_of, Begins, outcome, found}
use Rattle.patterns.specs.Todos.{to_match_each}
use Rattle.patterns.specs.declared.search.Search.{Search}
use Rattle.patterns.proofs.Picked.{length-map}
use Rattle.patterns.proofs.Several.{pairs_ways}
use Rattle.patterns.proofs.Steps.{begins_with_all}

get_or-map : {A B : Type 0} (f : A → B) (xs : List A) (n : ℕ) (x : A) → n < length xs → x ≡ get_or xs n x → get_or (map f xs) n (f x) ≡ f x
get_or-map f [] n x h e = absurd (omega arith)
get_or-map f (y ∷ ys) zero x h e = ap f (sym e)
get_or-map f (y ∷ ys) (suc n) x h e = get_or-map f ys n x (omega arith) e

-- what is made of an item stands in the list that is made of all
pub made_there : {A B : Type 0} (f : A → B) (xs : List A) (n : ℕ) (x : A) → n < length xs → x ≡ get_or xs n x → Contains (map f xs) (f x)
made_there f xs n x h e = (n, (let l : length (map f xs) ≡ length xs = length-map f xs in omega arith), get_or-map f xs n x h e)

-- there is a value for each pattern
module _ (types : TypeName → Option RecordType) (ps : List PatternTree) (given gs vs : List ValueTree) (enough : length ps ≤ length vs) (s new : Search) where
  ends : (any : Bool) → Begins (to_match_each ps vs) gs s → gs ≡ given → outcome any new ≡ first_of (found types s) →
      outcome any new ≡ binding_of_list types ps given vs
  ends any h g e =
      e ∙ ap first_of (begins_with_all types (to_match_each ps vs) gs s h) ∙
      ap (λ ws. first_of (filter_map (with_way []) ws)) (pairs_ways types ps vs gs enough) ∙
      ap (λ xs. binding_of_list types ps xs vs) g

  pub bind_found : (any : Bool) (xs list : Binding) → Begins (to_match_each ps vs) gs s → gs ≡ given → outcome any new ≡ first_of (found types s) →
      any ≡ true → xs ≡ binding_of new.names → list ≡ xs → Some list ≡ binding_of_list types ps given vs
  bind_found any xs list h g e t b l = ap Some (l ∙ b) ∙ ap (λ r. outcome r new) (sym t) ∙ ends any h g e

  pub bind_none : (any : Bool) → Begins (to_match_each ps vs) gs s → gs ≡ given → outcome any new ≡ first_of (found types s) → any ≡ false →
      None ≡ binding_of_list types ps given vs
  bind_none any h g e t = ap (λ r. outcome r new) (sym t) ∙ ends any h g e

  pub bind_past : (any : Bool) (xs : Binding) → Begins (to_match_each ps vs) gs s → gs ≡ given → outcome any new ≡ first_of (found types s) →
      any ≡ true → xs ≡ binding_of new.names → IsPastLimits xs → IsSomeAnd (binding_of_list types ps given vs) IsPastLimits
  bind_past any xs h g e t b past = subst (λ o. IsSomeAnd o IsPastLimits) (bind_found any xs xs h g e t b refl) past

-- a fault that is handed on is the one that came
pub handed_on : {T U : Type 0} (result : Result T (Halt RunFault)) (inner outer : Halt RunFault) (fault : RunFault) →
    result ≡ Err (Of fault) → result ≡ Err outer → outer ≡ inner → (other : Result U (Halt RunFault)) → other ≡ Err inner → other ≡ Err (Of fault)
handed_on result inner outer fault given is same other e = cc
