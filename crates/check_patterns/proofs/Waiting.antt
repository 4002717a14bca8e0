-- What patterns bind that are still to be matched: what was put last comes first.
use Rattle.std.proofs.Common.{◌≡◌, ℕ, ◌+◌, ◌-◌, List, [], ◌∷◌, ◌++◌, map, take, Result, Ok, Err, IfOk, refl, sym, ap, ◌∙◌, append-nil, append_assoc, Vec, Global}
use Rattle.std.specs.Prelude.{Option, Some, None, MatchOption, option_to_list}
use Rattle.vdm_kinds.specs.declared.name.Name.{Name}
use Rattle.abstract_syntax.specs.Classes.{SpecTree}
use Rattle.class_checks.specs.Scopes.{LocalForm}
use Rattle.check_patterns.specs.Pending.{pending_binds, still, all_found, found_before}
use Rattle.check_patterns.specs.declared.pending.Pending.{Pending}
use Rattle.check_patterns.specs.Shown.{local_view}
use Rattle.check_patterns.specs.declared.local_form.LocalForm.{LocalForm as Local}
use Rattle.check_patterns.specs.declared.pending.Binding.{Binding}

module _ (spec : SpecTree) (class : Name) where
  none_waiting : still spec class [] ≡ []
  unfolding still
  none_waiting = refl

  last_first : (waiting : List Pending) (next : Pending) → still spec class (waiting ++ next ∷ []) ≡ pending_binds spec class next ++ still spec class waiting
  unfolding still
  last_first [] next = sym (append-nil (pending_binds spec class next))
  last_first (low ∷ above) next =
      ap (λ (found : List LocalForm). found ++ pending_binds spec class low) (last_first above next)
      ∙ append_assoc (pending_binds spec class next) (still spec class above) (pending_binds spec class low)

  more_waiting : (before after : List Pending) (next : Pending) → after ≡ before ++ next ∷ []
      → still spec class after ≡ pending_binds spec class next ++ still spec class before
  more_waiting before after next e = ap (still spec class) e ∙ last_first before next

  -- what was put
  pub put_on : (found : List LocalForm) (before after : List Pending) (next : Pending) → after ≡ before ++ next ∷ []
      → found ++ still spec class after ≡ found ++ (pending_binds spec class next ++ still spec class before)
  put_on found before after next e = ap (λ (rest : List LocalForm). found ++ rest) (more_waiting before after next e)

  pub put_behind : (found first : List LocalForm) (before after : List Pending) (next : Pending) → after ≡ before ++ next ∷ []
      → found ++ (first ++ still spec class after) ≡ found ++ ((first ++ pending_binds spec class next) ++ still spec class before)
  put_behind found first before after next e =
      ap (λ (rest : List LocalForm). found ++ (first ++ rest)) (more_waiting before after next e)
      ∙ ap (λ (rest : List LocalForm). found ++ rest) (sym (append_assoc first (pending_binds spec class next) (still spec class before)))

  -- what was taken from the end
  pub popped : (result : Option Pending) (found : List LocalForm) (old new : List Pending) (m n : ℕ)
      → old ≡ new ++ option_to_list result → new ≡ take (n - 1) old → MatchOption result ((n ≡ 0) × (m ≡ 0)) (λ _. m + 1 ≡ n)
      → MatchOption result (found ++ still spec class old ≡ found) (λ next. found ++ still spec class old ≡ found ++ (pending_binds spec class next ++ still spec class new))
  popped None found old new m n items rest cases =
      let none : new ≡ [] = rest ∙ ap (λ k. take (k - 1) old) cases.0 in
      ap (λ (w : List Pending). found ++ still spec class w) (items ∙ append-nil new ∙ none)
      ∙ ap (λ (w : List LocalForm). found ++ w) none_waiting
      ∙ append-nil found
  popped (Some next) found old new m n items rest cases = put_on found new old next items

  -- the same is found, said otherwise
  pub same_found : {E : Type 0} (r : Result Binding E) (binding : Binding) (xs ys : List LocalForm) → xs ≡ ys
      → IfOk r (λ all. all_found spec class all ≡ found_before spec class binding xs)
      → IfOk r (λ all. all_found spec class all ≡ found_before spec class binding ys)
  same_found (Ok all) binding xs ys e is = is ∙ ap (found_before spec class binding) e
  same_found (Err error) binding xs ys e is = tt

  -- where others were put behind it first
  pub found_through : {E : Type 0} (r : Result Binding E) (between binding : Binding) (xs ys : List LocalForm)
      → found_before spec class between xs ≡ found_before spec class binding ys
      → IfOk r (λ all. all_found spec class all ≡ found_before spec class between xs)
      → IfOk r (λ all. all_found spec class all ≡ found_before spec class binding ys)
  found_through (Ok all) between binding xs ys e is = is ∙ e
  found_through (Err error) between binding xs ys e is = tt

  -- all of what was put on nothing
  pub found_whole : {E : Type 0} (r : Result (Vec Local Global) E) (start between : Binding) (xs ys : List LocalForm) → start.pending.items ≡ []
      → all_found spec class between ≡ found_before spec class start xs → xs ≡ ys
      → IfOk r (λ all. map local_view all.items ≡ all_found spec class between)
      → IfOk r (λ all. map local_view all.items ≡ map local_view start.found.items ++ ys)
  found_whole (Ok all) start between xs ys none put same is =
      is ∙ put
      ∙ ap (λ (w : List Pending). map local_view start.found.items ++ (xs ++ still spec class w)) none
      ∙ ap (λ (w : List LocalForm). map local_view start.found.items ++ (xs ++ w)) none_waiting
      ∙ ap (λ (w : List LocalForm). map local_view start.found.items ++ w) (append-nil xs ∙ same)
  found_whole (Err error) start between xs ys none put same is = tt

  pub found_alone : {E : Type 0} (r : Result (Vec Local Global) E) (start between : Binding) (xs ys : List LocalForm) → start.found.items ≡ [] → start.pending.items ≡ []
      → all_found spec class between ≡ found_before spec class start xs → xs ≡ ys
      → IfOk r (λ all. map local_view all.items ≡ all_found spec class between)
      → IfOk r (λ all. map local_view all.items ≡ ys)
  found_alone {E = E} (Ok all) start between xs ys nothing none put same is =
      found_whole {E = E} (Ok all) start between xs ys none put same is ∙ ap (λ (w : List Local). map local_view w ++ ys) nothing
  found_alone (Err error) start between xs ys nothing none put same is = tt
