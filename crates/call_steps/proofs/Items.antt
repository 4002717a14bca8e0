-- Items of lists by their numbers, and what is known of actions.
use Rattle.std.proofs.Common.{◌≡◌, ◌+◌, ℕ, zero, suc, List, [], ◌∷◌, length, drop, slice_get, Option, Some, None, option_map, Result, Ok, Err, IfOk, Bor, refl, ap, sym, ◌∙◌, add-one}
use Rattle.std.proofs.lemmas.List.{drop_more}
use Rattle.std.specs.Slice.{IsItemAt}
use Rattle.std.proofs.lemmas.Option.{slice_get_within, slice_get_past, slice_get_read, get_or_from_slice_get}
use Rattle.vdm_kinds.specs.declared.halt.OutOfMemory.{OutOfMemory}
use Rattle.abstract_syntax.specs.Classes.{SpecTree}
use Rattle.node_meaning.specs.Envs.{Locals}
use Rattle.node_meaning.specs.Tasks.{Code}
use Rattle.step_data.specs.declared.action.Action.{Action}
use Rattle.step_data.specs.Actions.{action_code}

-- ---- items of lists, by their numbers

pub item_at : {X : Type 0} (xs : List X) (i : ℕ) (r : Option (Bor X)) → IsItemAt xs i r → option_map (λ (x : Bor X). x.now) r ≡ slice_get xs i
item_at xs i None h = sym (slice_get_past xs i h.3)
item_at xs i (Some x) h = sym (slice_get_read xs (length xs) i x.now refl h.3.0 h.1)

pub there : {X : Type 0} (xs : List X) (i : ℕ) (x : X) → slice_get xs i ≡ Some x → drop i xs ≡ x ∷ drop (i + 1) xs
there {X} xs i x is =
    drop_more xs i x (slice_get_within xs i x is) ∙ ap (λ (y : X). y ∷ drop (i + 1) xs) (get_or_from_slice_get xs i x x is)

pub none_there : {X : Type 0} (xs : List X) (i : ℕ) → slice_get xs i ≡ None → drop i xs ≡ []
none_there [] zero none = refl
none_there [] (suc i) none = refl
none_there (x ∷ xs) zero none = cc
none_there (x ∷ xs) (suc i) none = none_there xs i none

none_more : {X : Type 0} (xs : List X) (i : ℕ) → slice_get xs i ≡ None → drop (suc i) xs ≡ []
none_more [] i none = refl
none_more (x ∷ xs) zero none = cc
none_more (x ∷ xs) (suc i) none = none_more xs i none

pub none_behind : {X : Type 0} (xs : List X) (i : ℕ) → slice_get xs i ≡ None → drop (i + 1) xs ≡ []
none_behind xs i none = rw add-one (none_more xs i none)

-- what a step that is known says at this specification and these locals
pub at_these : (spec : SpecTree) (locals : Locals) (r : Result Action OutOfMemory) (code : SpecTree → Locals → Code) (whole : Code)
    → IfOk r (λ a. (s : SpecTree) (l : Locals) → action_code s l a ≡ code s l) → code spec locals ≡ whole → IfOk r (λ a. action_code spec locals a ≡ whole)
at_these spec locals (Ok a) code whole h e = h spec locals ∙ e
at_these spec locals (Err x) code whole h e = tt
