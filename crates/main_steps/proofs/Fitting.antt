-- Class objects whose slots are tested.
use Rattle.std.proofs.Common.{◌≡◌, ◌≤◌, ◌+◌, ℕ, zero, suc, List, [], ◌∷◌, length, drop, slice_get, Option, Some, None, option_map, Result, Ok, Err, IfOk, Bor, refl, ap, sym, ◌∙◌, add-one}
use Rattle.std.proofs.lemmas.List.{drop_more}
use Rattle.std.specs.Slice.{IsItemAt}
use Rattle.std.proofs.lemmas.Option.{slice_get_within, slice_get_past, slice_get_read, get_or_from_slice_get}
use Rattle.vdm_kinds.specs.declared.halt.OutOfMemory.{OutOfMemory}
use Rattle.vdm_kinds.specs.declared.member.VarRef.{VarRef}
use Rattle.vdm_kinds.specs.declared.place.Place.{Place}
use Rattle.vdm_values.specs.declared.slot.Slot.{Slot}
use Rattle.abstract_syntax.specs.Classes.{SpecTree}
use Rattle.run_journal.specs.declared.question.Question.TheVariants.{Class}
use Rattle.plans.specs.Plans.{ask, part, bind}
use Rattle.node_meaning.specs.Envs.{Locals}
use Rattle.node_meaning.specs.Names.{variable_definition}
use Rattle.node_meaning.specs.Tasks.{Code, noted}
use Rattle.stmt_meaning.specs.Questions.{of_thread}
use Rattle.vdm_meaning.specs.Main.{came, static_typed, statics_typed}
use Rattle.expr_tree.specs.declared.expr.Expr.{Expr}
use Rattle.eval_data.specs.declared.frame.Frame.{Frame}
use Rattle.eval_data.specs.declared.here.Here.{Here}
use Rattle.eval_data.specs.Steps.{frame_then}
use Rattle.step_data.specs.declared.action.Action.{Action}
use Rattle.step_data.specs.declared.class_making.ClassMaking.{ClassMaking}
use Rattle.step_data.specs.Actions.{action_code}
use Rattle.step_data.specs.Callings.{class_behind, statics_tested}
use Rattle.step_data.specs.Parts.{expression_in}
use Rattle.main_steps.specs.Trials.{tried_code}
use Rattle.main_steps.specs.declared.testing.Tried.{Tried}
use Rattle.main_steps.specs.declared.testing.Tried.TheVariants.{Asks}

-- ---- slots behind the first so many

pub item_at : {X : Type 0} (xs : List X) (i : ℕ) (r : Option (Bor X)) → IsItemAt xs i r → option_map (λ (x : Bor X). x.now) r ≡ slice_get xs i
item_at xs i None h = sym (slice_get_past xs i h.3)
item_at xs i (Some x) h = sym (slice_get_read xs (length xs) i x.now refl h.3.0 h.1)

there : {X : Type 0} (xs : List X) (i : ℕ) (x : X) → slice_get xs i ≡ Some x → drop i xs ≡ x ∷ drop (i + 1) xs
there {X} xs i x is =
    drop_more xs i x (slice_get_within xs i x is) ∙ ap (λ (y : X). y ∷ drop (i + 1) xs) (get_or_from_slice_get xs i x x is)

none_there : {X : Type 0} (xs : List X) (i : ℕ) → slice_get xs i ≡ None → drop i xs ≡ []
none_there [] zero none = refl
none_there [] (suc i) none = refl
none_there (x ∷ xs) zero none = cc
none_there (x ∷ xs) (suc i) none = none_there xs i none

none_more : {X : Type 0} (xs : List X) (i : ℕ) → slice_get xs i ≡ None → drop (suc i) xs ≡ []
none_more [] i none = refl
none_more (x ∷ xs) zero none = cc
none_more (x ∷ xs) (suc i) none = none_more xs i none

none_behind : {X : Type 0} (xs : List X) (i : ℕ) → slice_get xs i ≡ None → drop (i + 1) xs ≡ []
none_behind xs i none = rw add-one (none_more xs i none)

no_variable : (spec : SpecTree) (vars : List VarRef) (slots : List Slot) (further : Code) → vars ≡ [] → statics_typed spec vars slots further ≡ further
no_variable spec vars slots further e = rw e refl

no_slot : (spec : SpecTree) (vars : List VarRef) (slots : List Slot) (further : Code) → slots ≡ [] → statics_typed spec vars slots further ≡ further
no_slot spec [] slots further e = refl
no_slot spec (var ∷ vars) slots further e = rw e refl

module _ (spec : SpecTree) (vars : List VarRef) (slots : List Slot) (further : Code) (n : ℕ) where
  -- where there is no variable or no slot of this number, none is left
  pub without_variable : slice_get vars n ≡ None
      → statics_typed spec (drop (n + 1) vars) (drop (n + 1) slots) further ≡ statics_typed spec (drop n vars) (drop n slots) further
  without_variable none =
      no_variable spec (drop (n + 1) vars) (drop (n + 1) slots) further (none_behind vars n none)
      ∙ sym (no_variable spec (drop n vars) (drop n slots) further (none_there vars n none))

  pub without_slot : slice_get slots n ≡ None
      → statics_typed spec (drop (n + 1) vars) (drop (n + 1) slots) further ≡ statics_typed spec (drop n vars) (drop n slots) further
  without_slot none =
      no_slot spec (drop (n + 1) vars) (drop (n + 1) slots) further (none_behind slots n none)
      ∙ sym (no_slot spec (drop n vars) (drop n slots) further (none_there slots n none))

  -- ... else it is tested, and then those behind it
  pub with_slot : (var : VarRef) (slot : Slot) → slice_get vars n ≡ Some var → slice_get slots n ≡ Some slot
      → static_typed spec var.class (variable_definition spec var) slot (statics_typed spec (drop (n + 1) vars) (drop (n + 1) slots) further)
      ≡ statics_typed spec (drop n vars) (drop n slots) further
  with_slot var slot is held = rw (there vars n var is, there slots n slot held) refl

  pub slot_next : (after : Locals) (var : VarRef) (slot : Slot) (r : Result Tried OutOfMemory) → slice_get vars n ≡ Some var → slice_get slots n ≡ Some slot
      → IfOk r (λ t. (next : Code) → tried_code spec after next t ≡ static_typed spec var.class (variable_definition spec var) slot next)
      → IfOk r (λ t. tried_code spec after (statics_typed spec (drop (n + 1) vars) (drop (n + 1) slots) further) t ≡ statics_typed spec (drop n vars) (drop n slots) further)
  slot_next after var slot (Ok t) is held h = h (statics_typed spec (drop (n + 1) vars) (drop (n + 1) slots) further) ∙ with_slot var slot is held
  slot_next after var slot (Err x) is held h = tt

  -- behind all slots
  pub all_tested : length slots ≤ n → further ≡ statics_typed spec (drop n vars) (drop n slots) further
  all_tested past = sym (no_slot spec (drop n vars) (drop n slots) further (none_there slots n (slice_get_past slots n past)))

-- ---- the slots of a class object

-- it is asked for, and then those behind it follow
abbrev pub class_asked : SpecTree → ClassMaking → Code
class_asked spec m = ask (noted (Class m.object m.class m.slots.items)) (λ answer. class_behind spec m)

module _ (spec : SpecTree) (making lent : ClassMaking) (index : ℕ) (same : lent ≡ making) where
  -- a slot whose test asks for an invariant
  pub asks_next : (after : Locals) (t : Tried) (here : Here) (tree : Bor Expr) (inner : Frame) (place : Place) (whole : Code)
      → t ≡ Asks here tree inner place
      → tried_code spec after (statics_tested spec lent (index + 1)) t ≡ statics_tested spec lent index
      → statics_tested spec making index ≡ whole
      → bind (part (expression_in here tree after) (frame_then (of_thread spec) inner)) (came place (λ v. statics_tested spec making (index + 1))) ≡ whole
  asks_next after t here tree inner place whole is next left =
      ap (λ (m : ClassMaking). bind (part (expression_in here tree after) (frame_then (of_thread spec) inner)) (came place (λ v. statics_tested spec m (index + 1)))) (sym same)
      ∙ ap (λ (x : Tried). tried_code spec after (statics_tested spec lent (index + 1)) x) (sym is)
      ∙ next
      ∙ ap (λ (m : ClassMaking). statics_tested spec m index) same
      ∙ left

-- behind the last slot
pub asked_last : (spec : SpecTree) (making : ClassMaking) (index : ℕ) (whole : Code) → length making.slots.items ≤ index → statics_tested spec making index ≡ whole
    → class_asked spec making ≡ whole
asked_last spec making index whole past left = all_tested spec making.variables.now making.slots.items (class_asked spec making) index past ∙ left

-- what a step that is known says at this specification and these locals
pub at_these : (spec : SpecTree) (locals : Locals) (r : Result Action OutOfMemory) (code : SpecTree → Locals → Code) (whole : Code)
    → IfOk r (λ a. (s : SpecTree) (l : Locals) → action_code s l a ≡ code s l) → code spec locals ≡ whole → IfOk r (λ a. action_code spec locals a ≡ whole)
at_these spec locals (Ok a) code whole h e = h spec locals ∙ e
at_these spec locals (Err x) code whole h e = tt
