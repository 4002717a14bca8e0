-- Objects whose slots are tested.
use Rattle.std.proofs.Common.{◌≡◌, ◌≤◌, ◌+◌, ℕ, Bool, true, false, List, [], ◌∷◌, length, drop, slice_get, Some, None, Result, Ok, Err, IfOk, Bor, refl, ap, sym, ◌∙◌}
use Rattle.std.proofs.lemmas.Option.{slice_get_past}
use Rattle.vdm_kinds.specs.declared.halt.OutOfMemory.{OutOfMemory}
use Rattle.vdm_kinds.specs.declared.member.VarRef.{VarRef}
use Rattle.vdm_kinds.specs.declared.place.Place.{Place}
use Rattle.vdm_kinds.specs.declared.run_fault.RunFault.{RunFault}
use Rattle.vdm_kinds.specs.declared.run_fault.RunFault.TheVariants.{InstanceInvariant}
use Rattle.vdm_values.specs.declared.slot.Slot.{Slot}
use Rattle.abstract_syntax.specs.Classes.{SpecTree}
use Rattle.abstract_syntax.specs.Expressions.{ExprTree}
use Rattle.plans.specs.Plans.{part, bind}
use Rattle.node_meaning.specs.Envs.{Here as MeantHere, Locals, at, initialising}
use Rattle.node_meaning.specs.Fitting.{slot_typed, slots_typed}
use Rattle.node_meaning.specs.Names.{variable_definition}
use Rattle.stmt_meaning.specs.Keeping.{holding_of, keeps}
use Rattle.stmt_meaning.specs.Objects.{Making as MeantMaking, initial_of, initial_value, initialise, object_asked, object_if}
use Rattle.node_meaning.specs.Tasks.{Code, expr_in, fault, with_value}
use Rattle.call_steps.specs.Trials.{tried_code}
use Rattle.call_steps.specs.declared.trying.Tried.{Tried}
use Rattle.call_steps.specs.declared.trying.Tried.TheVariants.{Asks, Fails, Passes}
use Rattle.expr_tree.specs.declared.expr.Expr.{Expr}
use Rattle.eval_data.specs.declared.frame.Frame.{Frame}
use Rattle.eval_data.specs.declared.here.Here.{Here}
use Rattle.eval_data.specs.Steps.{frame_then}
use Rattle.step_data.specs.Actions.{action_code}
use Rattle.step_data.specs.declared.action.Action.{Action}
use Rattle.step_data.specs.declared.making.Making.{Making}
use Rattle.step_data.specs.Callings.{initialisers, initial_of as initial_plan, making_of, object_left, slots_left}
use Rattle.call_steps.proofs.Items.{there, none_there, none_behind}
use Rattle.stmt_meaning.specs.Questions.{of_thread}
use Rattle.step_data.specs.Parts.{expression_in}

-- a variable with an initialiser, and those behind it
pub next_initialiser : (spec : SpecTree) (m : MeantMaking) (locals : Locals) (variables all left : List VarRef) (slots : List Slot) (var : VarRef) (initial : ExprTree)
    → all ≡ var ∷ left → initial_of (variable_definition spec var) ≡ Some initial
    → part (expr_in (at (initialising m.class var.class) []) initial) (initial_value m.place locals (initialise spec m locals variables left) slots)
    ≡ initialise spec m locals variables all slots
next_initialiser spec m locals variables all left slots var initial e is = rw (e, is) refl

-- ... as the machine evaluates it
pub evaluated_next : (spec : SpecTree) (m lent : Making) (here : MeantHere) (locals : Locals) (tree initial : ExprTree) (left : Bor (List VarRef)) (var : VarRef)
    → lent ≡ m → here ≡ initialising lent.object.value.class var.class → locals ≡ [] → tree ≡ initial
    → m.left.now ≡ var ∷ left.now → initial_of (variable_definition spec var) ≡ Some initial
    → part (expr_in (at here locals) tree) (initial_plan spec (record lent { left = left })) ≡ initialisers spec m
evaluated_next spec m lent here locals tree initial left var same h none t e is =
    (λ i. part (expr_in (at (h i) (none i)) (t i)) (initial_plan spec (record lent { left = left })))
    ∙ ap (λ (x : Making). part (expr_in (at (initialising x.object.value.class var.class) []) initial) (initial_plan spec (record x { left = left }))) same
    ∙ next_initialiser spec (making_of m.object.value) m.saved.items m.variables.now m.left.now left.now m.slots.items var initial e is

-- ---- slots behind the first so many

no_variable : (spec : SpecTree) (place : Place) (vars : List VarRef) (slots : List Slot) (further : Locals → Code) (locals : Locals) → vars ≡ []
    → slots_typed spec place vars slots further locals ≡ further locals
no_variable spec place vars slots further locals e = rw e refl

no_slot : (spec : SpecTree) (place : Place) (vars : List VarRef) (slots : List Slot) (further : Locals → Code) (locals : Locals) → slots ≡ []
    → slots_typed spec place vars slots further locals ≡ further locals
no_slot spec place [] slots further locals e = refl
no_slot spec place (var ∷ vars) slots further locals e = rw e refl

module _ (spec : SpecTree) (place : Place) (vars : List VarRef) (slots : List Slot) (further : Locals → Code) (locals : Locals) (n : ℕ) where
  -- where there is no variable or no slot of this number, none is left
  pub without_variable : slice_get vars n ≡ None
      → slots_typed spec place (drop (n + 1) vars) (drop (n + 1) slots) further locals ≡ slots_typed spec place (drop n vars) (drop n slots) further locals
  without_variable none =
      no_variable spec place (drop (n + 1) vars) (drop (n + 1) slots) further locals (none_behind vars n none)
      ∙ sym (no_variable spec place (drop n vars) (drop n slots) further locals (none_there vars n none))

  pub without_slot : slice_get slots n ≡ None
      → slots_typed spec place (drop (n + 1) vars) (drop (n + 1) slots) further locals ≡ slots_typed spec place (drop n vars) (drop n slots) further locals
  without_slot none =
      no_slot spec place (drop (n + 1) vars) (drop (n + 1) slots) further locals (none_behind slots n none)
      ∙ sym (no_slot spec place (drop n vars) (drop n slots) further locals (none_there slots n none))

  -- ... else it is tested, and then those behind it
  pub with_slot : (var : VarRef) (slot : Slot) → slice_get vars n ≡ Some var → slice_get slots n ≡ Some slot
      → slot_typed spec place var.class (variable_definition spec var) slot (slots_typed spec place (drop (n + 1) vars) (drop (n + 1) slots) further) locals
      ≡ slots_typed spec place (drop n vars) (drop n slots) further locals
  with_slot var slot is held = rw (there vars n var is, there slots n slot held) refl

  -- behind all slots
  pub all_tested : length slots ≤ n → further locals ≡ slots_typed spec place (drop n vars) (drop n slots) further locals
  all_tested past = sym (no_slot spec place (drop n vars) (drop n slots) further locals (none_there slots n (slice_get_past slots n past)))

-- ---- the slots of a new object

module _ (spec : SpecTree) (making lent : Making) (index : ℕ) (same : lent ≡ making) where
  -- a slot whose test asks for an invariant
  pub asks_next : (before after : Locals) (t : Tried) (here : Here) (tree : Bor Expr) (inner : Frame) (whole : Code)
      → t ≡ Asks here tree inner
      → tried_code spec lent.object.value.place after (slots_left spec lent (index + 1)) t ≡ slots_left spec lent index before
      → slots_left spec making index before ≡ whole
      → bind (part (expression_in here tree after) (frame_then (of_thread spec) inner)) (with_value making.object.value.place (λ v. slots_left spec making (index + 1))) ≡ whole
  asks_next before after t here tree inner whole is next left =
      ap (λ (m : Making). bind (part (expression_in here tree after) (frame_then (of_thread spec) inner)) (with_value m.object.value.place (λ v. slots_left spec m (index + 1)))) (sym same)
      ∙ ap (λ (x : Tried). tried_code spec lent.object.value.place after (slots_left spec lent (index + 1)) x) (sym is)
      ∙ next
      ∙ ap (λ (m : Making). slots_left spec m index before) same
      ∙ left

  -- one that fails its test, and one that passes it
  pub fails_next : (before after : Locals) (t : Tried) (kind : RunFault) (place : Place) (whole : Code)
      → t ≡ Fails kind
      → tried_code spec lent.object.value.place after (slots_left spec lent (index + 1)) t ≡ slots_left spec lent index before
      → slots_left spec making index before ≡ whole
      → place ≡ making.object.value.place
      → fault kind place ≡ whole
  fails_next before after t kind place whole is next left there =
      ap (fault kind) there
      ∙ ap (λ (m : Making). fault kind m.object.value.place) (sym same)
      ∙ ap (λ (x : Tried). tried_code spec lent.object.value.place after (slots_left spec lent (index + 1)) x) (sym is)
      ∙ next
      ∙ ap (λ (m : Making). slots_left spec m index before) same
      ∙ left

  pub passes_next : (before after : Locals) (t : Tried) (whole : Code)
      → t ≡ Passes
      → tried_code spec lent.object.value.place after (slots_left spec lent (index + 1)) t ≡ slots_left spec lent index before
      → slots_left spec making index before ≡ whole
      → slots_left spec making (index + 1) after ≡ whole
  passes_next before after t whole is next left =
      ap (λ (m : Making). slots_left spec m (index + 1) after) (sym same)
      ∙ ap (λ (x : Tried). tried_code spec lent.object.value.place after (slots_left spec lent (index + 1)) x) (sym is)
      ∙ next
      ∙ ap (λ (m : Making). slots_left spec m index before) same
      ∙ left

  -- behind the last slot
  pub left_last : (locals : Locals) (r : Result Action OutOfMemory) (whole : Code) → length making.slots.items ≤ index → slots_left spec making index locals ≡ whole
      → IfOk r (λ a. (l : Locals) → action_code spec l a ≡ object_left spec lent l) → IfOk r (λ a. action_code spec locals a ≡ whole)
  left_last locals (Ok a) whole past left h =
      h locals
      ∙ ap (λ (m : Making). object_left spec m locals) same
      ∙ all_tested spec making.object.value.place making.variables.now making.slots.items (object_left spec making) locals index past
      ∙ left
  left_last locals (Err x) whole past left h = tt

-- ---- the invariants of a new object

module _ (spec : SpecTree) (making lent : Making) (same : lent ≡ making) (kept : Bool)
    (says : kept ≡ keeps spec lent.object.value.class (holding_of lent.variables.now lent.slots.items)) where
  kept_is : kept ≡ keeps spec making.object.value.class (holding_of making.variables.now making.slots.items)
  kept_is = says ∙ ap (λ (m : Making). keeps spec m.object.value.class (holding_of m.variables.now m.slots.items)) same

  pub where_kept : kept ≡ true → (locals : Locals) → object_asked spec (making_of making.object.value) making.slots.items locals ≡ object_left spec making locals
  where_kept yes_it_is locals = ap (λ (b : Bool). object_if spec (making_of making.object.value) making.slots.items b locals) (sym yes_it_is ∙ kept_is)

  pub where_broken : (place : Place) → place ≡ making.object.value.place → kept ≡ false → (locals : Locals) → fault InstanceInvariant place ≡ object_left spec making locals
  where_broken place there no_it_is_not locals =
      ap (fault InstanceInvariant) there
      ∙ ap (λ (b : Bool). object_if spec (making_of making.object.value) making.slots.items b locals) (sym no_it_is_not ∙ kept_is)
