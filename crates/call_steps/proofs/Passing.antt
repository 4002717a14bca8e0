-- Arguments that are tested one after another.
use Rattle.std.proofs.Common.{◌≡◌, ◌≤◌, ◌+◌, ℕ, List, [], ◌∷◌, length, drop, slice_get, Option, Some, None, Result, Ok, Err, IfOk, Bor, refl, ap, sym, ◌∙◌}
use Rattle.std.proofs.lemmas.Option.{slice_get_past}
use Rattle.vdm_kinds.specs.declared.name.Name.{Name}
use Rattle.vdm_kinds.specs.declared.place.Place.{Place}
use Rattle.abstract_syntax.specs.Classes.{SpecTree}
use Rattle.abstract_syntax.specs.Types.{TypeTree}
use Rattle.abstract_syntax.specs.Values.{ValueTree}
use Rattle.expr_tree.specs.declared.expr.Expr.{Expr}
use Rattle.plans.specs.Plans.{part, bind}
use Rattle.node_meaning.specs.Envs.{Locals, no_nest}
use Rattle.node_meaning.specs.Fitting.{typed}
use Rattle.node_meaning.specs.Tasks.{Code, with_value}
use Rattle.stmt_meaning.specs.Calls.{requested, values_typed}
use Rattle.stmt_meaning.specs.Questions.{of_thread}
use Rattle.eval_data.specs.declared.frame.Frame.{Frame}
use Rattle.eval_data.specs.declared.here.Here.{Here}
use Rattle.eval_data.specs.Steps.{frame_then}
use Rattle.step_data.specs.declared.calling.Requesting.{Requesting}
use Rattle.step_data.specs.Callings.{arguments_left, call_operation, calling_of}
use Rattle.step_data.specs.Parts.{expression_in}
use Rattle.call_steps.specs.Trials.{tried_code}
use Rattle.call_steps.specs.declared.trying.Tried.{Tried}
use Rattle.call_steps.specs.declared.trying.Tried.TheVariants.{Asks}
use Rattle.call_steps.proofs.Items.{there, none_there, none_behind}

module _ (spec : SpecTree) (scope : Option Name) (further : Locals → Code) (locals : Locals) where
  no_types : (ts : List TypeTree) (places : List Place) (vs : List ValueTree) → ts ≡ [] → values_typed spec scope ts places vs further locals ≡ further locals
  no_types ts places vs e = rw e refl

  no_places : (ts : List TypeTree) (places : List Place) (vs : List ValueTree) → places ≡ [] → values_typed spec scope ts places vs further locals ≡ further locals
  no_places [] places vs e = refl
  no_places (t ∷ ts) places vs e = rw e refl

  no_values_left : (ts : List TypeTree) (places : List Place) (vs : List ValueTree) → vs ≡ [] → values_typed spec scope ts places vs further locals ≡ further locals
  no_values_left [] places vs e = refl
  no_values_left (t ∷ ts) [] vs e = refl
  no_values_left (t ∷ ts) (place ∷ places) vs e = rw e refl

  module _ (ts : List TypeTree) (places : List Place) (vs : List ValueTree) (n : ℕ) where
    -- where one of them is missing none is left
    pub without_type : slice_get ts n ≡ None
        → values_typed spec scope (drop (n + 1) ts) (drop (n + 1) places) (drop (n + 1) vs) further locals
        ≡ values_typed spec scope (drop n ts) (drop n places) (drop n vs) further locals
    without_type none =
        no_types (drop (n + 1) ts) (drop (n + 1) places) (drop (n + 1) vs) (none_behind ts n none)
        ∙ sym (no_types (drop n ts) (drop n places) (drop n vs) (none_there ts n none))

    pub without_value : slice_get vs n ≡ None
        → values_typed spec scope (drop (n + 1) ts) (drop (n + 1) places) (drop (n + 1) vs) further locals
        ≡ values_typed spec scope (drop n ts) (drop n places) (drop n vs) further locals
    without_value none =
        no_values_left (drop (n + 1) ts) (drop (n + 1) places) (drop (n + 1) vs) (none_behind vs n none)
        ∙ sym (no_values_left (drop n ts) (drop n places) (drop n vs) (none_there vs n none))

    -- ... else it is tested, and then those behind it
    with_argument : (t : TypeTree) (place : Place) (v : ValueTree) → slice_get ts n ≡ Some t → slice_get places n ≡ Some place → slice_get vs n ≡ Some v
        → typed spec no_nest scope t place (λ w. values_typed spec scope (drop (n + 1) ts) (drop (n + 1) places) (drop (n + 1) vs) further) v locals
        ≡ values_typed spec scope (drop n ts) (drop n places) (drop n vs) further locals
    with_argument t place v is stands held = rw (there ts n t is, there places n place stands, there vs n v held) refl

    pub without_place : slice_get places n ≡ None
        → values_typed spec scope (drop (n + 1) ts) (drop (n + 1) places) (drop (n + 1) vs) further locals
        ≡ values_typed spec scope (drop n ts) (drop n places) (drop n vs) further locals
    without_place none =
        no_places (drop (n + 1) ts) (drop (n + 1) places) (drop (n + 1) vs) (none_behind places n none)
        ∙ sym (no_places (drop n ts) (drop n places) (drop n vs) (none_there places n none))

    pub argument_next : {E : Type 0} (after : Locals) (t : TypeTree) (place : Place) (v : ValueTree) (seen : Option Name) (r : Result Tried E)
        → seen ≡ scope → slice_get vs n ≡ Some v
        → IfOk r (λ tried. (next : Locals → Code) → tried_code spec place after next tried ≡ typed spec no_nest seen t place (λ w. next) v locals)
        → IfOk r (λ tried. slice_get ts n ≡ Some t → slice_get places n ≡ Some place
        → tried_code spec place after (values_typed spec scope (drop (n + 1) ts) (drop (n + 1) places) (drop (n + 1) vs) further) tried
        ≡ values_typed spec scope (drop n ts) (drop n places) (drop n vs) further locals)
    argument_next after t place v seen (Ok tried) same held h = λ is stands.
        h (values_typed spec scope (drop (n + 1) ts) (drop (n + 1) places) (drop (n + 1) vs) further)
        ∙ ap (λ (s : Option Name). typed spec no_nest s t place (λ w. values_typed spec scope (drop (n + 1) ts) (drop (n + 1) places) (drop (n + 1) vs) further) v locals) same
        ∙ with_argument t place v is stands held
    argument_next after t place v seen (Err x) same held h = tt

    -- behind all of them
    pub all_passed : length places ≤ n → further locals ≡ values_typed spec scope (drop n ts) (drop n places) (drop n vs) further locals
    all_passed past = sym (no_places (drop n ts) (drop n places) (drop n vs) (none_there places n (slice_get_past places n past)))

module _ (spec : SpecTree) (requesting lent : Requesting) (index : ℕ) (same : lent ≡ requesting) where
  -- an argument whose test asks for an invariant
  pub asks_next : (before after : Locals) (place : Place) (t : Tried) (here : Here) (tree : Bor Expr) (inner : Frame) (whole : Code)
      → t ≡ Asks here tree inner
      → tried_code spec place after (arguments_left spec lent (index + 1)) t ≡ arguments_left spec lent index before
      → arguments_left spec requesting index before ≡ whole
      → bind (part (expression_in here tree after) (frame_then (of_thread spec) inner)) (with_value place (λ v. arguments_left spec requesting (index + 1))) ≡ whole
  asks_next before after place t here tree inner whole is next left =
      ap (λ (r : Requesting). bind (part (expression_in here tree after) (frame_then (of_thread spec) inner)) (with_value place (λ v. arguments_left spec r (index + 1)))) (sym same)
      ∙ ap (λ (x : Tried). tried_code spec place after (arguments_left spec lent (index + 1)) x) (sym is)
      ∙ next
      ∙ ap (λ (r : Requesting). arguments_left spec r index before) same
      ∙ left

  -- behind the last argument
  pub asked_last : (locals : Locals) (whole : Code) → length requesting.places.items ≤ index → arguments_left spec requesting index locals ≡ whole
      → requested spec (calling_of lent.call.value) locals ≡ whole
  asked_last locals whole past left =
      ap (λ (r : Requesting). requested spec (calling_of r.call.value) locals) same
      ∙ all_passed spec (Some requesting.call.value.op.class) (requested spec (calling_of requesting.call.value)) locals
      (call_operation requesting.call.value).parameters requesting.places.items requesting.call.value.arguments index past
      ∙ left
