-- Calls keep the rules of journals.
use Rattle.std.proofs.Common.{◌≢◌, ◌++◌, ◌∷◌, [], Bool, List, None, Option, Some, false, length, refl, take, true, ℕ}
use Rattle.std.specs.List.{flat_map}
use Rattle.vdm_kinds.specs.declared.member.OpRef.{OpRef}
use Rattle.vdm_kinds.specs.declared.name.Name.{Name}
use Rattle.vdm_kinds.specs.declared.place.Place.{Place}
use Rattle.vdm_kinds.specs.declared.run_fault.RunFault.TheVariants.{NoMatch, NoReturn, Post, Pre, TypeFault, Undefined}
use Rattle.vdm_values.specs.declared.slot.Slot.{Slot}
use Rattle.vdm_values.specs.declared.slot.Slot.TheVariants.{Unset, Held}
use Rattle.abstract_syntax.specs.Types.{TypeTree}
use Rattle.abstract_syntax.specs.Values.{ValueTree}
use Rattle.abstract_syntax.specs.Expressions.{ExprTree}
use Rattle.abstract_syntax.specs.Statements.{StmtTree}
use Rattle.abstract_syntax.specs.Classes.{Body, OperationTree, SpecTree, written}
use Rattle.pattern_meaning.specs.Brackets.{given_in}
use Rattle.value_parts.proofs.Everywhere.{each_append}
use Rattle.run_journal.specs.declared.answer.Answer.{Answer}
use Rattle.run_journal.specs.declared.answer.Answer.TheVariants.{Done}
use Rattle.run_journal.specs.declared.deed.Deed.TheVariants as deed
use Rattle.run_journal.specs.declared.entry.Entry.{Entry}
use Rattle.run_journal.specs.declared.question.Question.TheVariants.{Act, Fin, Req}
use Rattle.run_journal.specs.declared.thread.Thread.TheVariants.{Main}
use Rattle.run_journal.specs.Made.{entry}
use Rattle.run_journal.specs.Parts.{object_part}
use Rattle.plans.specs.Plans.{ask, finish}
use Rattle.vdm_legal.proofs.Known.{IsKnown, IsKnownSlot}
use Rattle.vdm_legal.proofs.Sanity.{IsSane, IsWithin, act-waits, begun-sane, behind_activation, behind_finish, behind_request, fin-waits, finished-sane, finished-within, left-within, request-sane, within-self, within-then}
use Rattle.node_meaning.specs.Envs.{Here, Locals, no_nest, old_name}
use Rattle.node_meaning.specs.Matching.{exprs_of, first_match}
use Rattle.node_meaning.specs.Needs.{slot_in}
use Rattle.node_meaning.specs.Tasks.{Flow, exited, fault, gave, next, noted, returned}
use Rattle.node_meaning.specs.Wanted.{Wanted, a_value, given, given_slot, no_value}
use Rattle.stmt_meaning.specs.Calling.{Calling, Giving, calling_here, gives_object, gives_slot, here_in, is_constructor, slot_given}
use Rattle.stmt_meaning.specs.Calls.{acting, activated, back, binds, body_left, body_of, bound, called, finished, left_with, olds_read, post_decided, post_of, pre_decided, pre_of, requested, result_given, result_local, unless_due, value_given}
use Rattle.stmt_meaning.specs.Flows.{with_locals}
use Rattle.stmt_meaning.specs.Olds.{Old, old_names, old_variables}
use Rattle.vdm_meaning.proofs.Rules.{AreKnown, GivesKnown, HasObject, HoldsNothing, IsOn, IsSafe, MayLeave, MayRun}
use Rattle.vdm_meaning.proofs.Parts.{at-among, at-cut, at-later, at-more, EachKnown, flow-behind, held_slot-on, is_on-on, IsAt, locals-on, may-fail, object-behind, run-behind, safe-bind, safe-value, value-on, values-on}
use Rattle.vdm_meaning.proofs.Asking.{safe-ask}
use Rattle.vdm_meaning.proofs.Fitting.{safe-typed, safe-values_typed}
use Rattle.vdm_meaning.proofs.Homes.{AreOldsThere, olds-there}
use Rattle.vdm_meaning.proofs.Matching.{match-known, safe-bound_or, safe-decided}
use Rattle.vdm_meaning.proofs.Reading.{safe-read}
use Rattle.vdm_meaning.proofs.Strict.{safe-collected}

-- ---- what is given where the call stands

module _ (spec : SpecTree) where
  safe-given_slot : {first now : List Entry} {here : Here} {locals : Locals} (wanted : Wanted) (place : Place) (slot : Slot) → IsAt spec first now here locals → IsKnownSlot spec now slot → IsSafe spec first now (given_slot wanted place slot locals)
  safe-given_slot no_value place slot is_at known = (is_at.within, (is_at.may.sane, (known, is_at.may.known)))
  safe-given_slot a_value place (Held v) is_at known = safe-value spec v is_at known
  safe-given_slot a_value place Unset is_at known = may-fail spec NoReturn place is_at.may

  pub safe-given : {first now : List Entry} {here : Here} {locals : Locals} (wanted : Wanted) (place : Place) (flow : Flow) → IsAt spec first now here locals → GivesKnown spec now flow → IsSafe spec first now (given wanted place flow)
  safe-given wanted place (gave slot after) is_at known = safe-given_slot wanted place slot (at-among is_at after known.1) known.0
  safe-given wanted place (next after) is_at known = may-fail spec Undefined place is_at.may
  safe-given wanted place (returned slot after) is_at known = may-fail spec Undefined place is_at.may
  safe-given wanted place (exited v from after) is_at known = (is_at.within, (is_at.may.sane, known))

-- ---- what a call has is known

-- the object that a constructor makes ready
abbrev pub IsKnownGiving : SpecTree → List Entry → Giving → Type 0
IsKnownGiving spec entries gives_slot = Unit {0}
IsKnownGiving spec entries (gives_object v) = IsKnown spec entries v

pub giving-on : {spec : SpecTree} (now later : List Entry) → IsWithin spec now later → (gives : Giving) → IsKnownGiving spec now gives → IsKnownGiving spec later gives
giving-on now later w gives_slot h = tt
giving-on now later w (gives_object v) h = value-on now later w v h

slot_given-known : (spec : SpecTree) (now : List Entry) (gives : Giving) (slot : Slot) → IsKnownGiving spec now gives → IsKnownSlot spec now slot → IsKnownSlot spec now (slot_given gives slot)
slot_given-known spec now gives_slot slot h known = known
slot_given-known spec now (gives_object v) slot h known = h

-- the object on which it runs is there
record IsKnownCall (spec : SpecTree) (entries : List Entry) (c : Calling) : Type 0 where
  on : IsOn spec entries c.me
  arguments : EachKnown spec entries c.arguments
  gives : IsKnownGiving spec entries c.gives

call-on : {spec : SpecTree} (now later : List Entry) → IsWithin spec now later → (c : Calling) → IsKnownCall spec now c → IsKnownCall spec later c
call-on now later w c h = record {
  on = is_on-on now later w c.me h.on;
  arguments = values-on now later w c.arguments h.arguments;
  gives = giving-on now later w c.gives h.gives;
}

-- whatever is left, with other known locals
among-known : (spec : SpecTree) (now : List Entry) (locals : Locals) (flow : Flow) → GivesKnown spec now flow → AreKnown spec now locals → GivesKnown spec now (with_locals locals flow)
among-known spec now locals (gave slot before) h known = (h.0, known)
among-known spec now locals (next before) h known = known
among-known spec now locals (returned slot before) h known = (h.0, known)
among-known spec now locals (exited v from before) h known = (h.0, known)

result-known : (spec : SpecTree) (now : List Entry) (slot : Slot) → IsKnownSlot spec now slot → AreKnown spec now (result_local slot)
result-known spec now Unset known = tt
result-known spec now (Held v) known = (known, tt)

-- ---- a call on an object that is there, behind the entries `before`

module _ (spec : SpecTree) (c : Calling) (before : List Entry) (sane : IsSane spec before) (main : object_part 0 before ≢ []) (known : IsKnownCall spec before c) where
  -- behind its activation
  abbrev begun : List Entry
  begun = behind_activation before c.me c.op

  -- where its body stands
  abbrev callee : Here
  callee = calling_here c

  callee-object : (is_static : Bool) → HasObject spec before (here_in is_static c.me c.own c.op.class).me
  callee-object true = tt
  callee-object false = known.on

  callee-held : (is_static : Bool) → HoldsNothing (here_in is_static c.me c.own c.op.class).held
  callee-held true = tt
  callee-held false = tt

  callee-runs : MayRun spec before callee []
  callee-runs = record {
    sane = sane;
    main = main;
    classes = λ acts. known.on.1;
    me = callee-object c.operation.access.is_static;
    held = callee-held c.operation.access.is_static;
    known = tt;
  }

  callee-requested : MayRun spec (behind_request before c.me c.op) callee []
  callee-requested =
      run-behind before (entry Main c.me (deed.Req c.op) ∷ []) (behind_request before c.me c.op) refl callee [] callee-runs (request-sane before c.me c.op sane)

  callee-begun : MayRun spec begun callee []
  callee-begun =
      run-behind (behind_request before c.me c.op) (entry Main c.me (deed.Act c.op) ∷ []) begun refl callee [] callee-requested (begun-sane before c.me c.op sane)

  module _ (now : List Entry) (w : IsWithin spec begun now) where
    call-within : IsWithin spec before now
    call-within = left-within before c.me c.op sane now w known.on.1

    still : IsKnownCall spec now c
    still = call-on before now call-within c known

  -- ---- its end

  -- the call finishes, with what is known
  safe-end : (now : List Entry) (inner : Locals) (flow : Flow) → IsWithin spec begun now → IsAt spec before now callee inner → GivesKnown spec now flow → IsSafe spec before now (ask (noted (Fin c.me c.op)) (λ answer. finish flow))
  safe-end now inner flow w is_at gives =
      safe-ask spec (MayLeave spec) before now (λ answer. finish flow) (Fin c.me c.op) (entry Main c.me (deed.Fin c.op)) (λ a taken is. is)
      (record { ready = ((still now w).on.0, fin-waits before c.me c.op sane now w); sane = is_at.may.sane; turn = (still now w).on.1 }) (
        finished-within before c.me c.op sane now w known.on.1,
        (
          finished-sane before c.me c.op sane now w is_at.may.sane,
          flow-behind now (entry Main c.me (deed.Fin c.op) ∷ []) (behind_finish now c.me c.op) refl spec flow gives,
        ),
      )

  safe-finished : (now : List Entry) (slot : Slot) (inner : Locals) → IsWithin spec begun now → IsAt spec before now callee inner → IsKnownSlot spec now slot → IsSafe spec before now (finished c slot inner)
  safe-finished now slot inner w is_at k =
      safe-end now inner (gave (slot_given c.gives slot) inner) w is_at (slot_given-known spec now c.gives slot (still now w).gives k, is_at.may.known)

  safe-post_decided : (now : List Entry) (slot : Slot) (b : Bool) (inner : Locals) → IsWithin spec begun now → IsAt spec before now callee inner → IsKnownSlot spec now slot → IsSafe spec before now (post_decided c slot b inner)
  safe-post_decided now slot true inner w is_at k = safe-finished now slot inner w is_at k
  safe-post_decided now slot false inner w is_at k = may-fail spec Post c.place is_at.may

  safe-post_of : (now : List Entry) (post : Option ExprTree) (slot : Slot) (inner : Locals) → IsWithin spec begun now → IsAt spec before now callee inner → IsKnownSlot spec now slot → IsSafe spec before now (post_of c post slot inner)
  safe-post_of now None slot inner w is_at k = safe-finished now slot inner w is_at k
  safe-post_of now (Some post) slot inner w is_at k =
      safe-decided spec before now callee (inner ++ result_local slot) post c.place (post_decided c slot)
      (at-among is_at (inner ++ result_local slot)
      (each_append (λ (l : Name × Slot). IsKnownSlot spec now l.1) inner (result_local slot) is_at.may.known (result-known spec now slot k)))
      (λ later b after x at_later any. safe-post_decided later slot b after (within-then begun now later w x) at_later (held_slot-on now later x slot k))

  safe-result_given : (now : List Entry) (slot : Slot) (inner : Locals) → IsWithin spec begun now → IsAt spec before now callee inner → IsKnownSlot spec now slot → IsSafe spec before now (result_given c slot inner)
  safe-result_given now slot inner w is_at k = safe-post_of now c.operation.post slot inner w is_at k

  safe-unless_due : (now : List Entry) (b : Bool) (inner : Locals) → IsWithin spec begun now → IsAt spec before now callee inner → IsSafe spec before now (unless_due c b inner)
  safe-unless_due now true inner w is_at = safe-result_given now Unset inner w is_at tt
  safe-unless_due now false inner w is_at = may-fail spec NoReturn c.place is_at.may

  safe-left_with : (now : List Entry) (declared : Option TypeTree) (slot : Slot) (inner : Locals) → IsWithin spec begun now → IsAt spec before now callee inner → IsKnownSlot spec now slot → IsSafe spec before now (left_with spec c declared slot inner)
  safe-left_with now None Unset inner w is_at k = safe-result_given now Unset inner w is_at tt
  safe-left_with now None (Held v) inner w is_at k = may-fail spec TypeFault c.place is_at.may
  safe-left_with now (Some declared) Unset inner w is_at k = safe-unless_due now (is_constructor c) inner w is_at
  safe-left_with now (Some declared) (Held v) inner w is_at k =
      safe-typed spec before callee now inner no_nest (Some c.op.class) declared c.place (value_given c) v is_at k (λ later result after x at_later also.
      safe-result_given later (Held result) after (within-then begun now later w x) at_later also)

  safe-body_left : (now : List Entry) (count : ℕ) (flow : Flow) (inner : Locals) → IsWithin spec begun now → IsAt spec before now callee inner → GivesKnown spec now flow → IsSafe spec before now (body_left spec c count flow)
  safe-body_left now count (gave slot after) inner w is_at h = may-fail spec Undefined c.place is_at.may
  safe-body_left now count (next after) inner w is_at h =
      safe-left_with now c.operation.result_type Unset (take count after) w (at-cut count (at-among is_at after h)) tt
  safe-body_left now count (returned slot after) inner w is_at h =
      safe-left_with now c.operation.result_type slot (take count after) w (at-cut count (at-among is_at after h.1)) h.0
  safe-body_left now count (exited v from after) inner w is_at h = safe-end now inner (exited v from after) w is_at h

  -- ---- its body

  safe-body_of : (now : List Entry) (body : Body StmtTree) (inner : Locals) → IsWithin spec begun now → IsAt spec before now callee inner → IsSafe spec before now (body_of spec c body inner)
  safe-body_of now (written body) inner w is_at = (
    is_at.may,
    λ later flow x leaves. safe-body_left later (length inner) flow inner (within-then begun now later w x) (at-later is_at x leaves.0) leaves.1,
  )
  safe-body_of now _ inner w is_at = may-fail spec Undefined c.place is_at.may

  safe-pre_decided : (now : List Entry) (b : Bool) (inner : Locals) → IsWithin spec begun now → IsAt spec before now callee inner → IsSafe spec before now (pre_decided spec c b inner)
  safe-pre_decided now true inner w is_at = safe-body_of now c.operation.body inner w is_at
  safe-pre_decided now false inner w is_at = may-fail spec Pre c.place is_at.may

  safe-pre_of : (now : List Entry) (pre : Option ExprTree) (inner : Locals) → IsWithin spec begun now → IsAt spec before now callee inner → IsSafe spec before now (pre_of spec c pre inner)
  safe-pre_of now None inner w is_at = safe-body_of now c.operation.body inner w is_at
  safe-pre_of now (Some pre) inner w is_at =
      safe-decided spec before now callee inner pre c.place (pre_decided spec c) is_at (λ later b after x at_later any.
      safe-pre_decided later b after (within-then begun now later w x) at_later)

  safe-bound : (now : List Entry) (given : List ValueTree) (inner : Locals) → IsWithin spec begun now → IsAt spec before now callee inner → IsSafe spec before now (bound spec c given inner)
  safe-bound now given inner w is_at =
      safe-bound_or spec before now callee c.place (first_match spec (Some c.op.class) c.operation.patterns given c.arguments)
      (pre_of spec c c.operation.pre) (λ missed. fault NoMatch c.place) inner is_at
      (match-known spec now (Some c.op.class) c.operation.patterns given c.arguments (still now w).arguments)
      (λ later after x at_later. safe-pre_of later c.operation.pre after (within-then begun now later w x) at_later)
      (λ later after x at_later. may-fail spec NoMatch c.place at_later.may)

  safe-binds : (now : List Entry) (inner : Locals) → IsWithin spec begun now → IsAt spec before now callee inner → IsSafe spec before now (binds spec c inner)
  safe-binds now inner w is_at =
      safe-collected spec before now callee c.place (exprs_of (flat_map given_in c.operation.patterns)) [] (bound spec c) inner is_at tt (λ later given after x at_later also.
      safe-bound later given after (within-then begun now later w x) at_later)

  -- ---- its begin

  safe-olds_read : (olds : List Old) (now : List Entry) (inner : Locals) → AreOldsThere spec before olds → IsWithin spec begun now → IsAt spec before now callee inner → IsSafe spec before now (olds_read spec c olds inner)
  safe-olds_read [] now inner there w is_at = safe-binds now inner w is_at
  safe-olds_read (old ∷ olds) now inner there w is_at =
      safe-read spec before now callee inner is_at old.object old.var (λ answer. olds_read spec c olds (inner ++ (old_name old.name, slot_in answer) ∷ []))
      (is_on-on before now (call-within now w) old.object there.0)
      (λ later slot x at_later k.
      safe-olds_read olds later (inner ++ (old_name old.name, slot) ∷ []) there.1 (within-then begun now later w x) (at-more at_later (old_name old.name) slot k))

  -- with the locals of the node that calls
  module _ (first : List Entry) (outside : IsWithin spec first before) (outer : Locals) (kept : AreKnown spec before outer) where
    safe-back : (later : List Entry) (flow : Flow) → IsWithin spec before later → MayLeave spec later flow → IsSafe spec first later (back outer flow)
    safe-back later flow w leaves = (
      within-then first before later outside w,
      (leaves.0, among-known spec later outer flow leaves.1 (locals-on before later w outer kept)),
    )

    safe-activated : IsSafe spec first begun (activated spec c outer Done)
    safe-activated =
        safe-bind spec before first (back outer) safe-back (olds_read spec c (old_variables spec c) []) begun
        (safe-olds_read (old_variables spec c) begun [] (olds-there spec before c.me c.op.class (old_names c.operation.post) known.on) (within-self begun)
        (record { within = call-within begun (within-self begun); may = callee-begun }))

    safe-acting : (answer : Answer) → IsSafe spec first (behind_request before c.me c.op) (acting spec c outer answer)
    safe-acting answer =
        safe-ask spec (MayLeave spec) first (behind_request before c.me c.op) (activated spec c outer) (Act c.me c.op) (entry Main c.me (deed.Act c.op)) (λ a taken is. is)
        (record { ready = (requested-on.0, act-waits before c.me c.op sane); sane = callee-requested.sane; turn = requested-on.1 })
        safe-activated
      where
        requested-on : IsOn spec (behind_request before c.me c.op) c.me
        requested-on = object-behind before (entry Main c.me (deed.Req c.op) ∷ []) (behind_request before c.me c.op) refl spec (Some c.me) known.on

    safe-requested : IsSafe spec first before (requested spec c outer)
    safe-requested =
        safe-ask spec (MayLeave spec) first before (acting spec c outer) (Req c.me c.op) (entry Main c.me (deed.Req c.op)) (λ a taken is. is)
        (record { ready = known.on.0; sane = sane; turn = known.on.1 })
        (safe-acting Done)

-- the arguments, and then the call
pub safe-called : (spec : SpecTree) (first now : List Entry) (here : Here) (locals : Locals) (me : ℕ) (own : Name) (op : OpRef) (operation : OperationTree) (vs : List ValueTree) (places : List Place) (place : Place) (gives : Giving) → IsAt spec first now here locals → IsOn spec now me → EachKnown spec now vs → IsKnownGiving spec now gives → IsSafe spec first now (called spec me own op operation vs places place gives locals)
safe-called spec first now here locals me own op operation vs places place gives is_at there known giving =
    safe-values_typed spec first here operation.parameters places vs now (Some op.class)
    (requested spec (record { me = me; own = own; op = op; operation = operation; arguments = vs; place = place; gives = gives })) locals is_at known
    (λ later outer w at_later.
    safe-requested spec (record { me = me; own = own; op = op; operation = operation; arguments = vs; place = place; gives = gives }) later at_later.may.sane at_later.may.main
    (record { on = is_on-on now later w me there; arguments = values-on now later w vs known; gives = giving-on now later w gives giving })
    first at_later.within outer at_later.may.known)
