-- Whether a condition holds, by the first turn of its evaluation.
use Rattle.std.proofs.Common.{◌≡◌, ℕ, Bool, true, false, List, [], Result, Ok, Err, IfOk, refl, ap, sym, ◌∙◌}
use Rattle.vdm_kinds.specs.declared.halt.OutOfMemory.{OutOfMemory}
use Rattle.vdm_values.specs.declared.slot.Slot.TheVariants.{Held}
use Rattle.abstract_syntax.specs.Values.{ValueTree, boolean}
use Rattle.run_journal.specs.declared.answer.Answer.{Answer}
use Rattle.plans.specs.Plans.{gives, needs}
use Rattle.node_meaning.specs.Envs.{Locals}
use Rattle.node_meaning.specs.Tasks.{gave, needed}
use Rattle.stmt_meaning.specs.Keeping.{is_kept}
use Rattle.eval_data.specs.declared.need.Need.{Need}
use Rattle.eval_data.specs.declared.need.Need.TheVariants.{Read, Call, New, Print, Time}
use Rattle.eval_data.specs.Parts.{need_of}
use Rattle.expr_eval.specs.Evaluations.{Evaluated}
use Rattle.expr_eval.specs.Turns.{Turned}
use Rattle.expr_eval.specs.declared.eval.Eval.{Eval}
use Rattle.expr_eval.specs.declared.turn.Turn.{Turn}
use Rattle.expr_eval.specs.declared.turn.Turn.TheVariants.{Needs, Value, Fault}
use Rattle.kept_invariants.specs.Guarding.{is_kept_by, is_read, is_true}

need_kept : (need : Need) → is_read need ≡ is_kept (needs (needed (need_of need)))
need_kept (Read object var) = refl
need_kept (Call object class op args places) = refl
need_kept (New class args places) = refl
need_kept (Print text) = refl
need_kept Time = refl

value_kept : (v : ValueTree) (locals : Locals) (answers : List Answer) (units : ℕ) → is_true v ≡ is_kept (gives (gave (Held v) locals) answers units)
value_kept (boolean true) locals answers units = refl
value_kept (boolean false) locals answers units = refl
value_kept _ locals answers units = refl

turn_kept : (turn : Turn) (stood : List Answer → Evaluated) (e : Eval) (units : ℕ) → Turned turn stood e units → is_kept_by turn ≡ is_kept (stood [])
turn_kept (Needs need) stood e units t = need_kept need ∙ ap is_kept (sym t.needs_it)
turn_kept (Value v) stood e units t = value_kept v e.locals.items [] units ∙ ap is_kept (sym (t []))
turn_kept (Fault kind place) stood e units t = ap is_kept (sym (t []))

pub kept_now : (turn : Turn) (stood : List Answer → Evaluated) (outcome : Evaluated) (e : Eval) (units : ℕ) (b : Bool)
    → Turned turn stood e units → stood [] ≡ outcome → b ≡ is_kept_by turn → b ≡ is_kept outcome
kept_now turn stood outcome e units b t same is = is ∙ turn_kept turn stood e units t ∙ ap is_kept same

-- a verdict on what is known to be the same
pub same_verdict : (r : Result Bool OutOfMemory) (told whole : Bool) → told ≡ whole → IfOk r (λ b. b ≡ told) → IfOk r (λ b. b ≡ whole)
same_verdict (Ok b) told whole same h = h ∙ same
same_verdict (Err e) told whole same h = tt
