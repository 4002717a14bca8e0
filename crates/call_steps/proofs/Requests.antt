-- A call that is asked for.
use Rattle.std.proofs.Common.{◌≡◌, ◌≤◌, ◌+◌, ℕ, List, map, ap, ◌∙◌, arith}
use Rattle.abstract_syntax.specs.Classes.{SpecTree}
use Rattle.run_journal.specs.declared.question.Question.TheVariants.{Req, Act}
use Rattle.plans.specs.Plans.{ask}
use Rattle.node_meaning.specs.Envs.{Locals}
use Rattle.node_meaning.specs.Tasks.{noted}
use Rattle.stmt_meaning.specs.Calls.{begins, requested}
use Rattle.stmt_meaning.specs.Olds.{Old, old_variables}
use Rattle.step_data.specs.declared.calling.Calling.{Calling}
use Rattle.step_data.specs.Actions.{most}
use Rattle.step_data.specs.Callings.{calling_of, old_view, olds_of}

-- where what is read before the body was put into it
pub asked_so : (spec : SpecTree) (call lent new : Calling) → new ≡ record lent { olds = new.olds } → lent ≡ call
    → map old_view new.olds.items ≡ old_variables spec (calling_of call) → (locals : Locals)
    → ask (noted (Req new.me new.op)) (λ answer. ask (noted (Act new.me new.op)) (begins spec (calling_of new) (olds_of new) locals)) ≡ requested spec (calling_of call) locals
asked_so spec call lent new put same are locals =
    ap (λ (x : Calling). ask (noted (Req x.me x.op)) (λ answer. ask (noted (Act x.me x.op)) (begins spec (calling_of x) (olds_of x) locals))) put
    ∙ ap (λ (x : Calling). ask (noted (Req x.me x.op)) (λ answer. ask (noted (Act x.me x.op)) (begins spec (calling_of x) (map old_view new.olds.items) locals))) same
    ∙ ap (λ (olds : List Old). ask (noted (Req call.me call.op)) (λ answer. ask (noted (Act call.me call.op)) (begins spec (calling_of call) olds locals))) are

-- numbers of 32 bits
pub few : (n count : ℕ) → n ≡ count → count ≤ 4294967295 → 6 + n ≤ 6 + most
unfolding most
few n count e small = omega (arith, e, small)
