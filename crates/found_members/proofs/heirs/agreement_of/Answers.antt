use Rattle.std.proofs.Common.{◌<◌, ◌≤◌, ◌∙◌, ◌||◌, length, get_or, sym, ap, arith}
use Rattle.std.proofs.lemmas.List.{take_all}
use Rattle.class_meaning.specs.declared.ask.Ask.{Ask}
use Rattle.class_meaning.specs.declared.ask.Ask.TheVariants.{AsType}
use Rattle.found_members.specs.Agreements.{agreed_at}
use Rattle.found_members.specs.Ways.{is_among, key_of, same_key}
use Rattle.found_members.proofs.Covering.{covers_alike, ways_further}
use Rattle.found_members.proofs.heirs.agreement_of.Goals as goal

-- what is read past the end of a list of ways
abbrev first : Ask
first = AsType (record { 0 = 0 })

pub loop-way-init : goal.loop-way-init
loop-way-init c = λ spec have fine placed. (
  c.none-agreement.ensures.answers (agreed_at spec c.args.superclasses.now),
  λ ask. ap (λ ways. is_among ways ask) c.none-agreement.ensures.ways,
)

pub loop-way-preserved : goal.loop-way-preserved
loop-way-preserved c = λ spec have fine placed.
    let before = c.loop-way.invariant spec have fine placed in
    let noted = c.in_ok-note.ensures spec have fine placed before.0 in
    let ways = c.deref-way-items.result.now in
    let i = c.loop-way.way-index in
    let within : i < length ways = omega arith in (
      noted.answers,
      λ ask. noted.among ask
          ∙ ap (λ t. same_key (key_of ask) (key_of (get_or ways i first)) || t) (before.1 ask)
          ∙ sym (ways_further ways i first ask within),
    )

pub returns : goal.returns
returns c = λ spec have trees fine placed.
    let done = c.loop-way.invariant spec have fine placed in
    let ways = c.deref-way-items.result.now in
    let past : length ways ≤ c.loop-way.way-index = omega arith in
    let same = c.deref-way-items.ensures.value in
    record {
      answers = done.0;
      covers = covers_alike c.in_ok-ways.ways.items c.loop-way.agreement.ways.items (agreed_at spec c.args.superclasses.now)
          (λ ask. done.1 ask ∙ ap (λ xs. is_among xs ask) (take_all c.loop-way.way-index ways past ∙ same))
          (c.in_ok-ways.ensures spec trees fine placed);
    }
