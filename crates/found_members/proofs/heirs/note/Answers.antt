use Rattle.std.proofs.Common.{◌∙◌, sym, ap}
use Rattle.found_members.specs.Agreements.{agreed_at}
use Rattle.found_members.specs.Ways.{is_among}
use Rattle.found_members.proofs.Covering.{again, added}
use Rattle.found_members.proofs.heirs.note.Goals as goal

pub returns-in_ok-add : goal.returns-in_ok-add
returns-in_ok-add c = λ spec have fine placed holds. record {
  answers = c.in_ok-add.ensures.answers (agreed_at spec c.args.superclasses.now) holds (c.agreed_at.ensures spec have fine placed);
  among = λ ask. ap (λ ways. is_among ways ask) c.in_ok-add.ensures.ways ∙ added c.args.agreement.now.ways.items c.args.way ask;
}

pub returns-else-not-has : goal.returns-else-not-has
returns-else-not-has c = λ spec have fine placed holds. record {
  answers = holds;
  among = λ ask. again c.args.agreement.now.ways.items c.args.way ask
      (sym (c.has.ensures (agreed_at spec c.args.superclasses.now) holds) ∙ c.if-not-has.false);
}
