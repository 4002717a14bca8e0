use Rattle.std.proofs.Common.{◌≡◌, ◌∷◌, ◌++◌, [], ◌∙◌, ap, sym, cond, if◌then◌else◌, Some, None}
use Rattle.found_members.specs.Agreements.{listed}
use Rattle.found_members.specs.Ways.{is_among, key_of, same_key}
use Rattle.found_members.proofs.Covering.{one_noted}
use Rattle.found_members.proofs.agreement.Agreement.add.Goals as goal

pub returns-clause-answers : goal.returns-clause-answers
returns-clause-answers c = λ f before right ask.
    let old = c.args.self.now in
    let updated = c.in_ok-insert.ensures.updates.0 (key_of ask) in
    let pushed : c.push.new.self.items ≡ old.ways.items ++ c.args.way ∷ [] = c.in_ok-push.ensures.items in
    updated
    ∙ ap (λ key. cond (same_key key (key_of ask)) (Some c.args.found) (listed old ask)) c.key_of.ensures
    ∙ one_noted f c.args.way ask c.args.found (listed old ask) old.ways.items right (before ask)
    ∙ ap (λ ways. if is_among ways ask then Some (f ask) else None) (sym pushed)
