use Rattle.std.proofs.Common.{◌≡◌, ◌∙◌, ap, Bool, true, false, if◌then◌else◌, Some, None, is_some, refl}
use Rattle.std.specs.HashMap.{get}
use Rattle.class_meaning.specs.declared.found.Found.{Found}
use Rattle.found_members.specs.Ways.{is_among, same_key}
use Rattle.found_members.proofs.agreement.Agreement.has.Goals as goal

whether : (t : Bool) (found : Found) → is_some (if t then Some found else None) ≡ t
whether true found = refl
whether false found = refl

pub returns : goal.returns
returns c = λ f holds.
    let old = c.args.self.now in
    c.contains_key.ensures
    ∙ ap (λ key. is_some (get same_key old.answers key)) c.key_of.ensures
    ∙ ap (λ o. is_some o) (holds c.args.way)
    ∙ whether (is_among old.ways.items c.args.way) (f c.args.way)
