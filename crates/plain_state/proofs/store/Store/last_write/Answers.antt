use Rattle.std.proofs.Common.{◌≡◌, sym, ap, subst, ◌∙◌}
use Rattle.std.specs.HashMap.{get}
use Rattle.plain_state.specs.Found.{IsLast, place_of, same_place}
use Rattle.plain_state.proofs.store.Store.last_write.Goals as goal

pub returns : goal.returns
returns c =
    let is : c.copied.result ≡ get same_place c.args.self.now.writes (place_of c.args.object c.args.var) =
    c.copied.ensures ∙ c.get.ensures.value ∙ ap (get same_place c.args.self.now.writes) c.place_of.ensures in
    subst (IsLast c.args.self.now.entries c.args.object c.args.var) (sym is) (c.args.self.now.finds_writes c.args.object c.args.var)
