use Rattle.std.proofs.Common.{◌≡◌, ◌∷◌, ◌++◌, [], nat_eq, ap, ◌∙◌, length, rules}
use Rattle.std.specs.HashMap.{get}
use Rattle.patterns.specs.Search.{binding_of}
use Rattle.patterns.proofs.Standing.{finds_more}
use Rattle.patterns.proofs.names.Names.push.Goals as goal

pub invariant_of-self-2 : goal.invariant_of-self-2
unfolding binding_of
invariant_of-self-2 c = record {
  finds =
      let place : c.len-place.result ≡ length c.args.self.now.bounds.items = search rules in
      finds_more c.args.self.now.bounds.items c.push_reserved.new.self.items (record { name = c.args.name; subject = c.args.subject })
      (get nat_eq c.insert.new.self) (get nat_eq c.args.self.now.places) c.len-place.result c.args.self.now.finds c.requires
      c.in_ok-insert.ensures.updates.0 place
      (c.push_reserved.ensures.items ∙ ap (λ xs. xs ++ record { name = c.args.name; subject = c.args.subject } ∷ []) c.reserve.ensures.items);
}
