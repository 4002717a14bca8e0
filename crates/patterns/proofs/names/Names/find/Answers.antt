use Rattle.std.proofs.Common.{nat_eq, sym, ap, ◌∙◌, option_map}
use Rattle.std.specs.HashMap.{get}
use Rattle.patterns.specs.Search.{binding_of}
use Rattle.patterns.specs.Places.{subject_at}
use Rattle.patterns.specs.Todos.{subject_tree}
use Rattle.patterns.proofs.Standing.{not_found, found_at}
use Rattle.patterns.proofs.names.Names.find.Goals as goal

pub returns-in_default : goal.returns-in_default
unfolding binding_of
returns-in_default c =
    let v = c.in_default.ensures.value in
    not_found c.args.self.now.bounds.items c.args.name (get nat_eq c.args.self.now.places) c.args.self.now.finds (sym v)

pub returns : goal.returns
unfolding binding_of
returns c =
    let v = c.in-Some.ensures.value in
    ap (option_map subject_tree) (c.at.ensures ∙ ap (λ bs. subject_at bs c.in-Some.place.now c.args.name) c.as_slice.ensures.value) ∙
    found_at c.args.self.now.bounds.items c.args.name (get nat_eq c.args.self.now.places) c.args.self.now.finds c.in-Some.place.now (sym v)
