use Rattle.std.proofs.Common.{◌≡◌, ◌∙◌, [], map, option_map, ap}
use Rattle.std.specs.Option.{option_copied}
use Rattle.std.proofs.lemmas.Option.{slice_get-map}
use Rattle.vdm_tree.specs.ClassView.{class_view}
use Rattle.found_members.specs.Ways.{own_ways, ways_in}
use Rattle.found_members.proofs.Asking.{item_at, none_more}
use Rattle.found_members.proofs.heirs.push_own.Goals as goal

pub returns-in-None : goal.returns-in-None
returns-in-None c =
    let classes = c.args.classes.now in
    let none : own_ways (map class_view classes) c.args.k ≡ [] =
    ap ways_in (slice_get-map class_view classes c.args.k
    ∙ ap (option_map class_view) (item_at classes c.args.k c.get.result c.get.ensures.lookup ∙ ap option_copied c.in-None.is)) in
    none_more c.args.ways.now.items (own_ways (map class_view classes) c.args.k) none
