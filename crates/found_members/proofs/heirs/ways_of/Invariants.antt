use Rattle.std.proofs.Common.{◌≡◌, take, true, map}
use Rattle.std.specs.List.{list_all}
use Rattle.abstract_syntax.specs.Classes.{SpecTree}
use Rattle.class_meaning.specs.Classes.{classes}
use Rattle.vdm_tree.specs.ClassView.{class_view}
use Rattle.found_members.specs.Agreements.{agreed_at}
use Rattle.found_members.specs.Rows.{Rows, is_placed}
use Rattle.found_members.specs.Ways.{Covers}
use Rattle.found_members.proofs.heirs.ways_of.Given as goal

-- all that those so far agree on
abbrev pub invariant-loop-class : goal.invariant-loop-class
invariant-loop-class l = (spec : SpecTree) → map class_view l.classes ≡ classes spec → Rows l.rows spec
    → list_all (is_placed l.rows) l.superclasses ≡ true → Covers l.ways.items (agreed_at spec (take l.class-index l.superclasses))
