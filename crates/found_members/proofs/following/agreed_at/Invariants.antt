use Rattle.std.proofs.Common.{◌≡◌, take, true}
use Rattle.std.specs.List.{list_all}
use Rattle.abstract_syntax.specs.Classes.{SpecTree}
use Rattle.class_meaning.specs.Classes.{classes}
use Rattle.found_members.specs.Agreements.{agreed_at}
use Rattle.found_members.specs.Rows.{HaveIndexes, Rows, is_placed}
use Rattle.found_members.proofs.following.agreed_at.Given as goal

-- what those so far agree on
abbrev pub invariant-loop-class : goal.invariant-loop-class
invariant-loop-class l = (spec : SpecTree) → HaveIndexes l.own (classes spec) → Rows l.rows spec → list_all (is_placed l.rows) l.classes ≡ true
    → l.answer ≡ agreed_at spec (take l.class-index l.classes) l.ask
