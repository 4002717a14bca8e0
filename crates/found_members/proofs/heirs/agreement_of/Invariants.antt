use Rattle.std.proofs.Common.{◌≡◌, take, true}
use Rattle.std.specs.List.{list_all}
use Rattle.abstract_syntax.specs.Classes.{SpecTree}
use Rattle.class_meaning.specs.Classes.{classes}
use Rattle.class_meaning.specs.declared.ask.Ask.{Ask}
use Rattle.found_members.specs.Agreements.{agreed_at, Answers}
use Rattle.found_members.specs.Rows.{HaveIndexes, Rows, is_placed}
use Rattle.found_members.specs.Ways.{is_among}
use Rattle.found_members.proofs.heirs.agreement_of.Given as goal

-- the ways so far are noted, and no others
abbrev pub invariant-loop-way : goal.invariant-loop-way
invariant-loop-way l = (spec : SpecTree) → HaveIndexes l.own (classes spec) → Rows l.rows spec → list_all (is_placed l.rows) l.superclasses ≡ true
    → Answers l.agreement (agreed_at spec l.superclasses)
    × ((ask : Ask) → is_among l.agreement.ways.items ask ≡ is_among (take l.way-index l.way-items) ask)
