use Rattle.std.proofs.Common.{rules, [], ◌∷◌, ◌++◌, map, sym, ap, subst, ◌∙◌}
use Rattle.std.specs.String.{string_bytes}
use Rattle.vdm_names.specs.Numbering.{IsNumbered}
use Rattle.vdm_names.proofs.Numbers.{pushed, IsNumbered-same}
use Rattle.vdm_names.proofs.name_list.Names.push.Goals as goal

pub invariant_of-self-in_err-insert : goal.invariant_of-self-in_err-insert
invariant_of-self-in_err-insert c =
    subst (λ items. IsNumbered c.insert.new.self (map string_bytes items)) (sym c.reserve.ensures.items)
    (IsNumbered-same c.self.inside.numbers c.insert.new.self _ c.self.invariant c.in_err-insert.ensures.err)

pub invariant_of-self-2 : goal.invariant_of-self-2
invariant_of-self-2 c =
    pushed c.self.inside.numbers c.insert.new.self c.self.inside.texts.items c.push_reserved.new.self.items c.args.self.now c.in_ok-kept.kept
    c.in_ok-key.key c.args.text.now _ c.self.invariant c.self.view_is c.requires.new c.in_ok-kept.ensures.ok c.in_ok-key.ensures.ok (search rules)
    c.in_ok-insert.ensures.updates (c.push_reserved.ensures.items ∙ ap (λ items. items ++ c.in_ok-kept.kept ∷ []) c.reserve.ensures.items)
