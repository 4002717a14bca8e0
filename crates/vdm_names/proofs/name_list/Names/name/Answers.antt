use Rattle.std.proofs.Common.{◌≡◌, true, false, sym, ap, ◌∙◌, true≢false}
use Rattle.std.specs.Option.{option_copied}
use Rattle.vdm_names.proofs.NameLemmas.{with_name-there, with_name-new}
use Rattle.vdm_names.proofs.Numbers.{is_number_in, is_among, number_in-new, looked_up, not_found}
use Rattle.vdm_names.proofs.name_list.Names.name.Goals as goal

pub returns-in-Some-clause-name : goal.returns-in-Some-clause-name
returns-in-Some-clause-name c =
    is_number_in c.args.self.now c.args.text.now c.in-Some.number.now
    (looked_up c.self.inside.numbers _ _ c.args.text.now _ c.self.invariant c.self.view_is (ap option_copied (sym c.in-Some.is) ∙ c.get.ensures.value))

pub returns-in-Some-clause-names : goal.returns-in-Some-clause-names
returns-in-Some-clause-names c =
    sym (with_name-there c.args.self.now c.args.text.now (is_among c.args.self.now c.args.text.now c.in-Some.number.now
    (looked_up c.self.inside.numbers _ _ c.args.text.now _ c.self.invariant c.self.view_is (ap option_copied (sym c.in-Some.is) ∙ c.get.ensures.value))))

pub push-requires-clause-new : goal.push-requires-clause-new
push-requires-clause-new c =
    not_found c.self.inside.numbers _ c.args.self.now c.args.text.now c.self.invariant c.self.view_is (ap option_copied (sym c.in_default.is) ∙ c.get.ensures.value)

pub returns-clause-name : goal.returns-clause-name
returns-clause-name c =
    rw (number_in-new c.args.self.now c.args.text.now (not_found c.self.inside.numbers _ _ _ c.self.invariant c.self.view_is (ap option_copied (sym c.in_default.is) ∙ c.get.ensures.value)))
    c.push.ensures.name

pub returns-clause-names : goal.returns-clause-names
returns-clause-names c =
    rw (with_name-new c.args.self.now c.args.text.now (not_found c.self.inside.numbers _ _ _ c.self.invariant c.self.view_is (ap option_copied (sym c.in_default.is) ∙ c.get.ensures.value)))
    c.push.ensures.names

pub returns-clause-there : goal.returns-clause-there
returns-clause-there c there =
    absurd (true≢false (sym there ∙ not_found c.self.inside.numbers _ _ _ c.self.invariant c.self.view_is (ap option_copied (sym c.in_default.is) ∙ c.get.ensures.value)))
