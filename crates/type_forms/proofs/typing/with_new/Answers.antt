use Rattle.type_forms.proofs.Nothing.{ok_same, pushed_whole}
use Rattle.type_forms.proofs.typing.with_new.Goals as goal

pub returns : goal.returns
returns c =
    ok_same c.one_of.result _ _ (pushed_whole c.in_ok-own.own.items c.push.new.self.items c.args.alt _ c.in_ok-push.ensures.items c.in_ok-own.ensures)
    c.one_of.ensures
