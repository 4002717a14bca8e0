use Rattle.value_text.proofs.Coming.{begun}
use Rattle.value_text.proofs.value.value_string.Goals as goal

pub returns : goal.returns
returns c = begun c.args.names.now _ _ _ _ _ c.new-text.ensures.bytes c.new-pieces.ensures.items c.in_ok-put_value.ensures c.in_ok-finish.ensures
