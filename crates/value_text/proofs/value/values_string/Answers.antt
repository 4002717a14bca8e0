use Rattle.value_text.proofs.Coming.{begun_later}
use Rattle.value_text.proofs.value.values_string.Goals as goal

pub returns : goal.returns
returns c =
    begun_later c.args.names.now _ _ _ _ _ c.new-text.ensures.bytes c.new-pieces.ensures.items
    (c.in_ok-put_values.ensures c.args.names.now) c.in_ok-finish.ensures
