-- What the names are as they come.
use Rattle.std.proofs.Common.{◌≡◌, ℕ, List, [], ◌++◌, append_assoc, append-nil, ap, sym, ◌∙◌}
use Rattle.token_reader.specs.Read.{KeepsNames}

pub KeepsNames-same : (old new : List (List ℕ)) → new ≡ old → KeepsNames old new
KeepsNames-same old new same = record { more = []; names = same ∙ sym (append-nil old) }

pub KeepsNames-twice : (old mid new : List (List ℕ)) → KeepsNames old mid → KeepsNames mid new → KeepsNames old new
KeepsNames-twice old mid new first second = record {
  more = first.more ++ second.more;
  names = second.names ∙ ap (λ (ns : List (List ℕ)). ns ++ second.more) first.names ∙ append_assoc old first.more second.more;
}
