-- The tokens of a front.
use Rattle.std.proofs.Common.{◌≡◌, ℕ, List, take, Option, option_map, Result, Ok, Err, IfOk, ap, sym, ◌∙◌}
use Rattle.std.specs.List.{take-map}
use Rattle.vdm_kinds.specs.declared.halt.OutOfMemory.{OutOfMemory}
use Rattle.grammar_tokens.specs.declared.token.Token.{Token as Kept}
use Rattle.grammar_tokens.specs.View.{token_view, token_views}
use Rattle.stmt_reading.specs.Classes.{spec_of}
use Rattle.vdm_tree.specs.declared.spec.Spec.{Spec}
use Rattle.vdm_tree.specs.ClassView.{spec_view}

-- the front of the tokens is what is kept of them
pub front-built : (r : Result (Option Spec) OutOfMemory) (count : ℕ) (tokens kept : List Kept) → kept ≡ take count tokens
    → IfOk r (λ built. option_map spec_view built ≡ spec_of (token_views kept)) → IfOk r (λ built. option_map spec_view built ≡ spec_of (take count (token_views tokens)))
front-built (Ok built) count tokens kept is h = h ∙ ap spec_of (ap token_views is ∙ sym (take-map token_view count tokens))
front-built (Err x) count tokens kept is h = tt
