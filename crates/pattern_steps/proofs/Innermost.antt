-- The innermost frame, which is taken off.
use Rattle.std.proofs.Common.{◌≡◌, ℕ, ◌+◌, ◌-◌, List, [], ◌∷◌, ◌++◌, Option, Some, None, MatchOption, option_to_list, take, append-nil, sym, ap, ◌∙◌}
use Rattle.tree_frames.specs.declared.frame.Frame.{Frame}
use Rattle.tree_frames.specs.Views.{frame_view, stack_view}
use Rattle.tree_frames.proofs.Stacks.{popped-frame}

pub popped-whole : (old new : List Frame) (found : Option Frame) (n m : ℕ) → old ≡ new ++ option_to_list found → new ≡ take (n - 1) old → MatchOption found ((n ≡ 0) × (m ≡ 0)) (λ _. m + 1 ≡ n) → MatchOption found ((stack_view old ≡ []) × (stack_view new ≡ [])) (λ frame. stack_view old ≡ frame_view frame ∷ stack_view new)
popped-whole old new None n m e rest cases =
    let none : stack_view old ≡ [] = popped-frame old new None n m e rest cases in
    (none, sym (ap stack_view (e ∙ append-nil new)) ∙ none)
popped-whole old new (Some frame) n m e rest cases = popped-frame old new (Some frame) n m e rest cases
