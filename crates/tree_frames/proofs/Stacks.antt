-- The frames that are open, innermost last as the program keeps them and innermost first as the definitions have them.
use Rattle.std.proofs.Common.{◌≡◌, ℕ, ◌+◌, ◌-◌, List, [], ◌∷◌, ◌++◌, Option, Some, None, MatchOption, option_to_list, take, append-nil, refl, ap, ◌∙◌, arith}
use Rattle.grammar_trees.specs.Frames as pure
use Rattle.tree_frames.specs.declared.frame.Frame.{Frame}
use Rattle.tree_frames.specs.Views.{frame_view, stack_onto, stack_view}

-- one frame more is innermost
pub onto-push : (below : List pure.Frame) (frames : List Frame) (frame : Frame) → stack_onto below (frames ++ frame ∷ []) ≡ frame_view frame ∷ stack_onto below frames
onto-push below [] frame = refl
onto-push below (first ∷ frames) frame = onto-push (frame_view first ∷ below) frames frame

pub stack-push : (frames : List Frame) (frame : Frame) → stack_view (frames ++ frame ∷ []) ≡ frame_view frame ∷ stack_view frames
stack-push frames frame = onto-push [] frames frame

-- a frame is taken off
pub popped-frame : (old new : List Frame) (found : Option Frame) (n m : ℕ) → old ≡ new ++ option_to_list found → new ≡ take (n - 1) old → MatchOption found ((n ≡ 0) × (m ≡ 0)) (λ _. m + 1 ≡ n) → MatchOption found (stack_view old ≡ []) (λ frame. stack_view old ≡ frame_view frame ∷ stack_view new)
popped-frame old new None n m e rest cases =
    let none : n - 1 ≡ 0 = omega (arith, cases.0) in
    ap stack_view (e ∙ append-nil new ∙ rest ∙ ap (λ (k : ℕ). take k old) none)
popped-frame old new (Some frame) n m e rest cases = ap stack_view e ∙ stack-push new frame
