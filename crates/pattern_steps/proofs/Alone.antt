-- What follows a pattern that no `^` stands before.
use Rattle.std.proofs.Common.{◌≡◌, List, ◌∷◌, Result, Ok, Err, Option, IfOk, refl, ◌∙◌}
use Rattle.abstract_syntax.specs.Expressions.{PatternTree}
use Rattle.grammar_words.specs.declared.word.Word.{Word}
use Rattle.grammar_trees.specs.Frames as pure
use Rattle.grammar_trees.specs.Machine.{follow_pattern_word, follow_single, joins}
use Rattle.tree_frames.specs.declared.frame.Frame.{Frame}
use Rattle.tree_frames.specs.declared.frame.Frame.TheVariants as in_frame
use Rattle.tree_frames.specs.declared.mode.Mode.{Mode}
use Rattle.tree_frames.specs.Views.{frame_view, state_view}
use Rattle.vdm_kinds.specs.declared.halt.OutOfMemory.{OutOfMemory}

-- one line for each kind of frame
pub framed : (frame : Frame) (w : Word) (p : PatternTree) (fs : List pure.Frame) → ((patterns : _) (place : _) → frame ≡ in_frame.Concatenated patterns place → ⊥) → follow_single (joins w) w p (frame_view frame ∷ fs) ≡ follow_pattern_word w p (frame_view frame ∷ fs)
framed (in_frame.OperandOf x0 x1) w p fs other = refl
framed (in_frame.RightOf x0 x1 x2) w p fs other = refl
framed (in_frame.Body x0 x1) w p fs other = refl
framed (in_frame.Enclosed x0 x1) w p fs other = refl
framed (in_frame.Matched x0) w p fs other = refl
framed (in_frame.Items x0 x1 x2) w p fs other = refl
framed (in_frame.TupleStart x0) w p fs other = refl
framed (in_frame.RangeEnd x0 x1 x2) w p fs other = refl
framed (in_frame.MapKey x0 x1) w p fs other = refl
framed (in_frame.MapValue x0 x1 x2) w p fs other = refl
framed (in_frame.Condition x0 x1) w p fs other = refl
framed (in_frame.BindSet x0 x1 x2 x3) w p fs other = refl
framed (in_frame.SequenceSet x0 x1 x2) w p fs other = refl
framed (in_frame.LeftClass x0 x1) w p fs other = refl
framed (in_frame.RightClass x0 x1 x2) w p fs other = refl
framed (in_frame.Tested x0) w p fs other = refl
framed (in_frame.Modified x0) w p fs other = refl
framed (in_frame.FieldValue x0 x1 x2 x3 x4) w p fs other = refl
framed (in_frame.LetValue x0 x1 x2 x3) w p fs other = refl
framed (in_frame.LetSuch x0 x1) w p fs other = refl
framed (in_frame.DefValue x0 x1) w p fs other = refl
framed (in_frame.IfTest x0) w p fs other = refl
framed (in_frame.IfThen x0 x1) w p fs other = refl
framed (in_frame.ElseifTest x0 x1 x2 x3) w p fs other = refl
framed (in_frame.ElseifThen x0 x1 x2 x3 x4) w p fs other = refl
framed (in_frame.Subject x0) w p fs other = refl
framed (in_frame.CaseValue x0 x1 x2 x3) w p fs other = refl
framed (in_frame.OthersValue x0 x1 x2) w p fs other = refl
framed (in_frame.BindPatterns x0 x1 x2 x3) w p fs other = refl
framed (in_frame.SequenceBound x0 x1) w p fs other = refl
framed (in_frame.LetStart x0) w p fs other = refl
framed (in_frame.LetNext x0 x1) w p fs other = refl
framed (in_frame.DefPattern x0) w p fs other = refl
framed (in_frame.CasePatterns x0 x1 x2 x3) w p fs other = refl
framed (in_frame.PatternItems x0 x1 x2) w p fs other = refl
framed (in_frame.TuplePatternStart x0) w p fs other = refl
framed (in_frame.PatternKey x0 x1) w p fs other = refl
framed (in_frame.PatternValue x0 x1 x2) w p fs other = refl
framed (in_frame.Concatenated x0 x1) w p fs other = absurd (other x0 x1 refl)
framed (in_frame.TestType x0 x1) w p fs other = refl
framed (in_frame.LetType x0 x1 x2) w p fs other = refl
framed in_frame.TypeBracket w p fs other = refl

-- the same of what a call gives, if it gives anything
pub of-call : (r : Result (Option Mode) OutOfMemory) (after : List Frame) (s t : pure.State) → s ≡ t → IfOk r (λ next. state_view next after ≡ s) → IfOk r (λ next. state_view next after ≡ t)
of-call (Ok next) after s t same h = h ∙ same
of-call (Err fault) after s t same h = h
