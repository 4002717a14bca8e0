-- What an expression becomes where frames end, step by step.
use Rattle.std.proofs.Common.{◌≡◌, ℕ, suc, ◌-◌, List, [], ◌∷◌, ◌++◌, length, slice_get, Bool, true, false, if◌then◌else◌, nat_lt, Option, Some, None, MatchOption, Result, Ok, Err, IfOk, refl, ap, sym, ◌∙◌, arith}
use Rattle.abstract_syntax.specs.Expressions.{ExprTree}
use Rattle.grammar_trees.specs.Frames.{Frame, Built}
use Rattle.grammar_trees.specs.Machine.{pull, completed, word_pull, follow_word, go_on, end_expr}
use Rattle.grammar_trees.specs.Reading.{built_pattern}
use Rattle.grammar_words.specs.declared.word.Word.{Word}
use Rattle.vdm_kinds.specs.declared.halt.OutOfMemory.{OutOfMemory}
use Rattle.vdm_kinds.specs.declared.place.Place.{Place}
use Rattle.tree_frames.specs.declared.frame.Frame.{Frame as Kept}
use Rattle.tree_frames.specs.declared.mode.Mode.{Mode}
use Rattle.tree_frames.specs.Views.{frame_view, stack_view, state_view}
use Rattle.tree_frames.proofs.Stacks.{stack-push}
use Rattle.expr_builder.specs.Settling.{Closed, closed, pulls_more, settled, alone}

-- what is chosen goes on as each choice does
chosen : {A B : Type 0} (b : Bool) (x y : A) (s t : B) (go : A → B) → s ≡ go x → t ≡ go y → (if b then s else t) ≡ go (if b then x else y)
chosen true x y s t go p q = p
chosen false x y s t go p q = q

settled-step : (behind : ℕ) (e : ExprTree) (f : Frame) (fs : List Frame) → nat_lt behind (pull f) ≡ true → settled behind e (f ∷ fs) ≡ settled behind (completed f e) fs
settled-step behind e f fs h = ap (λ (b : Bool). if b then settled behind (completed f e) fs else closed e (f ∷ fs)) h

-- the innermost frame ends
pub settled-on : (behind : ℕ) (e whole : ExprTree) (f : Frame) (old new : List Frame)
    → pulls_more behind old ≡ true → old ≡ f ∷ new → whole ≡ completed f e → settled behind whole new ≡ settled behind e old
settled-on behind e whole f old new more is made =
    ap (λ (x : ExprTree). settled behind x new) made
    ∙ sym (settled-step behind e f new (sym (ap (pulls_more behind) is) ∙ more))
    ∙ sym (ap (settled behind e) is)

-- no frame ends
settled-end : (behind : ℕ) (e : ExprTree) (fs : List Frame) → pulls_more behind fs ≡ false → settled behind e fs ≡ closed e fs
settled-end behind e [] h = refl
settled-end behind e (f ∷ fs) h = ap (λ (b : Bool). if b then settled behind (completed f e) fs else closed e (f ∷ fs)) h

pub settled-done : (behind : ℕ) (e first : ExprTree) (fs all now : List Frame) → settled behind e fs ≡ settled behind first all → pulls_more behind fs ≡ false → now ≡ fs → settled behind first all ≡ closed e now
settled-done behind e first fs all now same none kept = sym same ∙ settled-end behind e fs none ∙ ap (closed e) (sym kept)

-- a word goes on behind what ends before it
followed : (w : Word) (place : Place) (e : ExprTree) (fs : List Frame) → follow_word w place e fs ≡ go_on w place (settled (word_pull w) e fs).tree (settled (word_pull w) e fs).frames
followed w place e [] = refl
followed w place e (f ∷ fs) =
    chosen (nat_lt (word_pull w) (pull f)) (settled (word_pull w) (completed f e) fs) (closed e (f ∷ fs)) _ _ (λ (c : Closed). go_on w place c.tree c.frames) (followed w place (completed f e) fs) refl

followed-on : (w : Word) (place : Place) (e whole : ExprTree) (old new : List Frame) (n : ℕ) → n ≡ word_pull w → settled n e old ≡ closed whole new → go_on w place whole new ≡ follow_word w place e old
followed-on w place e whole old new n is made =
    sym (followed w place e old ∙ ap (λ (c : Closed). go_on w place c.tree c.frames) (ap (λ (k : ℕ). settled k e old) (sym is) ∙ made))

pub followed-by : (r : Result (Option Mode) OutOfMemory) (now : List Kept) (w : Word) (place : Place) (e whole : ExprTree) (old new : List Frame) (n : ℕ) → n ≡ word_pull w → settled n e old ≡ closed whole new
    → IfOk r (λ next. state_view next now ≡ go_on w place whole new) → IfOk r (λ next. state_view next now ≡ follow_word w place e old)
followed-by (Ok next) now w place e whole old new n is made h = h ∙ followed-on w place e whole old new n is made
followed-by (Err x) now w place e whole old new n is made h = tt

-- at the end of the tokens nothing else may be open
end-alone : (e : ExprTree) (fs : List Frame) → end_expr e fs ≡ alone (settled 0 e fs).tree (settled 0 e fs).frames
end-alone e [] = refl
end-alone e (f ∷ fs) =
    chosen (nat_lt 0 (pull f)) (settled 0 (completed f e) fs) (closed e (f ∷ fs)) _ _ (λ (c : Closed). alone c.tree c.frames) (end-alone (completed f e) fs) refl

pub ended-on : (e whole : ExprTree) (old new : List Frame) → settled 0 e old ≡ closed whole new → alone whole new ≡ end_expr e old
ended-on e whole old new made = sym (end-alone e old ∙ ap (λ (c : Closed). alone c.tree c.frames) made)

-- an expression is no pattern
neither : (b : Bool) (x y : Built) → built_pattern x ≡ None → built_pattern y ≡ None → built_pattern (if b then x else y) ≡ None
neither true x y p q = p
neither false x y p q = q

pub no-pattern : (e : ExprTree) (fs : List Frame) → built_pattern (end_expr e fs) ≡ None
no-pattern e [] = refl
no-pattern e (f ∷ fs) = neither (nat_lt 0 (pull f)) _ _ (no-pattern (completed f e) fs) refl

-- the innermost frame is the last that is kept
last-split : (frames : List Kept) (last : Kept) → Some last ≡ slice_get frames (length frames - 1) → (rest : List Kept) × (frames ≡ rest ++ last ∷ [])
last-split [] last e = absurd (cc)
last-split (frame ∷ []) last e = let same : last ≡ frame = cc in ([], ap (λ (f : Kept). f ∷ []) (sym same))
last-split (frame ∷ second ∷ frames) last e =
    let n : length (frame ∷ second ∷ frames) - 1 ≡ suc (length frames) = omega arith in
    let m : length frames ≡ length (second ∷ frames) - 1 = omega arith in
    let rest = last-split (second ∷ frames) last (e ∙ ap (slice_get (frame ∷ second ∷ frames)) n ∙ ap (slice_get (second ∷ frames)) m) in
    (frame ∷ rest.0, ap (λ (fs : List Kept). frame ∷ fs) rest.1)

pub last-pulls : (behind : ℕ) (frames : List Kept) (last : Kept) (n : ℕ) → Some last ≡ slice_get frames (length frames - 1) → n ≡ pull (frame_view last) → nat_lt behind n ≡ pulls_more behind (stack_view frames)
last-pulls behind frames last n e is =
    let rest = last-split frames last e in
    ap (nat_lt behind) is ∙ sym (ap (pulls_more behind) (ap stack_view rest.1 ∙ stack-push rest.0 last))

-- a frame is taken off where it pulls more
pub pulled-off : (behind : ℕ) (old new : List Frame) (found : Option Kept) → pulls_more behind old ≡ true → MatchOption found (old ≡ []) (λ frame. old ≡ frame_view frame ∷ new)
    → MatchOption found ((pulls_more behind old ≡ false) × (new ≡ old)) (λ frame. (pulls_more behind old ≡ true) × (old ≡ frame_view frame ∷ new))
pulled-off behind old new None more is = absurd (let none : pulls_more behind old ≡ false = ap (pulls_more behind) is in cc)
pulled-off behind old new (Some frame) more is = (more, is)
