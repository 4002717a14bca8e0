-- The comments that stand in front of a text.
use Rattle.std.proofs.Common.{◌≡◌, ℕ, ◌+◌, ◌==◌, ◌&&◌, ◌≤◌, Bool, true, false, cond, List, [], ◌∷◌, ◌++◌, length, take, drop, codes, Some, refl, ap, sym, subst, ◌∙◌, append_assoc, length-append, arith}
use Rattle.std.specs.List.{prefix_len}
use Rattle.vdm_lexer.specs.Characters.{is_of_line}
use Rattle.vdm_lexer.specs.Comments.{comment_close}
use Rattle.vdm_lexer.specs.Pieces.{begins}
use Rattle.vdm_lexer.specs.Quoted.{one_more}
use Rattle.lexeme_laws.specs.Longest.{AreAll, IsLongest}
use Rattle.lexeme_laws.specs.Spaces.{IsLineComment}
use Rattle.lexeme_laws.proofs.Begun.{begins-sound, one_more-some, same-if}
use Rattle.lexeme_laws.proofs.Runs.{all-append, all-behind, run-length, run-all, run-stops, stops-longest, longest-stops}

-- line comments

line-on : (line : List ℕ) (c : ℕ) (more : List ℕ) → IsLineComment ((45 ∷ 45 ∷ line) ++ c ∷ more) → is_of_line c ≡ true
line-on line c more w =
    let rest : line ++ c ∷ more ≡ w.line = ap (drop 2) w.is in
    let all = subst (AreAll is_of_line) (sym rest) w.of_line in
    (all-behind is_of_line line (c ∷ more) all).0

pub line-found : (cs : List ℕ) → IsLongest IsLineComment (45 ∷ 45 ∷ take (prefix_len is_of_line cs) cs) (drop (prefix_len is_of_line cs) cs)
line-found cs =
    longest-stops is_of_line IsLineComment (45 ∷ 45 ∷ take (prefix_len is_of_line cs) cs) _
    (record { line = take (prefix_len is_of_line cs) cs; is = refl; of_line = run-all is_of_line cs })
    (run-stops is_of_line cs) (line-on _)

pub line-read : (line rest : List ℕ) → AreAll is_of_line line → IsLongest IsLineComment (45 ∷ 45 ∷ line) rest → prefix_len is_of_line (line ++ rest) ≡ length line
line-read line rest all l =
    let stops = stops-longest is_of_line IsLineComment (45 ∷ 45 ∷ line) rest l
    (λ c passes. record { line = line ++ c ∷ []; is = refl; of_line = all-append is_of_line line (c ∷ []) all (passes, tt) }) in
    run-length is_of_line line rest all stops

-- block comments

abbrev pub Without : List ℕ → Type 0
Without inside = (front behind : List ℕ) → inside ≡ front ++ (codes "*/" ++ behind) → ⊥

not-begun : (c : ℕ) (cs rest : List ℕ) → Without (c ∷ cs) → begins (c ∷ (cs ++ 42 ∷ 47 ∷ rest)) (codes "*/") ≡ false
unfolding begins
not-begun c [] rest w = by (c == 42)
  where
    by : (b : Bool) → (b && false) ≡ false
    by true = refl
    by false = refl
not-begun c (d ∷ ds) rest w = by (c == 42) (d == 47) refl refl
  where
    by : (a b : Bool) → (c == 42) ≡ a → (d == 47) ≡ b → (a && (b && true)) ≡ false
    by true true e f = absurd (w [] ds (ap (λ (x : ℕ). x ∷ d ∷ ds) (same-if c 42 e) ∙ ap (λ (x : ℕ). 42 ∷ x ∷ ds) (same-if d 47 f)))
    by true false e f = refl
    by false b e f = refl

without-rest : (c : ℕ) (cs : List ℕ) → Without (c ∷ cs) → Without cs
without-rest c cs w front behind e = w (c ∷ front) behind (ap (λ (t : List ℕ). c ∷ t) e)

pub close-read : (inside rest : List ℕ) → Without inside → comment_close (inside ++ 42 ∷ 47 ∷ rest) ≡ Some (length inside)
unfolding begins
close-read [] rest w = refl
close-read (c ∷ cs) rest w =
    ap (λ (b : Bool). cond b (Some 0) (one_more (comment_close (cs ++ 42 ∷ 47 ∷ rest)))) (not-begun c cs rest w)
    ∙ ap one_more (close-read cs rest (without-rest c cs w))
    ∙ (let e : length cs + 1 ≡ length (c ∷ cs) = omega arith in ap Some e)

close-early : (front t : List ℕ) (m : ℕ) → comment_close (front ++ 42 ∷ 47 ∷ t) ≡ Some m → m ≤ length front
unfolding begins
close-early [] t m e = let z : m ≡ 0 = cc in omega arith
close-early (c ∷ front) t m e = by (begins (c ∷ (front ++ 42 ∷ 47 ∷ t)) (codes "*/")) e (close-early front t)
  where
    by : (b : Bool) → cond b (Some 0) (one_more (comment_close (front ++ 42 ∷ 47 ∷ t))) ≡ Some m → ((k : ℕ) → comment_close (front ++ 42 ∷ 47 ∷ t) ≡ Some k → k ≤ length front) → m ≤ length (c ∷ front)
    by true e next = let z : m ≡ 0 = cc in omega arith
    by false e next =
        let found = one_more-some (comment_close (front ++ 42 ∷ 47 ∷ t)) m e in
        let least = next found.0 found.1 in
        let one = found.2 in
        omega arith

close-split : (text : List ℕ) (n : ℕ) → comment_close text ≡ Some n → (inside others : List ℕ) × (text ≡ inside ++ 42 ∷ 47 ∷ others) × (length inside ≡ n)
close-split [] n e = absurd (cc)
close-split (c ∷ cs) n e = by (begins (c ∷ cs) (codes "*/")) refl e (close-split cs)
  where
    by : (b : Bool) → begins (c ∷ cs) (codes "*/") ≡ b → cond b (Some 0) (one_more (comment_close cs)) ≡ Some n → ((k : ℕ) → comment_close cs ≡ Some k → (inside others : List ℕ) × (cs ≡ inside ++ 42 ∷ 47 ∷ others) × (length inside ≡ k)) → (inside others : List ℕ) × (c ∷ cs ≡ inside ++ 42 ∷ 47 ∷ others) × (length inside ≡ n)
    by true h e next =
        let begun = begins-sound (c ∷ cs) (codes "*/") h in
        let z : n ≡ 0 = cc in
        ([], begun.0, begun.1, omega arith)
    by false h e next =
        let found = one_more-some (comment_close cs) n e in
        let rest = next found.0 found.1 in
        let one = found.2 in
        let long = rest.3 in
        (c ∷ rest.0, rest.1, ap (λ (t : List ℕ). c ∷ t) rest.2, omega arith)

-- the text between the signs, where it is closed
pub record IsShut (text : List ℕ) (n : ℕ) : Type 0 where
  pub inside : List ℕ
  pub others : List ℕ
  pub is : text ≡ inside ++ 42 ∷ 47 ∷ others
  pub length : length inside ≡ n
  pub without : Without inside

pub close-found : (text : List ℕ) (n : ℕ) → comment_close text ≡ Some n → IsShut text n
close-found text n e =
    let split = close-split text n e in
    record { inside = split.0; others = split.1; is = split.2; length = split.3; without = without split.0 split.1 split.2 split.3 }
  where
    without : (inside others : List ℕ) → text ≡ inside ++ 42 ∷ 47 ∷ others → length inside ≡ n → Without inside
    without inside others is long front behind f =
        let all : text ≡ front ++ 42 ∷ 47 ∷ (behind ++ 42 ∷ 47 ∷ others) = is ∙ ap (λ (t : List ℕ). t ++ 42 ∷ 47 ∷ others) f ∙ append_assoc front (42 ∷ 47 ∷ behind) (42 ∷ 47 ∷ others) in
        let least = close-early front (behind ++ 42 ∷ 47 ∷ others) n (ap comment_close (sym all) ∙ e) in
        let longer : length inside ≡ length (front ++ 42 ∷ 47 ∷ behind) = ap length f in
        let sum = length-append front (42 ∷ 47 ∷ behind) in
        omega arith
