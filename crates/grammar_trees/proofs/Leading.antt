-- Tokens that are written so lead from one state to another; and what is read of trees, one part after the other.
use Rattle.std.proofs.Common.{◌≡◌, ℕ, ℤ, ◌<◌, ◌≤◌, List, [], ◌∷◌, ◌++◌, refl, ap, sym, subst, ◌∙◌, arith, append_assoc}
use Rattle.vdm_kinds.specs.declared.place.Place.{Place}
use Rattle.abstract_syntax.specs.Expressions.{ExprTree}
use Rattle.grammar_words.specs.declared.word.Word.{Word}
use Rattle.grammar_words.specs.Tokens.{Token, plain, whole}
use Rattle.grammar_words.specs.Written.{Written, at, word, number, IsToken, at_word}
use Rattle.grammar_words.specs.Pulls.{far_pull}
use Rattle.grammar_trees.specs.Spelling.{spelling}
use Rattle.grammar_trees.specs.Binding.{reach, Binds}
use Rattle.grammar_trees.specs.Frames.{Frame, State, wants, has}
use Rattle.grammar_trees.specs.Machine.{TypeReader, in_mode, pull, completed, word_pull, go_on, follow_word, step, run}
use Rattle.grammar_trees.proofs.Ends.{word_below, Ends, Ends-more, reach-positive, completes, follow_plain-word, if-most}

-- the tokens begin as written, and these are left
abbrev pub Begins : List Token → List Written → List Token → Type 0
Begins tokens [] rest = tokens ≡ rest
Begins [] (w ∷ ws) rest = ⊥
Begins (token ∷ tokens) (w ∷ ws) rest = IsToken token w × Begins tokens ws rest

-- from one state to another, where what comes next pulls less than this
pub record Leads (types : TypeReader) (n : ℕ) (ws : List Written) (before after : State) : Type 0 where
  pub leads : (tokens rest : List Token) → Begins tokens ws rest → Ends rest n → run types tokens before ≡ run types rest after

pub nothing_more : {types : TypeReader} {n : ℕ} {s : State} → Leads types n [] s s
nothing_more {types = types} {s = s} = record { leads = λ tokens rest h k. ap (λ (ts : List Token). run types ts s) h }

-- ---- single tokens

at-leads : (types : TypeReader) (n : ℕ) (token : Token) (ws : List Written) (s after : State) → Leads types n ws (step types s token) after → (tokens rest : List Token) → Begins tokens (at token ∷ ws) rest → Ends rest n → run types tokens s ≡ run types rest after
at-leads types n token ws s after r [] rest h k = absurd h
at-leads types n token ws s after r (t ∷ ts) rest h k =
    ap (λ (u : Token). run types ts (step types s u)) h.0 ∙ r.leads ts rest h.1 k

pub at_token : {types : TypeReader} {n : ℕ} {ws : List Written} {s middle after : State} (token : Token) → step types s token ≡ middle → Leads types n ws middle after → Leads types n (at token ∷ ws) s after
at_token {types = types} {n = n} {ws = ws} {s = s} {after = after} token e r =
    record { leads = at-leads types n token ws s after (subst (λ (m : State). Leads types n ws m after) (sym e) r) }

word-leads : (types : TypeReader) (n : ℕ) (w : Word) (ws : List Written) (s after : State) → ((place : Place) → Leads types n ws (step types s (plain w place)) after) → (tokens rest : List Token) → Begins tokens (word w ∷ ws) rest → Ends rest n → run types tokens s ≡ run types rest after
word-leads types n w ws s after r [] rest h k = absurd h
word-leads types n w ws s after r (t ∷ ts) rest h k =
    ap (λ (u : Token). run types ts (step types s u)) h.0.1 ∙ (r h.0.0).leads ts rest h.1 k

pub at_any : {types : TypeReader} {n : ℕ} {ws : List Written} {s middle after : State} (w : Word) → ((place : Place) → step types s (plain w place) ≡ middle) → Leads types n ws middle after → Leads types n (word w ∷ ws) s after
at_any {types = types} {n = n} {ws = ws} {s = s} {after = after} w e r =
    record { leads = word-leads types n w ws s after (λ place. subst (λ (m : State). Leads types n ws m after) (sym (e place)) r) }

-- ---- two after each other

pub Begins-split : (tokens : List Token) (a b : List Written) (rest : List Token) → Begins tokens (a ++ b) rest → (middle : List Token) × Begins tokens a middle × Begins middle b rest
Begins-split tokens [] b rest h = (tokens, refl, h)
Begins-split [] (w ∷ ws) b rest h = absurd h
Begins-split (t ∷ ts) (w ∷ ws) b rest h = let k = Begins-split ts ws b rest h.1 in (k.0, (h.0, k.1), k.2)

-- what may be regrouped
pub regroup : {types : TypeReader} {n : ℕ} {before after : State} (a b c : List Written) → Leads types n (a ++ (b ++ c)) before after → Leads types n ((a ++ b) ++ c) before after
regroup {types = types} {n = n} {before = before} {after = after} a b c r = subst (λ (ws : List Written). Leads types n ws before after) (sym (append_assoc a b c)) r

-- ---- expressions

abbrev pub stack_pull : List Frame → ℕ
stack_pull [] = 0
stack_pull (f ∷ fs) = pull f

-- the expression is read wherever it may stand, and whatever is open
pub record Taken (types : TypeReader) (e : ExprTree) : Type 0 where
  pub taken : (m : ℕ) (fs : List Frame) → Binds e m → stack_pull fs ≤ m → Leads types (reach e) (spelling e) (in_mode wants fs) (in_mode (has e) fs)

-- frames that pull no more than the word stay
pub stays : (w : Word) (place : Place) (e : ExprTree) (fs : List Frame) → stack_pull fs ≤ word_pull w → follow_word w place e fs ≡ go_on w place e fs
stays w place e [] h = refl
stays w place e (f ∷ fs) h = rw (if-most (word_pull w) (pull f) h) refl

-- an expression, and a token behind it that pulls less than its right end
behind-leads : (types : TypeReader) (n m : ℕ) (e : ExprTree) (fs : List Frame) (w : Written) (ws : List Written) (after : State) → Taken types e → Binds e m → stack_pull fs ≤ m → ((t : Token) → IsToken t w → Ends (t ∷ []) (reach e)) → Leads types n (w ∷ ws) (in_mode (has e) fs) after → (tokens rest : List Token) → Begins tokens (spelling e ++ w ∷ ws) rest → Ends rest n → run types tokens (in_mode wants fs) ≡ run types rest after
behind-leads types n m e fs w ws after t b p q r tokens rest h k =
    let a = Begins-split tokens (spelling e) (w ∷ ws) rest h in
    (t.taken m fs b p).leads tokens a.0 a.1 (by a.0 a.2) ∙ r.leads a.0 rest a.2 k
  where
    by : (middle : List Token) → Begins middle (w ∷ ws) rest → Ends middle (reach e)
    by [] g = absurd g
    by (u ∷ us) g = record { below = (q u g.0).below }

pub below_one : 0 < 1
below_one = omega arith

pub small : 0 ≤ far_pull
small = omega arith

word-ends : (w : Word) (n : ℕ) → word_below w 1 → 1 ≤ n → (t : Token) → IsToken t (word w) → Ends (t ∷ []) n
word-ends w n c h t k = subst (λ (u : Token). Ends (u ∷ []) n) (sym k.1) (Ends-more (plain w k.0 ∷ []) 1 n h (record { below = c }))

-- a whole expression, up to a word that closes it
pub part : {types : TypeReader} {n : ℕ} {ws : List Written} {fs : List Frame} {middle after : State} (e : ExprTree) (w : Word) → Taken types e → Binds e far_pull → word_below w 1 → stack_pull fs ≤ far_pull → ((place : Place) → step types (in_mode (has e) fs) (plain w place) ≡ middle) → Leads types n ws middle after → Leads types n (spelling e ++ word w ∷ ws) (in_mode wants fs) after
part {types = types} {n = n} {ws = ws} {fs = fs} {after = after} e w t b c p s r =
    record { leads = behind-leads types n far_pull e fs (word w) ws after t b p (word-ends w (reach e) c (reach-positive e)) (at_any w s r) }

-- the operand before a sign or a postfix
pub before_word : {types : TypeReader} {n : ℕ} {ws : List Written} {fs : List Frame} {middle after : State} (m : ℕ) (e : ExprTree) (w : Word) (place : Place) → Taken types e → Binds e m → stack_pull fs ≤ m → m ≤ word_pull w → word_below w (reach e) → go_on w place e fs ≡ middle → Leads types n ws middle after → Leads types n (spelling e ++ at_word w place ∷ ws) (in_mode wants fs) after
before_word {types = types} {n = n} {ws = ws} {fs = fs} {after = after} m e w place t b p q c s r =
    record {
      leads = behind-leads types n m e fs (at_word w place) ws after t b p
          (λ u k. subst (λ (v : Token). Ends (v ∷ []) (reach e)) (sym k) (record { below = c }))
          (at_token (plain w place) (follow_plain-word w (reach e) place e fs c ∙ stays w place e fs (omega arith) ∙ s) r);
    }

-- the last operand, which a frame takes
pub last_operand : {types : TypeReader} {n : ℕ} {fs : List Frame} (e : ExprTree) (f : Frame) → Taken types e → Binds e (pull f) → n ≤ reach e → n ≤ pull f → Leads types n (spelling e) (in_mode wants (f ∷ fs)) (in_mode (has (completed f e)) fs)
last_operand {types = types} {n = n} {fs = fs} e f t b p q =
    record { leads = λ tokens rest h k. (t.taken (pull f) (f ∷ fs) b (omega arith)).leads tokens rest h (Ends-more rest n (reach e) p k) ∙ completes types rest f fs e (Ends-more rest n (pull f) q k) }

-- a number at any place
number-leads : (types : TypeReader) (n : ℕ) (m : ℤ) (ws : List Written) (s after : State) → ((place : Place) → Leads types n ws (step types s (whole m place)) after) → (tokens rest : List Token) → Begins tokens (number m ∷ ws) rest → Ends rest n → run types tokens s ≡ run types rest after
number-leads types n m ws s after r [] rest h k = absurd h
number-leads types n m ws s after r (t ∷ ts) rest h k =
    ap (λ (u : Token). run types ts (step types s u)) h.0.1 ∙ (r h.0.0).leads ts rest h.1 k

pub at_number : {types : TypeReader} {n : ℕ} {ws : List Written} {s middle after : State} (m : ℤ) → ((place : Place) → step types s (whole m place) ≡ middle) → Leads types n ws middle after → Leads types n (number m ∷ ws) s after
at_number {types = types} {n = n} {ws = ws} {s = s} {after = after} m e r =
    record { leads = number-leads types n m ws s after (λ place. subst (λ (m : State). Leads types n ws m after) (sym (e place)) r) }
