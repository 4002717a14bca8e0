-- What is wanted behind a whole stays wanted: so a word that what follows takes is not taken before.
use Rattle.std.proofs.Common.{◌≡◌, ℕ, ◌==◌, Bool, true, false, List, [], ◌∷◌, ◌++◌, length, Option, Some, None, refl, ap, sym, subst, ◌∙◌, arith, append_assoc, if◌then◌else◌}
use Rattle.std.specs.Option.{option_and_then}
use Rattle.std.proofs.lemmas.Bool.Decides.{nat_tests}
use Rattle.grammar_words.specs.declared.word.Word.{Word}
use Rattle.grammar_fronts.specs.declared.wanted.Wanted.{Wanted}
use Rattle.grammar_fronts.specs.Turns.{Turn, wanted_by}
use Rattle.grammar_fronts.specs.Table.{turn, is_optional}
use Rattle.grammar_fronts.specs.Fronts.{is_whole}
use Rattle.grammar_fronts.specs.Viable.{refuses, after, taken, meets, either, left_by, needed}
use Rattle.stmt_laws.proofs.Stops.{only-optional}

same_wanted : (a b : List Wanted) → Some a ≡ Some b → a ≡ b
same_wanted a b e = cc

-- ---- more behind what is wanted

more_on : (t : Option Turn) (optional : Bool) (next : Wanted) (p b more : List Wanted) (w : Word)
    → ((found : List Wanted) → left_by (meets w p) ≡ Some found → left_by (meets w (p ++ b)) ≡ Some (found ++ b))
    → left_by (either t p (if optional then meets w p else refuses (next ∷ p))) ≡ Some more
    → left_by (either t (p ++ b) (if optional then meets w (p ++ b) else refuses (next ∷ (p ++ b)))) ≡ Some (more ++ b)
more_on (Some done) optional next p b more w others e =
    ap Some (sym (append_assoc (wanted_by done) p b)) ∙ ap (λ ws. Some (ws ++ b)) (same_wanted (wanted_by done ++ p) more e)
more_on None true next p b more w others e = others more e
more_on None false next p b more w others e = absurd (cc)

pub after_more : (w : Word) (p b more : List Wanted) → after w p ≡ Some more → after w (p ++ b) ≡ Some (more ++ b)
after_more w [] b more e = absurd (cc)
after_more w (next ∷ p) b more e =
    more_on (turn next w) (is_optional next) next p b more w (λ found h. after_more w p b found h) e

taken_on : (w : Word) (words : List Word) (p b q : List Wanted) (now : Option (List Wanted)) → after w p ≡ now
    → ((more : List Wanted) → taken words more ≡ Some q → taken words (more ++ b) ≡ Some (q ++ b))
    → option_and_then (taken words) now ≡ Some q → option_and_then (taken words) (after w (p ++ b)) ≡ Some (q ++ b)
taken_on w words p b q None is others e = absurd (cc)
taken_on w words p b q (Some more) is others e = ap (option_and_then (taken words)) (after_more w p b more is) ∙ others more e

pub taken_more : (words : List Word) (p b q : List Wanted) → taken words p ≡ Some q → taken words (p ++ b) ≡ Some (q ++ b)
taken_more [] p b q e = ap (λ ws. Some (ws ++ b)) (same_wanted p q e)
taken_more (w ∷ words) p b q e = taken_on w words p b q (after w p) refl (λ more h. taken_more words more b q h) e

two_on : (words others : List Word) (q : List Wanted) (now : Option (List Wanted))
    → ((more : List Wanted) → taken words more ≡ Some q → taken (words ++ others) more ≡ taken others q)
    → option_and_then (taken words) now ≡ Some q → option_and_then (taken (words ++ others)) now ≡ taken others q
two_on words others q None more e = absurd (cc)
two_on words others q (Some now) more e = more now e

pub taken_two : (words others : List Word) (p q : List Wanted) → taken words p ≡ Some q → taken (words ++ others) p ≡ taken others q
taken_two [] others p q e = ap (taken others) (same_wanted p q e)
taken_two (w ∷ words) others p q e = two_on words others q (after w p) (λ more h. taken_two words others more q h) e

-- ---- what has to come stays wanted while no word takes it

pub data Kept (x : Wanted) : Option (List Wanted) → Type 0 where
  lost : Kept x None
  kept : (v : List Wanted) → Kept x (Some (v ++ x ∷ []))

keeps_on : (t : Option Turn) (optional : Bool) (next x : Wanted) (v : List Wanted) (w : Word) → Kept x (left_by (meets w (v ++ x ∷ [])))
    → Kept x (left_by (either t (v ++ x ∷ []) (if optional then meets w (v ++ x ∷ []) else refuses (next ∷ (v ++ x ∷ [])))))
keeps_on (Some done) optional next x v w others =
    subst (Kept x) (ap Some (append_assoc (wanted_by done) v (x ∷ []))) (kept (wanted_by done ++ v))
keeps_on None true next x v w others = others
keeps_on None false next x v w others = lost

after_keeps : (w : Word) (x : Wanted) → turn x w ≡ None → is_optional x ≡ false → (v : List Wanted) → Kept x (after w (v ++ x ∷ []))
after_keeps w x none needs [] =
    subst (Kept x) (sym (ap (λ t. left_by (either t [] (if is_optional x then meets w [] else refuses (x ∷ [])))) none
    ∙ ap (λ (b : Bool). left_by (if b then meets w [] else refuses (x ∷ []))) needs)) lost
after_keeps w x none needs (next ∷ v) = keeps_on (turn next w) (is_optional next) next x v w (after_keeps w x none needs v)

abbrev pub NoneTaken : Wanted → List Word → Type 0
NoneTaken x [] = Unit {0}
NoneTaken x (w ∷ words) = (turn x w ≡ None) × NoneTaken x words

taken_kept : (x : Wanted) (words : List Word) → ((v : List Wanted) → Kept x (taken words (v ++ x ∷ [])))
    → (now : Option (List Wanted)) → Kept x now → Kept x (option_and_then (taken words) now)
taken_kept x words others _ lost = lost
taken_kept x words others _ (kept v) = others v

taken_keeps : (x : Wanted) → is_optional x ≡ false → (words : List Word) → NoneTaken x words → (v : List Wanted)
    → Kept x (taken words (v ++ x ∷ []))
taken_keeps x needs [] none v = kept v
taken_keeps x needs (w ∷ words) none v =
    taken_kept x words (taken_keeps x needs words none.1) (after w (v ++ x ∷ [])) (after_keeps w x none.0 needs v)

abbrev pub whole_of : Option (List Wanted) → Bool
whole_of (Some wanted) = is_whole wanted
whole_of None = false

needs_more : (x : Wanted) → is_optional x ≡ false → (v : List Wanted) → length (needed (v ++ x ∷ [])) ≡ 0 → ⊥
needs_more x needs [] h = let k = only-optional (is_optional x) x [] h in let e : true ≡ false = sym k.0 ∙ needs in absurd (cc)
needs_more x needs (next ∷ v) h = needs_more x needs v (only-optional (is_optional next) next (v ++ x ∷ []) h).1

pub zero-is : (n : ℕ) → (n == 0) ≡ true → n ≡ 0
zero-is n e = grind (arith, nat_tests)

never_whole : (x : Wanted) → is_optional x ≡ false → (found : Option (List Wanted)) → Kept x found → whole_of found ≡ true → ⊥
never_whole x needs _ lost e = absurd (cc)
never_whole x needs _ (kept v) e = needs_more x needs v (zero-is (length (needed (v ++ x ∷ []))) e)

-- ---- the word behind a whole

not_taken-by : (x : Wanted) → is_optional x ≡ false → (w : Word) (words : List Word) → NoneTaken x words → (q : List Wanted)
    (now : Option (List Wanted)) → after w q ≡ now → whole_of (option_and_then (taken words) (after w (q ++ x ∷ []))) ≡ true → after w q ≡ None
not_taken-by x needs w words none q None is e = is
not_taken-by x needs w words none q (Some more) is e =
    let same = ap (option_and_then (taken words)) (after_more w q (x ∷ []) more is) in
    absurd (never_whole x needs (taken words (more ++ x ∷ [])) (taken_keeps x needs words none more) (sym (ap whole_of same) ∙ e))

-- words are taken, and with this wanted besides they and more are a whole: then the next word is not one of theirs
pub not_taken : (x : Wanted) → is_optional x ≡ false → (front : List Word) (w : Word) (words : List Word) → NoneTaken x words
    → (p q : List Wanted) → taken front p ≡ Some q → whole_of (taken (front ++ w ∷ words) (p ++ x ∷ [])) ≡ true → after w q ≡ None
not_taken x needs front w words none p q e whole =
    not_taken-by x needs w words none q (after w q) refl
    (sym (ap whole_of (taken_two front (w ∷ words) (p ++ x ∷ []) (q ++ x ∷ []) (taken_more front p (x ∷ []) q e))) ∙ whole)
