-- What a text begins with.
use Rattle.std.proofs.Common.{◌≡◌, ℕ, ◌+◌, ◌==◌, ◌&&◌, Bool, true, false, List, [], ◌∷◌, ◌++◌, Option, Some, None, refl, ap, ◌∙◌, arith}
use Rattle.std.proofs.lemmas.Bool.Decides.{nat_tests}
use Rattle.vdm_lexer.specs.Pieces.{begins}
use Rattle.vdm_lexer.specs.Quoted.{one_more}

pub both : (a b : Bool) → (a && b) ≡ true → (a ≡ true) × (b ≡ true)
both true b e = (refl, e)
both false b e = absurd (cc)

pub same-if : (c d : ℕ) → (c == d) ≡ true → c ≡ d
same-if c d e = grind (arith, nat_tests)

pub if-same : (c d : ℕ) → c ≡ d → (c == d) ≡ true
if-same c d e = grind (arith, nat_tests)

pub begins-sound : (text word : List ℕ) → begins text word ≡ true → (others : List ℕ) × (text ≡ word ++ others)
unfolding begins
begins-sound text [] e = (text, refl)
begins-sound [] (d ∷ word) e = absurd (cc)
begins-sound (c ∷ text) (d ∷ word) e =
    let parts = both (c == d) (begins text word) e in
    let rest = begins-sound text word parts.1 in
    (rest.0, ap (λ (t : List ℕ). c ∷ t) rest.1 ∙ ap (λ (x : ℕ). x ∷ (word ++ rest.0)) (same-if c d parts.0))

pub begins-complete : (word others : List ℕ) → begins (word ++ others) word ≡ true
unfolding begins
begins-complete [] others = refl
begins-complete (d ∷ word) others = ap (λ (b : Bool). b && begins (word ++ others) word) (if-same d d refl) ∙ begins-complete word others

pub one_more-some : (found : Option ℕ) (m : ℕ) → one_more found ≡ Some m → (k : ℕ) × (found ≡ Some k) × (m ≡ k + 1)
one_more-some None m e = absurd (cc)
one_more-some (Some k) m e = (k, refl, cc)

pub one_more-none : (found : Option ℕ) → one_more found ≡ None → found ≡ None
one_more-none None e = refl
one_more-none (Some k) e = absurd (cc)
