-- Runs of characters that pass a test, and where the longest ends.
use Rattle.std.proofs.Common.{◌≡◌, ℕ, suc, ◌+◌, ◌==◌, Bool, true, false, cond, List, [], ◌∷◌, ◌++◌, length, take, drop, refl, ap, sym, subst, ◌∙◌, arith}
use Rattle.std.specs.List.{prefix_len}
use Rattle.std.proofs.lemmas.Bool.Decides.{nat_tests}
use Rattle.lexeme_laws.specs.Longest.{AreAll, IsLongest}

-- a character that passes a test is none that does not
pub differs : (test : ℕ → Bool) (c k : ℕ) → test c ≡ true → test k ≡ false → (c == k) ≡ false
differs test c k h n = by (c == k) refl
  where
    by : (b : Bool) → (c == k) ≡ b → b ≡ false
    by true e =
        let same : c ≡ k = grind (arith, nat_tests) in
        let wrong : true ≡ false = sym h ∙ ap test same ∙ n in
        absurd (cc)
    by false e = refl

pub all-append : (test : ℕ → Bool) (a b : List ℕ) → AreAll test a → AreAll test b → AreAll test (a ++ b)
all-append test [] b h k = k
all-append test (c ∷ a) b h k = (h.0, all-append test a b h.1 k)

pub all-behind : (test : ℕ → Bool) (a b : List ℕ) → AreAll test (a ++ b) → AreAll test b
all-behind test [] b h = h
all-behind test (c ∷ a) b h = all-behind test a b h.1

-- a text begins with no character that passes
abbrev pub Stops : (ℕ → Bool) → List ℕ → Type 0
Stops test [] = Unit {0}
Stops test (c ∷ cs) = test c ≡ false

pub run-length : (test : ℕ → Bool) (cs rest : List ℕ) → AreAll test cs → Stops test rest → prefix_len test (cs ++ rest) ≡ length cs
run-length test [] [] all stops = refl
run-length test [] (c ∷ rest) all stops = ap (λ (b : Bool). cond b (1 + prefix_len test rest) 0) stops
run-length test (c ∷ cs) rest all stops =
    let others = run-length test cs rest all.1 stops in
    let this : prefix_len test (c ∷ (cs ++ rest)) ≡ 1 + prefix_len test (cs ++ rest) = ap (λ (b : Bool). cond b (1 + prefix_len test (cs ++ rest)) 0) all.0 in
    omega arith

pub run-all : (test : ℕ → Bool) (text : List ℕ) → AreAll test (take (prefix_len test text) text)
run-all test [] = tt
run-all test (c ∷ cs) = by (test c) refl (run-all test cs)
  where
    by : (b : Bool) → test c ≡ b → AreAll test (take (prefix_len test cs) cs) → AreAll test (take (cond b (1 + prefix_len test cs) 0) (c ∷ cs))
    by true e all = let n : suc (prefix_len test cs) ≡ 1 + prefix_len test cs = omega arith in subst (λ (n : ℕ). AreAll test (take n (c ∷ cs))) n (e, all)
    by false e all = tt

pub run-stops : (test : ℕ → Bool) (text : List ℕ) → Stops test (drop (prefix_len test text) text)
run-stops test [] = tt
run-stops test (c ∷ cs) = by (test c) refl (run-stops test cs)
  where
    by : (b : Bool) → test c ≡ b → Stops test (drop (prefix_len test cs) cs) → Stops test (drop (cond b (1 + prefix_len test cs) 0) (c ∷ cs))
    by true e stops = let n : suc (prefix_len test cs) ≡ 1 + prefix_len test cs = omega arith in subst (λ (n : ℕ). Stops test (drop n (c ∷ cs))) n stops
    by false e stops = e

-- no piece with a character is empty
pub not-empty : {X : Type 0} (c : ℕ) (cs : List ℕ) → c ∷ cs ≡ [] → X
not-empty c cs e = let wrong : suc (length cs) ≡ 0 = ap length e in absurd (omega (arith, wrong))

-- the longest piece goes on to a character that does not pass, and the other way round
pub stops-longest : (test : ℕ → Bool) (Is : List ℕ → Type 0) (piece rest : List ℕ) → IsLongest Is piece rest → ((c : ℕ) → test c ≡ true → Is (piece ++ c ∷ [])) → Stops test rest
stops-longest test Is piece [] l on = tt
stops-longest test Is piece (c ∷ rest) l on = by (test c) refl
  where
    by : (b : Bool) → test c ≡ b → b ≡ false
    by true e =
        not-empty c [] (l.longest (c ∷ []) rest refl (on c e))
    by false e = refl

pub longest-stops : (test : ℕ → Bool) (Is : List ℕ → Type 0) (piece rest : List ℕ) → Is piece → Stops test rest → ((c : ℕ) (more : List ℕ) → Is (piece ++ c ∷ more) → test c ≡ true) → IsLongest Is piece rest
longest-stops test Is piece rest is stops on = record { is = is; longest = by }
  where
    by : (more others : List ℕ) → rest ≡ more ++ others → Is (piece ++ more) → more ≡ []
    by [] others e h = refl
    by (c ∷ more) others e h =
        let passes = on c more h in
        let fails : test c ≡ false = subst (Stops test) e stops in
        let wrong : true ≡ false = sym passes ∙ fails in
        absurd (cc)
