-- Characters that are decoded one after another.
use Rattle.std.proofs.Common.{◌≡◌, ℕ, zero, suc, ◌+◌, ◌-◌, ◌<◌, ◌≤◌, ◌==◌, Bool, true, false, cond, List, [], ◌∷◌, ◌++◌, length, get_or, drop, append_assoc, ap, sym, ◌∙◌, arith}
use Rattle.std.proofs.lemmas.List.{drop_more}
use Rattle.std.proofs.lemmas.Bool.Decides.{nat_tests}
use Rattle.vdm_lexer.specs.Pieces.{first}
use Rattle.vdm_lexer.proofs.Scans.{same-item}
use Rattle.token_reader.specs.Values.{decoded_behind, escape_length, escape_value}

behind-skipped : (skipped c : ℕ) (cs : List ℕ) → 0 < skipped → decoded_behind skipped (c ∷ cs) ≡ decoded_behind (skipped - 1) cs
behind-skipped zero c cs h = absurd (omega arith)
behind-skipped (suc n) c cs h = let e : n ≡ suc n - 1 = omega arith in ap (λ (m : ℕ). decoded_behind m cs) e

is-escape : (c : ℕ) (cs : List ℕ) → c ≡ 92 → decoded_behind 0 (c ∷ cs) ≡ escape_value cs ∷ decoded_behind (escape_length (first cs)) cs
is-escape c cs e =
    let t : (c == 92) ≡ true = grind (arith, nat_tests) in
    ap (λ (b : Bool). cond b (escape_value cs ∷ decoded_behind (escape_length (first cs)) cs) (c ∷ decoded_behind zero cs)) t

is-plain : (c : ℕ) (cs : List ℕ) → (c ≡ 92 → ⊥) → decoded_behind 0 (c ∷ cs) ≡ c ∷ decoded_behind 0 cs
is-plain c cs n =
    let t : (c == 92) ≡ false = grind (arith, nat_tests) in
    ap (λ (b : Bool). cond b (escape_value cs ∷ decoded_behind (escape_length (first cs)) cs) (c ∷ decoded_behind zero cs)) t

module _ (text : List ℕ) (i x : ℕ) (short : i < length text) (item : x ≡ get_or text i x) (all found : List ℕ) where
  split : drop i text ≡ x ∷ drop (i + 1) text
  split = drop_more text i 0 short ∙ ap (λ (c : ℕ). c ∷ drop (i + 1) text) (sym (same-item text i x short item))

  pub decoded-skipped : (skipped : ℕ) → 0 < skipped → all ≡ found ++ decoded_behind skipped (drop i text) → all ≡ found ++ decoded_behind (skipped - 1) (drop (i + 1) text)
  decoded-skipped skipped some was =
      was
      ∙ ap (λ (t : List ℕ). found ++ decoded_behind skipped t) split
      ∙ ap (λ (t : List ℕ). found ++ t) (behind-skipped skipped x (drop (i + 1) text) some)

  pub decoded-escape : (skipped next value : ℕ) (more escape : List ℕ) → skipped ≤ 0 → x ≡ 92 → escape ≡ drop (i + 1) text → value ≡ escape_value escape → next ≡ escape_length (first escape) → more ≡ found ++ value ∷ [] → all ≡ found ++ decoded_behind skipped (drop i text) → all ≡ more ++ decoded_behind next (drop (i + 1) text)
  decoded-escape skipped next value more escape none is cut stands long pushed was =
      let zeroed : skipped ≡ 0 = omega arith in
      was
      ∙ ap (λ (n : ℕ). found ++ decoded_behind n (drop i text)) zeroed
      ∙ ap (λ (t : List ℕ). found ++ decoded_behind 0 t) split
      ∙ ap (λ (t : List ℕ). found ++ t) (is-escape x (drop (i + 1) text) is)
      ∙ ap (λ (t : List ℕ). found ++ escape_value t ∷ decoded_behind (escape_length (first t)) (drop (i + 1) text)) (sym cut)
      ∙ ap (λ (v : ℕ). found ++ v ∷ decoded_behind (escape_length (first escape)) (drop (i + 1) text)) (sym stands)
      ∙ ap (λ (n : ℕ). found ++ value ∷ decoded_behind n (drop (i + 1) text)) (sym long)
      ∙ sym (append_assoc found (value ∷ []) (decoded_behind next (drop (i + 1) text)))
      ∙ ap (λ (t : List ℕ). t ++ decoded_behind next (drop (i + 1) text)) (sym pushed)

  pub decoded-plain : (skipped : ℕ) (more : List ℕ) → skipped ≤ 0 → (x ≡ 92 → ⊥) → more ≡ found ++ x ∷ [] → all ≡ found ++ decoded_behind skipped (drop i text) → all ≡ more ++ decoded_behind skipped (drop (i + 1) text)
  decoded-plain skipped more none other pushed was =
      let zeroed : skipped ≡ 0 = omega arith in
      was
      ∙ ap (λ (n : ℕ). found ++ decoded_behind n (drop i text)) zeroed
      ∙ ap (λ (t : List ℕ). found ++ decoded_behind 0 t) split
      ∙ ap (λ (t : List ℕ). found ++ t) (is-plain x (drop (i + 1) text) other)
      ∙ sym (append_assoc found (x ∷ []) (decoded_behind 0 (drop (i + 1) text)))
      ∙ ap (λ (t : List ℕ). t ++ decoded_behind 0 (drop (i + 1) text)) (sym pushed)
      ∙ ap (λ (n : ℕ). more ++ decoded_behind n (drop (i + 1) text)) (sym zeroed)
