-- What is closed by a sign, but for one that stands behind a `\`.
use Rattle.std.proofs.Common.{◌≡◌, ℕ, ◌+◌, ◌==◌, Bool, true, false, cond, List, [], ◌∷◌, ◌++◌, length, Option, Some, None, refl, ap, sym, subst, ◌∙◌, arith}
use Rattle.std.specs.List.{concat}
use Rattle.vdm_lexer.specs.Quoted.{one_more, close_behind, close_of}
use Rattle.lexeme_laws.specs.Longest.{Each, IsMadeOf}
use Rattle.lexeme_laws.specs.Literals.{IsKept, IsClosed}
use Rattle.lexeme_laws.specs.Literals.IsKept.{character, behind}
use Rattle.lexeme_laws.proofs.Begun.{one_more-some, same-if, if-same}

module _ (sign : ℕ) (other : (92 == sign) ≡ false) where
  kept-one : (piece more rest : List ℕ) → IsKept sign piece → close_behind sign false (more ++ sign ∷ rest) ≡ Some (length more) → close_behind sign false ((piece ++ more) ++ sign ∷ rest) ≡ Some (length (piece ++ more))
  kept-one piece more rest (character c is h k) next =
      subst (λ (p : List ℕ). close_behind sign false ((p ++ more) ++ sign ∷ rest) ≡ Some (length (p ++ more))) (sym is)
      (ap (λ (b : Bool). cond b (Some 0) (one_more (close_behind sign (c == 92) (more ++ sign ∷ rest)))) h
      ∙ ap (λ (b : Bool). one_more (close_behind sign b (more ++ sign ∷ rest))) k
      ∙ ap one_more next
      ∙ (let e : length more + 1 ≡ length (c ∷ more) = omega arith in ap Some e))
  kept-one piece more rest (behind c is) next =
      subst (λ (p : List ℕ). close_behind sign false ((p ++ more) ++ sign ∷ rest) ≡ Some (length (p ++ more))) (sym is)
      (ap (λ (b : Bool). cond b (Some 0) (one_more (one_more (close_behind sign false (more ++ sign ∷ rest))))) other
      ∙ ap (λ (found : Option ℕ). one_more (one_more found)) next
      ∙ (let e : (length more + 1) + 1 ≡ length (92 ∷ c ∷ more) = omega arith in ap Some e))

  kept-read : (pieces : List (List ℕ)) (rest : List ℕ) → Each (IsKept sign) pieces → close_of sign (concat pieces ++ sign ∷ rest) ≡ Some (length (concat pieces))
  kept-read [] rest each = ap (λ (b : Bool). cond b (Some 0) (one_more (close_behind sign (sign == 92) rest))) (if-same sign sign refl)
  kept-read (piece ∷ pieces) rest each = kept-one piece (concat pieces) rest each.0 (kept-read pieces rest each.1)

  pub closed-read : (inside rest : List ℕ) → IsMadeOf (IsKept sign) inside → close_of sign (inside ++ sign ∷ rest) ≡ Some (length inside)
  closed-read inside rest made = subst (λ (t : List ℕ). close_of sign (t ++ sign ∷ rest) ≡ Some (length t)) (sym made.is) (kept-read made.pieces rest made.each)

-- where the reading finds the sign
pub record IsShutBy (sign : ℕ) (text : List ℕ) (n : ℕ) : Type 0 where
  pub pieces : List (List ℕ)
  pub others : List ℕ
  pub is : text ≡ concat pieces ++ sign ∷ others
  pub long : length (concat pieces) ≡ n
  pub each : Each (IsKept sign) pieces

here : (sign c : ℕ) (others : List ℕ) (n : ℕ) → (c == sign) ≡ true → n ≡ 0 → IsShutBy sign (c ∷ others) n
here sign c others n h e = record { pieces = []; others = others; is = ap (λ (x : ℕ). x ∷ others) (same-if c sign h); long = sym e; each = tt }

pub close-found : (sign : ℕ) (text : List ℕ) (n : ℕ) → close_of sign text ≡ Some n → IsShutBy sign text n
close-found sign [] n e = absurd (cc)
close-found sign (c ∷ []) n e = by (c == sign) refl e
  where
    by : (b : Bool) → (c == sign) ≡ b → cond b (Some 0) None ≡ Some n → IsShutBy sign (c ∷ []) n
    by true h e = let z : n ≡ 0 = cc in here sign c [] n h z
    by false h e = absurd (cc)
close-found sign (c ∷ d ∷ ds) n e = by (c == sign) (c == 92) refl refl e (close-found sign (d ∷ ds)) (close-found sign ds)
  where
    by : (a b : Bool) → (c == sign) ≡ a → (c == 92) ≡ b → cond a (Some 0) (one_more (close_behind sign b (d ∷ ds))) ≡ Some n → ((k : ℕ) → close_of sign (d ∷ ds) ≡ Some k → IsShutBy sign (d ∷ ds) k) → ((k : ℕ) → close_of sign ds ≡ Some k → IsShutBy sign ds k) → IsShutBy sign (c ∷ d ∷ ds) n
    by true b h k e one two = let z : n ≡ 0 = cc in here sign c (d ∷ ds) n h z
    by false true h k e one two =
        let found = one_more-some (one_more (close_of sign ds)) n e in
        let later = one_more-some (close_of sign ds) found.0 found.1 in
        let rest = two later.0 later.1 in
        let more = rest.long in
        let m = found.2 in
        let l = later.2 in
        record {
          pieces = (92 ∷ d ∷ []) ∷ rest.pieces;
          others = rest.others;
          is = ap (λ (x : ℕ). x ∷ d ∷ ds) (same-if c 92 k) ∙ ap (λ (t : List ℕ). 92 ∷ d ∷ t) rest.is;
          long = omega arith;
          each = (behind d refl, rest.each);
        }
    by false false h k e one two =
        let found = one_more-some (close_of sign (d ∷ ds)) n e in
        let rest = one found.0 found.1 in
        let more = rest.long in
        let m = found.2 in
        record {
          pieces = (c ∷ []) ∷ rest.pieces;
          others = rest.others;
          is = ap (λ (t : List ℕ). c ∷ t) rest.is;
          long = omega arith;
          each = (character c refl h k, rest.each);
        }

pub shut-made : (sign : ℕ) (text : List ℕ) (n : ℕ) (shut : IsShutBy sign text n) → IsMadeOf (IsKept sign) (concat shut.pieces)
shut-made sign text n shut = record { pieces = shut.pieces; is = refl; each = shut.each }

-- it is closed where the reading finds the sign, and nowhere else
pub closed-if : (sign : ℕ) (text : List ℕ) (n : ℕ) → close_of sign text ≡ Some n → IsClosed sign text
closed-if sign text n e = let shut = close-found sign text n e in record { inside = concat shut.pieces; others = shut.others; is = shut.is; kept = shut-made sign text n shut }

pub none-closed : (sign : ℕ) → (92 == sign) ≡ false → (text : List ℕ) → close_of sign text ≡ None → IsClosed sign text → ⊥
none-closed sign other text e closed =
    let some : close_of sign text ≡ Some (length closed.inside) = ap (close_of sign) closed.is ∙ closed-read sign other closed.inside closed.others closed.kept in
    let wrong = sym e ∙ some in
    absurd (cc)

pub closed-none : (sign : ℕ) (text : List ℕ) → (IsClosed sign text → ⊥) → close_of sign text ≡ None
closed-none sign text open_ = by (close_of sign text) refl
  where
    by : (found : Option ℕ) → close_of sign text ≡ found → found ≡ None
    by None e = refl
    by (Some n) e = absurd (open_ (closed-if sign text n e))
