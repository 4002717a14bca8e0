-- The longest numeral that stands in front of a text.
use Rattle.std.proofs.Common.{◌≡◌, ℕ, ◌+◌, ◌-◌, ◌||◌, Bool, true, false, cond, List, [], ◌∷◌, ◌++◌, length, take, drop, codes, refl, ap, sym, subst, ◌∙◌, append_assoc, arith}
use Rattle.std.specs.List.{prefix_len}
use Rattle.std.proofs.lemmas.List.{take_at, drop_at, take-append-drop}
use Rattle.vdm_kinds.specs.declared.spec_kind.SpecKind.TheVariants.{LeftOut}
use Rattle.vdm_lexer.specs.declared.front.Front.{Front}
use Rattle.vdm_lexer.specs.declared.front.Front.TheVariants.{Fault}
use Rattle.vdm_lexer.specs.Characters.{is_decimal, is_hexadecimal}
use Rattle.vdm_lexer.specs.Numerals.{is_small, whole_token, hexadecimal_front, is_fraction, is_exponent, decimal_front, is_hexadecimal_literal, numeral_front}
use Rattle.vdm_lexer.specs.Pieces.{first, begins}
use Rattle.lexeme_laws.specs.Longest.{AreAll, IsLongest}
use Rattle.lexeme_laws.specs.Numerals.{IsDecimal, IsHexadecimal, IsNumeral}
use Rattle.lexeme_laws.specs.Numerals.IsNumeral.{decimal, hexadecimal}
use Rattle.lexeme_laws.proofs.Begun.{both, begins-sound}
use Rattle.lexeme_laws.proofs.Runs.{Stops, all-append, all-behind, run-length, run-all, run-stops, stops-longest, longest-stops, not-empty}

-- `0x` and a hexadecimal digit

literal-of : (piece rest : List ℕ) → IsHexadecimal piece → is_hexadecimal_literal (piece ++ rest) ≡ true
unfolding begins
literal-of piece rest w = subst (λ (p : List ℕ). is_hexadecimal_literal (p ++ rest) ≡ true) (sym w.is) w.all.0

pub record IsLiteral (text : List ℕ) : Type 0 where
  pub digit : ℕ
  pub others : List ℕ
  pub is : text ≡ 48 ∷ 120 ∷ digit ∷ others
  pub passes : is_hexadecimal digit ≡ true

literal-behind : (text others : List ℕ) → text ≡ 48 ∷ 120 ∷ others → is_hexadecimal (first others) ≡ true → IsLiteral text
literal-behind text [] is h = absurd (cc)
literal-behind text (d ∷ ds) is h = record { digit = d; others = ds; is = is; passes = h }

literal-found : (text : List ℕ) → is_hexadecimal_literal text ≡ true → IsLiteral text
literal-found text h =
    let parts = both (begins text (codes "0x")) (is_hexadecimal (first (drop 2 text))) h in
    let begun = begins-sound text (codes "0x") parts.0 in
    literal-behind text begun.0 begun.1 (ap (λ (t : List ℕ). is_hexadecimal (first (drop 2 t))) (sym begun.1) ∙ parts.1)

-- hexadecimal digits

hexadecimal-on : (digit : ℕ) (others : List ℕ) (c : ℕ) (more : List ℕ) → IsNumeral ((48 ∷ 120 ∷ digit ∷ others) ++ c ∷ more) → is_hexadecimal c ≡ true
hexadecimal-on digit others c more (decimal w) =
    let digits : 48 ∷ 120 ∷ digit ∷ (others ++ c ∷ more) ≡ w.digit ∷ w.others = w.is in
    let all = subst (AreAll is_decimal) (sym digits) w.all in
    let wrong : false ≡ true = all.1.0 in
    absurd (cc)
hexadecimal-on digit others c more (hexadecimal w) =
    let rest : (digit ∷ others) ++ c ∷ more ≡ w.digit ∷ w.others = ap (drop 2) w.is in
    let all = subst (AreAll is_hexadecimal) (sym rest) w.all in
    (all-behind is_hexadecimal (digit ∷ others) (c ∷ more) all).0

hexadecimal-longest : (digit : ℕ) (others rest : List ℕ) → AreAll is_hexadecimal (digit ∷ others) → Stops is_hexadecimal rest → IsLongest IsNumeral (48 ∷ 120 ∷ digit ∷ others) rest
hexadecimal-longest digit others rest all stops =
    longest-stops is_hexadecimal IsNumeral (48 ∷ 120 ∷ digit ∷ others) rest (hexadecimal (record { digit = digit; others = others; is = refl; all = all })) stops (hexadecimal-on digit others)

hexadecimal-taken : (digit : ℕ) (others rest : List ℕ) → AreAll is_hexadecimal (digit ∷ others) → IsLongest IsNumeral (48 ∷ 120 ∷ digit ∷ others) rest → numeral_front (48 ∷ 120 ∷ digit ∷ (others ++ rest)) ≡ whole_token (is_small 16 (digit ∷ others)) (length (digit ∷ others) + 1)
unfolding begins
hexadecimal-taken digit others rest all l =
    let stops = stops-longest is_hexadecimal IsNumeral (48 ∷ 120 ∷ digit ∷ others) rest l
    (λ c passes. hexadecimal (record { digit = digit; others = others ++ c ∷ []; is = refl; all = all-append is_hexadecimal (digit ∷ others) (c ∷ []) all (passes, tt) })) in
    let run = run-length is_hexadecimal (digit ∷ others) rest all stops in
    ap (λ (b : Bool). cond b (hexadecimal_front (take (prefix_len is_hexadecimal ((digit ∷ others) ++ rest)) ((digit ∷ others) ++ rest))) (decimal_front (48 ∷ 120 ∷ digit ∷ (others ++ rest)) (prefix_len is_decimal (120 ∷ digit ∷ (others ++ rest))))) all.0
    ∙ ap (λ (n : ℕ). hexadecimal_front (take n ((digit ∷ others) ++ rest))) run
    ∙ ap hexadecimal_front (take_at (digit ∷ others) rest (length (digit ∷ others)) refl)

pub hexadecimal-read : (piece rest : List ℕ) → IsHexadecimal piece → IsLongest IsNumeral piece rest → numeral_front (piece ++ rest) ≡ whole_token (is_small 16 (drop 2 piece)) (length piece - 1)
hexadecimal-read piece rest w l =
    subst (λ (p : List ℕ). numeral_front (p ++ rest) ≡ whole_token (is_small 16 (drop 2 p)) (length p - 1)) (sym w.is)
    (hexadecimal-taken w.digit w.others rest w.all (subst (λ (p : List ℕ). IsLongest IsNumeral p rest) w.is l)
    ∙ (let n : length (w.digit ∷ w.others) + 1 ≡ length (48 ∷ 120 ∷ w.digit ∷ w.others) - 1 = omega arith in ap (whole_token (is_small 16 (w.digit ∷ w.others))) n))

-- decimal digits

decimal-longest : (digit : ℕ) (others rest : List ℕ) → AreAll is_decimal (digit ∷ others) → Stops is_decimal rest → is_hexadecimal_literal ((digit ∷ others) ++ rest) ≡ false → IsLongest IsNumeral (digit ∷ others) rest
decimal-longest digit others rest all stops none =
    record { is = decimal (record { digit = digit; others = others; is = refl; all = all }); longest = by }
  where
    by : (more behind : List ℕ) → rest ≡ more ++ behind → IsNumeral ((digit ∷ others) ++ more) → more ≡ []
    by [] behind e n = refl
    by (c ∷ more) behind e (decimal w) =
        let digits : (digit ∷ others) ++ c ∷ more ≡ w.digit ∷ w.others = w.is in
        let passes = (all-behind is_decimal (digit ∷ others) (c ∷ more) (subst (AreAll is_decimal) (sym digits) w.all)).0 in
        let fails : is_decimal c ≡ false = subst (Stops is_decimal) e stops in
        let wrong : true ≡ false = sym passes ∙ fails in
        absurd (cc)
    by (c ∷ more) behind e (hexadecimal w) =
        let whole : (digit ∷ others) ++ rest ≡ ((digit ∷ others) ++ c ∷ more) ++ behind = ap (λ (t : List ℕ). (digit ∷ others) ++ t) e ∙ sym (append_assoc (digit ∷ others) (c ∷ more) behind) in
        let wrong : true ≡ false = sym (literal-of _ behind w) ∙ ap is_hexadecimal_literal (sym whole) ∙ none in
        absurd (cc)

-- where a longest decimal numeral stands there is no hexadecimal one
no-literal : (digit : ℕ) (others rest : List ℕ) → AreAll is_decimal (digit ∷ others) → IsLongest IsNumeral (digit ∷ others) rest → IsLiteral ((digit ∷ others) ++ rest) → ⊥
no-literal digit [] rest all l w =
    let zero_is : digit ≡ 48 = ap first w.is in
    let behind : rest ≡ 120 ∷ w.digit ∷ w.others = ap (drop 1) w.is in
    let longer : IsNumeral (digit ∷ 120 ∷ w.digit ∷ []) = hexadecimal (record { digit = w.digit; others = []; is = ap (λ (x : ℕ). x ∷ 120 ∷ w.digit ∷ []) zero_is; all = (w.passes, tt) }) in
    not-empty 120 (w.digit ∷ []) (l.longest (120 ∷ w.digit ∷ []) w.others behind longer)
no-literal digit (d ∷ others) rest all l w =
    let x : d ≡ 120 = ap (λ (t : List ℕ). first (drop 1 t)) w.is in
    let wrong : true ≡ false = sym all.1.0 ∙ ap is_decimal x in
    absurd (cc)

abbrev pub decimal_read : List ℕ → List ℕ → Front
decimal_read piece rest = cond (is_fraction rest || is_exponent rest) (Fault LeftOut 0) (whole_token (is_small 10 piece) (length piece - 1))

literal-false : (text : List ℕ) → (IsLiteral text → ⊥) → is_hexadecimal_literal text ≡ false
literal-false text none = by (is_hexadecimal_literal text) refl
  where
    by : (b : Bool) → is_hexadecimal_literal text ≡ b → b ≡ false
    by true e = absurd (none (literal-found text e))
    by false e = refl

decimal-taken : (digit : ℕ) (others rest : List ℕ) → AreAll is_decimal (digit ∷ others) → IsLongest IsNumeral (digit ∷ others) rest → numeral_front ((digit ∷ others) ++ rest) ≡ decimal_read (digit ∷ others) rest
decimal-taken digit others rest all l =
    let stops = stops-longest is_decimal IsNumeral (digit ∷ others) rest l
    (λ c passes. decimal (record { digit = digit; others = others ++ c ∷ []; is = refl; all = all-append is_decimal (digit ∷ others) (c ∷ []) all (passes, tt) })) in
    let run : prefix_len is_decimal (others ++ rest) ≡ length others = run-length is_decimal others rest all.1 stops in
    let literal = literal-false ((digit ∷ others) ++ rest) (no-literal digit others rest all l) in
    let text : List ℕ = digit ∷ (others ++ rest) in
    let piece : take (length others + 1) text ≡ digit ∷ others = take_at (digit ∷ others) rest (length others + 1) (omega arith) in
    let behind : drop (length others + 1) text ≡ rest = drop_at (digit ∷ others) rest (length others + 1) (omega arith) in
    let more : length others ≡ length (digit ∷ others) - 1 = omega arith in
    ap (λ (b : Bool). cond b (hexadecimal_front (take (prefix_len is_hexadecimal (drop 2 text)) (drop 2 text))) (decimal_front text (prefix_len is_decimal (others ++ rest)))) literal
    ∙ ap (decimal_front text) run
    ∙ ap (λ (t : List ℕ). cond (is_fraction t || is_exponent t) (Fault LeftOut 0) (whole_token (is_small 10 (take (length others + 1) text)) (length others))) behind
    ∙ ap (λ (p : List ℕ). cond (is_fraction rest || is_exponent rest) (Fault LeftOut 0) (whole_token (is_small 10 p) (length others))) piece
    ∙ ap (λ (n : ℕ). cond (is_fraction rest || is_exponent rest) (Fault LeftOut 0) (whole_token (is_small 10 (digit ∷ others)) n)) more

pub decimal-read : (piece rest : List ℕ) → IsDecimal piece → IsLongest IsNumeral piece rest → numeral_front (piece ++ rest) ≡ decimal_read piece rest
decimal-read piece rest w l =
    subst (λ (p : List ℕ). numeral_front (p ++ rest) ≡ decimal_read p rest) (sym w.is)
    (decimal-taken w.digit w.others rest w.all (subst (λ (p : List ℕ). IsLongest IsNumeral p rest) w.is l))

-- the longest numeral where a digit stands

pub record IsNumeralCut (text : List ℕ) : Type 0 where
  pub piece : List ℕ
  pub rest : List ℕ
  pub is : text ≡ piece ++ rest
  pub longest : IsLongest IsNumeral piece rest

pub numeral-cut : (c : ℕ) (cs : List ℕ) → is_decimal c ≡ true → IsNumeralCut (c ∷ cs)
numeral-cut c cs passes = by (is_hexadecimal_literal (c ∷ cs)) refl
  where
    by : (b : Bool) → is_hexadecimal_literal (c ∷ cs) ≡ b → IsNumeralCut (c ∷ cs)
    by true e =
        let w = literal-found (c ∷ cs) e in
        let n = prefix_len is_hexadecimal w.others in
        record {
          piece = 48 ∷ 120 ∷ w.digit ∷ take n w.others;
          rest = drop n w.others;
          is = w.is ∙ ap (λ (t : List ℕ). 48 ∷ 120 ∷ w.digit ∷ t) (sym (take-append-drop n w.others));
          longest = hexadecimal-longest w.digit (take n w.others) (drop n w.others) (w.passes, run-all is_hexadecimal w.others) (run-stops is_hexadecimal w.others);
        }
    by false e =
        let n = prefix_len is_decimal cs in
        let whole : c ∷ cs ≡ (c ∷ take n cs) ++ drop n cs = ap (λ (t : List ℕ). c ∷ t) (sym (take-append-drop n cs)) in
        record {
          piece = c ∷ take n cs;
          rest = drop n cs;
          is = whole;
          longest = decimal-longest c (take n cs) (drop n cs) (passes, run-all is_decimal cs) (run-stops is_decimal cs) (ap is_hexadecimal_literal (sym whole) ∙ e);
        }
