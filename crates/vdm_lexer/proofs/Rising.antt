-- The spans of lexemes rise.
use Rattle.std.proofs.Common.{◌≡◌, ℕ, zero, suc, ◌+◌, ◌-◌, ◌*◌, ◌<◌, ◌≤◌, ◌==◌, Bool, true, false, cond, List, [], ◌∷◌, length, take, drop, Ok, Err, refl, ap, sym, subst, arith}
use Rattle.std.specs.Char.{len_utf8, encode_utf8}
use Rattle.std.specs.Str.{encode_utf8_all}
use Rattle.std.proofs.lemmas.Str.{len_utf8_bounds, length-encode}
use Rattle.std.proofs.lemmas.List.{length-append}
use Rattle.std.proofs.lemmas.Bool.Decides.{nat_tests}
use Rattle.vdm_kinds.specs.declared.part.Part.{Part}
use Rattle.vdm_lexer.specs.declared.front.Front.{Front}
use Rattle.vdm_lexer.specs.declared.front.Front.TheVariants.{Space, Token, Fault}
use Rattle.vdm_lexer.specs.declared.lexeme.Lexeme.{Lexeme}
use Rattle.vdm_lexer.specs.declared.spot.Spot.{Spot}
use Rattle.vdm_lexer.specs.Fronts.{front_of, front_within}
use Rattle.vdm_lexer.specs.Lexemes.{Reading, before, front_before, lexemes_behind, lexemes_of, mark_length}
use Rattle.vdm_lexer.specs.Rising.{Rises}
use Rattle.vdm_lexer.specs.Spots.{start_of, bytes_of, spot_after}

-- what holds of the lexemes of a reading, where it has any
abbrev RisesIfOk : ℕ → ℕ → Reading → Type 0
RisesIfOk least size (Ok found) = Rises least size found
RisesIfOk least size (Err fault) = Unit {0}

-- spans that rise from more rise from less
rises-from_less : (less least size : ℕ) (found : List Lexeme) → less ≤ least → Rises least size found → Rises less size found
rises-from_less less least size [] h r = r
rises-from_less less least size (lexeme ∷ []) h r = let was = r.behind in record { kind = r.kind; start = r.start; end = r.end; behind = omega arith }
rises-from_less less least size (lexeme ∷ other ∷ others) h r = let was = r.0.behind in (record { behind = omega arith; some = r.0.some }, r.1)

if_ok-from_less : (less least size : ℕ) (reading : Reading) → less ≤ least → RisesIfOk least size reading → RisesIfOk less size reading
if_ok-from_less less least size (Ok found) h r = rises-from_less less least size found h r
if_ok-from_less less least size (Err fault) h r = tt

-- a lexeme before others
rises-before : (least size : ℕ) (lexeme : Lexeme) (found : List Lexeme) → least ≤ lexeme.start → lexeme.start < lexeme.end → Rises lexeme.end size found → Rises least size (lexeme ∷ found)
rises-before least size lexeme [] h k r = absurd r
rises-before least size lexeme (other ∷ others) h k r = (record { behind = h; some = k }, r)

if_ok-before : (least size : ℕ) (lexeme : Lexeme) (reading : Reading) → least ≤ lexeme.start → lexeme.start < lexeme.end → RisesIfOk lexeme.end size reading → RisesIfOk least size (before lexeme reading)
if_ok-before least size lexeme (Ok found) h k r = rises-before least size lexeme found h k r
if_ok-before least size lexeme (Err fault) h k r = tt

-- what a front gives, where what stands behind it rises
if_ok-front : (front : Front) (spot : Spot) (c size : ℕ) (cs : List ℕ) (behind : ℕ → Reading) → ((more : ℕ) → RisesIfOk (spot.offset + len_utf8 c + bytes_of (take more cs)) size (behind more)) → RisesIfOk spot.offset size (front_before front spot (c ∷ cs) behind)
if_ok-front (Space more) spot c size cs behind h = if_ok-from_less spot.offset _ size (behind more) (omega arith) (h more)
if_ok-front (Token kind more) spot c size cs behind h =
    let some = (len_utf8_bounds c).0 in
    if_ok-before spot.offset size _ (behind more) (omega arith) (omega arith) (subst (λ (n : ℕ). RisesIfOk n size (behind more)) (omega arith) (h more))
if_ok-front (Fault kind n) spot c size cs behind h = tt

end-rises : (spot : Spot) (least size : ℕ) → least ≡ spot.offset → size ≡ spot.offset → RisesIfOk least size (lexemes_behind 0 spot 0 [])
end-rises spot least size e f = record { kind = refl; start = sym f; end = omega arith; behind = omega arith }

behind-rises : (good : ℕ) (text : List ℕ) (spot : Spot) (skipped : ℕ) (least size : ℕ) → least ≡ spot.offset + bytes_of (take skipped text) → size ≡ spot.offset + bytes_of text → RisesIfOk least size (lexemes_behind good spot skipped text)
behind-rises good [] spot zero least size e f = end-rises spot least size (omega arith) (omega arith)
behind-rises good [] spot (suc skipped) least size e f = end-rises spot least size (omega arith) (omega arith)
behind-rises good (c ∷ cs) spot (suc skipped) least size e f = behind-rises (good - 1) cs (spot_after spot c) skipped least size (omega arith) (omega arith)
behind-rises good (c ∷ cs) spot zero least size e f =
    let all = if_ok-front (front_within good (front_of (c ∷ cs))) spot c size cs _ (λ (more : ℕ). behind-rises (good - 1) cs (spot_after spot c) more _ size refl (omega arith)) in
    if_ok-from_less least spot.offset size _ (omega arith) all

-- a byte-order mark has three bytes
pub mark-bytes : (text : List ℕ) → bytes_of text ≡ 3 * mark_length text + bytes_of (drop (mark_length text) text)
mark-bytes [] = refl
mark-bytes (c ∷ cs) = by (c == 0xfeff) refl
  where
    by : (mark : Bool) → (c == 0xfeff) ≡ mark → bytes_of (c ∷ cs) ≡ 3 * cond mark 1 0 + bytes_of (drop (cond mark 1 0) (c ∷ cs))
    by true e =
        let same : c ≡ 0xfeff = grind (arith, nat_tests) in
        let three : len_utf8 c ≡ 3 = ap len_utf8 same in
        omega arith
    by false e = omega arith

found-rise : (least size : ℕ) (reading : Reading) (found : List Lexeme) → reading ≡ Ok found → RisesIfOk least size reading → Rises least size found
found-rise least size reading found e r = subst (RisesIfOk least size) e r

pub lexemes-rise : (part : Part) (good : ℕ) (text : List ℕ) (found : List Lexeme) → lexemes_of part good text ≡ Ok found → Rises 0 (bytes_of text) found
lexemes-rise part good text found e =
    let size = mark-bytes text in
    let start : Spot = record { offset = 3 * mark_length text; place = start_of part } in
    found-rise 0 (bytes_of text) _ found e
    (if_ok-from_less 0 (3 * mark_length text) (bytes_of text) _ (omega arith)
    (behind-rises (good - mark_length text) (drop (mark_length text) text) start 0 (3 * mark_length text) (bytes_of text) (omega arith) size))

pub bytes-encoded : (text : List ℕ) → bytes_of text ≡ length (encode_utf8_all text)
bytes-encoded [] = refl
bytes-encoded (c ∷ cs) =
    let others = bytes-encoded cs in
    let one = length-encode c in
    let both = length-append (encode_utf8 c) (encode_utf8_all cs) in
    omega arith
