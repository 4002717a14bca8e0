-- The relation and the reading agree.
use Rattle.std.proofs.Common.{◌≡◌, ℕ, ◌-◌, ◌<◌, ◌≤◌, Bool, true, false, cond, nat_lt, List, [], ◌∷◌, ◌++◌, length, take, drop, Ok, Err, refl, ap, sym, subst, ◌∙◌, append-nil, length-drop, arith}
use Rattle.std.proofs.lemmas.Bool.Decides.{nat_tests}
use Rattle.std.specs.Str.{chars}
use Rattle.vdm_kinds.specs.declared.part.Part.{Part}
use Rattle.vdm_kinds.specs.declared.place.Place.{Place}
use Rattle.vdm_kinds.specs.declared.spec_fault.SpecFault.{SpecFault}
use Rattle.vdm_kinds.specs.declared.spec_kind.SpecKind.{SpecKind}
use Rattle.vdm_kinds.specs.declared.spec_kind.SpecKind.TheVariants.{TooLong}
use Rattle.vdm_lexer.specs.declared.lexeme.Lexeme.{Lexeme}
use Rattle.vdm_lexer.specs.declared.spot.Spot.{Spot}
use Rattle.vdm_lexer.specs.Decoded.{characters, good}
use Rattle.vdm_lexer.specs.Lexemes.{Reading, fault_at, lexemes_behind, lexemes_of, lexemes, limit_of, mark_length}
use Rattle.vdm_lexer.specs.Spots.{start_of, after, after_all}
use Rattle.lexeme_laws.specs.Cuts.{Piece, together, AreCut, behind_all, lexemes_at, beginning, AreLexemesOf, IsStopped, IsStoppedAt, IsFirstFault}
use Rattle.lexeme_laws.proofs.Bytes.{utf8-characters, utf8-good, all-utf8, mark-good, mark-long}
use Rattle.lexeme_laws.proofs.Cutting.{behind_pieces, behind-fault, behind-end, cut-read, stopped-read, EndsCut, IsCutUp, cut-up}

-- pieces up to the end

whole-read : (good : ℕ) (spot : Spot) (pieces : List Piece) → AreCut pieces [] → length (together pieces) ≤ good → lexemes_behind good spot 0 (together pieces) ≡ Ok (lexemes_at spot pieces)
whole-read good spot pieces cut within =
    ap (lexemes_behind good spot 0) (sym (append-nil (together pieces)))
    ∙ cut-read pieces [] good spot cut within
    ∙ behind-end spot pieces

-- pieces up to a rest that none can go on with

after-more : (place : Place) (a b : List ℕ) → after_all (after_all place a) b ≡ after_all place (a ++ b)
after-more place [] b = refl
after-more place (c ∷ a) b = after-more (after place c) a b

stop-read : (good : ℕ) (spot : Spot) (text : List ℕ) (pieces : List Piece) (rest : List ℕ) (kind : SpecKind) (n : ℕ) → text ≡ together pieces ++ rest → AreCut pieces rest → length (together pieces) ≤ good → IsStopped (good - length (together pieces)) rest kind n → lexemes_behind good spot 0 text ≡ Err (fault_at kind (after_all spot.place (together pieces ++ take n rest)))
stop-read good spot text pieces rest kind n is cut within stopped =
    ap (lexemes_behind good spot 0) is
    ∙ cut-read pieces rest good spot cut within
    ∙ ap (behind_pieces spot pieces) (stopped-read (good - length (together pieces)) (behind_all spot (together pieces)) rest kind n stopped)
    ∙ behind-fault spot pieces _
    ∙ ap (λ (place : Place). Err (fault_at kind place)) (after-more spot.place (together pieces) (take n rest))

-- bytes

short-read : (part : Part) (text : List ℕ) → length text ≤ limit_of part → lexemes part text ≡ lexemes_of part (good text) (characters text)
short-read part text short =
    let test : nat_lt (limit_of part) (length text) ≡ false = grind (arith, nat_tests) in
    ap (λ (b : Bool). cond b (Err (fault_at TooLong (start_of part))) (lexemes_of part (good text) (characters text))) test

long-read : (part : Part) (text : List ℕ) → limit_of part < length text → lexemes part text ≡ Err (fault_at TooLong (start_of part))
long-read part text long =
    let test : nat_lt (limit_of part) (length text) ≡ true = grind (arith, nat_tests) in
    ap (λ (b : Bool). cond b (Err (fault_at TooLong (start_of part))) (lexemes_of part (good text) (characters text))) test

-- what is read of a text that is short enough

pub data IsRead (part : Part) (text : List ℕ) : Type 0 where
  whole : (found : List Lexeme) → lexemes part text ≡ Ok found → AreLexemesOf part text found → IsRead part text
  fault : (told : SpecFault) → lexemes part text ≡ Err told → IsFirstFault part text told → IsRead part text

cut-whole : (part : Part) (text : List ℕ) → length text ≤ limit_of part → (pieces : List Piece) → drop (mark_length (characters text)) (characters text) ≡ together pieces → AreCut pieces [] → length (together pieces) ≤ good text - mark_length (characters text) → IsRead part text
cut-whole part text short pieces is cut within =
    let mark = mark-good text in
    let least = mark-long (characters text) in
    let size = length-drop (mark_length (characters text)) (characters text) in
    let same : length (drop (mark_length (characters text)) (characters text)) ≡ length (together pieces) = ap length is in
    let utf8 = all-utf8 text (omega arith) in
    let chars_are = utf8-characters text utf8 in
    whole (lexemes_at (beginning part (characters text)) pieces)
    (short-read part text short
    ∙ ap (lexemes_behind (good text - mark_length (characters text)) (beginning part (characters text)) 0) is
    ∙ whole-read (good text - mark_length (characters text)) (beginning part (characters text)) pieces cut within)
    (record {
      short = short;
      utf8 = utf8;
      pieces = pieces;
      is = ap (λ (t : List ℕ). drop (mark_length t) t) (sym chars_are) ∙ is;
      cut = cut;
      lexemes = ap (λ (t : List ℕ). lexemes_at (beginning part t) pieces) chars_are;
    })

stopped-at : (part : Part) (text : List ℕ) (told : SpecFault) → length text ≤ limit_of part → IsStoppedAt (start_of part) (good text - mark_length (characters text)) (drop (mark_length (characters text)) (characters text)) told → lexemes part text ≡ Err told
stopped-at part text told short s =
    short-read part text short
    ∙ stop-read (good text - mark_length (characters text)) (beginning part (characters text)) (drop (mark_length (characters text)) (characters text)) s.pieces s.rest s.kind s.n s.is s.cut s.within s.stopped
    ∙ ap Err (sym s.fault)

cut-short : (part : Part) (text : List ℕ) → length text ≤ limit_of part → IsCutUp (good text - mark_length (characters text)) (drop (mark_length (characters text)) (characters text)) → IsRead part text
cut-short part text short cut = by cut.ends
  where
    by : EndsCut (good text - mark_length (characters text) - length (together cut.pieces)) cut.rest → IsRead part text
    by (EndsCut.whole none) =
        cut-whole part text short cut.pieces
        (cut.is ∙ ap (λ (t : List ℕ). together cut.pieces ++ t) none ∙ append-nil (together cut.pieces))
        (subst (AreCut cut.pieces) none cut.cut) cut.within
    by (EndsCut.stopped kind n stopped) =
        let told : SpecFault = fault_at kind (after_all (start_of part) (together cut.pieces ++ take n cut.rest)) in
        let at : IsStoppedAt (start_of part) (good text - mark_length (characters text)) (drop (mark_length (characters text)) (characters text)) told =
        record { pieces = cut.pieces; rest = cut.rest; is = cut.is; cut = cut.cut; within = cut.within; kind = kind; n = n; stopped = stopped; fault = refl } in
        fault told (stopped-at part text told short at) (IsFirstFault.stopped short at)

pub is-read : (part : Part) (text : List ℕ) → IsRead part text
is-read part text = by (nat_lt (limit_of part) (length text)) refl
  where
    by : (b : Bool) → nat_lt (limit_of part) (length text) ≡ b → IsRead part text
    by true e =
        let long : limit_of part < length text = grind (arith, nat_tests) in
        fault (fault_at TooLong (start_of part)) (long-read part text long) (IsFirstFault.long long refl)
    by false e =
        let short : length text ≤ limit_of part = grind (arith, nat_tests) in
        cut-short part text short (cut-up (good text - mark_length (characters text)) (drop (mark_length (characters text)) (characters text)))

-- both ways

pub relation-read : (part : Part) (text : List ℕ) (found : List Lexeme) → AreLexemesOf part text found → lexemes part text ≡ Ok found
relation-read part text found are =
    let chars_are = utf8-characters text are.utf8 in
    let all = utf8-good text are.utf8 in
    let size = length-drop (mark_length (chars text)) (chars text) in
    let same : length (drop (mark_length (chars text)) (chars text)) ≡ length (together are.pieces) = ap length are.is in
    short-read part text are.short
    ∙ ap (λ (t : List ℕ). lexemes_of part (good text) t) chars_are
    ∙ ap (lexemes_behind (good text - mark_length (chars text)) (beginning part (chars text)) 0) are.is
    ∙ whole-read (good text - mark_length (chars text)) (beginning part (chars text)) are.pieces are.cut (omega arith)
    ∙ ap Ok (sym are.lexemes)

pub fault-relation-read : (part : Part) (text : List ℕ) (told : SpecFault) → IsFirstFault part text told → lexemes part text ≡ Err told
fault-relation-read part text told (IsFirstFault.long long is) = long-read part text long ∙ ap Err (sym is)
fault-relation-read part text told (IsFirstFault.stopped short at) = stopped-at part text told short at

ok-same : (reading : Reading) (a b : List Lexeme) → reading ≡ Ok a → reading ≡ Ok b → a ≡ b
ok-same reading a b e f = cc

err-same : (reading : Reading) (a b : SpecFault) → reading ≡ Err a → reading ≡ Err b → a ≡ b
err-same reading a b e f = cc

not-both : (reading : Reading) (a : List Lexeme) (b : SpecFault) → reading ≡ Ok a → reading ≡ Err b → ⊥
not-both reading a b e f = absurd (cc)

pub read-relation : (part : Part) (text : List ℕ) (found : List Lexeme) → lexemes part text ≡ Ok found → AreLexemesOf part text found
read-relation part text found e = by (is-read part text)
  where
    by : IsRead part text → AreLexemesOf part text found
    by (whole other f are) = subst (AreLexemesOf part text) (ok-same (lexemes part text) other found f e) are
    by (fault told f is) = absurd (not-both (lexemes part text) found told e f)

pub read-fault-relation : (part : Part) (text : List ℕ) (told : SpecFault) → lexemes part text ≡ Err told → IsFirstFault part text told
read-fault-relation part text told e = by (is-read part text)
  where
    by : IsRead part text → IsFirstFault part text told
    by (whole found f are) = absurd (not-both (lexemes part text) found told f e)
    by (fault other f is) = subst (IsFirstFault part text) (err-same (lexemes part text) other told f e) is

-- at most one answer

pub one-list : (part : Part) (text : List ℕ) (a b : List Lexeme) → AreLexemesOf part text a → AreLexemesOf part text b → a ≡ b
one-list part text a b h k = ok-same (lexemes part text) a b (relation-read part text a h) (relation-read part text b k)

pub one-fault : (part : Part) (text : List ℕ) (a b : SpecFault) → IsFirstFault part text a → IsFirstFault part text b → a ≡ b
one-fault part text a b h k = err-same (lexemes part text) a b (fault-relation-read part text a h) (fault-relation-read part text b k)

pub list-or-fault : (part : Part) (text : List ℕ) (found : List Lexeme) (told : SpecFault) → AreLexemesOf part text found → IsFirstFault part text told → ⊥
list-or-fault part text found told h k = not-both (lexemes part text) found told (relation-read part text found h) (fault-relation-read part text told k)
