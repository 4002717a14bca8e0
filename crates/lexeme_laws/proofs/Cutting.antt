-- A text that is cut into pieces is read piece by piece.
use Rattle.std.proofs.Common.{◌≡◌, ℕ, zero, suc, ◌+◌, ◌-◌, ◌<◌, ◌≤◌, Bool, true, false, cond, nat_lt, List, [], ◌∷◌, ◌++◌, length, take, Ok, Err, refl, ap, sym, subst, ◌∙◌, append_assoc, length-append, arith}
use Rattle.std.proofs.lemmas.Bool.Decides.{nat_tests}
use Rattle.std.proofs.lemmas.List.{take_at}
use Rattle.std.specs.Char.{len_utf8}
use Rattle.vdm_kinds.specs.declared.spec_fault.SpecFault.{SpecFault}
use Rattle.vdm_kinds.specs.declared.spec_kind.SpecKind.{SpecKind}
use Rattle.vdm_kinds.specs.declared.spec_kind.SpecKind.TheVariants.{LexFault}
use Rattle.vdm_lexer.specs.declared.front.Front.{Front}
use Rattle.vdm_lexer.specs.declared.front.Front.TheVariants.{Space, Token, Fault}
use Rattle.vdm_lexer.specs.declared.lexeme.LexKind.{LexKind}
use Rattle.vdm_lexer.specs.declared.lexeme.LexKind.TheVariants.{End}
use Rattle.vdm_lexer.specs.declared.spot.Spot.{Spot}
use Rattle.vdm_lexer.specs.Fronts.{front_of, front_within, reach}
use Rattle.vdm_lexer.specs.Lexemes.{Reading, fault_at, lexeme_at, piece_bytes, before, front_before, lexemes_behind}
use Rattle.vdm_lexer.specs.Spots.{after, after_all, bytes_of, spot_after}
use Rattle.lexeme_laws.specs.Cuts.{Piece, letters_of, together, Stands, AreCut, behind_all, lexemes_at, IsStopped}
use Rattle.lexeme_laws.specs.Cuts.Piece.{space, token}
use Rattle.lexeme_laws.specs.Faults.{IsFault}
use Rattle.lexeme_laws.proofs.Found.{Holds, space-some, token-some, fault-some, front-holds}
use Rattle.lexeme_laws.proofs.Standing.{space-read, token-read, fault-read}

-- spots

behind-none : (spot : Spot) → behind_all spot [] ≡ spot
behind-none spot = let n : spot.offset + 0 ≡ spot.offset = omega arith in ap (λ (offset : ℕ). record spot { offset = offset }) n

behind-one : (spot : Spot) (c : ℕ) (cs : List ℕ) → behind_all (spot_after spot c) cs ≡ behind_all spot (c ∷ cs)
behind-one spot c cs =
    let n : (spot.offset + len_utf8 c) + bytes_of cs ≡ spot.offset + (len_utf8 c + bytes_of cs) = omega arith in
    let place = after_all (after spot.place c) cs in
    let at : ℕ → Spot = λ offset. record { offset = offset; place = place } in
    ap at n

behind-more : (spot : Spot) (a b : List ℕ) → behind_all (behind_all spot a) b ≡ behind_all spot (a ++ b)
behind-more spot [] b = ap (λ (s : Spot). behind_all s b) (behind-none spot)
behind-more spot (c ∷ a) b =
    ap (λ (s : Spot). behind_all s b) (sym (behind-one spot c a))
    ∙ behind-more (spot_after spot c) a b
    ∙ behind-one spot c (a ++ b)

-- the characters behind the first of a piece are passed over
skip : (good : ℕ) (spot : Spot) (cs rest : List ℕ) → lexemes_behind good spot (length cs) (cs ++ rest) ≡ lexemes_behind (good - length cs) (behind_all spot cs) 0 rest
skip good spot [] rest =
    let n : good ≡ good - 0 = omega arith in
    ap (λ (g : ℕ). lexemes_behind g spot 0 rest) n ∙ ap (λ (s : Spot). lexemes_behind (good - 0) s 0 rest) (sym (behind-none spot))
skip good spot (c ∷ cs) rest =
    let n : (good - 1) - length cs ≡ good - length (c ∷ cs) = omega arith in
    skip (good - 1) (spot_after spot c) cs rest
    ∙ ap (λ (g : ℕ). lexemes_behind g (behind_all (spot_after spot c) cs) 0 rest) n
    ∙ ap (λ (s : Spot). lexemes_behind (good - length (c ∷ cs)) s 0 rest) (behind-one spot c cs)

-- the piece as what is read in front of a text
abbrev front_as : Piece → Front
front_as (space letters) = Space (length letters - 1)
front_as (token kind letters) = Token kind (length letters - 1)

pub stands-read : (piece : Piece) (rest : List ℕ) → Stands piece rest → front_of (letters_of piece ++ rest) ≡ front_as piece
stands-read (space letters) rest h = space-read letters rest h
stands-read (token kind letters) rest h = token-read kind letters rest h

pub stands-some : (piece : Piece) (rest : List ℕ) → Stands piece rest → 0 < length (letters_of piece)
stands-some (space letters) rest h = space-some letters rest h
stands-some (token kind letters) rest h = token-some kind letters rest h

reach-as : (piece : Piece) → reach (front_as piece) ≡ length (letters_of piece) - 1
reach-as (space letters) = refl
reach-as (token kind letters) = refl

within-yes : (good : ℕ) (front : Front) → reach front < good → front_within good front ≡ front
within-yes good front h = let test : nat_lt (reach front) good ≡ true = grind (arith, nat_tests) in ap (λ (b : Bool). cond b front (Fault LexFault good)) test

within-no : (good : ℕ) (front : Front) → good ≤ reach front → front_within good front ≡ Fault LexFault good
within-no good front h = let test : nat_lt (reach front) good ≡ false = grind (arith, nat_tests) in ap (λ (b : Bool). cond b front (Fault LexFault good)) test

piece-bytes : (c : ℕ) (cs rest : List ℕ) → piece_bytes (c ∷ (cs ++ rest)) (length cs) ≡ bytes_of (c ∷ cs)
piece-bytes c cs rest =
    let all : bytes_of (take (length cs) (cs ++ rest)) ≡ bytes_of cs = ap bytes_of (take_at cs rest (length cs) refl) in
    omega arith

-- a reading behind pieces
abbrev pub behind_pieces : Spot → List Piece → Reading → Reading
behind_pieces spot [] reading = reading
behind_pieces spot (space letters ∷ pieces) reading = behind_pieces (behind_all spot letters) pieces reading
behind_pieces spot (token kind letters ∷ pieces) reading = before (lexeme_at kind spot (bytes_of letters)) (behind_pieces (behind_all spot letters) pieces reading)

pub behind-fault : (spot : Spot) (pieces : List Piece) (fault : SpecFault) → behind_pieces spot pieces (Err fault) ≡ Err fault
behind-fault spot [] fault = refl
behind-fault spot (space letters ∷ pieces) fault = behind-fault (behind_all spot letters) pieces fault
behind-fault spot (token kind letters ∷ pieces) fault = ap (before (lexeme_at kind spot (bytes_of letters))) (behind-fault (behind_all spot letters) pieces fault)

pub behind-end : (spot : Spot) (pieces : List Piece) → behind_pieces spot pieces (Ok (lexeme_at End (behind_all spot (together pieces)) 0 ∷ [])) ≡ Ok (lexemes_at spot pieces)
behind-end spot [] = ap (λ (s : Spot). Ok (lexeme_at End s 0 ∷ [])) (behind-none spot)
behind-end spot (space letters ∷ pieces) =
    ap (λ (s : Spot). behind_pieces (behind_all spot letters) pieces (Ok (lexeme_at End s 0 ∷ []))) (sym (behind-more spot letters (together pieces)))
    ∙ behind-end (behind_all spot letters) pieces
behind-end spot (token kind letters ∷ pieces) =
    ap (before (lexeme_at kind spot (bytes_of letters)))
    (ap (λ (s : Spot). behind_pieces (behind_all spot letters) pieces (Ok (lexeme_at End s 0 ∷ []))) (sym (behind-more spot letters (together pieces)))
    ∙ behind-end (behind_all spot letters) pieces)

-- a piece in front of a text is read
front-read : (good : ℕ) (spot : Spot) (c : ℕ) (cs rest : List ℕ) (front : Front) → front_of ((c ∷ cs) ++ rest) ≡ front → reach front ≡ length cs → length (c ∷ cs) ≤ good → lexemes_behind good spot 0 ((c ∷ cs) ++ rest) ≡ front_before front spot ((c ∷ cs) ++ rest) (λ (more : ℕ). lexemes_behind (good - 1) (spot_after spot c) more (cs ++ rest))
front-read good spot c cs rest front is long within =
    ap (λ (f : Front). front_before (front_within good f) spot ((c ∷ cs) ++ rest) (λ (more : ℕ). lexemes_behind (good - 1) (spot_after spot c) more (cs ++ rest))) is
    ∙ ap (λ (f : Front). front_before f spot ((c ∷ cs) ++ rest) (λ (more : ℕ). lexemes_behind (good - 1) (spot_after spot c) more (cs ++ rest))) (within-yes good front (omega arith))

behind-read : (good : ℕ) (spot : Spot) (c : ℕ) (cs rest : List ℕ) (n : ℕ) → n ≡ length cs → lexemes_behind (good - 1) (spot_after spot c) n (cs ++ rest) ≡ lexemes_behind (good - length (c ∷ cs)) (behind_all spot (c ∷ cs)) 0 rest
behind-read good spot c cs rest n e =
    ap (λ (m : ℕ). lexemes_behind (good - 1) (spot_after spot c) m (cs ++ rest)) e
    ∙ skip good spot (c ∷ cs) rest

space-on : (good : ℕ) (spot : Spot) (letters rest : List ℕ) → Stands (space letters) rest → length letters ≤ good → lexemes_behind good spot 0 (letters ++ rest) ≡ lexemes_behind (good - length letters) (behind_all spot letters) 0 rest
space-on good spot [] rest h within = let some = stands-some (space []) rest h in absurd (omega arith)
space-on good spot (c ∷ cs) rest h within =
    let n : length (c ∷ cs) - 1 ≡ length cs = omega arith in
    front-read good spot c cs rest _ (stands-read (space (c ∷ cs)) rest h) n within
    ∙ behind-read good spot c cs rest _ n

token-on : (good : ℕ) (spot : Spot) (kind : LexKind) (letters rest : List ℕ) → Stands (token kind letters) rest → length letters ≤ good → lexemes_behind good spot 0 (letters ++ rest) ≡ before (lexeme_at kind spot (bytes_of letters)) (lexemes_behind (good - length letters) (behind_all spot letters) 0 rest)
token-on good spot kind [] rest h within = let some = stands-some (token kind []) rest h in absurd (omega arith)
token-on good spot kind (c ∷ cs) rest h within =
    let n : length (c ∷ cs) - 1 ≡ length cs = omega arith in
    front-read good spot c cs rest _ (stands-read (token kind (c ∷ cs)) rest h) n within
    ∙ ap (λ (bytes : ℕ). before (lexeme_at kind spot bytes) (lexemes_behind (good - 1) (spot_after spot c) (length (c ∷ cs) - 1) (cs ++ rest))) (ap (piece_bytes (c ∷ (cs ++ rest))) n ∙ piece-bytes c cs rest)
    ∙ ap (before (lexeme_at kind spot (bytes_of (c ∷ cs)))) (behind-read good spot c cs rest _ n)

pub cut-read : (pieces : List Piece) (rest : List ℕ) (good : ℕ) (spot : Spot) → AreCut pieces rest → length (together pieces) ≤ good → lexemes_behind good spot 0 (together pieces ++ rest) ≡ behind_pieces spot pieces (lexemes_behind (good - length (together pieces)) (behind_all spot (together pieces)) 0 rest)
cut-read [] rest good spot cut within = skip good spot [] rest
cut-read (space letters ∷ pieces) rest good spot cut within =
    let sum = length-append letters (together pieces) in
    let n : (good - length letters) - length (together pieces) ≡ good - length (letters ++ together pieces) = omega arith in
    ap (lexemes_behind good spot 0) (append_assoc letters (together pieces) rest)
    ∙ space-on good spot letters (together pieces ++ rest) cut.0 (omega arith)
    ∙ cut-read pieces rest (good - length letters) (behind_all spot letters) cut.1 (omega arith)
    ∙ ap (λ (g : ℕ). behind_pieces (behind_all spot letters) pieces (lexemes_behind g (behind_all (behind_all spot letters) (together pieces)) 0 rest)) n
    ∙ ap (λ (s : Spot). behind_pieces (behind_all spot letters) pieces (lexemes_behind (good - length (letters ++ together pieces)) s 0 rest)) (behind-more spot letters (together pieces))
cut-read (token kind letters ∷ pieces) rest good spot cut within =
    let sum = length-append letters (together pieces) in
    let n : (good - length letters) - length (together pieces) ≡ good - length (letters ++ together pieces) = omega arith in
    ap (lexemes_behind good spot 0) (append_assoc letters (together pieces) rest)
    ∙ token-on good spot kind letters (together pieces ++ rest) cut.0 (omega arith)
    ∙ ap (before (lexeme_at kind spot (bytes_of letters)))
    (cut-read pieces rest (good - length letters) (behind_all spot letters) cut.1 (omega arith)
    ∙ ap (λ (g : ℕ). behind_pieces (behind_all spot letters) pieces (lexemes_behind g (behind_all (behind_all spot letters) (together pieces)) 0 rest)) n
    ∙ ap (λ (s : Spot). behind_pieces (behind_all spot letters) pieces (lexemes_behind (good - length (letters ++ together pieces)) s 0 rest)) (behind-more spot letters (together pieces)))

-- where none goes on, the fault is read

stopped-some : (good : ℕ) (text : List ℕ) (kind : SpecKind) (n : ℕ) → IsStopped good text kind n → 0 < length text
stopped-some good text kind n (IsStopped.fault h f) = fault-some text kind n f
stopped-some good text kind n (IsStopped.byte k m h a b) = omega arith

-- what is read reaches the byte, where all that stands there does
reach-least : (good : ℕ) (text : List ℕ) (front : Front) → Holds text front → ((piece : Piece) (rest : List ℕ) → text ≡ letters_of piece ++ rest → Stands piece rest → good < length (letters_of piece)) → ((other : SpecKind) (m : ℕ) → IsFault text other m → good ≤ m) → good ≤ reach front
reach-least good text (Space more) h a b = let least = a (space h.piece) h.rest h.is h.stands in let long = h.long in omega arith
reach-least good text (Token kind more) h a b = let least = a (token kind h.piece) h.rest h.is h.stands in let long = h.long in omega arith
reach-least good text (Fault kind n) h a b = b kind n h.0

stopped-front : (good c : ℕ) (cs : List ℕ) (kind : SpecKind) (n : ℕ) → IsStopped good (c ∷ cs) kind n → front_within good (front_of (c ∷ cs)) ≡ Fault kind n
stopped-front good c cs kind n (IsStopped.fault h f) =
    ap (front_within good) (fault-read (c ∷ cs) kind n f) ∙ within-yes good (Fault kind n) h
stopped-front good c cs kind n (IsStopped.byte k m h a b) =
    within-no good (front_of (c ∷ cs)) (reach-least good (c ∷ cs) (front_of (c ∷ cs)) (front-holds c cs) a b)
    ∙ ap (Fault LexFault) (sym m)
    ∙ ap (λ (kind : SpecKind). Fault kind n) (sym k)

pub stopped-read : (good : ℕ) (spot : Spot) (text : List ℕ) (kind : SpecKind) (n : ℕ) → IsStopped good text kind n → lexemes_behind good spot 0 text ≡ Err (fault_at kind (after_all spot.place (take n text)))
stopped-read good spot [] kind n h = let some = stopped-some good [] kind n h in absurd (omega arith)
stopped-read good spot (c ∷ cs) kind n h =
    ap (λ (f : Front). front_before f spot (c ∷ cs) (λ (more : ℕ). lexemes_behind (good - 1) (spot_after spot c) more cs)) (stopped-front good c cs kind n h)

-- each text is cut up to its end or up to a rest that none can go on with

pub data EndsCut (good : ℕ) (rest : List ℕ) : Type 0 where
  whole : rest ≡ [] → EndsCut good rest
  stopped : (kind : SpecKind) (n : ℕ) → IsStopped good rest kind n → EndsCut good rest

pub record IsCutUp (good : ℕ) (text : List ℕ) : Type 0 where
  pub pieces : List Piece
  pub rest : List ℕ
  pub is : text ≡ together pieces ++ rest
  pub cut : AreCut pieces rest
  pub within : length (together pieces) ≤ good
  pub ends : EndsCut (good - length (together pieces)) rest

cut-on : (good : ℕ) (text : List ℕ) (piece : Piece) (others : List ℕ) → text ≡ letters_of piece ++ others → Stands piece others → length (letters_of piece) ≤ good → IsCutUp (good - length (letters_of piece)) others → IsCutUp good text
cut-on good text piece others is stands short next =
    let sum = length-append (letters_of piece) (together next.pieces) in
    let least = next.within in
    let n : (good - length (letters_of piece)) - length (together next.pieces) ≡ good - length (letters_of piece ++ together next.pieces) = omega arith in
    record {
      pieces = piece ∷ next.pieces;
      rest = next.rest;
      is = is ∙ ap (λ (t : List ℕ). letters_of piece ++ t) next.is ∙ sym (append_assoc (letters_of piece) (together next.pieces) next.rest);
      cut = (subst (Stands piece) next.is stands, next.cut);
      within = omega arith;
      ends = subst (λ (g : ℕ). EndsCut g next.rest) n next.ends;
    }

cut-here : (good : ℕ) (text : List ℕ) (kind : SpecKind) (n : ℕ) → IsStopped good text kind n → IsCutUp good text
cut-here good text kind n h =
    let g : good ≡ good - length (together []) = omega arith in
    record { pieces = []; rest = text; is = refl; cut = tt; within = omega arith; ends = EndsCut.stopped kind n (subst (λ (g : ℕ). IsStopped g text kind n) g h) }

-- what is read reaches the byte
reached : (good : ℕ) (text : List ℕ) → good ≤ reach (front_of text) → good < length text → IsCutUp good text
reached good text h k = cut-here good text LexFault good (IsStopped.byte refl refl k a b)
  where
    a : (piece : Piece) (rest : List ℕ) → text ≡ letters_of piece ++ rest → Stands piece rest → good < length (letters_of piece)
    a piece rest is stands =
        let some = stands-some piece rest stands in
        let same : reach (front_of text) ≡ length (letters_of piece) - 1 = ap reach (ap front_of is ∙ stands-read piece rest stands) ∙ reach-as piece in
        omega arith

    b : (other : SpecKind) (m : ℕ) → IsFault text other m → good ≤ m
    b other m f = let same : reach (front_of text) ≡ m = ap reach (fault-read text other m f) in omega arith

shorter : (text piece rest : List ℕ) → text ≡ piece ++ rest → length text ≡ length piece + length rest
shorter text piece rest is = ap length is ∙ length-append piece rest

piece-step : (n good : ℕ) (text : List ℕ) (piece : Piece) (rest : List ℕ) (more : ℕ) → length text ≤ suc n → text ≡ letters_of piece ++ rest → Stands piece rest → length (letters_of piece) ≡ more + 1 → reach (front_of text) ≡ more → ((g : ℕ) (t : List ℕ) → length t ≤ n → IsCutUp g t) → IsCutUp good text
piece-step n good text piece rest more short is stands long same next = by (nat_lt more good) refl
  where
    by : (b : Bool) → nat_lt more good ≡ b → IsCutUp good text
    by true e =
        let least : more < good = grind (arith, nat_tests) in
        let sum = shorter text (letters_of piece) rest is in
        cut-on good text piece rest is stands (omega arith) (next (good - length (letters_of piece)) rest (omega arith))
    by false e =
        let most : good ≤ more = grind (arith, nat_tests) in
        let sum = shorter text (letters_of piece) rest is in
        reached good text (omega arith) (omega arith)

fault-step : (good : ℕ) (text : List ℕ) (kind : SpecKind) (n : ℕ) → IsFault text kind n → n < length text → IsCutUp good text
fault-step good text kind n f within = by (nat_lt n good) refl
  where
    by : (b : Bool) → nat_lt n good ≡ b → IsCutUp good text
    by true e = let least : n < good = grind (arith, nat_tests) in cut-here good text kind n (IsStopped.fault least f)
    by false e =
        let most : good ≤ n = grind (arith, nat_tests) in
        let same : reach (front_of text) ≡ n = ap reach (fault-read text kind n f) in
        reached good text (omega arith) (omega arith)

cut-within : (n good : ℕ) (text : List ℕ) → length text ≤ n → IsCutUp good text
cut-within n good [] short = record { pieces = []; rest = []; is = refl; cut = tt; within = omega arith; ends = EndsCut.whole refl }
cut-within zero good (c ∷ cs) short = absurd (omega arith)
cut-within (suc n) good (c ∷ cs) short = by (front_of (c ∷ cs)) refl (front-holds c cs) (λ g t h. cut-within n g t h)
  where
    by : (front : Front) → front_of (c ∷ cs) ≡ front → Holds (c ∷ cs) front → ((g : ℕ) (t : List ℕ) → length t ≤ n → IsCutUp g t) → IsCutUp good (c ∷ cs)
    by (Space more) e h next = piece-step n good (c ∷ cs) (space h.piece) h.rest more short h.is h.stands h.long (ap reach e) next
    by (Token kind more) e h next = piece-step n good (c ∷ cs) (token kind h.piece) h.rest more short h.is h.stands h.long (ap reach e) next
    by (Fault kind m) e h next = fault-step good (c ∷ cs) kind m h.0 h.1

pub cut-up : (good : ℕ) (text : List ℕ) → IsCutUp good text
cut-up good text = cut-within (length text) good text (omega arith)
