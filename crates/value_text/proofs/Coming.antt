-- The piece that was put last comes first.
use Rattle.std.proofs.Common.{◌≡◌, ℕ, ◌+◌, ◌-◌, List, [], ◌∷◌, ◌++◌, take, refl, sym, ap, ◌∙◌, append-nil, append_assoc}
use Rattle.std.specs.Prelude.{Option, Some, None, MatchOption, option_to_list}
use Rattle.value_text.specs.declared.piece.Piece.{Piece}
use Rattle.value_text.specs.Coming.{piece_text, pieces_text}

pub none_to_come : (names : List (List ℕ)) → pieces_text names [] ≡ []
unfolding pieces_text
none_to_come names = refl

last_first : (names : List (List ℕ)) (pieces : List Piece) (piece : Piece)
    → pieces_text names (pieces ++ piece ∷ []) ≡ piece_text names piece ++ pieces_text names pieces
unfolding pieces_text
last_first names [] piece = sym (append-nil (piece_text names piece))
last_first names (p ∷ pieces) piece =
    ap (λ t. t ++ piece_text names p) (last_first names pieces piece)
    ∙ append_assoc (piece_text names piece) (pieces_text names pieces) (piece_text names p)

pub one_more : (names : List (List ℕ)) (before after : List Piece) (piece : Piece) → after ≡ before ++ piece ∷ []
    → pieces_text names after ≡ piece_text names piece ++ pieces_text names before
one_more names before after piece e = ap (pieces_text names) e ∙ last_first names before piece

pub two_more : (names : List (List ℕ)) (before between after : List Piece) (a b : Piece) → between ≡ before ++ a ∷ [] → after ≡ between ++ b ∷ []
    → pieces_text names after ≡ piece_text names b ++ piece_text names a ++ pieces_text names before
two_more names before between after a b e f =
    one_more names between after b f ∙ ap (λ t. piece_text names b ++ t) (one_more names before between a e)
    ∙ sym (append_assoc (piece_text names b) (piece_text names a) (pieces_text names before))

regrouped : (a b c d e : List ℕ) → a ++ b ++ (c ++ d ++ e) ≡ a ++ b ++ c ++ d ++ e
regrouped a b c d e = sym (ap (λ t. t ++ e) (append_assoc (a ++ b) c d) ∙ append_assoc (a ++ b) (c ++ d) e)

pub four_more : (names : List (List ℕ)) (p q r s t : List Piece) (a b c d : Piece)
    → q ≡ p ++ a ∷ [] → r ≡ q ++ b ∷ [] → s ≡ r ++ c ∷ [] → t ≡ s ++ d ∷ []
    → pieces_text names t ≡ piece_text names d ++ piece_text names c ++ piece_text names b ++ piece_text names a ++ pieces_text names p
four_more names p q r s t a b c d e f g h =
    two_more names r s t c d g h
    ∙ ap (λ w. piece_text names d ++ piece_text names c ++ w) (two_more names p q r a b e f)
    ∙ regrouped (piece_text names d) (piece_text names c) (piece_text names b) (piece_text names a) (pieces_text names p)

-- what was taken from the end
pub popped : (names : List (List ℕ)) (result : Option Piece) (old new : List Piece) (m n : ℕ)
    → old ≡ new ++ option_to_list result → new ≡ take (n - 1) old → MatchOption result ((n ≡ 0) × (m ≡ 0)) (λ _. m + 1 ≡ n)
    → MatchOption result (pieces_text names old ≡ []) (λ piece. pieces_text names old ≡ piece_text names piece ++ pieces_text names new)
popped names None old new m n items rest cases =
    let none : new ≡ [] = rest ∙ ap (λ k. take (k - 1) old) cases.0 in
    ap (pieces_text names) (items ∙ append-nil new ∙ none) ∙ none_to_come names
popped names (Some piece) old new m n items rest cases = one_more names new old piece items

-- a text to which nothing is to come
pub finished : (text coming whole : List ℕ) → text ++ coming ≡ whole → coming ≡ [] → text ≡ whole
finished text coming whole h e = sym (append-nil text) ∙ ap (λ t. text ++ t) (sym e) ∙ h

-- one piece more was put
pub turned : (text piece rest coming whole next : List ℕ) → next ≡ text ++ piece ++ rest → coming ≡ piece ++ rest → text ++ coming ≡ whole → next ≡ whole
turned text piece rest coming whole next step e h = step ∙ append_assoc text piece rest ∙ ap (λ t. text ++ t) (sym e) ∙ h

-- a text that begins with nothing
pub begun : (names : List (List ℕ)) (text whole said out : List ℕ) (pieces : List Piece)
    → text ≡ [] → pieces ≡ [] → whole ≡ text ++ said ++ pieces_text names pieces → out ≡ whole → out ≡ said
begun names text whole said out pieces e f h o =
    o ∙ h ∙ ap (λ t. t ++ said ++ pieces_text names pieces) e ∙ ap (λ t. said ++ pieces_text names t) f
    ∙ ap (λ t. said ++ t) (none_to_come names) ∙ append-nil said

pub begun_later : (names : List (List ℕ)) (text coming said out : List ℕ) (pieces : List Piece)
    → text ≡ [] → pieces ≡ [] → coming ≡ said ++ pieces_text names pieces → out ≡ text ++ coming → out ≡ said
begun_later names text coming said out pieces e f h o =
    o ∙ ap (λ t. t ++ coming) e ∙ h ∙ ap (λ t. said ++ pieces_text names t) f
    ∙ ap (λ t. said ++ t) (none_to_come names) ∙ append-nil said
