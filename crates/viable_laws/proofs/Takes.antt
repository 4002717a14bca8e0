-- Tokens that are taken from what is wanted in one of the ways, to where nothing more has to come.
use Rattle.std.proofs.Common.{◌≡◌, Bool, true, false, ◌||◌, ◌==◌, if◌then◌else◌, List, [], ◌∷◌, ◌++◌, length, map, Option, None, refl, ap, sym, subst, ◌∙◌, append_assoc}
use Rattle.std.specs.List.{list_any}
use Rattle.vdm_kinds.specs.declared.name.Name.{Name}
use Rattle.grammar_words.specs.declared.word.Word.{Word}
use Rattle.grammar_words.specs.Tokens.{Token, plain, word_of}
use Rattle.grammar_words.specs.Written.{at}
use Rattle.stmt_trees.specs.Pieces.{Piece, must, mark, Spelled}
use Rattle.stmt_fronts.specs.declared.expected.Expected.{Expected}
use Rattle.stmt_fronts.specs.Turns.{Turn, wanted_by}
use Rattle.stmt_fronts.specs.Table.{turns, is_optional}
use Rattle.stmt_fronts.specs.Viable.{Names, State, Way, name_of, named_by, fits, way_on, ways_of, either, ways_from, leads}
use Rattle.stmt_fronts.specs.Fronts.{needed, is_whole}
use Rattle.stmt_laws.specs.Ends.{first_word}
use Rattle.stmt_laws.proofs.Readers.{Begins, Spelled-split}

abbrev pub goes_to_end : List Token → Way → Bool
goes_to_end tokens way = leads (λ (state : State). is_whole state.wanted) tokens (way_on way)

pub record Ends (tokens : List Token) (wanted : List Expected) (names : Names) : Type 0 where
  pub ends : leads (λ (state : State). is_whole state.wanted) tokens (record { wanted = wanted; names = names }) ≡ true

-- ---- one token

or-true : (b : Bool) → (b || true) ≡ true
or-true true = refl
or-true false = refl

pub any-among : {A B : Type 0} (test : B → Bool) (f : A → B) (before : List A) (a : A) (others : List A) → test (f a) ≡ true
    → list_any test (map f (before ++ a ∷ others)) ≡ true
any-among test f [] a others e = ap (λ (b : Bool). b || list_any test (map f others)) e
any-among test f (first ∷ before) a others e =
    ap (λ (b : Bool). test (f first) || b) (any-among test f before a others e) ∙ or-true (test (f first))

-- what takes a word takes it in each of its ways
chosen : (test : Way → Bool) (names : Names) (x : Expected) (name : Option Name) (behind : List Expected) (none : List Way) (all : List Turn)
    (before : List Turn) (turn : Turn) (others : List Turn) → all ≡ before ++ turn ∷ others → fits names x name ≡ true
    → test (record { turn = turn; behind = behind; names = named_by names x name }) ≡ true
    → list_any test (either all (ways_of names x name behind) none) ≡ true
chosen test names x name behind none all [] turn others is fit e =
    ap (λ ts. list_any test (either ts (ways_of names x name behind) none)) is
    ∙ ap (λ (b : Bool). list_any test (if b then map (λ (t : Turn). record { turn = t; behind = behind; names = named_by names x name }) (turn ∷ others) else [])) fit
    ∙ any-among test (λ (t : Turn). record { turn = t; behind = behind; names = named_by names x name }) [] turn others e
chosen test names x name behind none all (first ∷ before) turn others is fit e =
    ap (λ ts. list_any test (either ts (ways_of names x name behind) none)) is
    ∙ ap (λ (b : Bool). list_any test (if b then map (λ (t : Turn). record { turn = t; behind = behind; names = named_by names x name }) (first ∷ before ++ turn ∷ others) else [])) fit
    ∙ any-among test (λ (t : Turn). record { turn = t; behind = behind; names = named_by names x name }) (first ∷ before) turn others e

pub tok : (t : Token) (rest : List Token) (x : Expected) (behind : List Expected) (n : Names) (before : List Turn) (turn : Turn) (others : List Turn)
    → turns x (word_of t) ≡ before ++ turn ∷ others → fits n x (name_of t) ≡ true
    → Ends rest (wanted_by turn ++ behind) (named_by n x (name_of t)) → Ends (t ∷ rest) (x ∷ behind) n
tok t rest x behind n before turn others is fit e =
    record { ends = chosen (goes_to_end rest) n x (name_of t) behind _ (turns x (word_of t)) before turn others is fit e.ends }

-- what need not come, before a word that it does not take
pub skip : (x : Expected) (behind : List Expected) (tokens : List Token) (n : Names) → is_optional x ≡ true → turns x (first_word tokens) ≡ []
    → Ends tokens behind n → Ends tokens (x ∷ behind) n
skip x behind [] n o r e = record { ends = ap (λ (b : Bool). length (if b then needed behind else x ∷ behind) == 0) o ∙ e.ends }
skip x behind (t ∷ ts) n o r e =
    record {
      ends =
          ap (λ all. list_any (goes_to_end ts) (either all (ways_of n x (name_of t) behind) (if is_optional x then ways_from n (word_of t) (name_of t) behind else []))) r
          ∙ ap (λ (b : Bool). list_any (goes_to_end ts) (if b then ways_from n (word_of t) (name_of t) behind else [])) o ∙ e.ends;
    }

-- ---- pieces

-- Tokens that are written so are taken by what is wanted first, where one of these words stands behind them.
pub record Takes (ws : List Piece) (x : List Expected) (ends : Word → Bool) (n m : Names) : Type 0 where
  pub takes : (behind : List Expected) (tokens rest : List Token) → Spelled tokens ws rest → ends (first_word rest) ≡ true → Ends rest behind m
      → Ends tokens (x ++ behind) n

pub fewer : {ws : List Piece} {x : List Expected} {ends more : Word → Bool} {n m : Names} → ((w : Word) → ends w ≡ true → more w ≡ true)
    → Takes ws x more n m → Takes ws x ends n m
fewer are t = record { takes = λ behind tokens rest h e. t.takes behind tokens rest h (are (first_word rest) e) }

pub nothing : {ends : Word → Bool} {n : Names} → Takes [] [] ends n n
nothing {n = n} = record { takes = λ behind tokens rest h e k. subst (λ ts. Ends ts behind n) (sym h) k }

pub both : {ws vs : List Piece} {x y : List Expected} {middle ends : Word → Bool} {n k m : Names} → Takes ws x middle n k → Begins vs ends middle
    → Takes vs y ends k m → Takes (ws ++ vs) (x ++ y) ends n m
both {ws = ws} {vs = vs} {x = x} {y = y} {n = n} first begins second =
    record {
      takes = λ behind tokens rest h e r.
          let s = Spelled-split tokens ws vs rest h in
          subst (λ all. Ends tokens all n) (sym (append_assoc x y behind))
          (first.takes (y ++ behind) tokens s.0 s.1 (begins.opens s.0 rest s.2 e) (second.takes behind s.0 rest s.2 e r));
    }

-- a token that is kept
pub token : (t : Token) {vs : List Piece} {x : Expected} {y : List Expected} {ends : Word → Bool} {n m : Names} (before : List Turn) (turn : Turn) (others : List Turn)
    → turns x (word_of t) ≡ before ++ turn ∷ others → fits n x (name_of t) ≡ true
    → Takes vs (wanted_by turn ++ y) ends (named_by n x (name_of t)) m → Takes (must (at t) ∷ vs) (x ∷ y) ends n m
token t {x = x} {y = y} {n = n} before turn others is fit t_behind =
    record {
      takes = λ behind tokens rest h e r.
          subst (λ ts. Ends ts (x ∷ (y ++ behind)) n) (sym h.1)
          (tok t h.0 x (y ++ behind) n before turn others is fit
          (subst (λ all. Ends h.0 all (named_by n x (name_of t))) (append_assoc (wanted_by turn) y behind) (t_behind.takes behind h.0 rest h.2 e r)));
    }

-- a word at any place
pub marked : (w : Word) {vs : List Piece} {x : Expected} {y : List Expected} {ends : Word → Bool} {n m : Names} (before : List Turn) (turn : Turn) (others : List Turn)
    → turns x w ≡ before ++ turn ∷ others → fits n x None ≡ true → Takes vs (wanted_by turn ++ y) ends n m → Takes (mark w ∷ vs) (x ∷ y) ends n m
marked w {x = x} {y = y} {n = n} before turn others is fit t_behind =
    record {
      takes = λ behind tokens rest h e r.
          subst (λ ts. Ends ts (x ∷ (y ++ behind)) n) (sym h.1.1)
          (tok (plain w h.1.0) h.0 x (y ++ behind) n before turn others is fit
          (subst (λ all. Ends h.0 all n) (append_assoc (wanted_by turn) y behind) (t_behind.takes behind h.0 rest h.2 e r)));
    }

-- what need not come is left out before what begins with another word
pub left_out : {vs : List Piece} {x : Expected} {y : List Expected} {ends begins : Word → Bool} {n m : Names} → is_optional x ≡ true
    → ((w : Word) → begins w ≡ true → turns x w ≡ []) → Begins vs ends begins → Takes vs y ends n m → Takes vs (x ∷ y) ends n m
left_out {x = x} {y = y} {n = n} o none begins t =
    record {
      takes = λ behind tokens rest h e r.
          skip x (y ++ behind) tokens n o (none (first_word tokens) (begins.opens tokens rest h e)) (t.takes behind tokens rest h e r);
    }

pub left_before : (w : Word) {vs : List Piece} {x : Expected} {y : List Expected} {ends : Word → Bool} {n m : Names} → is_optional x ≡ true
    → turns x w ≡ [] → Takes (mark w ∷ vs) y ends n m → Takes (mark w ∷ vs) (x ∷ y) ends n m
left_before w {x = x} {y = y} {n = n} o none t =
    record {
      takes = λ behind tokens rest h e r.
          skip x (y ++ behind) tokens n o (ap (λ ts. turns x (first_word ts)) h.1.1 ∙ none) (t.takes behind tokens rest h e r);
    }

pub left_last : {x : Expected} {ends : Word → Bool} {n : Names} → is_optional x ≡ true → ((w : Word) → ends w ≡ true → turns x w ≡ [])
    → Takes [] (x ∷ []) ends n n
left_last {x = x} {n = n} o none =
    record {
      takes = λ behind tokens rest h e r.
          subst (λ ts. Ends ts (x ∷ behind) n) (sym h) (skip x behind rest n o (none (first_word rest) e) r);
    }

pub same_pieces : {ws vs : List Piece} {x : List Expected} {ends : Word → Bool} {n m : Names} → ws ≡ vs → Takes ws x ends n m → Takes vs x ends n m
same_pieces {x = x} {ends = ends} {n = n} {m = m} e t = subst (λ ps. Takes ps x ends n m) e t

pub regroup : (a b c : List Piece) {x : List Expected} {ends : Word → Bool} {n m : Names} → Takes (a ++ (b ++ c)) x ends n m
    → Takes ((a ++ b) ++ c) x ends n m
regroup a b c t = same_pieces (sym (append_assoc a b c)) t
