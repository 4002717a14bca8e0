-- What is wanted in one place takes what is wanted in another, with more behind it.
use Rattle.std.proofs.Common.{◌≡◌, Bool, true, false, ◌||◌, ◌==◌, if◌then◌else◌, List, [], ◌∷◌, ◌++◌, length, map, Option, Some, None, refl, ap, sym, subst, ◌∙◌, append_assoc}
use Rattle.std.specs.List.{list_any}
use Rattle.std.proofs.lemmas.List.{append-nil}
use Rattle.vdm_kinds.specs.declared.name.Name.{Name}
use Rattle.grammar_words.specs.declared.word.Word.{Word}
use Rattle.grammar_words.specs.declared.word.Word.TheVariants as word_is
use Rattle.grammar_words.specs.Tokens.{Token, word_of}
use Rattle.grammar_fronts.specs.declared.wanted.Wanted.{Wanted}
use Rattle.grammar_fronts.specs.declared.wanted.Wanted.TheVariants as want
use Rattle.stmt_trees.specs.Pieces.{Piece, mark, may}
use Rattle.stmt_fronts.specs.declared.expected.Expected.{Expected}
use Rattle.stmt_fronts.specs.declared.expected.Expected.TheVariants.{Within, Statement, InBlock, BehindStatement, StatementOrClose, Value, BehindCase, MoreCases, NextCase, Loop, Call}
use Rattle.stmt_fronts.specs.Turns.{Turn, goes_on, begins, joins, adds, calls, wanted_by, followed, then_wanted}
use Rattle.stmt_fronts.specs.Table.{turns, is_optional}
use Rattle.stmt_fronts.specs.Viable.{Names, State, Way, name_of, named_by, fits, ways_of, either, ways_from, leads}
use Rattle.stmt_fronts.specs.Fronts.{needed, is_whole}
use Rattle.stmt_laws.specs.Ends.{first_word}
use Rattle.stmt_laws.proofs.Keeping.{zero-is}
use Rattle.stmt_laws.proofs.Readers.{Begins}
use Rattle.stmt_laws.proofs.Firsts.{MayCome, away, there, may_come_or_not}
use Rattle.viable_laws.proofs.Takes.{Ends, goes_to_end, Takes}

-- ---- one way in place of another

followed-wanted : (t : Turn) (more behind : List Expected) → wanted_by t ++ (more ++ behind) ≡ wanted_by (followed more t) ++ behind
followed-wanted (goes_on parts) more behind = sym (append_assoc parts more behind)
followed-wanted (adds pull parts) more behind = sym (append_assoc parts more behind)
followed-wanted (begins pull parts rest) more behind =
    sym (ap (λ all. all ++ behind) (sym (append_assoc parts rest more)) ∙ append_assoc (parts ++ rest) more behind)
followed-wanted (joins left right parts rest) more behind =
    sym (ap (λ all. all ++ behind) (sym (append_assoc parts rest more)) ∙ append_assoc (parts ++ rest) more behind)
followed-wanted (calls pull parts rest) more behind =
    sym (ap (λ all. all ++ behind) (sym (append_assoc parts (Call ∷ rest) more)) ∙ append_assoc (parts ++ Call ∷ rest) more behind)

abbrev way_of : Names → List Expected → Turn → Way
way_of n behind t = record { turn = t; behind = behind; names = n }

same_way : (ts : List Token) (n : Names) (more behind : List Expected) (t : Turn)
    → goes_to_end ts (way_of n (more ++ behind) t) ≡ goes_to_end ts (way_of n behind (followed more t))
same_way ts n more behind t =
    ap (λ all. leads (λ (state : State). is_whole state.wanted) ts (record { wanted = all; names = n })) (followed-wanted t more behind)

or-right : (b c : Bool) → c ≡ true → (b || c) ≡ true
or-right true c e = refl
or-right false c e = e

moved : (ts : List Token) (n : Names) (more behind : List Expected) (all : List Turn)
    → list_any (goes_to_end ts) (map (way_of n (more ++ behind)) all) ≡ list_any (goes_to_end ts) (map (way_of n behind) (then_wanted all more))
moved ts n more behind [] = refl
moved ts n more behind (t ∷ others) =
    ap (λ b. b || list_any (goes_to_end ts) (map (way_of n (more ++ behind)) others)) (same_way ts n more behind t)
    ∙ ap (λ b. goes_to_end ts (way_of n behind (followed more t)) || b) (moved ts n more behind others)

behind-others : (test : Way → Bool) (n : Names) (behind : List Expected) (before all : List Turn) → list_any test (map (way_of n behind) all) ≡ true
    → list_any test (map (way_of n behind) (before ++ all)) ≡ true
behind-others test n behind [] all e = e
behind-others test n behind (t ∷ before) all e = or-right (test (way_of n behind t)) _ (behind-others test n behind before all e)

-- the ways of a word that is taken here without names
pub record Nameless (x : Expected) : Type 0 where
  pub fits_any : (n : Names) (name : Option Name) → fits n x name ≡ true
  pub keeps : (n : Names) (name : Option Name) → named_by n x name ≡ n

ways-nameless : (x : Expected) → Nameless x → (n : Names) (name : Option Name) (behind : List Expected) (all : List Turn)
    → ways_of n x name behind all ≡ map (way_of n behind) all
ways-nameless x s n name behind all =
    ap (λ (b : Bool). if b then map (way_of (named_by n x name) behind) all else []) (s.fits_any n name)
    ∙ ap (λ m. map (way_of m behind) all) (s.keeps n name)

-- what the word does here is what it does there, or it does nothing there
pub data Begun (x from : Expected) (more : List Expected) (w : Word) : Type 0 where
  none : turns from w ≡ [] → Begun x from more w
  begun : (before : List Turn) → turns x w ≡ before ++ then_wanted (turns from w) more → Begun x from more w

taken_there : (test : Way → Bool) (taken : List Turn → List Way) (before all : List Turn) (other : List Way) → list_any test (taken (before ++ all)) ≡ true
    → (all ≡ [] → ⊥) → list_any test (either (before ++ all) taken other) ≡ true
taken_there test taken [] [] other e some = absurd (some refl)
taken_there test taken [] (t ∷ all) other e some = e
taken_there test taken (b ∷ before) all other e some = e

never : false ≡ true → ⊥
never e = absurd (cc)

no_more : (more : List Expected) (t : Turn) (all : List Turn) → then_wanted (t ∷ all) more ≡ [] → ⊥
no_more more t all e = absurd (cc)

at_token : (t : Token) (ts : List Token) (x from : Expected) (more behind : List Expected) (n : Names) (all : List Turn) → turns from (word_of t) ≡ all
    → is_optional from ≡ false → Nameless x → Nameless from → (before : List Turn) → turns x (word_of t) ≡ before ++ then_wanted all more
    → Ends (t ∷ ts) (from ∷ (more ++ behind)) n → Ends (t ∷ ts) (x ∷ behind) n
at_token t ts x from more behind n [] is o s f before same e =
    let nothing = ap (λ all. list_any (goes_to_end ts) (either all (ways_of n from (name_of t) (more ++ behind)) (if is_optional from then ways_from n (word_of t) (name_of t) (more ++ behind) else []))) is
    ∙ ap (λ (b : Bool). list_any (goes_to_end ts) (if b then ways_from n (word_of t) (name_of t) (more ++ behind) else [])) o in
    absurd (never (sym nothing ∙ e.ends))
at_token t ts x from more behind n (first ∷ others) is o s f before same e =
    let ways : List Way = (if is_optional x then ways_from n (word_of t) (name_of t) behind else []) in
    let there : list_any (goes_to_end ts) (map (way_of n (more ++ behind)) (first ∷ others)) ≡ true =
    sym (ap (λ all. list_any (goes_to_end ts) (either all (ways_of n from (name_of t) (more ++ behind)) (if is_optional from then ways_from n (word_of t) (name_of t) (more ++ behind) else []))) is
    ∙ ap (list_any (goes_to_end ts)) (ways-nameless from f n (name_of t) (more ++ behind) (first ∷ others))) ∙ e.ends in
    let here : list_any (goes_to_end ts) (map (way_of n behind) (before ++ then_wanted (first ∷ others) more)) ≡ true =
    behind-others (goes_to_end ts) n behind before (then_wanted (first ∷ others) more) (sym (moved ts n more behind (first ∷ others)) ∙ there) in
    record {
      ends =
          ap (λ all. list_any (goes_to_end ts) (either all (ways_of n x (name_of t) behind) ways)) same
          ∙ taken_there (goes_to_end ts) (ways_of n x (name_of t) behind) before (then_wanted (first ∷ others) more) ways
          (ap (list_any (goes_to_end ts)) (ways-nameless x s n (name_of t) behind (before ++ then_wanted (first ∷ others) more)) ∙ here)
          (no_more more first others);
    }

by_begun : (t : Token) (ts : List Token) (x from : Expected) (more behind : List Expected) (n : Names) → is_optional from ≡ false → Nameless x → Nameless from
    → Begun x from more (word_of t) → Ends (t ∷ ts) (from ∷ (more ++ behind)) n → Ends (t ∷ ts) (x ∷ behind) n
by_begun t ts x from more behind n o s f (none is) e = at_token t ts x from more behind n [] is o s f (turns x (word_of t)) (sym (append-nil (turns x (word_of t)))) e
by_begun t ts x from more behind n o s f (begun before is) e =
    at_token t ts x from more behind n (turns from (word_of t)) refl o s f before is e

by_tokens : (tokens : List Token) (x from : Expected) (more behind : List Expected) (n : Names) → is_optional from ≡ false → Nameless x → Nameless from
    → ((w : Word) → Begun x from more w) → Ends tokens (from ∷ (more ++ behind)) n → Ends tokens (x ∷ behind) n
by_tokens [] x from more behind n o s f same e =
    let nothing : (length (from ∷ (more ++ behind)) == 0) ≡ true =
    sym (ap (λ (b : Bool). length (if b then needed (more ++ behind) else from ∷ (more ++ behind)) == 0) o) ∙ e.ends in
    let zero : length (from ∷ (more ++ behind)) ≡ 0 = zero-is (length (from ∷ (more ++ behind))) nothing in absurd (cc)
by_tokens (t ∷ ts) x from more behind n o s f same e = by_begun t ts x from more behind n o s f (same (word_of t)) e

pub instead : {ws : List Piece} {ends : Word → Bool} {n m : Names} (x from : Expected) (more y : List Expected) → is_optional from ≡ false → Nameless x
    → Nameless from → ((w : Word) → Begun x from more w) → Takes ws (from ∷ (more ++ y)) ends n m → Takes ws (x ∷ y) ends n m
instead {n = n} x from more y o s f same t =
    record {
      takes = λ behind tokens rest h e r.
          by_tokens tokens x from more (y ++ behind) n o s f same
          (subst (λ all. Ends tokens (from ∷ all) n) (append_assoc more y behind) (t.takes behind tokens rest h e r));
    }

-- ---- statements, expressions and patterns in other places

nothing_more : (t : Turn) → t ≡ followed [] t
nothing_more (goes_on parts) = ap (λ all. goes_on all) (sym (append-nil parts))
nothing_more (adds pull parts) = ap (λ all. adds pull all) (sym (append-nil parts))
nothing_more (begins pull parts rest) = ap (λ all. begins pull parts all) (sym (append-nil rest))
nothing_more (joins left right parts rest) = ap (λ all. joins left right parts all) (sym (append-nil rest))
nothing_more (calls pull parts rest) = ap (λ all. calls pull parts all) (sym (append-nil rest))

pub none_wanted : (all : List Turn) → all ≡ then_wanted all []
none_wanted [] = refl
none_wanted (t ∷ others) = ap (λ first. first ∷ others) (nothing_more t) ∙ ap (λ more. followed [] t ∷ more) (none_wanted others)

pub nameless_within : (w : Wanted) → Nameless (Within w)
nameless_within w = record { fits_any = λ n name. refl; keeps = λ n name. keep n name }
  where
    keep : (n : Names) (name : Option Name) → named_by n (Within w) name ≡ n
    keep n None = refl
    keep n (Some name) = refl

pub kept : (x : Expected) → ((n : Names) (name : Name) → named_by n x (Some name) ≡ n) → (n : Names) (name : Option Name) → named_by n x name ≡ n
kept x e n None = refl
kept x e n (Some name) = e n name

pub nameless_statement : Nameless Statement
nameless_statement = record { fits_any = λ n name. refl; keeps = kept Statement (λ n name. refl) }

in_block-begun : (w : Word) → Begun InBlock Statement (BehindStatement ∷ []) w
in_block-begun word_is.Dcl = none refl
in_block-begun _ = begun [] refl

pub in_block : {ws : List Piece} {ends : Word → Bool} {n : Names} → Takes ws (Statement ∷ BehindStatement ∷ []) ends n n → Takes ws (InBlock ∷ []) ends n n
in_block t = instead InBlock Statement (BehindStatement ∷ []) [] refl (record { fits_any = λ n name. refl; keeps = kept InBlock (λ n name. refl) }) nameless_statement in_block-begun t

or_close-begun : (w : Word) → Begun StatementOrClose Statement (BehindStatement ∷ []) w
or_close-begun word_is.CloseRound = none refl
or_close-begun _ = begun [] refl

pub statement_or_close : {ws : List Piece} {ends : Word → Bool} {n : Names} → Takes ws (Statement ∷ BehindStatement ∷ []) ends n n → Takes ws (StatementOrClose ∷ []) ends n n
statement_or_close t =
    instead StatementOrClose Statement (BehindStatement ∷ []) [] refl (record { fits_any = λ n name. refl; keeps = kept StatementOrClose (λ n name. refl) }) nameless_statement or_close-begun t

pub value : {ws : List Piece} {ends : Word → Bool} {n : Names} → Takes ws (Within want.Expression ∷ []) ends n n → Takes ws (Value ∷ []) ends n n
value t =
    instead Value (Within want.Expression) [] [] refl (record { fits_any = λ n name. refl; keeps = kept Value (λ n name. refl) }) (nameless_within want.Expression)
    (λ w. begun [] (none_wanted (turns (Within want.Expression) w))) t

next_case-begun : (w : Word) → Begun NextCase (Within want.Pattern) (BehindCase ∷ MoreCases ∷ []) w
next_case-begun word_is.Others = none refl
next_case-begun _ = begun [] refl

pub next_case : {ws : List Piece} {ends : Word → Bool} {n : Names} → Takes ws (Within want.Pattern ∷ BehindCase ∷ MoreCases ∷ []) ends n n
    → Takes ws (NextCase ∷ []) ends n n
next_case t =
    instead NextCase (Within want.Pattern) (BehindCase ∷ MoreCases ∷ []) [] refl (record { fits_any = λ n name. refl; keeps = kept NextCase (λ n name. refl) })
    (nameless_within want.Pattern) next_case-begun t

loop-begun : (w : Word) → Begun Loop (Within want.Pattern) (Within want.In ∷ Within want.Expression ∷ []) w
loop-begun word_is.All = none refl
loop-begun word_is.Identifier = begun (_ ∷ []) refl
loop-begun _ = begun [] refl

pub loop : {ws : List Piece} {y : List Expected} {ends : Word → Bool} {n : Names} → Takes ws (Within want.Pattern ∷ Within want.In ∷ Within want.Expression ∷ y) ends n n
    → Takes ws (Loop ∷ y) ends n n
loop {y = y} t =
    instead Loop (Within want.Pattern) (Within want.In ∷ Within want.Expression ∷ []) y refl (record { fits_any = λ n name. refl; keeps = kept Loop (λ n name. refl) })
    (nameless_within want.Pattern) loop-begun t

-- ---- a word that may come

come_or_not : {pieces : List Piece} {x : List Expected} {ends : Word → Bool} {n m : Names} (w : Word) → Takes (mark w ∷ pieces) x ends n m → Takes pieces x ends n m
    → (behind : List Expected) (tokens rest : List Token) → MayCome w tokens pieces rest → ends (first_word rest) ≡ true → Ends rest behind m
    → Ends tokens (x ++ behind) n
come_or_not w come not behind tokens rest (away h) e r = not.takes behind tokens rest h e r
come_or_not w come not behind tokens rest (there h) e r = come.takes behind tokens rest h e r

pub may_taken : {pieces : List Piece} {x : List Expected} {ends : Word → Bool} {n m : Names} (w : Word) → Takes (mark w ∷ pieces) x ends n m → Takes pieces x ends n m
    → Takes (may w ∷ pieces) x ends n m
may_taken {pieces = pieces} w come not =
    record { takes = λ behind tokens rest h e r. come_or_not w come not behind tokens rest (may_come_or_not w tokens rest pieces h) e r }

begin_or_not : {pieces : List Piece} {ends first : Word → Bool} (w : Word) → first w ≡ true → Begins pieces ends first → (tokens rest : List Token)
    → MayCome w tokens pieces rest → ends (first_word rest) ≡ true → first (first_word tokens) ≡ true
begin_or_not w is not tokens rest (away h) e = not.opens tokens rest h e
begin_or_not {first = first} w is not tokens rest (there h) e = ap (λ ts. first (first_word ts)) h.1.1 ∙ is

pub may_begin : {pieces : List Piece} {ends first : Word → Bool} (w : Word) → first w ≡ true → Begins pieces ends first → Begins (may w ∷ pieces) ends first
may_begin {pieces = pieces} w is not =
    record { opens = λ tokens rest h e. begin_or_not w is not tokens rest (may_come_or_not w tokens rest pieces h) e }
