-- Definitions of a block are taken: the head of each, and a `;` between each two.
use Rattle.std.proofs.Common.{◌≡◌, zero, suc, Bool, true, false, if◌then◌else◌, List, [], ◌∷◌, ◌++◌, Option, Some, None, refl, sym, subst, ◌∙◌, append_assoc, arith}
use Rattle.std.specs.List.{Contains}
use Rattle.vdm_kinds.specs.declared.access.Access.{Access}
use Rattle.vdm_kinds.specs.declared.access.Level.{Level}
use Rattle.vdm_kinds.specs.declared.access.Level.TheVariants.{Private, Protected, Public}
use Rattle.vdm_kinds.specs.declared.name.Name.{Name}
use Rattle.vdm_kinds.specs.declared.place.Place.{Place}
use Rattle.grammar_words.specs.declared.word.Word.{Word}
use Rattle.grammar_words.specs.declared.word.Word.TheVariants as word_is
use Rattle.grammar_words.specs.Tokens.{Token, identifier, plain}
use Rattle.grammar_words.specs.Written.{Written, at, at_word}
use Rattle.stmt_trees.specs.Pieces.{Piece, must, one_of, whole, Begin, Spelled}
use Rattle.stmt_trees.specs.Heads.{is_same_place, access_forms, head_spelling}
use Rattle.stmt_trees.specs.ClassSpelling.{further_items, items_spelling}
use Rattle.stmt_fronts.specs.declared.expected.Expected.{Expected}
use Rattle.stmt_fronts.specs.declared.expected.Expected.TheVariants.{LevelOrName, StaticOrName}
use Rattle.stmt_fronts.specs.Turns.{goes_on}
use Rattle.stmt_fronts.specs.Table.{turns, is_optional}
use Rattle.stmt_fronts.specs.Viable.{Names, named_by, fits}
use Rattle.stmt_laws.specs.Ends.{ends_stmt, first_word}
use Rattle.stmt_laws.proofs.Readers.{Begins, by_mark}
use Rattle.viable_laws.proofs.Takes.{Takes, both, token, marked, left_out, regroup}
use Rattle.viable_laws.proofs.Instead.{may_taken, may_begin}
use Rattle.viable_laws.proofs.Parts.{fits_none}

-- ---- what stands behind a block, and behind a definition

abbrev pub ends_block : Word → Bool
ends_block word_is.Types = true
ends_block word_is.Values = true
ends_block word_is.Instance = true
ends_block word_is.Functions = true
ends_block word_is.Operations = true
ends_block word_is.Thread = true
ends_block word_is.Sync = true
ends_block word_is.End = true
ends_block _ = false

abbrev pub ends_item : Word → Bool
ends_item word_is.Semicolon = true
ends_item w = ends_block w

pub block_item : (w : Word) → ends_block w ≡ true → ends_item w ≡ true
block_item word_is.Types e = refl
block_item word_is.Values e = refl
block_item word_is.Instance e = refl
block_item word_is.Functions e = refl
block_item word_is.Operations e = refl
block_item word_is.Thread e = refl
block_item word_is.Sync e = refl
block_item word_is.End e = refl
block_item _ e = absurd (cc)

pub item_stmt : (w : Word) → ends_item w ≡ true → ends_stmt w ≡ true
item_stmt word_is.Semicolon e = refl
item_stmt word_is.Types e = refl
item_stmt word_is.Values e = refl
item_stmt word_is.Instance e = refl
item_stmt word_is.Functions e = refl
item_stmt word_is.Operations e = refl
item_stmt word_is.Thread e = refl
item_stmt word_is.Sync e = refl
item_stmt word_is.End e = refl
item_stmt _ e = absurd (cc)

pub begins_fewer : {vs : List Piece} {ends some more : Word → Bool} → ((w : Word) → some w ≡ true → more w ≡ true) → Begins vs ends some → Begins vs ends more
begins_fewer are b = record { opens = λ tokens rest h e. are (first_word tokens) (b.opens tokens rest h e) }

-- ---- one of several forms

abbrev AllForms : List (List Written) → List Piece → List Expected → (Word → Bool) → Names → Names → Type 0
AllForms [] vs x ends n m = Unit {0}
AllForms (form ∷ forms) vs x ends n m = Takes (whole form ++ vs) x ends n m × AllForms forms vs x ends n m

begun_so : (form : List Written) (tokens middle rest : List Token) (vs : List Piece) → Begin tokens form middle → Spelled middle vs rest
    → Spelled tokens (whole form ++ vs) rest
begun_so [] tokens middle rest vs b h = subst (λ ts. Spelled ts vs rest) (sym b) h
begun_so (w ∷ ws) tokens middle rest vs b h = (b.0, b.1, begun_so ws b.0 middle rest vs b.2 h)

one_form : (forms : List (List Written)) (vs : List Piece) (x : List Expected) (ends : Word → Bool) (n m : Names) → AllForms forms vs x ends n m
    → (form : List Written) → Contains forms form → Takes (whole form ++ vs) x ends n m
one_form [] vs x ends n m all form (i, less, is) = absurd (omega arith)
one_form (f ∷ forms) vs x ends n m all form (zero, less, is) = subst (λ g. Takes (whole g ++ vs) x ends n m) is all.0
one_form (f ∷ forms) vs x ends n m all form (suc i, less, is) = one_form forms vs x ends n m all.1 form (i, omega arith, is)

pub forms_taken : {vs : List Piece} {x : List Expected} {ends : Word → Bool} {n m : Names} (forms : List (List Written)) → AllForms forms vs x ends n m
    → Takes (one_of forms ∷ vs) x ends n m
forms_taken {vs = vs} {x = x} {ends = ends} {n = n} {m = m} forms all =
    record {
      takes = λ behind tokens rest h e r.
          (one_form forms vs x ends n m all h.0 h.2).takes behind tokens rest (begun_so h.0 tokens h.1 rest vs h.3 h.4) e r;
    }

-- ---- the head of a definition

abbrev pub defined : Names → Name → Names
defined n name = record n { definition = Some name }

-- what is wanted has a head first, and this behind it
pub record HasHead (x : Expected) (parts : List Expected) : Type 0 where
  pub by_name : turns x word_is.Identifier ≡ goes_on parts ∷ []
  pub by_static : turns x word_is.Static ≡ goes_on (LevelOrName ∷ parts) ∷ []
  pub by_private : turns x word_is.Private ≡ goes_on (StaticOrName ∷ parts) ∷ []
  pub by_protected : turns x word_is.Protected ≡ goes_on (StaticOrName ∷ parts) ∷ []
  pub by_public : turns x word_is.Public ≡ goes_on (StaticOrName ∷ parts) ∷ []
  pub fit : (n : Names) (name : Option Name) → fits n x name ≡ true
  pub names : (n : Names) (name : Name) → named_by n x (Some name) ≡ defined n name

private_forms : {vs : List Piece} {parts : List Expected} (y : List Expected) {ends : Word → Bool} (n : Names) {m : Names} (x : Expected) → HasHead x parts → (same : Bool) (name : Name) (name_place place : Place)
    → Takes vs (parts ++ y) ends (defined n name) m
    → AllForms ((if same then [] ∷ [] else []) ++ (at_word word_is.Private place ∷ []) ∷ []) (must (at (identifier name name_place)) ∷ vs) (x ∷ y) ends n m
private_forms {vs = vs} {parts = parts} y {ends = ends} n {m = m} x h true name name_place place t = (
  token (identifier name name_place) [] (goes_on parts) [] h.by_name (h.fit n (Some name)) (subst (λ k. Takes vs (parts ++ y) ends k m) (sym (h.names n name)) t),
  (token (plain word_is.Private place) [] (goes_on (StaticOrName ∷ parts)) [] h.by_private (h.fit n None) (token (identifier name name_place) [] _ _ refl refl t), tt),
)
private_forms y n x h false name name_place place t =
    (token (plain word_is.Private place) [] (goes_on (StaticOrName ∷ _)) [] h.by_private (h.fit n None) (token (identifier name name_place) [] _ _ refl refl t), tt)

all_forms : {vs : List Piece} {parts : List Expected} (y : List Expected) {ends : Word → Bool} (n : Names) {m : Names} (x : Expected) → HasHead x parts → (is_static : Bool) (level : Level) (name : Name)
    (name_place place : Place) → Takes vs (parts ++ y) ends (defined n name) m
    → AllForms (access_forms (record { is_static = is_static; level = level }) name_place place) (must (at (identifier name name_place)) ∷ vs) (x ∷ y) ends n m
all_forms y n x h false Private name name_place place t = private_forms y n x h (is_same_place name_place place) name name_place place t
all_forms y n x h false Protected name name_place place t =
    (token (plain word_is.Protected place) [] (goes_on (StaticOrName ∷ _)) [] h.by_protected (h.fit n None) (token (identifier name name_place) [] _ _ refl refl t), tt)
all_forms y n x h false Public name name_place place t =
    (token (plain word_is.Public place) [] (goes_on (StaticOrName ∷ _)) [] h.by_public (h.fit n None) (token (identifier name name_place) [] _ _ refl refl t), tt)
all_forms y n x h true Private name name_place place t = (
  token (plain word_is.Static place) [] (goes_on (LevelOrName ∷ _)) [] h.by_static (h.fit n None) (token (identifier name name_place) [] _ _ refl refl t),
  (
    token (plain word_is.Static place) [] (goes_on (LevelOrName ∷ _)) [] h.by_static (h.fit n None)
        (marked word_is.Private [] _ _ refl refl (token (identifier name name_place) [] _ _ refl refl t)),
    (
      token (plain word_is.Private place) [] (goes_on (StaticOrName ∷ _)) [] h.by_private (h.fit n None)
          (marked word_is.Static [] _ _ refl refl (token (identifier name name_place) [] _ _ refl refl t)),
      tt,
    ),
  ),
)
all_forms y n x h true Protected name name_place place t = (
  token (plain word_is.Static place) [] (goes_on (LevelOrName ∷ _)) [] h.by_static (h.fit n None)
      (marked word_is.Protected [] _ _ refl refl (token (identifier name name_place) [] _ _ refl refl t)),
  (
    token (plain word_is.Protected place) [] (goes_on (StaticOrName ∷ _)) [] h.by_protected (h.fit n None)
        (marked word_is.Static [] _ _ refl refl (token (identifier name name_place) [] _ _ refl refl t)),
    tt,
  ),
)
all_forms y n x h true Public name name_place place t = (
  token (plain word_is.Static place) [] (goes_on (LevelOrName ∷ _)) [] h.by_static (h.fit n None)
      (marked word_is.Public [] _ _ refl refl (token (identifier name name_place) [] _ _ refl refl t)),
  (
    token (plain word_is.Public place) [] (goes_on (StaticOrName ∷ _)) [] h.by_public (h.fit n None)
        (marked word_is.Static [] _ _ refl refl (token (identifier name name_place) [] _ _ refl refl t)),
    tt,
  ),
)

pub head_taken : {vs : List Piece} {parts : List Expected} (y : List Expected) {ends : Word → Bool} (n : Names) {m : Names} (x : Expected) → HasHead x parts → (access : Access) (name : Name)
    (name_place place : Place) → Takes vs (parts ++ y) ends (defined n name) m → Takes (head_spelling access name name_place place ++ vs) (x ∷ y) ends n m
head_taken y n x h access name name_place place t =
    forms_taken (access_forms access name_place place) (all_forms y n x h access.is_static access.level name name_place place t)

-- ---- definitions, one after the other

-- what is written so is taken, with so much wanted behind it; the class keeps its name
pub record Passes (ws : List Piece) (x : Expected) (more : List Expected) (behind : Word → Bool) : Type 0 where
  pub after : Names → Names
  pub keeps : (n : Names) → (after n).class ≡ n.class
  pub taken : (n m : Names) (vs : List Piece) (y : List Expected) (ends : Word → Bool) → Begins vs ends behind → Takes vs (more ++ y) ends (after n) m
      → Takes (ws ++ vs) (x ∷ y) ends n m

abbrev pub ItemTaken : {A : Type 0} → Expected → Expected → (A → List Piece) → A → Type 0
ItemTaken x more spell item = Passes (spell item) x (more ∷ []) ends_item

abbrev pub AllItems : {A : Type 0} → Expected → Expected → (A → List Piece) → List A → Type 0
AllItems x more spell [] = Unit {0}
AllItems x more spell (item ∷ others) = ItemTaken x more spell item × AllItems x more spell others

-- what is wanted of definitions of one kind
pub record AreItems (x more : Expected) : Type 0 where
  pub next : turns more word_is.Semicolon ≡ goes_on (x ∷ []) ∷ []
  pub fit : fits_none more
  pub may_come : is_optional x ≡ true
  pub may_follow : is_optional more ≡ true
  pub ends_first : (w : Word) → ends_block w ≡ true → turns x w ≡ []
  pub ends_next : (w : Word) → ends_block w ≡ true → turns more w ≡ []

items_begin : {A : Type 0} (spell : A → List Piece) (items : List A) (vs : List Piece) (ends : Word → Bool) → Begins vs ends ends_block
    → Begins (further_items spell items ++ vs) ends ends_item
items_begin spell [] vs ends b = may_begin word_is.Semicolon refl (begins_fewer block_item b)
items_begin spell (item ∷ others) vs ends b = by_mark word_is.Semicolon refl

further_taken : {A : Type 0} (x more : Expected) → AreItems x more → (spell : A → List Piece) (items : List A) → AllItems x more spell items
    → Passes (further_items spell items) more [] ends_block
further_taken x more f spell [] all =
    record {
      after = λ n. n;
      keeps = λ n. refl;
      taken = λ n m vs y ends b t.
          may_taken word_is.Semicolon
          (marked word_is.Semicolon [] (goes_on (x ∷ [])) [] f.next (f.fit n) (left_out f.may_come f.ends_first b t))
          (left_out f.may_follow f.ends_next b t);
    }
further_taken x more f spell (item ∷ others) all =
    let k = further_taken x more f spell others all.1 in
    record {
      after = λ n. k.after (all.0.after n);
      keeps = λ n. k.keeps (all.0.after n) ∙ all.0.keeps n;
      taken = λ n m vs y ends b t.
          marked word_is.Semicolon [] (goes_on (x ∷ [])) [] f.next (f.fit n)
          (regroup (spell item) (further_items spell others) vs
          (all.0.taken n m (further_items spell others ++ vs) y ends (items_begin spell others vs ends b) (k.taken (all.0.after n) m vs y ends b t)));
    }

pub items_taken : {A : Type 0} (x more : Expected) → AreItems x more → (spell : A → List Piece) (items : List A) → AllItems x more spell items
    → Passes (items_spelling spell items) x [] ends_block
items_taken x more f spell [] all =
    record { after = λ n. n; keeps = λ n. refl; taken = λ n m vs y ends b t. left_out f.may_come f.ends_first b t }
items_taken x more f spell (item ∷ others) all =
    let k = further_taken x more f spell others all.1 in
    record {
      after = λ n. k.after (all.0.after n);
      keeps = λ n. k.keeps (all.0.after n) ∙ all.0.keeps n;
      taken = λ n m vs y ends b t.
          regroup (spell item) (further_items spell others) vs
          (all.0.taken n m (further_items spell others ++ vs) y ends (items_begin spell others vs ends b) (k.taken (all.0.after n) m vs y ends b t));
    }

-- a definition of a head and what stands behind it
pub by_head : {vs rest : List Piece} {parts y : List Expected} {ends : Word → Bool} {n m : Names} (x more : Expected) → HasHead x (parts ++ (more ∷ [])) → (access : Access) (name : Name)
    (name_place place : Place) → Takes rest parts ends_item (defined n name) (defined n name) → Begins vs ends ends_item → Takes vs (more ∷ y) ends (defined n name) m
    → Takes (head_spelling access name name_place place ++ (rest ++ vs)) (x ∷ y) ends n m
by_head {vs = vs} {rest = rest} {parts = parts} {y = y} {ends = ends} {n = n} {m = m} x more h access name name_place place r b t =
    head_taken y n x h access name name_place place
    (subst (λ all. Takes (rest ++ vs) all ends (defined n name) m) (sym (append_assoc parts (more ∷ []) y)) (both r b t))
