-- Items with a `;` between each two are read, and types, values and variables.
use Rattle.std.proofs.Common.{◌≡◌, ℕ, zero, suc, ◌+◌, ◌<◌, ◌≤◌, Bool, true, false, if◌then◌else◌, List, [], ◌∷◌, ◌++◌, length, Option, Some, None, refl, ap, sym, ◌∙◌, arith}
use Rattle.vdm_kinds.specs.declared.name.Name.{Name}
use Rattle.vdm_kinds.specs.declared.access.Access.{Access}
use Rattle.vdm_kinds.specs.declared.name_at.NameAt.{NameAt}
use Rattle.vdm_kinds.specs.declared.place.Place.{Place}
use Rattle.vdm_kinds.specs.declared.sign.Sign.TheVariants as sign_is
use Rattle.abstract_syntax.specs.Types.{TypeTree}
use Rattle.abstract_syntax.specs.Expressions.{ExprTree}
use Rattle.abstract_syntax.specs.Classes.{FieldTree, TypeBody, same_as, with_fields, InvariantTree, TypeDefTree, ValueDefTree, VariableTree, VariableItem, variable_item, invariant_item}
use Rattle.grammar_words.specs.declared.word.Word.{Word}
use Rattle.grammar_words.specs.declared.word.Word.TheVariants as word_is
use Rattle.grammar_words.specs.Tokens.{Token, identifier, quote, whole as whole_token, character, text, make_named, is_named, plain}
use Rattle.grammar_words.specs.Written.{at}
use Rattle.type_reading.specs.TypeSpelling.{type_spelling}
use Rattle.grammar_trees.specs.Spelling.{spelling}
use Rattle.grammar_trees.specs.Binding.{IsDeclared}
use Rattle.stmt_trees.specs.Pieces.{Piece, must, mark, may, whole, Spelled}
use Rattle.stmt_trees.specs.StmtSpelling.{behind_word}
use Rattle.stmt_trees.specs.ClassSpelling.{further_items, items_spelling, all_spelling, field_spelling, type_body_spelling, invariant_spelling, type_def_spelling, declared_spelling, value_def_spelling, variable_spelling, variable_item_spelling}
use Rattle.stmt_trees.specs.ClassGrammar.{AreAll, IsField, IsTypeBody, IsInvariant, IsTypeDef, IsValueDef, IsVariableItem}
use Rattle.stmt_reading.specs.Leaves.{Read, onto, choice, word_in, name_in, type_in, put}
use Rattle.stmt_reading.specs.Definitions.{next_word, items_in, begins_head, fields_in, type_body_in, invariant_in, type_def_in, value_def_in, variable_in, variable_item_in, begins_variable}
use Rattle.stmt_reading.specs.Statements.{declared_in}
use Rattle.stmt_laws.specs.Ends.{ends_type, first_word}
use Rattle.stmt_laws.proofs.Readers.{Reads, Begins, is_other, by_mark, by_token, by_nothing, at_mark, done, may_come, left_away, last_reads, then_reads, Spelled-split}
use Rattle.stmt_laws.proofs.Leaves.{expr_reads, pattern_reads, type_reads}
use Rattle.stmt_laws.proofs.Lists.{marks, marks-append}
use Rattle.stmt_laws.proofs.MoreParts.{fewer_end, given_reads}
use Rattle.stmt_laws.proofs.Firsts.{apart, MayCome, away, there, may_come_or_not}
use Rattle.stmt_laws.proofs.ReadSimple.{same_result}
use Rattle.stmt_laws.proofs.ReadBlocks.{key_comes}
use Rattle.stmt_laws.proofs.ReadLets.{only_equal}
use Rattle.class_laws.proofs.Behind.{block_ends, item_ends, type_ends, block_item, item_expr, item_type, item_inv, type_type}
use Rattle.class_laws.proofs.ReadHeads.{head-reads, head_first}

-- ---- items

pub record Item {A : Type 0} (one : List Token → Read A) (spell : A → List Piece) (starts : Word → Bool) (x : A) : Type 0 where
  pub reads : Reads one (spell x) x item_ends
  pub first : (tokens rest : List Token) → Spelled tokens (spell x) rest → starts (first_word tokens) ≡ true
  pub some : 1 ≤ marks (spell x)

-- what begins an item stands behind none
pub record Starts (starts : Word → Bool) : Type 0 where
  pub over : (w : Word) → block_ends w ≡ true → starts w ≡ false

starts_with : {A : Type 0} (starts : Word → Bool) (tokens : List Token) (r q : Read A) → starts (first_word tokens) ≡ true
    → (if starts (next_word tokens) then r else q) ≡ r
starts_with starts [] r q e = ap (λ (b : Bool). if b then r else q) e
starts_with starts (t ∷ ts) r q e = ap (λ (b : Bool). if b then r else q) e

starts_not : {A : Type 0} (starts : Word → Bool) (tokens : List Token) (r q : Read A) → starts (first_word tokens) ≡ false
    → (if starts (next_word tokens) then r else q) ≡ q
starts_not starts [] r q e = ap (λ (b : Bool). if b then r else q) e
starts_not starts (t ∷ ts) r q e = ap (λ (b : Bool). if b then r else q) e

no_semicolon : (w : Word) → block_ends w ≡ true → is_other word_is.Semicolon w ≡ true
no_semicolon w e = apart word_is.Semicolon block_ends refl w e

-- what is read behind an item
abbrev behind_in : {A : Type 0} → (Word → Bool) → (List Token → Read A) → ℕ → A → List Token → Read (List A)
behind_in {A = A} starts one turns x a =
    choice (word_in word_is.Semicolon a) (λ (place : Place) (b : List Token). onto (items_in starts one turns b) (put x)) (Some (x ∷ [], a))

no_items : {A : Type 0} (starts : Word → Bool) (one : List Token → Read A) (turns : ℕ) → Starts starts
    → Reads (items_in starts one (suc turns)) [] [] block_ends
no_items starts one turns s =
    record {
      reads = λ tokens rest h e.
          ap (items_in starts one (suc turns)) h ∙ starts_not starts rest _ _ (s.over (first_word rest) e);
    }

none_behind : {A : Type 0} (starts : Word → Bool) (one : List Token → Read A) (turns : ℕ) (x : A) → Starts starts → (tokens rest : List Token)
    → MayCome word_is.Semicolon tokens [] rest → block_ends (first_word rest) ≡ true → behind_in starts one (suc turns) x tokens ≡ Some (x ∷ [], rest)
none_behind starts one turns x s tokens rest (away h) e =
    (left_away word_is.Semicolon (λ place b. onto (items_in starts one (suc turns) b) (put x)) (λ a. Some (x ∷ [], a)) (by_nothing no_semicolon)
    (done (x ∷ []) block_ends)).reads tokens rest h e
none_behind starts one turns x s tokens rest (there h) e =
    (may_come word_is.Semicolon (λ place b. onto (items_in starts one (suc turns) b) (put x)) (λ a. Some (x ∷ [], a)) refl (λ place.
    last_reads (λ more. x ∷ more) (no_items starts one turns s))).reads tokens rest h e

behind-reads : {A : Type 0} (starts : Word → Bool) (one : List Token → Read A) (spell : A → List Piece) (turns : ℕ) (x : A) (xs : List A) → Starts starts
    → Reads (items_in starts one (suc turns)) (items_spelling spell xs) xs block_ends
    → Reads (behind_in starts one (suc turns) x) (further_items spell xs) (x ∷ xs) block_ends
behind-reads starts one spell turns x [] s r =
    record { reads = λ tokens rest h e. none_behind starts one turns x s tokens rest (may_come_or_not word_is.Semicolon tokens rest [] h) e }
behind-reads starts one spell turns x (y ∷ ys) s r =
    may_come word_is.Semicolon (λ place b. onto (items_in starts one (suc turns) b) (put x)) (λ a. Some (x ∷ [], a)) refl (λ place.
    last_reads (λ more. x ∷ more) r)

may_begins : (begins : Word → Bool) → begins word_is.Semicolon ≡ true → ((w : Word) → block_ends w ≡ true → begins w ≡ true) → (tokens rest : List Token)
    → MayCome word_is.Semicolon tokens [] rest → block_ends (first_word rest) ≡ true → begins (first_word tokens) ≡ true
may_begins begins one other tokens rest (away s) e = ap (λ ts. begins (first_word ts)) s ∙ other (first_word rest) e
may_begins begins one other tokens rest (there s) e = ap (λ ts. begins (first_word ts)) s.1.1 ∙ one

pub semicolon_begins : Begins (may word_is.Semicolon ∷ []) block_ends item_ends
semicolon_begins =
    record { opens = λ tokens rest h e. may_begins item_ends refl block_item tokens rest (may_come_or_not word_is.Semicolon tokens rest [] h) e }

further_begins : {A : Type 0} (spell : A → List Piece) (xs : List A) → Begins (further_items spell xs) block_ends item_ends
further_begins spell [] = semicolon_begins
further_begins spell (y ∷ ys) = by_mark word_is.Semicolon refl

pub items-reads : {A : Type 0} (starts : Word → Bool) (one : List Token → Read A) (spell : A → List Piece) → Starts starts → (xs : List A)
    → AreAll (Item one spell starts) xs → (turns : ℕ) → length xs < turns → Reads (items_in starts one turns) (items_spelling spell xs) xs block_ends
items-reads starts one spell s xs g zero short = absurd (omega arith)
items-reads starts one spell s [] g (suc turns) short = no_items starts one turns s
items-reads starts one spell s (x ∷ xs) g (suc zero) short = absurd (short_of (length xs) short)
  where
    short_of : (n : ℕ) → suc n < 1 → ⊥
    short_of n h = omega arith
items-reads starts one spell s (x ∷ xs) g (suc (suc turns)) short =
    let less : suc (length xs) < suc (suc turns) = short in
    let further = items-reads starts one spell s xs g.1 (suc turns) (omega arith) in
    record {
      reads = λ tokens rest h e.
          let k = Spelled-split tokens (spell x) (further_items spell xs) rest h in
          starts_with starts tokens _ _ (g.0.first tokens k.0 k.1)
          ∙ (then_reads (behind_in starts one (suc turns)) g.0.reads (further_begins spell xs) (behind-reads starts one spell turns x xs s further)).reads tokens rest h e;
    }

further_fit : {A : Type 0} (one : List Token → Read A) (spell : A → List Piece) (starts : Word → Bool) (xs : List A) → AreAll (Item one spell starts) xs
    → length xs ≤ marks (further_items spell xs)
further_fit one spell starts [] g = omega arith
further_fit one spell starts (x ∷ xs) g =
    let k : length xs ≤ marks (further_items spell xs) = further_fit one spell starts xs g.1 in
    let e = marks-append (spell x) (further_items spell xs) in omega arith

pub items-fit : {A : Type 0} (one : List Token → Read A) (spell : A → List Piece) (starts : Word → Bool) (xs : List A) → AreAll (Item one spell starts) xs
    → length xs ≤ marks (items_spelling spell xs)
items-fit one spell starts [] g = omega arith
items-fit one spell starts (x ∷ xs) g =
    let some : 1 ≤ marks (spell x) = g.0.some in
    let k : length xs ≤ marks (further_items spell xs) = further_fit one spell starts xs g.1 in
    let e = marks-append (spell x) (further_items spell xs) in omega arith

-- each item is no longer than all of them
abbrev pub AllShort : {A : Type 0} → (A → List Piece) → ℕ → List A → Type 0
AllShort spell n [] = Unit {0}
AllShort spell n (x ∷ xs) = (marks (spell x) ≤ n) × AllShort spell n xs

more_short : {A : Type 0} (spell : A → List Piece) (n m : ℕ) (xs : List A) → n ≤ m → AllShort spell n xs → AllShort spell m xs
more_short spell n m [] less h = tt
more_short spell n m (x ∷ xs) less h =
    let k : marks (spell x) ≤ n = h.0 in let l : n ≤ m = less in (omega arith, more_short spell n m xs less h.1)

further_short : {A : Type 0} (spell : A → List Piece) (xs : List A) → AllShort spell (marks (further_items spell xs)) xs
further_short spell [] = tt
further_short spell (x ∷ xs) =
    let e = marks-append (spell x) (further_items spell xs) in
    (omega arith, more_short spell (marks (further_items spell xs)) (marks (further_items spell (x ∷ xs))) xs (omega arith) (further_short spell xs))

pub items_short : {A : Type 0} (spell : A → List Piece) (xs : List A) → AllShort spell (marks (items_spelling spell xs)) xs
items_short spell [] = tt
items_short spell (x ∷ xs) =
    let e = marks-append (spell x) (further_items spell xs) in
    (omega arith, more_short spell (marks (further_items spell xs)) (marks (items_spelling spell (x ∷ xs))) xs (omega arith) (further_short spell xs))

-- ---- types

abbrev is_name : Word → Bool
is_name word_is.Identifier = true
is_name _ = false

-- a name, where it comes
pub name_comes : {B : Type 0} {b : B} {vs : List Piece} {ends : Word → Bool} (name : Name) (place : Place) (q : NameAt → List Token → Read B)
    (other : List Token → Read B) → Reads (q (record { name = name; place = place })) vs b ends
    → Reads (λ (ts : List Token). choice (name_in ts) q (other ts)) (must (at (identifier name place)) ∷ vs) b ends
name_comes name place q other more =
    record { reads = λ tokens rest h e. ap (λ ts. choice (name_in ts) q (other tokens)) h.1 ∙ more.reads h.0 rest h.2 e }

name-left : (w : Word) (tokens : List Token) → first_word tokens ≡ w → is_name w ≡ false → name_in tokens ≡ None
name-left w [] e f = refl
name-left w (identifier n p ∷ tokens) e f = let g = ap is_name e in absurd (cc)
name-left w (quote n p ∷ tokens) e f = refl
name-left w (whole_token n p ∷ tokens) e f = refl
name-left w (character n p ∷ tokens) e f = refl
name-left w (text n p ∷ tokens) e f = refl
name-left w (make_named n p ∷ tokens) e f = refl
name-left w (is_named n p ∷ tokens) e f = refl
name-left w (plain x p ∷ tokens) e f = refl

type_no_name : (w : Word) → type_ends w ≡ true → is_name w ≡ false
type_no_name word_is.Identifier e = absurd (cc)
type_no_name _ e = refl

-- what is read behind the name of a field
abbrev field_in : ℕ → NameAt → List Token → Read (List FieldTree)
field_in turns name a =
    onto (word_in word_is.Colon a) (λ (colon : Place) (b : List Token).
    onto (type_in b) (λ (t : TypeTree) (c : List Token).
    onto (fields_in turns c) (put (record { name = name.name; name_place = name.place; declared = t }))))

fields_begin : (fs : List FieldTree) → Begins (all_spelling field_spelling fs) type_ends ends_type
fields_begin [] = by_nothing type_type
fields_begin (f ∷ fs) = by_token (identifier f.name f.name_place) refl

fields-reads : (fs : List FieldTree) (turns : ℕ) → length fs < turns → AreAll IsField fs
    → Reads (fields_in turns) (all_spelling field_spelling fs) fs type_ends
fields-reads fs zero short g = absurd (omega arith)
fields-reads [] (suc turns) short g =
    record {
      reads = λ tokens rest h e.
          ap (fields_in (suc turns)) h
          ∙ ap (λ o. choice o (field_in turns) (Some ([], rest))) (name-left (first_word rest) rest refl (type_no_name (first_word rest) e));
    }
fields-reads (f ∷ fs) (suc turns) short g =
    name_comes f.name f.name_place _ _ (at_mark word_is.Colon _ refl (λ colon. then_reads _ (type_reads f.declared g.0) (fields_begin fs)
    (last_reads (λ more. record { name = f.name; name_place = f.name_place; declared = f.declared } ∷ more) (fields-reads fs turns (omega arith) g.1))))

fields-fit : (fs : List FieldTree) → length fs ≤ marks (all_spelling field_spelling fs)
fields-fit [] = omega arith
fields-fit (f ∷ fs) =
    let k : length fs ≤ marks (all_spelling field_spelling fs) = fields-fit fs in
    let e = marks-append (whole (type_spelling f.declared)) (all_spelling field_spelling fs) in omega arith

type_body-reads : (body : TypeBody) (turns : ℕ) → marks (type_body_spelling body) < turns → IsTypeBody body
    → Reads (type_body_in turns) (type_body_spelling body) body type_ends
type_body-reads (same_as t) turns short g =
    may_come (word_is.Operator sign_is.Equal) _ _ refl (λ place. last_reads (λ found. same_as found) (fewer_end type_type (type_reads t g)))
type_body-reads (with_fields fs) turns short g =
    let fits : length fs ≤ marks (all_spelling field_spelling fs) = fields-fit fs in
    let less : marks (all_spelling field_spelling fs) + 1 < turns = short in
    left_away (word_is.Operator sign_is.Equal) _ _ (by_mark word_is.DoubleColon refl) (at_mark word_is.DoubleColon _ refl (λ place.
    last_reads (λ found. with_fields found) (fields-reads fs turns (omega arith) g)))

invariant-reads : (i : Option InvariantTree) → IsInvariant i → Reads invariant_in (invariant_spelling i) i item_ends
invariant-reads None g = left_away word_is.Inv _ _ (by_nothing (apart word_is.Inv item_ends refl)) (done None item_ends)
invariant-reads (Some i) g =
    may_come word_is.Inv _ _ refl (λ place. then_reads _ (pattern_reads i.pattern g.0) (by_mark word_is.DoubleEqual refl)
    (at_mark word_is.DoubleEqual _ refl (λ spot. last_reads (λ e. Some (record { pattern = i.pattern; condition = e }))
    (fewer_end item_expr (expr_reads i.condition g.1)))))

invariant_begins : (i : Option InvariantTree) → Begins (invariant_spelling i) item_ends type_ends
invariant_begins None = by_nothing item_inv
invariant_begins (Some i) = by_mark word_is.Inv refl

abbrev type_def : Name → Access → Name → Place → TypeBody → Option InvariantTree → Place → TypeDefTree
type_def class access name name_place body invariant place =
    record { access = access; class = class; name = name; name_place = name_place; body = body; invariant = invariant; place = place }

abbrev value_def : Access → Name → Place → Option TypeTree → ExprTree → Place → ValueDefTree
value_def access name name_place declared value place =
    record { access = access; name = name; name_place = name_place; declared = declared; value = value; place = place }

abbrev variable : Access → Name → Place → TypeTree → Option ExprTree → Place → VariableTree
variable access name name_place declared initial place =
    record { access = access; name = name; name_place = name_place; declared = declared; initial = initial; place = place }

equal_ends : (w : Word) → only_equal w ≡ true → ends_type w ≡ true
equal_ends (word_is.Operator sign_is.Equal) e = refl
equal_ends _ e = absurd (cc)

abbrev pub any_word : Word → Bool
any_word w = true

pub any_begins : {ws : List Piece} {ends : Word → Bool} → Begins ws ends any_word
any_begins = record { opens = λ tokens rest h e. refl }

pub head_some : (d : List Piece) → 1 ≤ marks d + 1
head_some d = omega arith

pub type_def-item : (turns : ℕ) (class : Name) (d : TypeDefTree) → marks (type_def_spelling d) < turns → IsTypeDef class d
    → Item (type_def_in turns class) type_def_spelling begins_head d
type_def-item turns class d short g =
    let e = marks-append (type_body_spelling d.body) (invariant_spelling d.invariant) in
    let less : marks (type_body_spelling d.body ++ invariant_spelling d.invariant) + 1 < turns = short in
    record {
      reads = same_result (ap (λ c. type_def c d.access d.name d.name_place d.body d.invariant d.place) (sym g.0))
          (then_reads _ (head-reads d.access d.name d.name_place d.place any_word) any_begins
          (then_reads _ (type_body-reads d.body turns (omega arith) g.1) (invariant_begins d.invariant)
          (last_reads (λ i. type_def class d.access d.name d.name_place d.body i d.place) (invariant-reads d.invariant g.2))));
      first = head_first d.access d.name d.name_place d.place (type_body_spelling d.body ++ invariant_spelling d.invariant);
      some = head_some (type_body_spelling d.body ++ invariant_spelling d.invariant);
    }

-- ---- values and variables

declared-read : (t : Option TypeTree) → IsDeclared t → Reads declared_in (declared_spelling t) t only_equal
declared-read None g = left_away word_is.Colon _ _ (by_nothing (apart word_is.Colon only_equal refl)) (done None only_equal)
declared-read (Some t) g = may_come word_is.Colon _ _ refl (λ place. last_reads (λ found. Some found) (fewer_end equal_ends (type_reads t g)))

pub value_def-item : (d : ValueDefTree) → IsValueDef d → Item value_def_in value_def_spelling begins_head d
value_def-item d g =
    record {
      reads = then_reads _ (head-reads d.access d.name d.name_place d.place any_word) any_begins
          (then_reads _ (declared-read d.declared g.0) (by_mark (word_is.Operator sign_is.Equal) refl) (at_mark (word_is.Operator sign_is.Equal) _ refl (λ spot.
          last_reads (λ e. value_def d.access d.name d.name_place d.declared e d.place) (fewer_end item_expr (expr_reads d.value g.1)))));
      first = head_first d.access d.name d.name_place d.place (declared_spelling d.declared ++ (mark (word_is.Operator sign_is.Equal) ∷ whole (spelling d.value)));
      some = head_some (declared_spelling d.declared ++ (mark (word_is.Operator sign_is.Equal) ∷ whole (spelling d.value)));
    }

initial_begins : (e : Option ExprTree) → Begins (behind_word word_is.Becomes e) item_ends ends_type
initial_begins None = by_nothing item_type
initial_begins (Some e) = by_mark word_is.Becomes refl

variable-reads : (v : VariableTree) → IsVariableItem (variable_item v) → Reads variable_in (variable_spelling v) (variable_item v) item_ends
variable-reads v g =
    then_reads _ (head-reads v.access v.name v.name_place v.place any_word) any_begins
    (at_mark word_is.Colon _ refl (λ colon. then_reads _ (type_reads v.declared g.0) (initial_begins v.initial)
    (last_reads (λ e. variable_item (variable v.access v.name v.name_place v.declared e v.place))
    (given_reads word_is.Becomes v.initial item_ends refl g.1 item_expr (apart word_is.Becomes item_ends refl)))))

head_variable : (w : Word) → begins_head w ≡ true → begins_variable w ≡ true
head_variable word_is.Identifier e = refl
head_variable word_is.Static e = refl
head_variable word_is.Private e = refl
head_variable word_is.Protected e = refl
head_variable word_is.Public e = refl
head_variable _ e = absurd (cc)

variable_first : (v : VariableTree) (tokens rest : List Token) → Spelled tokens (variable_spelling v) rest → begins_head (first_word tokens) ≡ true
variable_first v = head_first v.access v.name v.name_place v.place (mark word_is.Colon ∷ (whole (type_spelling v.declared) ++ behind_word word_is.Becomes v.initial))

pub variable-item : (i : VariableItem) → IsVariableItem i → Item variable_item_in variable_item_spelling begins_variable i
variable-item (variable_item v) g =
    record {
      reads = left_away word_is.Inv _ _ (record {
        opens = λ tokens rest h e. apart word_is.Inv begins_head refl (first_word tokens) (variable_first v tokens rest h);
      }) (variable-reads v g);
      first = λ tokens rest h. head_variable (first_word tokens) (variable_first v tokens rest h);
      some = head_some (mark word_is.Colon ∷ (whole (type_spelling v.declared) ++ behind_word word_is.Becomes v.initial));
    }
variable-item (invariant_item e place) g =
    record {
      reads = key_comes word_is.Inv place _ _ refl (last_reads (λ found. invariant_item found place) (fewer_end item_expr (expr_reads e g)));
      first = λ tokens rest h. ap (λ ts. begins_variable (first_word ts)) h.1;
      some = head_some (whole (spelling e));
    }
