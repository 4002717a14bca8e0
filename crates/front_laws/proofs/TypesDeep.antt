-- How deep types are, by the nodes that are open behind their words.
use Rattle.std.proofs.Common.{◌≡◌, ℕ, ◌+◌, ◌<◌, ◌≤◌, max, List, [], ◌∷◌, ◌++◌, length, Option, Some, None, refl, sym, subst, ◌∙◌, arith}
use Rattle.vdm_kinds.specs.declared.name.Name.{Name}
use Rattle.vdm_kinds.specs.declared.place.Place.{Place}
use Rattle.vdm_kinds.specs.declared.sign.Sign.TheVariants.{Times}
use Rattle.abstract_syntax.specs.Depth.{type_depth, types_depth}
use Rattle.abstract_syntax.specs.Types.{TypeTree, TypeTrees, basic_type, quote_type, set_type, seq_type, seq1_type, map_type, inmap_type, optional_type, bracketed_type, named_type, product_type, union_type, no_types, one_type}
use Rattle.grammar_words.specs.declared.word.Word.{Word}
use Rattle.grammar_words.specs.declared.word.Word.TheVariants as word_is
use Rattle.grammar_words.specs.Pulls.{closed}
use Rattle.grammar_words.specs.Tokens.{identifier}
use Rattle.grammar_words.specs.Written.{Written, word}
use Rattle.type_reading.specs.TypeSpelling.{Width, union, product, single, IsType, AreTypes, AreTwoTypes, type_spelling, further_types, types_spelling, class_and_name}
use Rattle.grammar_fronts.specs.declared.open_node.OpenNode.{OpenNode}
use Rattle.grammar_fronts.specs.declared.wanted.Wanted.{Wanted}
use Rattle.grammar_fronts.specs.declared.wanted.Wanted.TheVariants as want
use Rattle.grammar_fronts.specs.Depth.{end_over}
use Rattle.grammar_fronts.specs.Table.{turn}
use Rattle.grammar_fronts.specs.Turns.{adds}
use Rattle.grammar_fronts.specs.Types.{single_type}
use Rattle.grammar_fronts.specs.Viable.{meets, takes}
use Rattle.front_laws.proofs.Starts.{Starts, at_single_type, at_whole_type}
use Rattle.front_laws.proofs.Fine.{node, Fine, Calm, goes, raise, Plain, behind_class}
use Rattle.front_laws.proofs.Nests.{lower, Own, EndsAt, inside, taken, Part, At, begun, own_of, next_word, word_behind, regroup_own, regroup_fine, Joined, join_first, JoinedPart, join_more, join_end}

-- a single type was read: its nodes end so deep or deeper
pub record Single (depth : ℕ) (wanted : List Wanted) (nodes : List OpenNode) (a : List Written) : Type 0 where
  pub open_nodes : List OpenNode
  pub deepest : ℕ
  pub deep : depth ≤ deepest
  pub ends : (w pull : ℕ) → w ≤ length wanted → end_over w pull 0 open_nodes ≡ end_over w pull deepest nodes
  pub fine : Fine a wanted open_nodes

-- a single type ends with a word of its own, or with a single type
single_closes : {deep : ℕ} {nodes : List OpenNode} {a : List Written} {wanted : List Wanted} → Own (length wanted) deep nodes a wanted
    → {depth : ℕ} → depth ≤ deep + 1 → Single depth wanted nodes a
single_closes {nodes = nodes} {wanted = wanted} o less =
    let least = o.least in
    record {
      open_nodes = node 0 o.deepest (length wanted) ∷ nodes;
      deepest = max o.deepest 0 + 1;
      deep = omega arith;
      ends = λ w pull h. goes w pull 0 0 o.deepest (length wanted) nodes h;
      fine = o.fine;
    }

single_ends : {deep own : ℕ} {nodes : List OpenNode} {a : List Written} {wanted : List Wanted}
    → Single deep wanted (node 0 own (length wanted) ∷ nodes) a → {depth : ℕ} → depth ≤ deep + 1 → Single depth wanted nodes a
single_ends {own = own} {nodes = nodes} {wanted = wanted} s less =
    let deep = s.deep in
    record {
      open_nodes = s.open_nodes;
      deepest = max own s.deepest + 1;
      deep = omega arith;
      ends = λ w pull h. s.ends w pull h ∙ goes w pull s.deepest 0 own (length wanted) nodes h;
      fine = s.fine;
    }

abbrev SingleDeep : TypeTree → Type 0
SingleDeep t =
    IsType t single → (next : Wanted) (more : List Wanted) → Starts single_type next more → (behind : List Wanted) (nodes : List OpenNode)
    → Calm (length behind + 1) 31 nodes → (a : List Written) → Plain a → Fine (type_spelling t ++ a) (next ∷ behind) nodes
    → Single (type_depth t) (more ++ behind) nodes a

-- how weak what stands round types of a width is
abbrev low : Width → ℕ
low union = 1
low product = 2
low single = 31

-- what pulls less takes the type, or ends it
abbrev pub type_reach : TypeTree → ℕ
type_reach (product_type factors place) = 4
type_reach (union_type alternatives place) = 2
type_reach _ = closed

pub record TypeDeep (t : TypeTree) : Type 0 where
  pub single : SingleDeep t
  pub whole : (width : Width) → IsType t width → (behind : List Wanted) (nodes : List OpenNode) → Calm (length behind + 1) (low width) nodes
      → (a : List Written) → Plain a → Fine (type_spelling t ++ a) (want.WholeType ∷ behind) nodes
      → Part (type_depth t) (type_reach t) want.BehindType behind nodes a

abbrev pub TypesDeep : TypeTrees → Type 0
TypesDeep no_types = Unit {0}
TypesDeep (one_type t ts) = TypeDeep t × TypesDeep ts

low_small : (width : Width) → low width ≤ 31
low_small union = omega arith
low_small product = omega arith
low_small single = omega arith

calm_up : (wanted weak strong : ℕ) (nodes : List OpenNode) → weak ≤ strong → Calm wanted weak nodes → Calm wanted strong nodes
calm_up wanted weak strong [] h calm = tt
calm_up wanted weak strong (n ∷ nodes) h calm = (calm.0, (let c = calm.1 in omega arith))

single_within : (wanted pull behind : ℕ) → EndsAt closed behind wanted pull → wanted ≤ behind + 1
single_within wanted pull behind (inside h) = omega arith
single_within wanted pull behind (taken h two less) = h

single_part : {depth : ℕ} {behind : List Wanted} {nodes : List OpenNode} {a : List Written} → Single depth (want.BehindType ∷ behind) nodes a
    → Part depth closed want.BehindType behind nodes a
single_part {behind = behind} s = record {
  open_nodes = s.open_nodes;
  deepest = s.deepest;
  deep = s.deep;
  fine = s.fine;
  ends = λ wanted pull end. let within = single_within wanted pull (length behind) end in s.ends wanted pull (omega arith);
}

-- what is no union and no product
alone : (t : TypeTree) → type_reach t ≡ closed → ((width : Width) → IsType t width → IsType t single) → SingleDeep t → TypeDeep t
alone t reach narrow deep = record {
  single = deep;
  whole = λ width b behind nodes calm a plain f.
      subst (λ r. Part (type_depth t) r want.BehindType behind nodes a) (sym reach)
      (single_part (deep (narrow width b) want.WholeType (want.BehindType ∷ []) at_whole_type behind nodes
      (calm_up (length behind + 1) (low width) 31 nodes (low_small width) calm) a plain f));
}

-- a type between words of its node
pub type_part : {t : TypeTree} → TypeDeep t → IsType t union → {below deep : ℕ} {nodes : List OpenNode} {behind : List Wanted} {a : List Written}
    → Own below deep nodes (type_spelling t ++ a) (want.WholeType ∷ behind) → below ≤ length behind → Plain a
    → At below (max deep (type_depth t)) nodes want.BehindType behind a
type_part {t = t} d b {below = below} {nodes = nodes} {behind = behind} {a = a} o less plain =
    let least = o.least in
    record {
      own = o.deepest;
      depth = type_depth t;
      reach = type_reach t;
      bound = omega arith;
      part = d.whole union b behind (node 0 o.deepest below ∷ nodes) (omega arith, omega arith) a plain o.fine;
    }

last_single : {t : TypeTree} → TypeDeep t → IsType t single → {deep : ℕ} {nodes : List OpenNode} {wanted : List Wanted} {a : List Written}
    → Own (length wanted) deep nodes (type_spelling t ++ a) (want.SingleType ∷ wanted) → Plain a → {depth : ℕ} → depth ≤ max deep (type_depth t) + 1
    → Single depth wanted nodes a
last_single {t = t} d b {nodes = nodes} {wanted = wanted} {a = a} o plain less =
    let least = o.least in
    let s = d.single b want.SingleType [] at_single_type wanted (node 0 o.deepest (length wanted) ∷ nodes) (omega arith, omega arith) a plain o.fine in
    let deep = s.deep in
    record {
      open_nodes = s.open_nodes;
      deepest = max o.deepest s.deepest + 1;
      deep = omega arith;
      ends = λ w pull h. s.ends w pull h ∙ goes w pull s.deepest 0 o.deepest (length wanted) nodes h;
      fine = s.fine;
    }

named : (class : Option Name) (name : Name) (name_place place : Place) (next : Wanted) (more : List Wanted) → Starts single_type next more
    → (behind : List Wanted) (nodes : List OpenNode) → Calm (length behind + 1) 31 nodes → (a : List Written) → Plain a
    → Fine (class_and_name identifier class name name_place place ++ a) (next ∷ behind) nodes → Single 1 (more ++ behind) nodes a
named None name name_place place next more s behind nodes calm a plain f =
    let o = own_of (begun s calm (omega arith) f refl) in
    single_closes (record { deepest = o.deepest; least = o.least; fine = behind_class a (more ++ behind) _ plain o.fine }) (omega arith)
named (Some class) name name_place place next more s behind nodes calm a plain f =
    single_closes (next_word (next_word (own_of (begun s calm (omega arith) f refl)) refl (omega arith)) refl (omega arith)) (omega arith)

-- a word that stands between types, and how weak what stands round such types may be
record IsBetween (between : Word) (pull : ℕ) : Type 0 where
  pub takes : (behind : List Wanted) → meets between (want.BehindType ∷ behind) ≡ takes (adds pull (want.WholeType ∷ [])) behind
  pub two : 2 ≤ pull
  pub plain : (turn want.BehindName between ≡ None) × (turn want.BehindClass between ≡ None)

plain_further : (between : Word) (pull : ℕ) → IsBetween between pull → (ts : TypeTrees) (a : List Written) → Plain a → Plain (further_types between ts ++ a)
plain_further between pull is no_types a plain = plain
plain_further between pull is (one_type t ts) a plain = is.plain

abbrev Ends : ℕ → Width → Type 0
Ends pull width = (t : TypeTree) → IsType t width → pull < type_reach t

further : (between : Word) (pull : ℕ) → IsBetween between pull → (width : Width) → Ends pull width → pull ≤ low width → pull ≤ closed → (ts : TypeTrees)
    → TypesDeep ts → AreTypes ts width → {deep reach : ℕ} {behind : List Wanted} {nodes : List OpenNode} (a : List Written) → Plain a
    → pull < reach → JoinedPart want.BehindType pull deep reach behind nodes (further_types between ts ++ a)
    → Part (max deep (types_depth ts) + 1) pull want.BehindType behind nodes a
further between pull is width ends weak small no_types d b a plain less j = join_end j (omega arith) (omega arith)
further between pull is width ends weak small (one_type t ts) d b {deep = deep} {behind = behind} {nodes = nodes} a plain less j =
    let next : Joined want.WholeType pull deep behind nodes ((type_spelling t ++ further_types between ts) ++ a) = join_more j (is.takes behind) is.two less in
    let f = regroup_fine (type_spelling t) (further_types between ts) a next.fine in
    let p = d.0.whole width b.0 behind (node pull next.deepest (length behind) ∷ raise next.hidden nodes) (omega arith, weak) (further_types between ts ++ a)
    (plain_further between pull is ts a plain) f in
    let least = next.least in
    lower (omega arith) (further between pull is width ends weak small ts d.1 b.1 {deep = max deep (type_depth t)} a plain (ends t b.0)
    (record { own = next.deepest; depth = type_depth t; bound = omega arith; hidden = next.hidden; hides = next.hides; part = p }))

together : (between : Word) (pull : ℕ) → IsBetween between pull → (outer width : Width) → Ends pull width → pull ≤ low width → low outer < pull → pull ≤ closed
    → (ts : TypeTrees) → TypesDeep ts → AreTypes ts width → AreTwoTypes ts → (behind : List Wanted) (nodes : List OpenNode)
    → Calm (length behind + 1) (low outer) nodes → (a : List Written) → Plain a
    → Fine (types_spelling between ts ++ a) (want.WholeType ∷ behind) nodes → Part (types_depth ts + 1) pull want.BehindType behind nodes a
together between pull is outer width ends weak strong small no_types d b two behind nodes calm a plain f = absurd two
together between pull is outer width ends weak strong small (one_type t no_types) d b two behind nodes calm a plain f = absurd two
together between pull is outer width ends weak strong small (one_type t (one_type t2 ts)) d b two behind nodes calm a plain f =
    let rest = further_types between (one_type t2 ts) in
    let first = d.0.whole width b.0 behind nodes (calm_up (length behind + 1) (low outer) (low width) nodes (omega arith) calm) (rest ++ a) is.plain
    (regroup_fine (type_spelling t) rest a f) in
    let next : Joined want.WholeType pull (type_depth t) behind nodes ((type_spelling t2 ++ further_types between ts) ++ a) =
    join_first first (is.takes behind) is.two (ends t b.0) (low outer) calm strong in
    let f2 = regroup_fine (type_spelling t2) (further_types between ts) a next.fine in
    let p = d.1.0.whole width b.1.0 behind (node pull next.deepest (length behind) ∷ raise next.hidden nodes) (omega arith, weak) (further_types between ts ++ a)
    (plain_further between pull is ts a plain) f2 in
    let least = next.least in
    lower (omega arith) (further between pull is width ends weak small ts d.1.1 b.1.1 {deep = max (type_depth t) (type_depth t2)} a plain (ends t2 b.1.0)
    (record { own = next.deepest; depth = type_depth t2; bound = omega arith; hidden = next.hidden; hides = next.hides; part = p }))

by_times : IsBetween (word_is.Operator Times) 4
by_times = record { takes = λ behind. refl; two = omega arith; plain = (refl, refl) }

by_bar : IsBetween word_is.Bar 2
by_bar = record { takes = λ behind. refl; two = omega arith; plain = (refl, refl) }

factor_ends : Ends 4 single
factor_ends (basic_type basic place) b = omega arith
factor_ends (quote_type name place) b = omega arith
factor_ends (set_type t place) b = omega arith
factor_ends (seq_type t place) b = omega arith
factor_ends (seq1_type t place) b = omega arith
factor_ends (map_type k v place) b = omega arith
factor_ends (inmap_type k v place) b = omega arith
factor_ends (optional_type t place) b = omega arith
factor_ends (bracketed_type t place) b = omega arith
factor_ends (named_type name place) b = omega arith
factor_ends (product_type ts place) b = absurd b.0
factor_ends (union_type ts place) b = absurd b.0

alternative_ends : Ends 2 product
alternative_ends (basic_type basic place) b = omega arith
alternative_ends (quote_type name place) b = omega arith
alternative_ends (set_type t place) b = omega arith
alternative_ends (seq_type t place) b = omega arith
alternative_ends (seq1_type t place) b = omega arith
alternative_ends (map_type k v place) b = omega arith
alternative_ends (inmap_type k v place) b = omega arith
alternative_ends (optional_type t place) b = omega arith
alternative_ends (bracketed_type t place) b = omega arith
alternative_ends (named_type name place) b = omega arith
alternative_ends (product_type ts place) b = omega arith
alternative_ends (union_type ts place) b = absurd b.0

not_single : (width : Width) (ts : TypeTrees) (place : Place) → IsType (product_type ts place) width → low width < 4
not_single union ts place b = omega arith
not_single product ts place b = omega arith
not_single single ts place b = absurd b.0

only_union : (width : Width) (ts : TypeTrees) (place : Place) → IsType (union_type ts place) width → low width < 2
only_union union ts place b = omega arith
only_union product ts place b = absurd b.0
only_union single ts place b = absurd b.0

mutual
  pub type_deep : (t : TypeTree) → TypeDeep t
  type_deep (basic_type basic place) =
      alone (basic_type basic place) refl (λ width b. b) (λ b next more s behind nodes calm a plain f.
      single_closes (own_of (begun s calm (omega arith) f refl)) (omega arith))
  type_deep (quote_type name place) =
      alone (quote_type name place) refl (λ width b. b) (λ b next more s behind nodes calm a plain f.
      single_closes (own_of (begun s calm (omega arith) f refl)) (omega arith))
  type_deep (set_type t place) =
      let d = type_deep t in
      alone (set_type t place) refl (λ width b. b) (λ b next more s behind nodes calm a plain f.
      last_single d b (next_word (own_of (begun s calm (omega arith) f refl)) refl (omega arith)) plain (omega arith))
  type_deep (seq_type t place) =
      let d = type_deep t in
      alone (seq_type t place) refl (λ width b. b) (λ b next more s behind nodes calm a plain f.
      last_single d b (next_word (own_of (begun s calm (omega arith) f refl)) refl (omega arith)) plain (omega arith))
  type_deep (seq1_type t place) =
      let d = type_deep t in
      alone (seq1_type t place) refl (λ width b. b) (λ b next more s behind nodes calm a plain f.
      last_single d b (next_word (own_of (begun s calm (omega arith) f refl)) refl (omega arith)) plain (omega arith))
  type_deep (map_type key value place) =
      let k = type_deep key in
      let v = type_deep value in
      alone (map_type key value place) refl (λ width b. b) (λ b next more s behind nodes calm a plain f.
      last_single v b.1 (word_behind (type_part k b.0 (regroup_own (type_spelling key) (word word_is.To ∷ type_spelling value) a (own_of (begun s calm (omega arith) f refl))) (omega arith) (refl, refl)) refl (omega arith) (omega arith)) plain (omega arith))
  type_deep (inmap_type key value place) =
      let k = type_deep key in
      let v = type_deep value in
      alone (inmap_type key value place) refl (λ width b. b) (λ b next more s behind nodes calm a plain f.
      last_single v b.1 (word_behind (type_part k b.0 (regroup_own (type_spelling key) (word word_is.To ∷ type_spelling value) a (own_of (begun s calm (omega arith) f refl))) (omega arith) (refl, refl)) refl (omega arith) (omega arith)) plain (omega arith))
  type_deep (optional_type t place) =
      let d = type_deep t in
      alone (optional_type t place) refl (λ width b. b) (λ b next more s behind nodes calm a plain f.
      single_closes (word_behind (type_part d b (regroup_own (type_spelling t) (word word_is.CloseSquare ∷ []) a (own_of (begun s calm (omega arith) f refl))) (omega arith) (refl, refl)) refl (omega arith) (omega arith)) (omega arith))
  type_deep (bracketed_type t place) =
      let d = type_deep t in
      alone (bracketed_type t place) refl (λ width b. b) (λ b next more s behind nodes calm a plain f.
      single_closes (word_behind (type_part d b (regroup_own (type_spelling t) (word word_is.CloseRound ∷ []) a (own_of (begun s calm (omega arith) f refl))) (omega arith) (refl, refl)) refl (omega arith) (omega arith)) (omega arith))
  type_deep (named_type name place) =
      alone (named_type name place) refl (λ width b. b) (λ b next more s behind nodes calm a plain f.
      named name.class name.name name.name_place place next more s behind nodes calm a plain f)
  type_deep (product_type ts place) =
      let d = types_deep ts in
      record {
        single = λ b next more s behind nodes calm a plain f. absurd b.0;
        whole = λ width b behind nodes calm a plain f.
            together (word_is.Operator Times) 4 by_times width single factor_ends (omega arith) (not_single width ts place b) (omega arith) ts d b.3 b.1 behind nodes calm a plain f;
      }
  type_deep (union_type ts place) =
      let d = types_deep ts in
      record {
        single = λ b next more s behind nodes calm a plain f. absurd b.0;
        whole = λ width b behind nodes calm a plain f.
            together word_is.Bar 2 by_bar width product alternative_ends (omega arith) (only_union width ts place b) (omega arith) ts d b.3 b.1 behind nodes calm a plain f;
      }

  pub types_deep : (ts : TypeTrees) → TypesDeep ts
  types_deep no_types = tt
  types_deep (one_type t ts) = (type_deep t, types_deep ts)
