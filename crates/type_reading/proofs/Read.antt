-- The tokens of a type are read as it.
use Rattle.std.proofs.Common.{◌≡◌, List, [], ◌∷◌, ◌++◌, false, Option, Some, None, refl, ap, sym, subst, ◌∙◌}
use Rattle.vdm_kinds.specs.declared.name.Name.{Name}
use Rattle.vdm_kinds.specs.declared.part.Part.TheVariants.{Spec}
use Rattle.vdm_kinds.specs.declared.place.Place.{Place}
use Rattle.vdm_kinds.specs.declared.sign.Sign.TheVariants.{Times}
use Rattle.abstract_syntax.specs.Types.{TypeTree, TypeTrees, basic_type, quote_type, set_type, seq_type, seq1_type, map_type, inmap_type, optional_type, bracketed_type, named_type, product_type, union_type, no_types, one_type}
use Rattle.grammar_words.specs.declared.word.Word.{Word}
use Rattle.grammar_words.specs.declared.word.Word.TheVariants.{Backquote, Bar, Basic, CloseRound, CloseSquare, InMap, Map, Of, OpenRound, OpenSquare, Operator, Seq, Seq1, Set, To}
use Rattle.grammar_words.specs.Tokens.{Token, identifier, quote, plain}
use Rattle.grammar_words.specs.Written.{at, word, at_word}
use Rattle.type_reading.specs.TypeSpelling.{Width, union, product, single, IsType, AreTypes, AreTwoTypes, begin_at, IsTypeOf, type_spelling, types_spelling, further_types}
use Rattle.type_reading.specs.Reading.{Collection, a_set, a_sequence, a_filled_sequence, collection_type, Mapping, any_map, injective_map, mapping_type, Bracket, round, square, enclosed_type, name_alone, name_of_class, types_behind, first_place, Frame, element, key_of, value_of, enclosed, factors, alternatives, State, state, wants, has, wants_of, named, qualified, Closed, closed, settled, has_settled, product_closed, union_closed, all_closed, wanted, next_factor, next_alternative, behind, behind_name, value_next, close_round, close_square, whole, outcome, type_of}
use Rattle.type_reading.proofs.Fronts.{Front, front-all, split, take_at, take_word, is_backquote, NoBackquote, no_backquote}

-- ---- where a product, and a union, may begin

abbrev IsProductPlace : List Frame → Type 0
IsProductPlace [] = Unit {0}
IsProductPlace (element collection place ∷ frames) = ⊥
IsProductPlace (value_of mapping key place ∷ frames) = ⊥
IsProductPlace (factors trees ∷ frames) = ⊥
IsProductPlace (frame ∷ frames) = Unit {0}

abbrev IsUnionPlace : List Frame → Type 0
IsUnionPlace [] = Unit {0}
IsUnionPlace (key_of mapping place ∷ frames) = Unit {0}
IsUnionPlace (enclosed bracket place ∷ frames) = Unit {0}
IsUnionPlace (frame ∷ frames) = ⊥

abbrev IsPlaceFor : Width → List Frame → Type 0
IsPlaceFor single frames = Unit {0}
IsPlaceFor product frames = IsProductPlace frames
IsPlaceFor union frames = IsUnionPlace frames

-- nothing ends there with a single type, nor with a product
settled-stays : (tree : TypeTree) (frames : List Frame) → IsProductPlace frames → settled tree frames ≡ closed tree frames
settled-stays tree [] h = refl
settled-stays tree (element collection place ∷ frames) h = absurd h
settled-stays tree (value_of mapping key place ∷ frames) h = absurd h
settled-stays tree (factors trees ∷ frames) h = absurd h
settled-stays tree (key_of mapping place ∷ frames) h = refl
settled-stays tree (enclosed bracket place ∷ frames) h = refl
settled-stays tree (alternatives trees ∷ frames) h = refl

product-stays : (tree : TypeTree) (frames : List Frame) → IsProductPlace frames → product_closed tree frames ≡ closed tree frames
product-stays tree [] h = refl
product-stays tree (element collection place ∷ frames) h = absurd h
product-stays tree (value_of mapping key place ∷ frames) h = absurd h
product-stays tree (factors trees ∷ frames) h = absurd h
product-stays tree (key_of mapping place ∷ frames) h = refl
product-stays tree (enclosed bracket place ∷ frames) h = refl
product-stays tree (alternatives trees ∷ frames) h = refl

factor-first : (tree : TypeTree) (frames : List Frame) → IsProductPlace frames → next_factor tree frames ≡ state wants (factors (tree ∷ []) ∷ frames)
factor-first tree [] h = refl
factor-first tree (element collection place ∷ frames) h = absurd h
factor-first tree (value_of mapping key place ∷ frames) h = absurd h
factor-first tree (factors trees ∷ frames) h = absurd h
factor-first tree (key_of mapping place ∷ frames) h = refl
factor-first tree (enclosed bracket place ∷ frames) h = refl
factor-first tree (alternatives trees ∷ frames) h = refl

union-place_wide : (frames : List Frame) → IsUnionPlace frames → IsProductPlace frames
union-place_wide [] h = tt
union-place_wide (element collection place ∷ frames) h = absurd h
union-place_wide (value_of mapping key place ∷ frames) h = absurd h
union-place_wide (factors trees ∷ frames) h = absurd h
union-place_wide (key_of mapping place ∷ frames) h = tt
union-place_wide (enclosed bracket place ∷ frames) h = tt
union-place_wide (alternatives trees ∷ frames) h = absurd h

union-stays : (tree : TypeTree) (frames : List Frame) → IsUnionPlace frames → union_closed tree frames ≡ closed tree frames
union-stays tree [] h = refl
union-stays tree (element collection place ∷ frames) h = absurd h
union-stays tree (value_of mapping key place ∷ frames) h = absurd h
union-stays tree (factors trees ∷ frames) h = absurd h
union-stays tree (key_of mapping place ∷ frames) h = refl
union-stays tree (enclosed bracket place ∷ frames) h = refl
union-stays tree (alternatives trees ∷ frames) h = absurd h

alternative-first : (tree : TypeTree) (frames : List Frame) → IsUnionPlace frames → next_alternative tree frames ≡ state wants (alternatives (tree ∷ []) ∷ frames)
alternative-first tree [] h = refl
alternative-first tree (element collection place ∷ frames) h = absurd h
alternative-first tree (value_of mapping key place ∷ frames) h = absurd h
alternative-first tree (factors trees ∷ frames) h = absurd h
alternative-first tree (key_of mapping place ∷ frames) h = refl
alternative-first tree (enclosed bracket place ∷ frames) h = refl
alternative-first tree (alternatives trees ∷ frames) h = absurd h

-- ---- what was read

-- a type that was read last ends as another, round which less is open
abbrev EndsAs : Width → TypeTree → List Frame → TypeTree → List Frame → Type 0
EndsAs single last left tree frames = closed last left ≡ settled tree frames
EndsAs product last left tree frames = product_closed last left ≡ closed tree frames
EndsAs union last left tree frames = all_closed last left ≡ closed tree frames

record Reads (width : Width) (tree : TypeTree) (from frames : List Frame) (tokens rest : List Token) : Type 0 where
  last : TypeTree
  left : List Frame
  same : outcome (state wants from) tokens ≡ outcome (state (has last) left) rest
  ends : EndsAs width last left tree frames

settled-ends : (width : Width) (tree : TypeTree) (frames : List Frame) → IsPlaceFor width frames → EndsAs width (settled tree frames).tree (settled tree frames).frames tree frames
settled-ends single tree frames h = refl
settled-ends product tree frames h = ap (λ (c : Closed). product_closed c.tree c.frames) (settled-stays tree frames h) ∙ product-stays tree frames h
settled-ends union tree frames h =
    let wide = union-place_wide frames h in
    ap (λ (c : Closed). all_closed c.tree c.frames) (settled-stays tree frames wide)
    ∙ ap (λ (c : Closed). union_closed c.tree c.frames) (product-stays tree frames wide)
    ∙ union-stays tree frames h

-- a single type was read
single-read : (width : Width) (tree : TypeTree) (frames : List Frame) (tokens rest : List Token) → IsPlaceFor width frames → outcome (state wants frames) tokens ≡ outcome (has_settled (settled tree frames)) rest → Reads width tree frames frames tokens rest
single-read width tree frames tokens rest h e = record { last = (settled tree frames).tree; left = (settled tree frames).frames; same = e; ends = settled-ends width tree frames h }

-- a product was read where a union may stand
widened : (tree : TypeTree) (frames : List Frame) (tokens rest : List Token) → IsUnionPlace frames → Reads product tree frames frames tokens rest → Reads union tree frames frames tokens rest
widened tree frames tokens rest h r = record { last = r.last; left = r.left; same = r.same; ends = ap (λ (c : Closed). union_closed c.tree c.frames) r.ends ∙ union-stays tree frames h }

-- ---- names

named-step : (name : Name) (place : Place) (frames : List Frame) (token : Token) → is_backquote token ≡ false → behind_name name place frames token ≡ behind (settled (name_alone name place) frames).tree (settled (name_alone name place) frames).frames token
named-step name place frames (plain Backquote p) h = absurd (cc)
named-step name place frames token h = refl

named-on : (name : Name) (place : Place) (frames : List Frame) (tokens : List Token) → NoBackquote tokens → outcome (state (named name place) frames) tokens ≡ outcome (has_settled (settled (name_alone name place) frames)) tokens
named-on name place frames [] h = refl
named-on name place frames (token ∷ tokens) h = ap (λ (s : State). outcome s tokens) (named-step name place frames token h)

-- ---- types with one type in them, and with two

collected : (collection : Collection) (opener : Word) → ((frames : List Frame) (place : Place) → wanted frames (plain opener place) ≡ state (wants_of collection place) frames)
    → (inner : TypeTree) (place : Place) (width : Width) (frames : List Frame) (tokens rest : List Token) → IsPlaceFor width frames
    → Front tokens (at_word opener place ∷ word Of ∷ type_spelling inner) rest
    → ((mid : List Token) → Front mid (type_spelling inner) rest → Reads single inner (element collection place ∷ frames) (element collection place ∷ frames) mid rest)
    → Reads width (collection_type collection inner place) frames frames tokens rest
collected collection opener starts inner place width frames tokens rest h f read =
    let a = take_at tokens (plain opener place) (word Of ∷ type_spelling inner) rest f in
    let b = take_word a.0 Of (type_spelling inner) rest a.2 in
    let r = read b.1 b.3 in
    single-read width _ frames tokens rest h
    (ap (outcome (state wants frames)) a.1
    ∙ ap (λ (s : State). outcome s a.0) (starts frames place)
    ∙ ap (outcome (state (wants_of collection place) frames)) b.2
    ∙ r.same
    ∙ ap (λ (c : Closed). outcome (has_settled c) rest) r.ends)

mapped : (mapping : Mapping) (opener : Word) → ((frames : List Frame) (place : Place) → wanted frames (plain opener place) ≡ state wants (key_of mapping place ∷ frames))
    → (key value : TypeTree) (place : Place) (width : Width) (frames : List Frame) (tokens rest : List Token) → IsPlaceFor width frames
    → Front tokens (at_word opener place ∷ (type_spelling key ++ word To ∷ type_spelling value)) rest
    → ((mid end : List Token) → Front mid (type_spelling key) end → NoBackquote end → Reads union key (key_of mapping place ∷ frames) (key_of mapping place ∷ frames) mid end)
    → ((mid : List Token) → Front mid (type_spelling value) rest → Reads single value (value_of mapping key place ∷ frames) (value_of mapping key place ∷ frames) mid rest)
    → Reads width (mapping_type mapping key value place) frames frames tokens rest
mapped mapping opener starts key value place width frames tokens rest h f read_key read_value =
    let a = take_at tokens (plain opener place) (type_spelling key ++ word To ∷ type_spelling value) rest f in
    let b = split a.0 (type_spelling key) (word To ∷ type_spelling value) rest a.2 in
    let to = take_word b.0 To (type_spelling value) rest b.2 in
    let k = read_key a.0 b.0 b.1 (no_backquote b.0 to.1 (plain To to.0) to.2 refl) in
    let v = read_value to.1 to.3 in
    single-read width _ frames tokens rest h
    (ap (outcome (state wants frames)) a.1
    ∙ ap (λ (s : State). outcome s a.0) (starts frames place)
    ∙ k.same
    ∙ ap (outcome (state (has k.last) k.left)) to.2
    ∙ ap (λ (c : Closed). outcome (value_next c.tree c.frames) to.1) k.ends
    ∙ v.same
    ∙ ap (λ (c : Closed). outcome (has_settled c) rest) v.ends)

bracketed : (bracket : Bracket) (opener closer : Word) → ((frames : List Frame) (place : Place) → wanted frames (plain opener place) ≡ state wants (enclosed bracket place ∷ frames))
    → is_backquote (plain closer (record { part = Spec; line = 0; column = 0 })) ≡ false
    → ((tree last : TypeTree) (left frames : List Frame) (place here : Place) → all_closed last left ≡ closed tree (enclosed bracket place ∷ frames) → behind last left (plain closer here) ≡ has_settled (settled (enclosed_type bracket tree place) frames))
    → (inner : TypeTree) (place : Place) (width : Width) (frames : List Frame) (tokens rest : List Token) → IsPlaceFor width frames
    → Front tokens (at_word opener place ∷ (type_spelling inner ++ word closer ∷ [])) rest
    → ((mid end : List Token) → Front mid (type_spelling inner) end → NoBackquote end → Reads union inner (enclosed bracket place ∷ frames) (enclosed bracket place ∷ frames) mid end)
    → Reads width (enclosed_type bracket inner place) frames frames tokens rest
bracketed bracket opener closer starts other closes inner place width frames tokens rest h f read =
    let a = take_at tokens (plain opener place) (type_spelling inner ++ word closer ∷ []) rest f in
    let b = split a.0 (type_spelling inner) (word closer ∷ []) rest a.2 in
    let c = take_word b.0 closer [] rest b.2 in
    let r = read a.0 b.0 b.1 (no_backquote b.0 c.1 (plain closer c.0) c.2 (any_place closer c.0 other)) in
    single-read width _ frames tokens rest h
    (ap (outcome (state wants frames)) a.1
    ∙ ap (λ (s : State). outcome s a.0) (starts frames place)
    ∙ r.same
    ∙ ap (outcome (state (has r.last) r.left)) c.2
    ∙ ap (λ (s : State). outcome s c.1) (closes inner r.last r.left frames place c.0 r.ends)
    ∙ ap (outcome (has_settled (settled (enclosed_type bracket inner place) frames))) c.3)
  where
    any_place : (closer : Word) (here : Place) → is_backquote (plain closer (record { part = Spec; line = 0; column = 0 })) ≡ false → is_backquote (plain closer here) ≡ false
    any_place Backquote here h = absurd (cc)
    any_place closer here h = refl

closes_round : (tree last : TypeTree) (left frames : List Frame) (place here : Place) → all_closed last left ≡ closed tree (enclosed round place ∷ frames) → behind last left (plain CloseRound here) ≡ has_settled (settled (bracketed_type tree place) frames)
closes_round tree last left frames place here e = ap (λ (c : Closed). close_round c.tree c.frames) e

closes_square : (tree last : TypeTree) (left frames : List Frame) (place here : Place) → all_closed last left ≡ closed tree (enclosed square place ∷ frames) → behind last left (plain CloseSquare here) ≡ has_settled (settled (optional_type tree place) frames)
closes_square tree last left frames place here e = ap (λ (c : Closed). close_square c.tree c.frames) e

-- ---- types one behind another

behind-more : (done : List TypeTree) (next : TypeTree) (types : TypeTrees) → types_behind (done ++ next ∷ []) types ≡ types_behind done (one_type next types)
behind-more [] next types = refl
behind-more (first ∷ done) next types = ap (one_type first) (behind-more done next types)

place-more : (done : List TypeTree) (next after : TypeTree) → first_place (done ++ next ∷ []) after ≡ first_place done next
place-more [] next after = refl
place-more (first ∷ done) next after = refl

-- where types that are some begin behind others
abbrev begin : List TypeTree → TypeTrees → Place → Type 0
begin done no_types place = ⊥
begin done (one_type next types) place = place ≡ first_place done next

begin-more : (done : List TypeTree) (next after : TypeTree) (types : TypeTrees) (place : Place) → place ≡ first_place done next → begin (done ++ next ∷ []) (one_type after types) place
begin-more done next after types place e = e ∙ sym (place-more done next after)

mutual
  reads : (tree : TypeTree) (width : Width) (frames : List Frame) (tokens rest : List Token) → IsType tree width → IsPlaceFor width frames → Front tokens (type_spelling tree) rest → NoBackquote rest → Reads width tree frames frames tokens rest
  reads (basic_type basic place) width frames tokens rest g h f n =
      let a = take_at tokens (plain (Basic basic) place) [] rest f in
      single-read width _ frames tokens rest h (ap (outcome (state wants frames)) a.1 ∙ ap (outcome (has_settled (settled (basic_type basic place) frames))) a.2)
  reads (quote_type name place) width frames tokens rest g h f n =
      let a = take_at tokens (quote name place) [] rest f in
      single-read width _ frames tokens rest h (ap (outcome (state wants frames)) a.1 ∙ ap (outcome (has_settled (settled (quote_type name place) frames))) a.2)
  reads (set_type inner place) width frames tokens rest g h f n =
      collected a_set Set (λ fs p. refl) inner place width frames tokens rest h f
      (λ mid front. reads inner single (element a_set place ∷ frames) mid rest g tt front n)
  reads (seq_type inner place) width frames tokens rest g h f n =
      collected a_sequence Seq (λ fs p. refl) inner place width frames tokens rest h f
      (λ mid front. reads inner single (element a_sequence place ∷ frames) mid rest g tt front n)
  reads (seq1_type inner place) width frames tokens rest g h f n =
      collected a_filled_sequence Seq1 (λ fs p. refl) inner place width frames tokens rest h f
      (λ mid front. reads inner single (element a_filled_sequence place ∷ frames) mid rest g tt front n)
  reads (map_type key value place) width frames tokens rest g h f n =
      mapped any_map Map (λ fs p. refl) key value place width frames tokens rest h f
      (λ mid end front free. reads key union (key_of any_map place ∷ frames) mid end g.0 tt front free)
      (λ mid front. reads value single (value_of any_map key place ∷ frames) mid rest g.1 tt front n)
  reads (inmap_type key value place) width frames tokens rest g h f n =
      mapped injective_map InMap (λ fs p. refl) key value place width frames tokens rest h f
      (λ mid end front free. reads key union (key_of injective_map place ∷ frames) mid end g.0 tt front free)
      (λ mid front. reads value single (value_of injective_map key place ∷ frames) mid rest g.1 tt front n)
  reads (optional_type inner place) width frames tokens rest g h f n =
      bracketed square OpenSquare CloseSquare (λ fs p. refl) refl closes_square inner place width frames tokens rest h f
      (λ mid end front free. reads inner union (enclosed square place ∷ frames) mid end g tt front free)
  reads (bracketed_type inner place) width frames tokens rest g h f n =
      bracketed round OpenRound CloseRound (λ fs p. refl) refl closes_round inner place width frames tokens rest h f
      (λ mid end front free. reads inner union (enclosed round place ∷ frames) mid end g tt front free)
  reads (named_type name place) width frames tokens rest g h f n = by name.class g f
    where
      by : (class : Option Name) → IsType (named_type (record { class = class; name = name.name; name_place = name.name_place }) place) width → Front tokens (type_spelling (named_type (record { class = class; name = name.name; name_place = name.name_place }) place)) rest → Reads width (named_type (record { class = class; name = name.name; name_place = name.name_place }) place) frames frames tokens rest
      by None at_place front =
          let a = take_at tokens (identifier name.name place) [] rest front in
          single-read width _ frames tokens rest h
          (ap (outcome (state wants frames)) a.1
          ∙ ap (outcome (state (named name.name place) frames)) a.2
          ∙ named-on name.name place frames rest n
          ∙ ap (λ (p : Place). outcome (has_settled (settled (named_type (record { class = None; name = name.name; name_place = p }) place) frames)) rest) (sym at_place))
      by (Some class) at_place front =
          let a = take_at tokens (identifier class place) (word Backquote ∷ at (identifier name.name name.name_place) ∷ []) rest front in
          let b = take_word a.0 Backquote (at (identifier name.name name.name_place) ∷ []) rest a.2 in
          let c = take_at b.1 (identifier name.name name.name_place) [] rest b.3 in
          single-read width _ frames tokens rest h
          (ap (outcome (state wants frames)) a.1
          ∙ ap (outcome (state (named class place) frames)) b.2
          ∙ ap (outcome (state (qualified class place) frames)) c.1
          ∙ ap (outcome (has_settled (settled (name_of_class class place name.name name.name_place) frames))) c.2)
  reads (product_type types place) single frames tokens rest g h f n = absurd g.0
  reads (product_type types place) product frames tokens rest g h f n = reads_product types place frames tokens rest g.1 g.2 g.3 h f n
  reads (product_type types place) union frames tokens rest g h f n =
      widened _ frames tokens rest h (reads_product types place frames tokens rest g.1 g.2 g.3 (union-place_wide frames h) f n)
  reads (union_type types place) single frames tokens rest g h f n = absurd g.0
  reads (union_type types place) product frames tokens rest g h f n = absurd g.0
  reads (union_type types place) union frames tokens rest g h f n = reads_union types place frames tokens rest g.1 g.2 g.3 h f n

  reads_product : (types : TypeTrees) (place : Place) (frames : List Frame) (tokens rest : List Token) → AreTwoTypes types → begin_at types place → AreTypes types single → IsProductPlace frames → Front tokens (types_spelling (Operator Times) types) rest → NoBackquote rest → Reads product (product_type types place) frames frames tokens rest
  reads_product no_types place frames tokens rest two b g h f n = absurd two
  reads_product (one_type first no_types) place frames tokens rest two b g h f n = absurd two
  reads_product (one_type first (one_type second types)) place frames tokens rest two b g h f n =
      let s = split tokens (type_spelling first) (further_types (Operator Times) (one_type second types)) rest f in
      let w = take_word s.0 (Operator Times) (types_spelling (Operator Times) (one_type second types)) rest s.2 in
      let r = reads first single frames tokens s.0 g.0 tt s.1 (no_backquote s.0 w.1 (plain (Operator Times) w.0) w.2 refl) in
      let others = reads_factors (first ∷ []) (one_type second types) place frames w.1 rest b g.1 w.3 n in
      record {
        last = others.last;
        left = others.left;
        same =
            r.same
            ∙ ap (λ (c : Closed). outcome (has_settled c) s.0) (r.ends ∙ settled-stays first frames h)
            ∙ ap (outcome (state (has first) frames)) w.2
            ∙ ap (λ (t : State). outcome t w.1) (factor-first first frames h)
            ∙ others.same;
        ends = others.ends;
      }

  reads_factors : (done : List TypeTree) (types : TypeTrees) (place : Place) (frames : List Frame) (tokens rest : List Token) → begin done types place → AreTypes types single → Front tokens (types_spelling (Operator Times) types) rest → NoBackquote rest → Reads product (product_type (types_behind done types) place) (factors done ∷ frames) frames tokens rest
  reads_factors done no_types place frames tokens rest b g f n = absurd b
  reads_factors done (one_type next no_types) place frames tokens rest b g f n =
      let s = split tokens (type_spelling next) [] rest f in
      let r = reads next single (factors done ∷ frames) tokens rest g.0 tt (subst (Front tokens (type_spelling next)) s.2 s.1) n in
      record {
        last = r.last;
        left = r.left;
        same = r.same;
        ends = ap (λ (c : Closed). product_closed c.tree c.frames) r.ends ∙ ap (λ (p : Place). closed (product_type (types_behind done (one_type next no_types)) p) frames) (sym b);
      }
  reads_factors done (one_type next (one_type after types)) place frames tokens rest b g f n =
      let s = split tokens (type_spelling next) (further_types (Operator Times) (one_type after types)) rest f in
      let w = take_word s.0 (Operator Times) (types_spelling (Operator Times) (one_type after types)) rest s.2 in
      let r = reads next single (factors done ∷ frames) tokens s.0 g.0 tt s.1 (no_backquote s.0 w.1 (plain (Operator Times) w.0) w.2 refl) in
      let others = reads_factors (done ++ next ∷ []) (one_type after types) place frames w.1 rest (begin-more done next after types place b) g.1 w.3 n in
      record {
        last = others.last;
        left = others.left;
        same =
            r.same
            ∙ ap (λ (c : Closed). outcome (has_settled c) s.0) r.ends
            ∙ ap (outcome (state (has next) (factors done ∷ frames))) w.2
            ∙ others.same;
        ends = others.ends ∙ ap (λ (ts : TypeTrees). closed (product_type ts place) frames) (behind-more done next (one_type after types));
      }

  reads_union : (types : TypeTrees) (place : Place) (frames : List Frame) (tokens rest : List Token) → AreTwoTypes types → begin_at types place → AreTypes types product → IsUnionPlace frames → Front tokens (types_spelling Bar types) rest → NoBackquote rest → Reads union (union_type types place) frames frames tokens rest
  reads_union no_types place frames tokens rest two b g h f n = absurd two
  reads_union (one_type first no_types) place frames tokens rest two b g h f n = absurd two
  reads_union (one_type first (one_type second types)) place frames tokens rest two b g h f n =
      let s = split tokens (type_spelling first) (further_types Bar (one_type second types)) rest f in
      let w = take_word s.0 Bar (types_spelling Bar (one_type second types)) rest s.2 in
      let r = reads first product frames tokens s.0 g.0 (union-place_wide frames h) s.1 (no_backquote s.0 w.1 (plain Bar w.0) w.2 refl) in
      let others = reads_alternatives (first ∷ []) (one_type second types) place frames w.1 rest b g.1 w.3 n in
      record {
        last = others.last;
        left = others.left;
        same =
            r.same
            ∙ ap (outcome (state (has r.last) r.left)) w.2
            ∙ ap (λ (c : Closed). outcome (next_alternative c.tree c.frames) w.1) r.ends
            ∙ ap (λ (t : State). outcome t w.1) (alternative-first first frames h)
            ∙ others.same;
        ends = others.ends;
      }

  reads_alternatives : (done : List TypeTree) (types : TypeTrees) (place : Place) (frames : List Frame) (tokens rest : List Token) → begin done types place → AreTypes types product → Front tokens (types_spelling Bar types) rest → NoBackquote rest → Reads union (union_type (types_behind done types) place) (alternatives done ∷ frames) frames tokens rest
  reads_alternatives done no_types place frames tokens rest b g f n = absurd b
  reads_alternatives done (one_type next no_types) place frames tokens rest b g f n =
      let s = split tokens (type_spelling next) [] rest f in
      let r = reads next product (alternatives done ∷ frames) tokens rest g.0 tt (subst (Front tokens (type_spelling next)) s.2 s.1) n in
      record {
        last = r.last;
        left = r.left;
        same = r.same;
        ends = ap (λ (c : Closed). union_closed c.tree c.frames) r.ends ∙ ap (λ (p : Place). closed (union_type (types_behind done (one_type next no_types)) p) frames) (sym b);
      }
  reads_alternatives done (one_type next (one_type after types)) place frames tokens rest b g f n =
      let s = split tokens (type_spelling next) (further_types Bar (one_type after types)) rest f in
      let w = take_word s.0 Bar (types_spelling Bar (one_type after types)) rest s.2 in
      let r = reads next product (alternatives done ∷ frames) tokens s.0 g.0 tt s.1 (no_backquote s.0 w.1 (plain Bar w.0) w.2 refl) in
      let others = reads_alternatives (done ++ next ∷ []) (one_type after types) place frames w.1 rest (begin-more done next after types place b) g.1 w.3 n in
      record {
        last = others.last;
        left = others.left;
        same =
            r.same
            ∙ ap (outcome (state (has r.last) r.left)) w.2
            ∙ ap (λ (c : Closed). outcome (next_alternative c.tree c.frames) w.1) r.ends
            ∙ others.same;
        ends = others.ends ∙ ap (λ (ts : TypeTrees). closed (union_type ts place) frames) (behind-more done next (one_type after types));
      }

-- tokens of a type are read as it
pub type-read : (tokens : List Token) (tree : TypeTree) → IsTypeOf tokens tree → type_of tokens ≡ Some tree
type-read tokens tree h =
    let r = reads tree union [] tokens [] h.grammatical tt (front-all tokens _ h.spelled) tt in
    r.same ∙ ap (λ (c : Closed). whole c.tree c.frames) r.ends
