-- What a definition begins with is read: its access, in any of its forms, and its name.
use Rattle.std.proofs.Common.{◌≡◌, ℕ, zero, suc, Bool, true, false, ◌&&◌, nat_eq, if◌then◌else◌, List, [], ◌∷◌, ◌++◌, Some, refl, ap, subst, ◌∙◌, arith}
use Rattle.std.specs.List.{Contains}
use Rattle.vdm_kinds.specs.declared.access.Access.{Access}
use Rattle.vdm_kinds.specs.declared.access.Level.{Level}
use Rattle.vdm_kinds.specs.declared.access.Level.TheVariants.{Private, Protected, Public}
use Rattle.vdm_kinds.specs.declared.name.Name.{Name}
use Rattle.vdm_kinds.specs.declared.part.Part.{Part}
use Rattle.vdm_kinds.specs.declared.part.Part.TheVariants.{Spec, Expr}
use Rattle.vdm_kinds.specs.declared.place.Place.{Place}
use Rattle.grammar_words.specs.declared.word.Word.{Word}
use Rattle.grammar_words.specs.declared.word.Word.TheVariants as word_is
use Rattle.grammar_words.specs.Tokens.{Token, identifier, plain}
use Rattle.grammar_words.specs.Written.{Written, word, at_word}
use Rattle.stmt_trees.specs.Pieces.{Piece, Begin, Spelled}
use Rattle.stmt_trees.specs.Heads.{is_same_place, access_forms, head_spelling}
use Rattle.stmt_reading.specs.Definitions.{Head, head_in, begins_head}
use Rattle.stmt_laws.specs.Ends.{first_word}
use Rattle.stmt_laws.proofs.WordNumbers.{same-number}
use Rattle.stmt_laws.proofs.Readers.{Reads, Spelled-split}
use Rattle.class_laws.proofs.SoundHeads.{same_part}

-- ---- one place

part-is : (p q : Part) → same_part p q ≡ true → p ≡ q
part-is Spec Spec e = refl
part-is Expr Expr e = refl
part-is Spec Expr e = absurd (cc)
part-is Expr Spec e = absurd (cc)

all_of : (a b c : Bool) → (a && b && c) ≡ true → (a ≡ true) × (b ≡ true) × (c ≡ true)
all_of true true true e = (refl, refl, refl)
all_of false b c e = absurd (cc)
all_of true false c e = absurd (cc)
all_of true true false e = absurd (cc)

abbrev made_place : Part → ℕ → ℕ → Place
made_place part line column = record { part = part; line = line; column = column }

place-is : (p q : Place) → is_same_place p q ≡ true → p ≡ q
place-is p q e =
    let k = all_of (same_part p.part q.part) (nat_eq p.line q.line) (nat_eq p.column q.column) e in
    let a : made_place p.part p.line p.column ≡ made_place q.part p.line p.column = ap (λ x. made_place x p.line p.column) (part-is p.part q.part k.0) in
    let b : made_place q.part p.line p.column ≡ made_place q.part q.line p.column = ap (λ x. made_place q.part x p.column) (same-number p.line q.line k.1) in
    let c : made_place q.part q.line p.column ≡ made_place q.part q.line q.column = ap (λ x. made_place q.part q.line x) (same-number p.column q.column k.2) in
    a ∙ b ∙ c

-- ---- which form it is

data Which (a b c : List Written) : List Written → Type 0 where
  first : Which a b c a
  second : Which a b c b
  third : Which a b c c

which_three : (a b c form : List Written) → Contains (a ∷ b ∷ c ∷ []) form → Which a b c form
which_three a b c form (zero, less, is) = subst (Which a b c) is first
which_three a b c form (suc zero, less, is) = subst (Which a b c) is second
which_three a b c form (suc (suc zero), less, is) = subst (Which a b c) is third
which_three a b c form (suc (suc (suc n)), less, is) = absurd (omega arith)

which_two : (a b form : List Written) → Contains (a ∷ b ∷ []) form → Which a b b form
which_two a b form (zero, less, is) = subst (Which a b b) is first
which_two a b form (suc zero, less, is) = subst (Which a b b) is second
which_two a b form (suc (suc n), less, is) = absurd (omega arith)

which_one : (a form : List Written) → Contains (a ∷ []) form → Which a a a form
which_one a form (zero, less, is) = subst (Which a a a) is first
which_one a form (suc n, less, is) = absurd (omega arith)

-- ---- heads

abbrev made : Bool → Level → Name → Place → Place → Head
made is_static level name name_place place =
    record { access = record { is_static = is_static; level = level }; name = name; name_place = name_place; place = place }

-- the tokens of a form of one word, and of two
one_word : (tokens middle rest : List Token) (w : Word) (place : Place) → Begin tokens (at_word w place ∷ []) middle → middle ≡ rest
    → tokens ≡ plain w place ∷ rest
one_word tokens middle rest w place b e = b.1 ∙ ap (λ ts. plain w place ∷ ts) (b.2 ∙ e)

two_words : (tokens middle rest : List Token) (w v : Word) (place : Place) → (b : Begin tokens (at_word w place ∷ word v ∷ []) middle) → middle ≡ rest
    → tokens ≡ plain w place ∷ plain v b.2.1.0 ∷ rest
two_words tokens middle rest w v place b e = b.1 ∙ ap (λ ts. plain w place ∷ ts) (b.2.1.1 ∙ ap (λ ts. plain v b.2.1.0 ∷ ts) (b.2.2 ∙ e))

private_is : (tokens middle rest : List Token) (name : Name) (np place : Place) (form : List Written) → Which [] (at_word word_is.Private place ∷ []) (at_word word_is.Private place ∷ []) form
    → is_same_place np place ≡ true → Begin tokens form middle → middle ≡ identifier name np ∷ rest → head_in tokens ≡ Some (made false Private name np place, rest)
private_is tokens middle rest name np place _ first same b e =
    ap head_in (b ∙ e) ∙ ap (λ p. Some (made false Private name np p, rest)) (place-is np place same)
private_is tokens middle rest name np place _ second same b e = ap head_in (one_word tokens middle _ word_is.Private place b e)
private_is tokens middle rest name np place _ third same b e = ap head_in (one_word tokens middle _ word_is.Private place b e)

private_alone : (tokens middle rest : List Token) (name : Name) (np place : Place) (form : List Written)
    → Which (at_word word_is.Private place ∷ []) (at_word word_is.Private place ∷ []) (at_word word_is.Private place ∷ []) form
    → Begin tokens form middle → middle ≡ identifier name np ∷ rest → head_in tokens ≡ Some (made false Private name np place, rest)
private_alone tokens middle rest name np place _ first b e = ap head_in (one_word tokens middle _ word_is.Private place b e)
private_alone tokens middle rest name np place _ second b e = ap head_in (one_word tokens middle _ word_is.Private place b e)
private_alone tokens middle rest name np place _ third b e = ap head_in (one_word tokens middle _ word_is.Private place b e)

private_either : (tokens middle rest : List Token) (name : Name) (np place : Place) (form : List Written) (same : Bool) → is_same_place np place ≡ same
    → Contains ((if same then [] ∷ [] else []) ++ (at_word word_is.Private place ∷ []) ∷ []) form
    → Begin tokens form middle → middle ≡ identifier name np ∷ rest → head_in tokens ≡ Some (made false Private name np place, rest)
private_either tokens middle rest name np place form true q c b e =
    private_is tokens middle rest name np place form (which_two [] (at_word word_is.Private place ∷ []) form c) q b e
private_either tokens middle rest name np place form false q c b e =
    private_alone tokens middle rest name np place form (which_one (at_word word_is.Private place ∷ []) form c) b e

protected_is : (tokens middle rest : List Token) (name : Name) (np place : Place) (form : List Written)
    → Which (at_word word_is.Protected place ∷ []) (at_word word_is.Protected place ∷ []) (at_word word_is.Protected place ∷ []) form
    → Begin tokens form middle → middle ≡ identifier name np ∷ rest → head_in tokens ≡ Some (made false Protected name np place, rest)
protected_is tokens middle rest name np place _ first b e = ap head_in (one_word tokens middle _ word_is.Protected place b e)
protected_is tokens middle rest name np place _ second b e = ap head_in (one_word tokens middle _ word_is.Protected place b e)
protected_is tokens middle rest name np place _ third b e = ap head_in (one_word tokens middle _ word_is.Protected place b e)

static_protected_is : (tokens middle rest : List Token) (name : Name) (np place : Place) (form : List Written)
    → Which (at_word word_is.Static place ∷ word word_is.Protected ∷ []) (at_word word_is.Protected place ∷ word word_is.Static ∷ []) (at_word word_is.Protected place ∷ word word_is.Static ∷ []) form
    → Begin tokens form middle → middle ≡ identifier name np ∷ rest → head_in tokens ≡ Some (made true Protected name np place, rest)
static_protected_is tokens middle rest name np place _ first b e = ap head_in (two_words tokens middle _ word_is.Static word_is.Protected place b e)
static_protected_is tokens middle rest name np place _ second b e = ap head_in (two_words tokens middle _ word_is.Protected word_is.Static place b e)
static_protected_is tokens middle rest name np place _ third b e = ap head_in (two_words tokens middle _ word_is.Protected word_is.Static place b e)

public_is : (tokens middle rest : List Token) (name : Name) (np place : Place) (form : List Written)
    → Which (at_word word_is.Public place ∷ []) (at_word word_is.Public place ∷ []) (at_word word_is.Public place ∷ []) form
    → Begin tokens form middle → middle ≡ identifier name np ∷ rest → head_in tokens ≡ Some (made false Public name np place, rest)
public_is tokens middle rest name np place _ first b e = ap head_in (one_word tokens middle _ word_is.Public place b e)
public_is tokens middle rest name np place _ second b e = ap head_in (one_word tokens middle _ word_is.Public place b e)
public_is tokens middle rest name np place _ third b e = ap head_in (one_word tokens middle _ word_is.Public place b e)

static_public_is : (tokens middle rest : List Token) (name : Name) (np place : Place) (form : List Written)
    → Which (at_word word_is.Static place ∷ word word_is.Public ∷ []) (at_word word_is.Public place ∷ word word_is.Static ∷ []) (at_word word_is.Public place ∷ word word_is.Static ∷ []) form
    → Begin tokens form middle → middle ≡ identifier name np ∷ rest → head_in tokens ≡ Some (made true Public name np place, rest)
static_public_is tokens middle rest name np place _ first b e = ap head_in (two_words tokens middle _ word_is.Static word_is.Public place b e)
static_public_is tokens middle rest name np place _ second b e = ap head_in (two_words tokens middle _ word_is.Public word_is.Static place b e)
static_public_is tokens middle rest name np place _ third b e = ap head_in (two_words tokens middle _ word_is.Public word_is.Static place b e)

static_is : (tokens middle rest : List Token) (name : Name) (np place : Place) (form : List Written)
    → Which (at_word word_is.Static place ∷ []) (at_word word_is.Static place ∷ word word_is.Private ∷ [])
    (at_word word_is.Private place ∷ word word_is.Static ∷ []) form
    → Begin tokens form middle → middle ≡ identifier name np ∷ rest → head_in tokens ≡ Some (made true Private name np place, rest)
static_is tokens middle rest name np place _ first b e = ap head_in (one_word tokens middle _ word_is.Static place b e)
static_is tokens middle rest name np place _ second b e = ap head_in (two_words tokens middle _ word_is.Static word_is.Private place b e)
static_is tokens middle rest name np place _ third b e = ap head_in (two_words tokens middle _ word_is.Private word_is.Static place b e)

head_of : (is_static : Bool) (level : Level) (tokens middle rest : List Token) (name : Name) (np place : Place) (form : List Written)
    → Contains (access_forms (record { is_static = is_static; level = level }) np place) form → Begin tokens form middle
    → middle ≡ identifier name np ∷ rest → head_in tokens ≡ Some (made is_static level name np place, rest)
head_of false Private tokens middle rest name np place form c b e = private_either tokens middle rest name np place form (is_same_place np place) refl c b e
head_of false Protected tokens middle rest name np place form c b e = protected_is tokens middle rest name np place form (which_one _ form c) b e
head_of false Public tokens middle rest name np place form c b e = public_is tokens middle rest name np place form (which_one _ form c) b e
head_of true Private tokens middle rest name np place form c b e = static_is tokens middle rest name np place form (which_three _ _ _ form c) b e
head_of true Protected tokens middle rest name np place form c b e = static_protected_is tokens middle rest name np place form (which_two _ _ form c) b e
head_of true Public tokens middle rest name np place form c b e = static_public_is tokens middle rest name np place form (which_two _ _ form c) b e

pub head-reads : (access : Access) (name : Name) (np place : Place) (ends : Word → Bool)
    → Reads head_in (head_spelling access name np place) (record { access = access; name = name; name_place = np; place = place }) ends
head-reads access name np place ends =
    record {
      reads = λ tokens rest h e.
          head_of access.is_static access.level tokens h.1 rest name np place h.0 h.2 h.3 (h.4.1 ∙ ap (λ ts. identifier name np ∷ ts) h.4.2);
    }

-- ---- the first word

abbrev any_word : Word → Bool
any_word w = true

begun_head : (tokens rest : List Token) (head : Head) → head_in tokens ≡ Some (head, rest) → begins_head (first_word tokens) ≡ true
begun_head [] rest head e = absurd (cc)
begun_head (identifier n p ∷ tokens) rest head e = refl
begun_head (plain word_is.Static p ∷ tokens) rest head e = refl
begun_head (plain word_is.Private p ∷ tokens) rest head e = refl
begun_head (plain word_is.Protected p ∷ tokens) rest head e = refl
begun_head (plain word_is.Public p ∷ tokens) rest head e = refl
begun_head (plain word_is.Identifier p ∷ tokens) rest head e = refl
begun_head (_ ∷ tokens) rest head e = absurd (cc)

pub head_first : (access : Access) (name : Name) (np place : Place) (vs : List Piece) (tokens rest : List Token)
    → Spelled tokens (head_spelling access name np place ++ vs) rest → begins_head (first_word tokens) ≡ true
head_first access name np place vs tokens rest h =
    let k = Spelled-split tokens (head_spelling access name np place) vs rest h in
    begun_head tokens k.0 _ ((head-reads access name np place any_word).reads tokens k.0 k.1 refl)
