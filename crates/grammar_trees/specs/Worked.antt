-- Tokens and trees of worked rows: token n of a row stands at column n.
use Rattle.std.specs.Prelude.{ℕ, suc, pos, List, [], ◌∷◌, Option}
use Rattle.vdm_kinds.specs.declared.name.Name.{Name}
use Rattle.vdm_kinds.specs.declared.part.Part.TheVariants.{Expr}
use Rattle.vdm_kinds.specs.declared.place.Place.{Place}
use Rattle.vdm_kinds.specs.declared.sign.Sign.{Sign}
use Rattle.abstract_syntax.specs.Literals.{whole_literal}
use Rattle.abstract_syntax.specs.Expressions.{ExprTree, PatternTree, literal, named, bound, prefixed, joined}
use Rattle.grammar_words.specs.declared.word.Word.{Word}
use Rattle.grammar_words.specs.declared.word.Word.TheVariants.{Operator}
use Rattle.grammar_words.specs.Tokens.{Token, identifier, whole, plain}
use Rattle.grammar_trees.specs.Reading.{expr_of, pattern_of}

abbrev pub col : ℕ → Place
col n = record { part = Expr; line = 1; column = n }

-- names a to f
abbrev pub name_a : Name
name_a = record { 0 = 1 }

abbrev pub name_b : Name
name_b = record { 0 = 2 }

abbrev pub name_c : Name
name_c = record { 0 = 3 }

abbrev pub name_d : Name
name_d = record { 0 = 4 }

abbrev pub a : Place → Token
a place = identifier name_a place

abbrev pub b : Place → Token
b place = identifier name_b place

abbrev pub c : Place → Token
c place = identifier name_c place

abbrev pub d : Place → Token
d place = identifier name_d place

abbrev pub num : ℕ → Place → Token
num n place = whole (pos n) place

abbrev pub sign : Sign → Place → Token
sign s place = plain (Operator s) place

abbrev pub w : Word → Place → Token
w v place = plain v place

abbrev pub from : ℕ → List (Place → Token) → List Token
from n [] = []
from n (t ∷ ts) = t (col n) ∷ from (suc n) ts

abbrev pub row : List (Place → Token) → Option ExprTree
row ts = expr_of (from 1 ts)

abbrev pub pattern_row : List (Place → Token) → Option PatternTree
pattern_row ts = pattern_of (from 1 ts)

-- leaves, by their columns
abbrev pub an : ℕ → ExprTree
an n = named name_a (col n)

abbrev pub bn : ℕ → ExprTree
bn n = named name_b (col n)

abbrev pub cn : ℕ → ExprTree
cn n = named name_c (col n)

abbrev pub dn : ℕ → ExprTree
dn n = named name_d (col n)

abbrev pub lit : ℕ → ℕ → ExprTree
lit v n = literal (whole_literal (pos v)) (col n)

abbrev pub both : ExprTree → Sign → ℕ → ExprTree → ExprTree
both left s n right = joined left s right (col n)

abbrev pub pre : Sign → ℕ → ExprTree → ExprTree
pre s n operand = prefixed s operand (col n)

abbrev pub ap_n : ℕ → PatternTree
ap_n n = bound name_a (col n)

abbrev pub bp_n : ℕ → PatternTree
bp_n n = bound name_b (col n)
