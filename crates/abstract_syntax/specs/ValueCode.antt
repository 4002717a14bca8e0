-- The code of a value, by which a proof tells values apart: a tree of numbers with the kind's number first.
use Rattle.std.specs.Prelude.{◌≡◌, ℕ, ℤ, pos, negsuc, Bool, true, false, refl}
use Rattle.std.specs.Coded.{Coded, code_by}
use Rattle.std.proofs.Common.{ap, zero, suc}
use Rattle.vdm_kinds.specs.declared.name.Name.{Name}
use Rattle.abstract_syntax.specs.Values.{ValueTree, ValueTrees, PairTrees, nil, boolean, number, character, quote, token, tuple}
use Rattle.abstract_syntax.specs.Values.{record_of, sequence, set_of, map_of, object, no_values, one_value, no_pairs, one_pair}
use base.Stored.{Gv, gnil, gnum, gcons}

abbrev bit : Bool → ℕ
bit false = 0
bit true = 1

abbrev sign : ℤ → Gv
sign (pos n) = gcons (gnum 0) (gnum n)
sign (negsuc n) = gcons (gnum 1) (gnum n)

abbrev mutual
  to_code : ValueTree → Gv
  to_code nil = gcons (gnum 0) gnil
  to_code (boolean b) = gcons (gnum 1) (gnum (bit b))
  to_code (number z) = gcons (gnum 2) (sign z)
  to_code (character c) = gcons (gnum 3) (gnum c)
  to_code (quote q) = gcons (gnum 4) (gnum q.0)
  to_code (token v) = gcons (gnum 5) (gcons (to_code v) gnil)
  to_code (tuple vs) = gcons (gnum 6) (values_to_code vs)
  to_code (record_of class name vs) = gcons (gnum 7) (gcons (gnum class.0) (gcons (gnum name.0) (values_to_code vs)))
  to_code (sequence vs) = gcons (gnum 8) (values_to_code vs)
  to_code (set_of vs) = gcons (gnum 9) (values_to_code vs)
  to_code (map_of ps) = gcons (gnum 10) (pairs_to_code ps)
  to_code (object n class) = gcons (gnum 11) (gcons (gnum n) (gnum class.0))

  values_to_code : ValueTrees → Gv
  values_to_code no_values = gnil
  values_to_code (one_value v vs) = gcons (to_code v) (values_to_code vs)

  -- keys and values in turn
  pairs_to_code : PairTrees → Gv
  pairs_to_code no_pairs = gnil
  pairs_to_code (one_pair k v ps) = gcons (to_code k) (gcons (to_code v) (pairs_to_code ps))

-- ---- and back

abbrev number_at : Gv → ℕ
number_at gnil = 0
number_at (gnum n) = n
number_at (gcons a b) = 0

abbrev first : Gv → Gv
first gnil = gnil
first (gnum n) = gnil
first (gcons a b) = a

abbrev rest : Gv → Gv
rest gnil = gnil
rest (gnum n) = gnil
rest (gcons a b) = b

abbrev name_at : Gv → Name
name_at g = record { 0 = number_at g }

abbrev is_one : ℕ → Bool
is_one zero = false
is_one (suc n) = true

abbrev signed : ℕ → ℕ → ℤ
signed zero n = pos n
signed (suc s) n = negsuc n

abbrev first_value : ValueTrees → ValueTree
first_value no_values = nil
first_value (one_value v vs) = v

abbrev later_values : ValueTrees → ValueTrees
later_values no_values = no_values
later_values (one_value v vs) = vs

abbrev in_pairs : ValueTrees → PairTrees
in_pairs no_values = no_pairs
in_pairs (one_value k no_values) = no_pairs
in_pairs (one_value k (one_value v vs)) = one_pair k v (in_pairs vs)

-- by the kind's number, from the rest of the code, and from that rest as a list of values
abbrev of_kind : ℕ → Gv → ValueTrees → ValueTree
of_kind zero g vs = nil
of_kind (suc zero) g vs = boolean (is_one (number_at g))
of_kind (suc (suc zero)) g vs = number (signed (number_at (first g)) (number_at (rest g)))
of_kind (suc (suc (suc zero))) g vs = character (number_at g)
of_kind (suc (suc (suc (suc zero)))) g vs = quote (name_at g)
of_kind (suc (suc (suc (suc (suc zero))))) g vs = token (first_value vs)
of_kind (suc (suc (suc (suc (suc (suc zero)))))) g vs = tuple vs
of_kind (suc (suc (suc (suc (suc (suc (suc zero))))))) g vs =
    record_of (name_at (first g)) (name_at (first (rest g))) (later_values (later_values vs))
of_kind (suc (suc (suc (suc (suc (suc (suc (suc zero)))))))) g vs = sequence vs
of_kind (suc (suc (suc (suc (suc (suc (suc (suc (suc zero))))))))) g vs = set_of vs
of_kind (suc (suc (suc (suc (suc (suc (suc (suc (suc (suc zero)))))))))) g vs = map_of (in_pairs vs)
of_kind (suc (suc (suc (suc (suc (suc (suc (suc (suc (suc (suc n))))))))))) g vs = object (number_at (first g)) (name_at (rest g))

abbrev from_code : Gv → ValueTree × ValueTrees
from_code gnil = (nil, no_values)
from_code (gnum n) = (nil, no_values)
from_code (gcons a b) = (of_kind (number_at a) b (from_code b).1, one_value (from_code a).0 (from_code b).1)

pub is_one-bit : (b : Bool) → is_one (bit b) ≡ b
is_one-bit false = refl
is_one-bit true = refl

pub signed-sign : (z : ℤ) → signed (number_at (first (sign z))) (number_at (rest (sign z))) ≡ z
signed-sign (pos n) = refl
signed-sign (negsuc n) = refl

mutual
  pub from_code-to_code : (v : ValueTree) → (from_code (to_code v)).0 ≡ v
  from_code-to_code nil = refl
  from_code-to_code (boolean b) = ap boolean (is_one-bit b)
  from_code-to_code (number z) = ap number (signed-sign z)
  from_code-to_code (character c) = refl
  from_code-to_code (quote q) = refl
  from_code-to_code (token v) = ap token (from_code-to_code v)
  from_code-to_code (tuple vs) = ap tuple (from_code-values_to_code vs)
  from_code-to_code (record_of class name vs) = ap (record_of class name) (from_code-values_to_code vs)
  from_code-to_code (sequence vs) = ap sequence (from_code-values_to_code vs)
  from_code-to_code (set_of vs) = ap set_of (from_code-values_to_code vs)
  from_code-to_code (map_of ps) = ap map_of (from_code-pairs_to_code ps)
  from_code-to_code (object n class) = refl

  pub from_code-values_to_code : (vs : ValueTrees) → (from_code (values_to_code vs)).1 ≡ vs
  from_code-values_to_code no_values = refl
  from_code-values_to_code (one_value v vs) = λ i. one_value (from_code-to_code v i) (from_code-values_to_code vs i)

  pub from_code-pairs_to_code : (ps : PairTrees) → in_pairs (from_code (pairs_to_code ps)).1 ≡ ps
  from_code-pairs_to_code no_pairs = refl
  from_code-pairs_to_code (one_pair k v ps) =
      λ i. one_pair (from_code-to_code k i) (from_code-to_code v i) (from_code-pairs_to_code ps i)

-- a tree of numbers is its own code
abbrev code_of_codes : Coded Gv
code_of_codes = record { code = λ g. g; inj = λ x y p. p }

abbrev pub value_code : Coded ValueTree
value_code = code_by Gv code_of_codes to_code (λ g. (from_code g).0) from_code-to_code
