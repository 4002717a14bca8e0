-- The last write, searched from the end.
use Rattle.std.proofs.Common.{◌≡◌, ℕ, true, false, List, [], ◌∷◌, ◌++◌, Option, Some, None, if◌then◌else◌, refl, sym, ap, ◌∙◌, eq-eqb}
use Rattle.std.proofs.lemmas.List.Elements.{filter-append}
use Rattle.vdm_kinds.specs.declared.member.VarRef.{VarRef}
use Rattle.abstract_syntax.specs.Values.{ValueTree}
use Rattle.run_journal.specs.declared.entry.Entry.{Entry}
use Rattle.run_journal.specs.declared.write.Write.{Write as Pair}
use Rattle.run_journal.specs.Parts.{is_on, object_part}
use Rattle.vdm_legal.specs.State.{is_same_variable, last_of, last_written, written_by, written_in}

last_of-last_of : {A : Type 0} (a b c : Option A) → last_of a (last_of b c) ≡ last_of (last_of a b) c
last_of-last_of a b None = refl
last_of-last_of a b (Some x) = refl

none-last_of : {A : Type 0} (a : Option A) → last_of None a ≡ a
none-last_of None = refl
none-last_of (Some x) = refl

pub written_in-last : (var : VarRef) (front : List Pair) (pair : Pair) → written_in var (front ++ pair ∷ []) ≡ last_of (written_in var front) (if is_same_variable var pair.var then Some pair.value else None)
written_in-last var [] pair = sym (none-last_of (if is_same_variable var pair.var then Some pair.value else None))
written_in-last var (p ∷ front) pair =
    ap (last_of (if is_same_variable var p.var then Some p.value else None)) (written_in-last var front pair) ∙ last_of-last_of (if is_same_variable var p.var then Some p.value else None) (written_in var front) (if is_same_variable var pair.var then Some pair.value else None)

pub last_written-last : (var : VarRef) (front : List Entry) (e : Entry) → last_written var (front ++ e ∷ []) ≡ last_of (last_written var front) (written_by var e.deed)
last_written-last var [] e = sym (none-last_of (written_by var e.deed))
last_written-last var (x ∷ front) e =
    ap (last_of (written_by var x.deed)) (last_written-last var front e) ∙ last_of-last_of (written_by var x.deed) (last_written var front) (written_by var e.deed)

-- ---- steps from the end

module _ (var : VarRef) (pairs before front : List Pair) (pair : Pair) (parts : before ≡ front ++ pair ∷ []) (found : written_in var before ≡ written_in var pairs) where
  along : written_in var pairs ≡ last_of (written_in var front) (if is_same_variable var pair.var then Some pair.value else None)
  along = sym found ∙ ap (written_in var) parts ∙ written_in-last var front pair

  pub pair-found : is_same_variable var pair.var ≡ true → Some pair.value ≡ written_in var pairs
  pair-found same = sym (along ∙ ap (λ b. last_of (written_in var front) (if b then Some pair.value else None)) same)

  pub pair-passed : is_same_variable var pair.var ≡ false → written_in var front ≡ written_in var pairs
  pair-passed other = sym (along ∙ ap (λ b. last_of (written_in var front) (if b then Some pair.value else None)) other)

module _ (var : VarRef) (object : ℕ) (entries before front : List Entry) (e : Entry) (parts : before ≡ front ++ e ∷ []) (found : last_written var (object_part object before) ≡ last_written var (object_part object entries)) where
  part-last : object_part object before ≡ object_part object front ++ object_part object (e ∷ [])
  part-last = ap (object_part object) parts ∙ filter-append (is_on object) front (e ∷ [])

  there : e.object ≡ object → last_written var (object_part object entries) ≡ last_of (last_written var (object_part object front)) (written_by var e.deed)
  there on =
      sym found ∙ ap (last_written var) (part-last ∙ ap (λ b. object_part object front ++ (if b then e ∷ [] else [])) (eq-eqb e.object object on)) ∙ last_written-last var (object_part object front) e

  pub entry-found : (v : ValueTree) → e.object ≡ object → Some v ≡ written_by var e.deed → Some v ≡ last_written var (object_part object entries)
  entry-found v on written = sym (there on ∙ ap (last_of (last_written var (object_part object front))) (sym written))

  pub entry-writes_nothing : e.object ≡ object → None ≡ written_by var e.deed → last_written var (object_part object front) ≡ last_written var (object_part object entries)
  entry-writes_nothing on nothing = sym (there on ∙ ap (last_of (last_written var (object_part object front))) (sym nothing))
