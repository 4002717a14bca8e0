-- How often a deed stands on an object behind further entries.
use Rattle.std.proofs.Common.{◌≡◌, ℕ, ◌+◌, ◌==◌, Bool, true, false, if◌then◌else◌, List, [], ◌∷◌, ◌++◌, length, length-append, filter, refl, ap, ◌∙◌}
use Rattle.std.proofs.lemmas.Bool.{eq-eqb}
use Rattle.std.proofs.lemmas.List.Elements.{filter-append}
use Rattle.vdm_kinds.specs.declared.name.Name.{Name}
use Rattle.abstract_syntax.specs.Classes.{is_same_name}
use Rattle.run_journal.specs.declared.deed.Deed.{Deed}
use Rattle.run_journal.specs.declared.entry.Entry.{Entry}
use Rattle.run_journal.specs.declared.thread.Thread.TheVariants.{Main}
use Rattle.run_journal.specs.Made.{entry}
use Rattle.run_journal.specs.Parts.{is_on, object_part}
use Rattle.vdm_legal.specs.State.{count_of}

-- how often a deed of the kind stands on the object
abbrev pub counted : (Deed → Bool) → ℕ → List Entry → ℕ
counted test object entries = count_of test (object_part object entries)

count-append : (test : Deed → Bool) (a b : List Entry) → count_of test (a ++ b) ≡ count_of test a + count_of test b
count-append test a b = ap length (filter-append (λ (e : Entry). test e.deed) a b) ∙ length-append (filter (λ (e : Entry). test e.deed) a) (filter (λ (e : Entry). test e.deed) b)

pub counted-more : (test : Deed → Bool) (o : ℕ) (before more : List Entry) → counted test o (before ++ more) ≡ counted test o before + counted test o more
counted-more test o before more = ap (count_of test) (filter-append (is_on o) before more) ∙ count-append test (object_part o before) (object_part o more)

-- what one entry on the object `me` adds there, where its deed is of the kind or not
abbrev pub adds : ℕ → ℕ → Bool → ℕ
adds me o is_of_kind = if me == o then (if is_of_kind then 1 else 0) else 0

pub counted-one : (test : Deed → Bool) (me o : ℕ) (d : Deed) → counted test o (entry Main me d ∷ []) ≡ adds me o (test d)
counted-one test me o d = outer (me == o)
  where
    inner : (c : Bool) → length (if c then entry Main me d ∷ [] else []) ≡ (if c then 1 else 0)
    inner true = refl
    inner false = refl

    outer : (b : Bool) → count_of test (if b then entry Main me d ∷ [] else []) ≡ (if b then (if test d then 1 else 0) else 0)
    outer true = inner (test d)
    outer false = refl

nothing : (b : Bool) (n : ℕ) → n ≡ 0 → (if b then n else 0) ≡ 0
nothing true n e = e
nothing false n e = refl

pub adds-none : (me o : ℕ) → adds me o false ≡ 0
adds-none me o = nothing (me == o) 0 refl

pub adds-here : (me : ℕ) (name : Name) → adds me me (is_same_name name name) ≡ 1
adds-here me name = ap (λ b. if b then (if is_same_name name name then 1 else 0) else 0) (eq-eqb me me refl) ∙ ap (λ b. if b then 1 else 0) (eq-eqb name.0 name.0 refl)
