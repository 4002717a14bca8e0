-- What the last entry decides.
use Rattle.std.proofs.Common.{◌≡◌, List, [], ◌∷◌, ◌++◌, Option, None, Result, Ok, Err, IfOk, OnErr, sym, ap, ◌∙◌}
use Rattle.std.specs.Option.{option_map}
use Rattle.vdm_kinds.specs.declared.halt.OutOfMemory.{OutOfMemory}
use Rattle.run_journal.specs.declared.entry.Entry.{Entry}
use Rattle.vdm_legal.specs.Finishes.{decided, finish_of}
use Rattle.plain_state.specs.declared.finish.Finish.{Finish}
use Rattle.plain_state.specs.Finishes.{finishes}
use Rattle.vdm_legal.proofs.Journals.{finish-last}

last-same : {A : Type 0} (front before : List A) (x last : A) → front ++ x ∷ [] ≡ before ++ last ∷ [] → x ≡ last
last-same [] [] x last e = cc
last-same [] (y ∷ []) x last e = absurd (cc)
last-same [] (y ∷ z ∷ before) x last e = absurd (cc)
last-same (y ∷ []) [] x last e = absurd (cc)
last-same (y ∷ z ∷ front) [] x last e = absurd (cc)
last-same (y ∷ front) (z ∷ before) x last e = let rest : front ++ x ∷ [] ≡ before ++ last ∷ [] = cc in last-same front before x last rest

module _ (entries front : List Entry) (x : Entry) (parts : entries ≡ front ++ x ∷ []) where
  last-decides : (before : List Entry) (last : Entry) → entries ≡ before ++ last ∷ [] → finish_of before ≡ None → decided x.thread x.deed ≡ finish_of entries
  last-decides before last is none =
      ap (λ (e : Entry). decided e.thread e.deed) (last-same front before x last (sym parts ∙ is)) ∙ sym (ap finish_of is ∙ finish-last before last none)

  pub decides-last : (r : Result (Option Finish) OutOfMemory) → IfOk r (λ f. option_map finishes f ≡ decided x.thread x.deed) → IfOk r (λ f. (before : List Entry) → (last : Entry) → entries ≡ before ++ last ∷ [] → finish_of before ≡ None → option_map finishes f ≡ finish_of entries)
  decides-last (Ok f) h = λ before last is none. h ∙ last-decides before last is none
  decides-last (Err e) h = tt

pub still-open : (f : Option Finish) (entries : List Entry) → f ≡ None → option_map finishes f ≡ finish_of entries → finish_of entries ≡ None
still-open f entries none is = sym is ∙ ap (option_map finishes) none

-- what holds holds where there is an error
pub also-on_err : {T E P : Type 0} (r : Result T E) → P → OnErr r P
also-on_err (Ok x) h = tt
also-on_err (Err e) h = h
