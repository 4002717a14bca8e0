use Rattle.std.proofs.Common.{ℕ, ◌<◌, vec_len, ap, sym, subst, ◌∙◌, All, List, arith, Vec, Global}
use Rattle.graph_cycles.specs.Graphs.{is_in}
use Rattle.graph_cycles.proofs.Held.{apart-none}
use Rattle.ancestor_lines.specs.Clearing.{cleared}
use Rattle.ancestor_lines.proofs.Unmarked.{unmarked, all_below}
use Rattle.ancestor_lines.proofs.nodes.Nodes.take.Goals as goal

pub clear-requires : goal.clear-requires
clear-requires c =
    let s = c.args.self.now in
    subst (λ (xs : List ℕ). All (λ (b : ℕ). b < vec_len s.flags) xs) (sym c.deref.ensures.value)
    (all_below s.flags.items s.nodes.items (vec_len s.flags) s.marked (omega (arith, s.flags.ok.0)))

pub invariant_of-self : goal.invariant_of-self
invariant_of-self c =
    let s = c.args.self.now in
    let none = ap (λ (v : Vec ℕ Global). v.items) c.replace.ensures.after ∙ c.new.ensures.items in
    let flags = c.clear.ensures.flags ∙ ap (cleared s.flags.items) c.deref.ensures.value in
    record {
      marked = λ a. unmarked s.flags.items c.clear.new.flags.items s.nodes.items s.marked flags a ∙ sym (ap (λ (ns : List ℕ). is_in ns a) none);
      apart = apart-none c.replace.new.dest.items none;
    }

pub returns-clause-below : goal.returns-clause-below
returns-clause-below c =
    let s = c.args.self.now in
    subst (λ (xs : List ℕ). All (λ (b : ℕ). b < vec_len s.flags) xs) (sym (ap (λ (v : Vec ℕ Global). v.items) c.replace.ensures.value))
    (all_below s.flags.items s.nodes.items (vec_len s.flags) s.marked (omega (arith, s.flags.ok.0)))
