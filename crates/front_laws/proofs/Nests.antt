-- What is open behind parts and words of a node.
use Rattle.std.proofs.Common.{◌≡◌, ℕ, true, false, ◌==◌, if◌then◌else◌, ◌+◌, ◌<◌, ◌≤◌, max, List, [], ◌∷◌, ◌++◌, length, Option, Some, refl, ap, subst, ◌∙◌, append_assoc, arith}
use Rattle.std.proofs.lemmas.Bool.Decides.{nat_tests}
use Rattle.grammar_words.specs.declared.word.Word.{Word}
use Rattle.grammar_words.specs.Pulls.{closed}
use Rattle.grammar_words.specs.Written.{Written}
use Rattle.grammar_fronts.specs.declared.open_node.OpenNode.{OpenNode}
use Rattle.grammar_fronts.specs.declared.wanted.Wanted.{Wanted}
use Rattle.grammar_fronts.specs.Turns.{Turn, goes_on, begins, adds}
use Rattle.grammar_fronts.specs.Depth.{Nest, nest, ended, end_over, with_turn, with_part, added}
use Rattle.grammar_fronts.specs.Table.{is_optional}
use Rattle.grammar_fronts.specs.Viable.{takes, refuses, meets, either}
use Rattle.front_laws.proofs.Passing.{written_word}
use Rattle.front_laws.proofs.Starts.{Starts}
use Rattle.front_laws.proofs.Fine.{node, Fine, took, stays, goes, pulled, raise, Calm, calm_ends, raise_nothing, raise_hidden}

-- a node without an operator is open, with a part that is so deep or deeper, and further words are nowhere too deep
pub record Own (below deep : ℕ) (nodes : List OpenNode) (a : List Written) (wanted : List Wanted) : Type 0 where
  pub deepest : ℕ
  pub least : deep ≤ deepest
  pub fine : Fine a wanted (node 0 deepest below ∷ nodes)

-- how what was read ends: by what is wanted in front of what may follow it, or by an operator that takes it
pub data EndsAt (reach behind wanted pull : ℕ) : Type 0 where
  inside : wanted ≤ behind → EndsAt reach behind wanted pull
  taken : wanted ≤ behind + 1 → 2 ≤ pull → pull < reach → EndsAt reach behind wanted pull

-- a part was read: its nodes end so deep or deeper
pub record Part (depth reach : ℕ) (next : Wanted) (behind : List Wanted) (nodes : List OpenNode) (a : List Written) : Type 0 where
  pub open_nodes : List OpenNode
  pub deepest : ℕ
  pub deep : depth ≤ deepest
  pub ends : (wanted pull : ℕ) → EndsAt reach (length behind) wanted pull → end_over wanted pull 0 open_nodes ≡ end_over wanted pull deepest nodes
  pub fine : Fine a (next ∷ behind) open_nodes

-- a part was read in a node that is open
pub record At (below deep : ℕ) (nodes : List OpenNode) (next : Wanted) (behind : List Wanted) (a : List Written) : Type 0 where
  pub own : ℕ
  pub depth : ℕ
  pub reach : ℕ
  pub bound : deep ≤ max own depth
  pub part : Part depth reach next behind (node 0 own below ∷ nodes) a

pub regroup_own : {below deep : ℕ} {nodes : List OpenNode} {wanted : List Wanted} (x y a : List Written)
    → Own below deep nodes ((x ++ y) ++ a) wanted → Own below deep nodes (x ++ (y ++ a)) wanted
regroup_own {below = below} {deep = deep} {nodes = nodes} {wanted = wanted} x y a o = subst (λ all. Own below deep nodes all wanted) (append_assoc x y a) o

pub regroup_fine : {wanted : List Wanted} {nodes : List OpenNode} (x y a : List Written) → Fine ((x ++ y) ++ a) wanted nodes → Fine (x ++ (y ++ a)) wanted nodes
regroup_fine {wanted = wanted} {nodes = nodes} x y a f = subst (λ all. Fine all wanted nodes) (append_assoc x y a) f

pub regroup_at : {below deep : ℕ} {nodes : List OpenNode} {next : Wanted} {behind : List Wanted} (x y a : List Written)
    → At below deep nodes next behind ((x ++ y) ++ a) → At below deep nodes next behind (x ++ (y ++ a))
regroup_at {below = below} {deep = deep} {nodes = nodes} {next = next} {behind = behind} x y a o =
    subst (λ all. At below deep nodes next behind all) (append_assoc x y a) o

pub weaken : {below more deep : ℕ} {nodes : List OpenNode} {next : Wanted} {behind : List Wanted} {a : List Written} → deep ≤ more
    → At below more nodes next behind a → At below deep nodes next behind a
weaken less p = record { own = p.own; depth = p.depth; reach = p.reach; bound = (let b = p.bound in omega arith); part = p.part }

-- ---- beginnings

pub begun : {table : Word → Option Turn} {next : Wanted} {more behind : List Wanted} {low : ℕ} {nodes : List OpenNode} {w : Written}
    {a : List Written} → Starts table next more → Calm (length behind + 1) low nodes → low ≤ 31 → Fine (w ∷ a) (next ∷ behind) nodes
    → {pull : ℕ} {parts rest : List Wanted} → table (written_word w) ≡ Some (begins pull parts rest)
    → Fine a (parts ++ (rest ++ (more ++ behind))) (node pull 0 (length (rest ++ (more ++ behind))) ∷ nodes)
begun {next = next} {more = more} {behind = behind} {low = low} {nodes = nodes} {w = w} {a = a} s calm less f {pull = pull} {parts = parts} {rest = rest} is =
    let t = begins pull parts (rest ++ more) in
    let other = (if is_optional next then meets (written_word w) behind else refuses (next ∷ behind)) in
    let met : meets (written_word w) (next ∷ behind) ≡ takes t behind =
    ap (λ found. either found behind other) (s.turns (written_word w) (begins pull parts rest) is) in
    let calm_nest : ended (length behind + 1) closed nodes ≡ nest nodes 0 =
    calm_ends (length behind + 1) closed low 0 nodes calm less ∙ ap (λ ns. nest ns 0) (raise_nothing nodes) in
    let now : Fine a ((parts ++ (rest ++ more)) ++ behind) (with_turn t behind (ended (length behind + 1) closed nodes)) =
    took w a (next ∷ behind) nodes t behind met f in
    let then_ : Fine a ((parts ++ (rest ++ more)) ++ behind) (node pull 0 (length ((rest ++ more) ++ behind)) ∷ nodes) =
    subst (λ n. Fine a ((parts ++ (rest ++ more)) ++ behind) (with_turn t behind n)) calm_nest now in
    let placed : Fine a (parts ++ ((rest ++ more) ++ behind)) (node pull 0 (length ((rest ++ more) ++ behind)) ∷ nodes) =
    subst (λ all. Fine a all (node pull 0 (length ((rest ++ more) ++ behind)) ∷ nodes)) (append_assoc parts (rest ++ more) behind) then_ in
    subst (λ all. Fine a (parts ++ all) (node pull 0 (length all) ∷ nodes)) (append_assoc rest more behind) placed

pub own_of : {below : ℕ} {nodes : List OpenNode} {a : List Written} {wanted : List Wanted} → Fine a wanted (node 0 0 below ∷ nodes) → Own below 0 nodes a wanted
own_of f = record { deepest = 0; least = omega arith; fine = f }

-- ---- words of its own

pub next_word : {below deep : ℕ} {nodes : List OpenNode} {w : Written} {a : List Written} {wanted : List Wanted} → Own below deep nodes (w ∷ a) wanted
    → {parts behind : List Wanted} → meets (written_word w) wanted ≡ takes (goes_on parts) behind → below ≤ length behind
    → Own below deep nodes a (parts ++ behind)
next_word {below = below} {nodes = nodes} {w = w} {a = a} {wanted = wanted} o {parts = parts} {behind = behind} met less =
    let stay = stays (length behind + 1) 0 o.deepest below nodes (omega arith) in
    let least = o.least in
    record {
      deepest = max o.deepest 0;
      least = omega arith;
      fine = subst (λ (n : Nest). Fine a (parts ++ behind) n.nodes) stay
          (took w a wanted (node 0 o.deepest below ∷ nodes) (goes_on parts) behind met o.fine);
    }

pub word_behind : {below deep : ℕ} {nodes : List OpenNode} {w : Written} {a : List Written} {next : Wanted} {wanted : List Wanted}
    → At below deep nodes next wanted (w ∷ a) → {parts behind : List Wanted}
    → meets (written_word w) (next ∷ wanted) ≡ takes (goes_on parts) behind → below ≤ length behind → length behind + 1 ≤ length wanted
    → Own below deep nodes a (parts ++ behind)
word_behind {below = below} {nodes = nodes} {w = w} {a = a} {next = next} {wanted = wanted} p {parts = parts} {behind = behind} met less more =
    let part = p.part in
    let ends : ended (length behind + 1) closed part.open_nodes ≡ nest (node 0 (max p.own part.deepest) below ∷ nodes) part.deepest =
    part.ends (length behind + 1) closed (inside more) ∙ stays (length behind + 1) part.deepest p.own below nodes (omega arith) in
    let bound = p.bound in
    let deep = part.deep in
    record {
      deepest = max p.own part.deepest;
      least = omega arith;
      fine = subst (λ (n : Nest). Fine a (parts ++ behind) n.nodes) ends
          (took w a (next ∷ wanted) part.open_nodes (goes_on parts) behind met part.fine);
    }

-- ---- ends

within_one : (wanted pull behind : ℕ) → EndsAt closed behind wanted pull → wanted ≤ behind + 1
within_one wanted pull behind (inside h) = omega arith
within_one wanted pull behind (taken h two less) = h

no_pull : (pull : ℕ) → 2 ≤ pull → pull < 1 → ⊥
no_pull pull two less = omega arith

inside_far : (wanted pull behind : ℕ) → EndsAt 1 behind wanted pull → wanted ≤ behind
inside_far wanted pull behind (inside h) = h
inside_far wanted pull behind (taken h two less) = absurd (no_pull pull two less)

-- a node ends with a word of its own
pub closes : {deep : ℕ} {nodes : List OpenNode} {a : List Written} {next : Wanted} {behind : List Wanted}
    → Own (length (next ∷ behind)) deep nodes a (next ∷ behind) → {depth : ℕ} → depth ≤ deep + 1 → Part depth closed next behind nodes a
closes {nodes = nodes} {next = next} {behind = behind} o less =
    let least = o.least in
    record {
      open_nodes = node 0 o.deepest (length (next ∷ behind)) ∷ nodes;
      deepest = max o.deepest 0 + 1;
      deep = omega arith;
      ends = λ wanted pull end.
          let within = within_one wanted pull (length behind) end in
          goes wanted pull 0 0 o.deepest (length (next ∷ behind)) nodes (omega arith);
      fine = o.fine;
    }

-- a node ends with its last part
pub far_closes : {deep : ℕ} {nodes : List OpenNode} {a : List Written} {next : Wanted} {behind : List Wanted}
    → At (length behind) deep nodes next behind a → {depth : ℕ} → depth ≤ deep + 1 → Part depth 1 next behind nodes a
far_closes {nodes = nodes} {behind = behind} p less =
    let part = p.part in
    let bound = p.bound in
    let deep = part.deep in
    record {
      open_nodes = part.open_nodes;
      deepest = max p.own part.deepest + 1;
      deep = omega arith;
      ends = λ wanted pull end.
          let within = inside_far wanted pull (length behind) end in
          part.ends wanted pull (inside within) ∙ goes wanted pull part.deepest 0 p.own (length behind) nodes within;
      fine = part.fine;
    }

-- a part of what stands round it is hidden by a deeper one
pub unraised : {less depth reach : ℕ} {nodes : List OpenNode} {a : List Written} {next : Wanted} {behind : List Wanted} → less ≤ depth
    → Part depth reach next behind (raise less nodes) a → Part depth reach next behind nodes a
unraised {less = less} {nodes = nodes} h p =
    let deep = p.deep in
    record {
      open_nodes = p.open_nodes;
      deepest = p.deepest;
      deep = p.deep;
      fine = p.fine;
      ends = λ wanted pull end. p.ends wanted pull end ∙ raise_hidden wanted pull less p.deepest nodes (omega arith);
    }

pub lower : {less depth reach : ℕ} {nodes : List OpenNode} {a : List Written} {next : Wanted} {behind : List Wanted} → less ≤ depth
    → Part depth reach next behind nodes a → Part less reach next behind nodes a
lower h p = record { open_nodes = p.open_nodes; deepest = p.deepest; deep = (let d = p.deep in omega arith); ends = p.ends; fine = p.fine }

-- ---- nodes that grow by a word between parts: unions, products and patterns that are joined

pub record Joined (start : Wanted) (pull deep : ℕ) (behind : List Wanted) (nodes : List OpenNode) (a : List Written) : Type 0 where
  pub deepest : ℕ
  pub least : deep ≤ deepest
  pub hidden : ℕ
  pub hides : hidden ≤ deepest
  pub fine : Fine a (start ∷ behind) (node pull deepest (length behind) ∷ raise hidden nodes)

added_new : (pull wanted low depth : ℕ) (new : OpenNode) (nodes : List OpenNode) → Calm wanted low nodes → low < pull
    → added pull new (raise depth nodes) ≡ new ∷ raise depth nodes
added_new pull wanted low depth new [] calm less = refl
added_new pull wanted low depth new (n ∷ nodes) calm less =
    let weaker = calm.1 in
    let no : (n.pull == pull) ≡ false = grind (arith, nat_tests) in
    ap (λ b. if b then with_part depth n ∷ nodes else new ∷ with_part depth n ∷ nodes) no

pub join_first : {depth reach : ℕ} {start next : Wanted} {behind : List Wanted} {nodes : List OpenNode} {w : Written} {a : List Written}
    → Part depth reach next behind nodes (w ∷ a) → {pull : ℕ}
    → meets (written_word w) (next ∷ behind) ≡ takes (adds pull (start ∷ [])) behind → 2 ≤ pull → pull < reach → (low : ℕ)
    → Calm (length behind + 1) low nodes → low < pull → Joined start pull depth behind nodes a
join_first {start = start} {next = next} {behind = behind} {nodes = nodes} {w = w} {a = a} p {pull = pull} met two less low calm weaker =
    let ends : ended (length behind + 1) pull p.open_nodes ≡ nest (raise p.deepest nodes) p.deepest =
    p.ends (length behind + 1) pull (taken (omega arith) two less) ∙ calm_ends (length behind + 1) pull low p.deepest nodes calm (omega arith) in
    let now : Fine a (start ∷ behind) (with_turn (adds pull (start ∷ [])) behind (ended (length behind + 1) pull p.open_nodes)) =
    took w a (next ∷ behind) p.open_nodes (adds pull (start ∷ [])) behind met p.fine in
    let then_ : Fine a (start ∷ behind) (added pull (node pull p.deepest (length behind)) (raise p.deepest nodes)) =
    subst (λ n. Fine a (start ∷ behind) (with_turn (adds pull (start ∷ [])) behind n)) ends now in
    record {
      deepest = p.deepest;
      least = p.deep;
      hidden = p.deepest;
      hides = omega arith;
      fine = subst (λ ns. Fine a (start ∷ behind) ns)
          (added_new pull (length behind + 1) low p.deepest (node pull p.deepest (length behind)) nodes calm weaker) then_;
    }

same_pull : (pull : ℕ) → (pull == pull) ≡ true
same_pull pull = grind (arith, nat_tests)

-- a part was read in such a node
pub record JoinedPart (next : Wanted) (pull deep reach : ℕ) (behind : List Wanted) (nodes : List OpenNode) (a : List Written) : Type 0 where
  pub own : ℕ
  pub depth : ℕ
  pub bound : deep ≤ max own depth
  pub hidden : ℕ
  pub hides : hidden ≤ own
  pub part : Part depth reach next behind (node pull own (length behind) ∷ raise hidden nodes) a

pub join_more : {deep reach : ℕ} {start next : Wanted} {behind : List Wanted} {nodes : List OpenNode} {w : Written} {a : List Written} {pull : ℕ}
    → JoinedPart next pull deep reach behind nodes (w ∷ a)
    → meets (written_word w) (next ∷ behind) ≡ takes (adds pull (start ∷ [])) behind → 2 ≤ pull → pull < reach → Joined start pull deep behind nodes a
join_more {start = start} {next = next} {behind = behind} {nodes = nodes} {w = w} {a = a} {pull = pull} j met two less =
    let p = j.part in
    let others = raise j.hidden nodes in
    let grown = node pull (max j.own p.deepest) (length behind) in
    let stay : end_over (length behind + 1) pull p.deepest (node pull j.own (length behind) ∷ others) ≡ nest (grown ∷ others) p.deepest =
    calm_ends (length behind + 1) pull pull p.deepest (node pull j.own (length behind) ∷ others) (omega arith, omega arith) (omega arith) in
    let ends : ended (length behind + 1) pull p.open_nodes ≡ nest (grown ∷ others) p.deepest =
    p.ends (length behind + 1) pull (taken (omega arith) two less) ∙ stay in
    let now : Fine a (start ∷ behind) (with_turn (adds pull (start ∷ [])) behind (ended (length behind + 1) pull p.open_nodes)) =
    took w a (next ∷ behind) p.open_nodes (adds pull (start ∷ [])) behind met p.fine in
    let then_ : Fine a (start ∷ behind) (added pull (node pull p.deepest (length behind)) (grown ∷ others)) =
    subst (λ n. Fine a (start ∷ behind) (with_turn (adds pull (start ∷ [])) behind n)) ends now in
    let bound = j.bound in
    let deep = p.deep in
    let hides = j.hides in
    record {
      deepest = max j.own p.deepest;
      least = omega arith;
      hidden = j.hidden;
      hides = omega arith;
      fine = subst (λ b. Fine a (start ∷ behind) (if b then grown ∷ others else node pull p.deepest (length behind) ∷ grown ∷ others)) (same_pull pull) then_;
    }

joined_ends : (wanted by reach pull depth own : ℕ) (behind : List Wanted) (others nodes : List OpenNode) → pull ≤ reach
    → ((wanted by : ℕ) → EndsAt reach (length behind) wanted by → end_over wanted by 0 nodes ≡ end_over wanted by depth (node pull own (length behind) ∷ others))
    → EndsAt pull (length behind) wanted by → end_over wanted by 0 nodes ≡ end_over wanted by (max own depth + 1) others
joined_ends wanted by reach pull depth own behind others nodes weaker ends (inside h) =
    ends wanted by (inside h) ∙ goes wanted by depth pull own (length behind) others h
joined_ends wanted by reach pull depth own behind others nodes weaker ends (taken h two less) =
    ends wanted by (taken h two (omega arith)) ∙ pulled wanted by depth pull own (length behind) others less

pub join_end : {deep reach : ℕ} {next : Wanted} {behind : List Wanted} {nodes : List OpenNode} {a : List Written} {pull : ℕ}
    → JoinedPart next pull deep reach behind nodes a → pull ≤ reach → {depth : ℕ} → depth ≤ deep + 1 → Part depth pull next behind nodes a
join_end {reach = reach} {behind = behind} {nodes = nodes} {pull = pull} j weaker less =
    let p = j.part in
    let bound = j.bound in
    let deep = p.deep in
    let hides = j.hides in
    record {
      open_nodes = p.open_nodes;
      deepest = max j.own p.deepest + 1;
      deep = omega arith;
      ends = λ wanted by end.
          joined_ends wanted by reach pull p.deepest j.own behind (raise j.hidden nodes) p.open_nodes weaker p.ends end
          ∙ raise_hidden wanted by j.hidden (max j.own p.deepest + 1) nodes (omega arith);
      fine = p.fine;
    }
