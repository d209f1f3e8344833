-- The lines of a folded circuit by the words of working memory are those that write gives. Assumes nothing.
use mathlib.Core.Path.{◌≡◌, refl, sym, ap, ap₂, ◌∙◌}
use mathlib.Core.Bool.{Bool, true, false, cond}
use mathlib.Core.List.{List, [], ◌∷◌, ◌++◌, map, append-nil, append_assoc, map-append}
use mathlib.Core.Logic.{◌⊎◌, inl, inr, ⊎_elim}
use Prim.Native.Nat.{ℕ, zero, suc, ◌+◌, ◌-◌, ◌*◌, ◌%◌, ◌≤◌, ◌<◌}
use native.Mathlib.Omega.{arith}
use borrow.Author.Tests.{ne_eqb}
use lib.Dec.{T, eqb}
use lib.ListN.{length, get_or, length-append}
use lib.Seq.{sets, sets-eq, length-sets}
use Rattle.aiger.specs.Lists.{upto}
use Rattle.aiger.specs.Text.{bytes, digits}
use Rattle.aiger.specs.Circuit.{Gate, var}
use Rattle.aiger.specs.Write.{line_of, lines_of, literal_row, gate_row, write}
use Rattle.aiger.proofs.Tests.{true-T, T_true}
use Rattle.meaning.proofs.Lists.{map-upto-suc, length-map-upto}
use Rattle.literals.specs.Literal.{word_of}
use Rattle.literals.specs.declared.Lit.{Lit}
use Rattle.nodes.specs.Graph.{Pair, pair_at, nodes}
use Rattle.nodes.specs.Store.{field, pair_of, pairs_of}
use Rattle.nodes.specs.Edges.{word_edge}
use Rattle.nodes.specs.declared.Graph.{Graph}
use Rattle.nodes.specs.declared.Edge.{Edge}
use Rattle.nodes.proofs.Laws.{length-pairs_of, nodes-pairs_of, pair_at-pairs_of, edge-word}
use Rattle.cone.specs.Cone.{in_cone, kept_before, number, Numbered, renumbered, kept_gate, kept_gates, folded}
use Rattle.cone.proofs.Cone.{root_kept, number-gate, number_bound, before-bound}
use Rattle.cone.proofs.Gates.{length-gates, operand-numbered}
use Rattle.output.specs.Row.{ending, row_text, number_text}
use Rattle.output.proofs.Row.{row_line}
use Rattle.output.proofs.Output.{Rest, rest-start, placed-more}
use Rattle.output.specs.Output.{put_text, Room, Placed}
use Rattle.numbers.proofs.Digits.{digits-short}
use Rattle.fold.specs.Text.{literal_of, literal_word, gate_text, gates_text, inputs_text, head_text, NodeFits, GateFits, GatesFit, folded_in, Writable}

-- ---- texts of lists

pub lines-append : (a b : List (List ℕ)) → lines_of (a ++ b) ≡ lines_of a ++ lines_of b
unfolding lines_of
lines-append [] b = refl
lines-append ([] ∷ a) b = lines-append a b
lines-append ((n ∷ ns) ∷ a) b = ap (λ (w : List ℕ). line_of n ns ++ w) (lines-append a b) ∙ sym (append_assoc (line_of n ns) (lines_of a) (lines_of b))

pub one_line : (n : ℕ) (ns : List ℕ) → lines_of ((n ∷ ns) ∷ []) ≡ line_of n ns
unfolding lines_of
one_line n ns = append-nil (line_of n ns)

none-line : lines_of [] ≡ []
unfolding lines_of
none-line = refl

false-not : false ≡ true → ⊥
false-not e = let z : ◌≡◌ {A = ℕ} 0 1 = cc in omega arith

lt-or : (a b : ℕ) → (a < b) ⊎ (b ≤ a)
lt-or a zero = inr (omega arith)
lt-or zero (suc b) = inl (omega arith)
lt-or (suc a) (suc b) = ⊎_elim (λ h. inl (omega arith)) (λ h. inr (omega arith)) (lt-or a b)

-- rows of one, three and seven numbers
pub line-one : (a : ℕ) → number_text a 0 ≡ line_of a []
unfolding line_of
line-one a = refl

pub line-three : (a b c : ℕ) → row_text (a ∷ b ∷ c ∷ []) 0 3 ≡ line_of a (b ∷ c ∷ [])
line-three a b c = row_line (a ∷ b ∷ c ∷ []) 0 2

pub line-seven : (a b c d e f g : ℕ) → row_text (a ∷ b ∷ c ∷ d ∷ e ∷ f ∷ g ∷ []) 0 7 ≡ line_of a (b ∷ c ∷ d ∷ e ∷ f ∷ g ∷ [])
line-seven a b c d e f g = row_line (a ∷ b ∷ c ∷ d ∷ e ∷ f ∷ g ∷ []) 0 6

-- the bytes before the header's numbers, and the numbers
pub head-room : (out : List ℕ) (n kept : ℕ) → Room out 0 (head_text n kept)
    → Room (sets out 0 (bytes "aag ")) 4 (row_text ((n + kept) ∷ n ∷ 0 ∷ 1 ∷ kept ∷ 0 ∷ 0 ∷ []) 0 7)
head-room out n kept h =
    let l = line_of (n + kept) (n ∷ 0 ∷ 1 ∷ kept ∷ 0 ∷ 0 ∷ []) in
    rw (line-seven (n + kept) n 0 1 kept 0 0)
    (omega (arith, length-append (bytes "aag ") l, length-sets out 0 (bytes "aag ")))

pub head-placed : (out : List ℕ) (n kept : ℕ) {end : ℕ} {last : List ℕ} → Room out 0 (head_text n kept)
    → Placed (sets out 0 (bytes "aag ")) 4 (row_text ((n + kept) ∷ n ∷ 0 ∷ 1 ∷ kept ∷ 0 ∷ 0 ∷ []) 0 7) end last
    → Placed out 0 (head_text n kept) end last
unfolding put_text
head-placed out n kept h p =
    let l = line_of (n + kept) (n ∷ 0 ∷ 1 ∷ kept ∷ 0 ∷ 0 ∷ []) in
    let room : Room out 0 (bytes "aag ") = omega (arith, length-append (bytes "aag ") l) in
    placed-more {u = bytes "aag "} room (record { past = refl; contents = sets-eq (bytes "aag ") out 0 room }) (rw (line-seven (n + kept) n 0 1 kept 0 0) at p)

-- ---- inputs

pub inputs-more : (j : ℕ) → inputs_text (suc j) ≡ inputs_text j ++ number_text (2 * (j + 1)) 0
unfolding inputs_text line_of
inputs-more j = refl

pub inputs-lines : (n : ℕ) → lines_of (map literal_row (map (λ j. 2 * (j + 1)) (upto n))) ≡ inputs_text n
unfolding inputs_text lines_of
inputs-lines zero = refl
inputs-lines (suc n) =
    let f : ℕ → ℕ = λ j. 2 * (j + 1) in
    ap (λ (l : List ℕ). lines_of (map literal_row l)) (map-upto-suc f n)
    ∙ ap lines_of (map-append literal_row (map f (upto n)) (f n ∷ []))
    ∙ lines-append (map literal_row (map f (upto n))) (literal_row (f n) ∷ [])
    ∙ ap₂ (λ (u v : List ℕ). u ++ v) (inputs-lines n) (append-nil (line_of (f n) []))

-- ---- gates

pub gates-more : (work : List ℕ) (first j : ℕ) → gates_text work first (suc j) ≡ gates_text work first j ++ gate_text work (first + j)
unfolding gates_text
gates-more work first j = refl

pub gates-none : (work : List ℕ) (first : ℕ) → gates_text work first 0 ≡ []
unfolding gates_text
gates-none work first = refl

pub inputs-none : inputs_text 0 ≡ []
unfolding inputs_text
inputs-none = refl

-- the line of a gate that has a number, and of one that has none
pub gate-line : (work : List ℕ) (k own left right : ℕ) → (field work k 10 ≡ 0 → ⊥) → own ≡ 2 * field work k 10 → left ≡ literal_word work (get_or work (16 * k) 0)
    → right ≡ literal_word work (field work k 1) → row_text (own ∷ left ∷ right ∷ []) 0 3 ≡ gate_text work k
gate-line work k own left right z o a b =
    let e : 16 * k + 0 ≡ 16 * k = omega arith in
    rw (ne_eqb (field work k 10) 0 z, e, line-three own left right, o, a, b)

pub gate-none : (work : List ℕ) (k : ℕ) → field work k 10 ≡ 0 → gate_text work k ≡ []
gate-none work k z = rw z

pub gate-left : (work : List ℕ) (k : ℕ) → GateFits work k → NodeFits work (var (get_or work (16 * k) 0))
gate-left work k f = let e : 16 * k + 0 ≡ 16 * k = omega arith in rw e at f.left

-- ---- lengths

-- numbers below 1,000,000 have at most six digits
number_short : (n left : ℕ) → n < 200000 → length (number_text n left) ≤ 7
number_short n left h = omega (arith, length-append (digits n) (ending left ∷ []), digits-short 9 5 n (omega arith))

line-short : (n m : ℕ) (ns : List ℕ) → n < 200000 → length (line_of n (m ∷ ns)) ≤ 7 + length (line_of m ns)
unfolding line_of
line-short n m ns h =
    omega (
      arith,
      length-append (digits n ++ bytes " ") (line_of m ns),
      length-append (digits n) (bytes " "),
      digits-short 9 5 n (omega arith),
    )

last-short : (n : ℕ) → n < 200000 → length (line_of n []) ≤ 7
last-short n h = rw (← line-one n) (number_short n 0 h)

head-short : (n kept : ℕ) → n + kept < 65536 → length (head_text n kept) ≤ 53
head-short n kept h =
    omega (
      arith,
      length-append (bytes "aag ") (line_of (n + kept) (n ∷ 0 ∷ 1 ∷ kept ∷ 0 ∷ 0 ∷ [])),
      line-short (n + kept) n (0 ∷ 1 ∷ kept ∷ 0 ∷ 0 ∷ []) (omega arith),
      line-short n 0 (1 ∷ kept ∷ 0 ∷ 0 ∷ []) (omega arith),
      line-short 0 1 (kept ∷ 0 ∷ 0 ∷ []) (omega arith),
      line-short 1 kept (0 ∷ 0 ∷ []) (omega arith),
      line-short kept 0 (0 ∷ []) (omega arith),
      line-short 0 0 [] (omega arith),
      last-short 0 (omega arith),
    )

inputs_short : (n : ℕ) → n < 65536 → length (inputs_text n) ≤ 7 * n
unfolding inputs_text
inputs_short zero h = omega arith
inputs_short (suc n) h =
    omega (arith, length-append (inputs_text n) (line_of (2 * (n + 1)) []), inputs_short n (omega arith), last-short (2 * (n + 1)) (omega arith))

-- the number that is written for an edge
pub literal-told : (work : List ℕ) (w : ℕ) {e : Edge} {l : Lit} {r : ℕ} → e ≡ word_edge w → l ≡ literal_of work e → r ≡ word_of l → r ≡ literal_word work w
literal-told work w p q s = s ∙ ap word_of (q ∙ ap (literal_of work) p)

pub literal-small : (work : List ℕ) (w : ℕ) → field work (var w) 10 < 65536 → literal_word work w < 131072
literal-small work w h = omega (arith, edge-word w)

gate-short : (work : List ℕ) (k : ℕ) → GateFits work k → length (gate_text work k) ≤ 21
gate-short work k f = go (eqb (field work k 10) 0)
  where
    go : (b : Bool) → length (cond b [] (line_of (2 * field work k 10) (literal_word work (field work k 0) ∷ literal_word work (field work k 1) ∷ []))) ≤ 21
    go true = omega arith
    go false =
        let a = literal_word work (field work k 0) in
        let b = literal_word work (field work k 1) in
        omega (
          arith,
          line-short (2 * field work k 10) a (b ∷ []) (omega (arith, f.node.small)),
          line-short a b [] (omega (arith, literal-small work (field work k 0) f.left.small)),
          last-short b (omega (arith, literal-small work (field work k 1) f.right.small)),
        )

gates-short : (work : List ℕ) (first n : ℕ) → ((j : ℕ) → j < n → GateFits work (first + j)) → length (gates_text work first n) ≤ 21 * n
unfolding gates_text
gates-short work first zero each = omega arith
gates-short work first (suc n) each =
    omega (
      arith,
      length-append (gates_text work first n) (gate_text work (first + n)),
      gates-short work first n (λ j h. each j (omega arith)),
      gate-short work (first + n) (each n (omega arith)),
    )

-- ---- the circuit

regroup : (h l i o g : List ℕ) → h ++ l ++ i ++ [] ++ o ++ [] ++ [] ++ g ≡ (h ++ l) ++ (i ++ (o ++ g))
regroup h l i o g = simp (append_assoc, append-nil)

write-plain : (m o : ℕ) (ins : List ℕ) (gates : List Gate)
    → write (record { max_var = m; inputs = ins; latches = []; outputs = o ∷ []; bads = []; constraints = []; gates = gates })
    ≡ (bytes "aag " ++ line_of m (length ins ∷ 0 ∷ 1 ∷ length gates ∷ 0 ∷ 0 ∷ []))
    ++ (lines_of (map literal_row ins) ++ (line_of o [] ++ lines_of (map gate_row gates)))
unfolding write lines_of
write-plain m o ins gates =
    regroup (bytes "aag ") (line_of m (length ins ∷ 0 ∷ 1 ∷ length gates ∷ 0 ∷ 0 ∷ [])) (lines_of (map literal_row ins)) (line_of o [] ++ [])
    (lines_of (map gate_row gates))
    ∙ rw (append-nil (line_of o []))

module _ {work : List ℕ} {g : Graph} {root kept : ℕ} (w : Writable work g root kept) where
  count : g.free + 1 + length (pairs_of work g) ≡ g.nodes
  count = nodes-pairs_of work g w.sized.leaves

  -- the literal of an edge to a node that has a number
  literal-of : (e : ℕ) → var e < g.nodes → Numbered g.free (pairs_of work g) root (var e) → literal_word work e ≡ renumbered g.free (pairs_of work g) root e
  unfolding renumbered
  literal-of e h a = omega (arith, edge-word e, w.assigned.numbers (var e) h a)

  -- the line of a gate that is kept
  gate-kept : (j : ℕ) → j < length (pairs_of work g) → T (in_cone g.free (pairs_of work g) root (g.free + 1 + j))
      → gate_text work (g.free + 1 + j) ≡ lines_of (map gate_row (kept_gate g.free (pairs_of work g) root j ∷ []))
  unfolding kept_gate
  gate-kept j h t =
      let n = g.free in
      let gs = pairs_of work g in
      let k = n + 1 + j in
      let l : k < g.nodes = omega (arith, count) in
      let e : field work k 10 ≡ number n gs root k = w.assigned.numbers k l (inr t) in
      let z : field work k 10 ≡ 0 → ⊥ = λ q. omega (arith, e, number-gate n gs root j) in
      let p = pair_at-pairs_of work g j l in
      let a = (pair_at gs j).left in
      let b = (pair_at gs j).right in
      let u : a ≡ field work k 0 = ap (λ (x : Pair). x.left) p in
      let v : b ≡ field work k 1 = ap (λ (x : Pair). x.right) p in
      let left : literal_word work (field work k 0) ≡ renumbered n gs root a =
      ap (literal_word work) (sym u)
      ∙ literal-of a (omega (arith, w.built.earlier j h)) (operand-numbered n gs root w.built j (var a) h t (inl refl)) in
      let right : literal_word work (field work k 1) ≡ renumbered n gs root b =
      ap (literal_word work) (sym v)
      ∙ literal-of b (omega (arith, w.built.earlier j h, w.built.larger j h)) (operand-numbered n gs root w.built j (var b) h t (inr refl)) in
      rw (ne_eqb (field work k 10) 0 z, e, left, right)
      (sym (one_line (2 * number n gs root k) (renumbered n gs root a ∷ renumbered n gs root b ∷ [])))

  -- the lines of the first gates
  gates-lines : (j : ℕ) → j ≤ length (pairs_of work g)
      → lines_of (map gate_row (kept_gates g.free (pairs_of work g) root j)) ≡ gates_text work (g.free + 1) j
  unfolding kept_gates gates_text
  gates-lines zero h = lines-nil
    where
      lines-nil : lines_of [] ≡ []
      lines-nil = none-line
  gates-lines (suc j) h = go (in_cone g.free (pairs_of work g) root (g.free + 1 + j)) refl (gates-lines j (omega arith))
    where
      go : (b : Bool) → in_cone g.free (pairs_of work g) root (g.free + 1 + j) ≡ b
          → lines_of (map gate_row (kept_gates g.free (pairs_of work g) root j)) ≡ gates_text work (g.free + 1) j
          → lines_of (map gate_row (kept_gates g.free (pairs_of work g) root j ++ cond b (kept_gate g.free (pairs_of work g) root j ∷ []) []))
          ≡ gates_text work (g.free + 1) j ++ gate_text work (g.free + 1 + j)
      go true e q =
          let before = kept_gates g.free (pairs_of work g) root j in
          let gate = kept_gate g.free (pairs_of work g) root j ∷ [] in
          ap lines_of (map-append gate_row before gate) ∙ lines-append (map gate_row before) (map gate_row gate)
          ∙ ap₂ (λ (u v : List ℕ). u ++ v) q (sym (gate-kept j (omega arith) (T_true e)))
      go false e q =
          let before = kept_gates g.free (pairs_of work g) root j in
          let k = g.free + 1 + j in
          let z : field work k 10 ≡ 0 = w.assigned.zeros k (omega arith) (omega (arith, count)) (λ t. false-not (sym e ∙ true-T (in_cone g.free (pairs_of work g) root k) t)) in
          ap (λ (l : List Gate). lines_of (map gate_row l)) (append-nil before) ∙ q ∙ sym (append-nil (gates_text work (g.free + 1) j))
          ∙ ap (λ (l : List ℕ). gates_text work (g.free + 1) j ++ l) (sym (gate-none work k z))

  -- the text part after part
  pub text-parts : write (folded_in work g root)
      ≡ head_text g.free kept ++ (inputs_text g.free ++ (number_text (literal_word work root) 0 ++ gates_text work (g.free + 1) (g.nodes - (g.free + 1))))
  unfolding folded
  text-parts =
      let n = g.free in
      let gs = pairs_of work g in
      let f : ℕ → ℕ = λ j. 2 * (j + 1) in
      let a = kept_before n gs root (length gs) in
      let gates = kept_gates n gs root (length gs) in
      let o = renumbered n gs root root in
      let e : a ≡ kept = sym w.assigned.count in
      let i : length (map f (upto n)) ≡ n = length-map-upto f n in
      let k : length gates ≡ kept = length-gates n gs root (length gs) ∙ e in
      let x : lines_of (map literal_row (map f (upto n))) ≡ inputs_text n = inputs-lines n in
      let y : lines_of (map gate_row gates) ≡ gates_text work (n + 1) (length gs) = gates-lines (length gs) (omega arith) in
      let z : length gs ≡ g.nodes - (n + 1) = length-pairs_of work g in
      let r : literal_word work root ≡ o = literal-of root w.inside (inr (root_kept n gs root)) in
      let q : number_text (literal_word work root) 0 ≡ line_of (literal_word work root) [] = line-one (literal_word work root) in
      write-plain (n + a) o (map f (upto n)) gates ∙ rw (e, i, k, x, y, z, ← r, ← q)

  -- ---- bounds

  pub kept-few : g.free + kept < g.nodes
  kept-few = omega (arith, w.assigned.count, before-bound g.free (pairs_of work g) root (length (pairs_of work g)), count)

  -- every node has a number below 65,536 or none
  word_small : (k : ℕ) → k < g.nodes → field work k 10 < 65536
  word_small k h = go (in_cone g.free (pairs_of work g) root k) refl (lt-or g.free k)
    where
      bounded : Numbered g.free (pairs_of work g) root k → field work k 10 < 65536
      bounded a =
          omega (
            arith,
            w.assigned.numbers k h a,
            number_bound g.free (pairs_of work g) root k (omega (arith, count)) a,
            w.assigned.count,
            kept-few,
            w.sized.nodes,
            w.sized.room,
          )

      go : (b : Bool) → in_cone g.free (pairs_of work g) root k ≡ b → (g.free < k) ⊎ (k ≤ g.free) → field work k 10 < 65536
      go b e (inr l) = bounded (inl l)
      go true e (inl l) = bounded (inr (T_true e))
      go false e (inl l) = omega (arith, w.assigned.zeros k l h (λ t. false-not (sym e ∙ true-T (in_cone g.free (pairs_of work g) root k) t)))

  pub node-fits : (k : ℕ) → k < g.nodes → NodeFits work k
  node-fits k h = record { held = omega (arith, w.sized.nodes, w.sized.held); small = word_small k h }

  pub gates-fit : GatesFit work g
  gates-fit =
      record {
        sized = w.sized;
        each = λ k l h.
            let j = k - (g.free + 1) in
            let i : j < length (pairs_of work g) = omega (arith, count) in
            let s : g.free + 1 + j ≡ k = omega arith in
            let p : pair_at (pairs_of work g) j ≡ pair_of work k = pair_at-pairs_of work g j (omega arith) ∙ ap (pair_of work) s in
            let u : (pair_at (pairs_of work g) j).left ≡ field work k 0 = ap (λ (x : Pair). x.left) p in
            let v : (pair_at (pairs_of work g) j).right ≡ field work k 1 = ap (λ (x : Pair). x.right) p in
            record {
              node = node-fits k h;
              left = node-fits (var (field work k 0)) (omega (arith, u, w.built.earlier j i));
              right = node-fits (var (field work k 1)) (omega (arith, u, v, w.built.earlier j i, w.built.larger j i));
            };
      }

  -- an output with room for the text: before anything is written
  pub left-all : (out : List ℕ)
      → Rest out 0 (write (folded_in work g root)) out 0
      (head_text g.free kept ++ (inputs_text g.free ++ (number_text (literal_word work root) 0 ++ gates_text work (g.free + 1) (g.nodes - (g.free + 1)))))
  left-all out = rw (← text-parts) (rest-start out 0 (write (folded_in work g root)))

  -- the text is short

  pub text-short : length (write (folded_in work g root)) ≤ 24 * g.nodes + 64
  text-short =
      let n = g.free in
      let m = g.nodes - (n + 1) in
      let a = head_text n kept in
      let b = inputs_text n in
      let c = number_text (literal_word work root) 0 in
      let d = gates_text work (n + 1) m in
      let few = w.assigned.count in
      omega (
        arith,
        ap length text-parts,
        length-append a (b ++ (c ++ d)),
        length-append b (c ++ d),
        length-append c d,
        head-short n kept (omega (arith, kept-few, w.sized)),
        inputs_short n (omega (arith, w.sized)),
        number_short (literal_word work root) 0 (omega (arith, literal-small work root (word_small (var root) w.inside))),
        gates-short work (n + 1) m (λ j h. gates-fit.each (n + 1 + j) (omega arith) (omega arith)),
        w.sized.leaves,
      )
