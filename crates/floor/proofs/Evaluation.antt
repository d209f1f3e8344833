-- Evaluation at the floor: where it says that the root is true, the floor is a hit. Assumes nothing.
use mathlib.Core.Path.{◌≡◌, refl, sym, ap, ap₂, ◌∙◌, subst}
use mathlib.Core.Bool.{Bool, true, false, not, cond, ◌&&◌}
use mathlib.Core.List.{List}
use Prim.Native.Nat.{ℕ, zero, suc, ◌+◌, ◌-◌, ◌*◌, ◌/◌, ◌%◌, ◌^◌, ◌≤◌, ◌<◌}
use native.Mathlib.Decide.{ℕ_discrete}
use native.Mathlib.Omega.{arith}
use borrow.Author.Tests.{eq-eqb, ne_eqb, eqb-true, eqb-false, leb-true, leb-false, le-leb, lt-leb}
use lib.Dec.{T, eqb, leb}
use lib.ListN.{length, get_or}
use lib.Seq.{get_or-set_same}
use Rattle.aiger.specs.Bits.{nonzero, odd, bit}
use Rattle.aiger.specs.Frames.{value, free_bit}
use Rattle.memory.specs.Record.{field, place, stored, bit_at}
use Rattle.memory.specs.declared.Netlist.{Netlist}
use Rattle.memory.specs.declared.Arena.{Arena}
use Rattle.clauses.specs.Clause.{GateOf}
use Rattle.clauses.specs.Floor.{Free, prefix}
use Rattle.clauses.proofs.Raise.{prefix-at, prefix-mod}
use Rattle.reasons.specs.Claims.{Same}
use Rattle.reasons.proofs.Valid.{same_refl, same-trans}
use Rattle.reasons.proofs.Frame.{length-stored, stored-field, stored_same}
use Rattle.floor.specs.Place.{bit_of, floor_bit, edge, node_value, evaluated}
use Rattle.floor.proofs.Rise.{bits, digits}

-- a value as a word
abbrev num : Bool → ℕ
num b = cond b 1 0

-- the word of a value that was stored
stored-pos : (w : List ℕ) (nodes v x : ℕ) → 14 * nodes ≤ length w → v < nodes → field (stored w nodes v 3 x) nodes v 3 ≡ x
unfolding stored field
stored-pos w nodes v x long l = rw (lt-leb nodes v l) (get_or-set_same w (place v 3) x 0 (omega arith))

num-one : (b : Bool) → num b ≡ 1 → T b
num-one true e = tt
num-one false e = absurd (omega arith)

num-not : (b : Bool) → cond (eqb (num b) 0) 1 0 ≡ num (not b)
num-not true = refl
num-not false = refl

num-and : (x y : Bool) → cond (eqb (num x) 0) 0 (num y) ≡ num (x && y)
num-and true y = refl
num-and false y = refl

module _ (net : Netlist) (w : List ℕ) (a : ℕ → Bool) (long : 14 * net.nodes ≤ length w) (none : a 0 ≡ false)
    (leaf : (v : ℕ) → 1 ≤ v → v ≤ net.free → floor_bit w net.nodes v ≡ num (a v))
    (gate : (v : ℕ) → net.free < v → v < net.nodes → GateOf a v (field w net.nodes v 0) (field w net.nodes v 1))
    (left : (v : ℕ) → net.free < v → v < net.nodes → field w net.nodes v 0 / 2 < v)
    (right : (v : ℕ) → net.free < v → v < net.nodes → field w net.nodes v 1 / 2 < v) where
  -- the first v nodes have their values in u, whose other words are w's
  pub record Done (u : List ℕ) (v : ℕ) : Type 0 where
    pub size : length u ≡ length w
    pub kept : (x f : ℕ) → f < 3 → field u net.nodes x f ≡ field w net.nodes x f
    pub value : (x : ℕ) → x < v → field u net.nodes x 3 ≡ num (a x)

  edge-value : (u : List ℕ) (v e : ℕ) → Done u v → e / 2 < v → edge u net.nodes e ≡ num (value a e)
  unfolding edge
  edge-value u v e done l =
      let x = done.value (e / 2) l in
      elim (ℕ_discrete (e % 2) 0) [
        | yes z ↦ rw (eq-eqb (e % 2) 0 z) (x ∙ ap (λ (k : ℕ). num (cond (nonzero k) (not (a (e / 2))) (a (e / 2)))) (sym z))
        | no z ↦
            let o : e % 2 ≡ 1 = omega arith in
            rw (ne_eqb (e % 2) 0 z, x)
            (num-not (a (e / 2)) ∙ ap (λ (k : ℕ). num (cond (nonzero k) (not (a (e / 2))) (a (e / 2)))) (sym o))
      ]

  node-value : (u : List ℕ) (v : ℕ) → Done u v → v < net.nodes → node_value u net v ≡ num (a v)
  unfolding node_value bit_of
  node-value u v done l = go (ℕ_discrete v 0) (leb v net.free) refl
    where
      go : Dec (v ≡ 0) → (b : Bool) → leb v net.free ≡ b
          → cond (eqb v 0) 0
          (cond b (cond (eqb (bit_at (field u net.nodes v 2)) 1) 1 0)
          (cond (eqb (edge u net.nodes (field u net.nodes v 0)) 0) 0 (edge u net.nodes (field u net.nodes v 1)))) ≡ num (a v)
      go (yes z) b e = rw (eq-eqb v 0 z) (ap num (sym (ap a z ∙ none)))
      go (no z) true e =
          rw (ne_eqb v 0 z)
          (ap (λ (k : ℕ). cond (eqb (bit_at k) 1) 1 0) (done.kept v 2 (omega arith)) ∙ leaf v (omega arith) (leb-true v net.free e))
      go (no z) false e =
          let h = leb-false v net.free e in
          let p = field w net.nodes v 0 in
          let q = field w net.nodes v 1 in
          let f = ap (edge u net.nodes) (done.kept v 0 (omega arith)) ∙ edge-value u v p done (left v h l) in
          let g = ap (edge u net.nodes) (done.kept v 1 (omega arith)) ∙ edge-value u v q done (right v h l) in
          rw (ne_eqb v 0 z) (ap₂ (λ (x y : ℕ). cond (eqb x 0) 0 y) f g ∙ num-and (value a p) (value a q) ∙ ap num (sym (gate v h l)))

  done_more : (u : List ℕ) (v : ℕ) → Done u v → v < net.nodes → Done (stored u net.nodes v 3 (node_value u net v)) (v + 1)
  done_more u v done l =
      let y = node_value u net v in
      record {
        size = length-stored u net.nodes v 3 y ∙ done.size;
        kept = λ x f h. stored-field u net.nodes v 3 y x f (omega arith) (omega arith) (λ e z. omega arith) ∙ done.kept x f h;
        value = λ x h.
            elim (ℕ_discrete x v) [
              | yes e ↦
                  ap (λ (k : ℕ). field (stored u net.nodes v 3 y) net.nodes k 3) e ∙ stored-pos u net.nodes v y (omega (arith, done.size)) l
                  ∙ node-value u v done l ∙ ap (λ (k : ℕ). num (a k)) (sym e)
              | no e ↦ stored-field u net.nodes v 3 y x 3 (omega arith) (omega arith) (λ z s. e z) ∙ done.value x (omega arith)
            ];
      }

  all_done : (u : List ℕ) (v k : ℕ) → v + k ≡ net.nodes → Done u v → Done (evaluated u net v k) net.nodes
  unfolding evaluated
  all_done u v zero e done = let s : v ≡ net.nodes = omega arith in subst (Done u) s done
  all_done u v (suc k) e done =
      all_done (stored u net.nodes v 3 (node_value u net v)) (v + 1) k (omega arith) (done_more u v done (omega arith))

  -- the root is true at the assignment whose free bits are the floor's
  pub show-true : net.root / 2 < net.nodes → eqb (edge (evaluated w net 0 net.nodes) net.nodes net.root) 1 ≡ true → T (value a net.root)
  show-true h e =
      let begin : Done w 0 = record { size = refl; kept = λ x f l. refl; value = λ x l. absurd (omega arith) } in
      let end = all_done w 0 net.nodes (omega arith) begin in
      let u = evaluated w net 0 net.nodes in
      num-one (value a net.root) (sym (edge-value u net.nodes net.root end h) ∙ eqb-true (edge u net.nodes net.root) 1 e)

-- evaluation leaves the claimed words
pub evaluate-same : (net : Netlist) (arena : Arena) (w : List ℕ) → 14 * net.nodes + arena.used + 6 * arena.count ≤ net.words → (v k : ℕ)
    → Same net arena w (evaluated w net v k)
unfolding evaluated
evaluate-same net arena w room v zero = same_refl net arena w
evaluate-same net arena w room v (suc k) =
    let u = stored w net.nodes v 3 (node_value w net v) in
    same-trans (stored_same net arena w room v 3 (node_value w net v) (omega arith) (omega arith)) (evaluate-same net arena u room (v + 1) k)

-- ---- the bits of the floor are the free bits of its place

as-num : (d : ℕ) → d < 2 → d ≡ num (nonzero d)
as-num zero h = refl
as-num (suc zero) h = refl
as-num (suc (suc d)) h = absurd (omega arith)

pub place-bit : (w : List ℕ) (nodes n j : ℕ) → j < n → bits w nodes (j + 1) ≡ num (free_bit n (prefix (bits w nodes) n) j)
unfolding bit
place-bit w nodes n j l =
    let b = bits w nodes in
    let s : suc j ≡ j + 1 = omega arith in
    let e : prefix b n / 2 ^ (n - (j + 1)) ≡ prefix b (j + 1) = prefix-at n b (digits w nodes) (j + 1) (n - (j + 1)) (omega arith) in
    let f : prefix b (j + 1) % 2 ≡ b (j + 1) = subst (λ (k : ℕ). prefix b k % 2 ≡ b k) s (prefix-mod b j (digits w nodes (suc j))) in
    as-num (b (j + 1)) (digits w nodes (j + 1)) ∙ ap (λ (k : ℕ). num (nonzero k)) (sym (ap (λ (k : ℕ). k % 2) e ∙ f))

-- where the values at each place obey the gates, and evaluation at the floor says true, the floor's place is a hit
pub show-hit : (net : Netlist) (w : List ℕ) (val : ℕ → ℕ → Bool) → Free net.free val → 14 * net.nodes ≤ length w → ((x : ℕ) → val x 0 ≡ false)
    → ((x v : ℕ) → net.free < v → v < net.nodes → GateOf (val x) v (field w net.nodes v 0) (field w net.nodes v 1))
    → ((v : ℕ) → net.free < v → v < net.nodes → field w net.nodes v 0 / 2 < v)
    → ((v : ℕ) → net.free < v → v < net.nodes → field w net.nodes v 1 / 2 < v) → net.root / 2 < net.nodes
    → eqb (edge (evaluated w net 0 net.nodes) net.nodes net.root) 1 ≡ true
    → T (value (val (prefix (bits w net.nodes) net.free)) net.root)
show-hit net w val free long none gate left right root e =
    let p = prefix (bits w net.nodes) net.free in
    let leaf : (v : ℕ) → 1 ≤ v → v ≤ net.free → floor_bit w net.nodes v ≡ num (val p v) =
    λ v l h.
    let j = v - 1 in
    let s : j + 1 ≡ v = omega arith in
    subst (λ (k : ℕ). floor_bit w net.nodes k ≡ num (val p k)) s
    (place-bit w net.nodes net.free j (omega arith) ∙ ap num (sym (free p j (omega arith)))) in
    show-true net w (val p) long (none p) leaf (gate p) left right root e
