-- The bits of the floor after a step, and the number that they make. Assumes nothing.
use mathlib.Core.Path.{◌≡◌, refl, sym, ap, ap₂, ◌∙◌, subst}
use mathlib.Core.Bool.{Bool, true, false, cond}
use mathlib.Core.List.{List}
use Prim.Native.Nat.{ℕ, zero, suc, ◌+◌, ◌-◌, ◌*◌, ◌/◌, ◌%◌, ◌^◌, ◌≤◌, ◌<◌}
use native.Mathlib.Nat.{mul_comm, mul_assoc, mul-one, pow-suc, pow-zero}
use native.Mathlib.Decide.{ℕ_discrete, dec_lt}
use native.Mathlib.Omega.{arith}
use borrow.Author.Tests.{eq-eqb, ne_eqb, lt-leb, le-leb, eqb-true, eqb-false}
use lib.Dec.{eqb, leb}
use lib.ListN.{length, get_or, set}
use lib.Seq.{get_or-set_same}
use Rattle.memory.specs.Record.{field, place, stored, bit_at, fixed, head, head_place}
use Rattle.memory.specs.declared.Netlist.{Netlist}
use Rattle.memory.specs.declared.Arena.{Arena}
use Rattle.clauses.specs.Floor.{prefix}
use Rattle.reasons.specs.Claims.{Alike}
use Rattle.reasons.proofs.Valid.{alike_refl}
use Rattle.reasons.proofs.Frame.{length-stored, stored-after, stored-field, stored-none}
use Rattle.floor.specs.Place.{bit_of, floor_bit, is_idle, uncounted, cleared, lifted}

-- ---- the number that bits make

-- bits up to v decide the first v
pub prefix_same : (b c : ℕ → ℕ) (v : ℕ) → ((j : ℕ) → j ≤ v → b j ≡ c j) → prefix b v ≡ prefix c v
unfolding prefix
prefix_same b c zero s = refl
prefix_same b c (suc v) s = ap₂ (λ (x y : ℕ). 2 * x + y) (prefix_same b c v (λ j l. s j (omega arith))) (s (suc v) (omega arith))

twice : (x q : ℕ) → 2 * (x * q) ≡ x * (q * 2)
twice x q = mul_comm 2 (x * q) ∙ mul_assoc x q 2

-- zeros after the first v bits
pub prefix-zeros : (b : ℕ → ℕ) (v k : ℕ) → ((j : ℕ) → v < j → j ≤ v + k → b j ≡ 0) → prefix b (v + k) ≡ prefix b v * 2 ^ k
unfolding prefix
prefix-zeros b v zero z =
    let e : v + 0 ≡ v = omega arith in
    ap (prefix b) e ∙ sym (mul-one (prefix b v)) ∙ ap (λ (y : ℕ). prefix b v * y) (sym (pow-zero 2))
prefix-zeros b v (suc k) z =
    let e : v + suc k ≡ suc (v + k) = omega arith in
    let s : 2 * prefix b (v + k) + b (suc (v + k)) ≡ 2 * prefix b (v + k) = omega (arith, z (suc (v + k)) (omega arith) (omega arith)) in
    ap (prefix b) e ∙ s ∙ ap (λ (x : ℕ). 2 * x) (prefix-zeros b v k (λ j l h. z j l (omega arith))) ∙ twice (prefix b v) (2 ^ k)
    ∙ ap (λ (y : ℕ). prefix b v * y) (sym (pow-suc 2 k))

-- ---- a bit in memory

module _ (w : List ℕ) (nodes : ℕ) (room : 14 * nodes ≤ length w) where
  -- the word that is stored
  field_at : (v x : ℕ) → v < nodes → field (stored w nodes v 2 x) nodes v 2 ≡ x
  unfolding stored field
  field_at v x l = rw (lt-leb nodes v l) (get_or-set_same w (place v 2) x 0 (omega arith))

  bit-other : (v x u : ℕ) → (u ≡ v → ⊥) → bit_of (stored w nodes v 2 x) nodes u ≡ bit_of w nodes u
  unfolding bit_of
  bit-other v x u n = ap bit_at (stored-field w nodes v 2 x u 2 (omega arith) (omega arith) (λ e z. n e))

  pub cleared-other : (v u : ℕ) → (u ≡ v → ⊥) → bit_of (cleared w nodes v) nodes u ≡ bit_of w nodes u
  unfolding cleared
  cleared-other v u n = go (is_idle w nodes v) (eqb (bit_at (field w nodes v 2)) 1)
    where
      go : (a b : Bool)
          → bit_of (cond a (stored w nodes v 2 (uncounted (field w nodes v 2))) (cond b (stored w nodes v 2 (field w nodes v 2 - 4)) w)) nodes u ≡ bit_of w nodes u
      go true b = bit-other v (uncounted (field w nodes v 2)) u n
      go false true = bit-other v (field w nodes v 2 - 4) u n
      go false false = refl

  -- the bit of an idle node no longer counts
  pub cleared-idle : (v : ℕ) → v < nodes → is_idle w nodes v ≡ true → bit_of (cleared w nodes v) nodes v ≡ 2
  unfolding cleared bit_of
  cleared-idle v l i = rw i (ap bit_at (field_at v (uncounted (field w nodes v 2)) l) ∙ two (field w nodes v 2))
    where
      two : (fact : ℕ) → bit_at (uncounted fact) ≡ 2
      two fact = omega arith

  -- of another, a bit that is 1 becomes 0, and one that does not count stays
  pub cleared-one : (v : ℕ) → v < nodes → is_idle w nodes v ≡ false → bit_of w nodes v ≡ 1 → bit_of (cleared w nodes v) nodes v ≡ 0
  unfolding cleared bit_of
  cleared-one v l i e =
      rw (i, eq-eqb (bit_at (field w nodes v 2)) 1 e) (ap bit_at (field_at v (field w nodes v 2 - 4) l) ∙ four)
    where
      four : bit_at (field w nodes v 2 - 4) ≡ 0
      four = omega (arith, e)

  pub cleared-not : (v : ℕ) → is_idle w nodes v ≡ false → (bit_of w nodes v ≡ 1 → ⊥) → cleared w nodes v ≡ w
  unfolding cleared bit_of
  cleared-not v i n = rw (i, ne_eqb (bit_at (field w nodes v 2)) 1 n)

  pub lifted-other : (v u : ℕ) → (u ≡ v → ⊥) → bit_of (lifted w nodes v) nodes u ≡ bit_of w nodes u
  unfolding lifted
  lifted-other v u n = go (eqb (bit_at (field w nodes v 2)) 0)
    where
      go : (b : Bool) → bit_of (cond b (stored w nodes v 2 (field w nodes v 2 + 4)) w) nodes u ≡ bit_of w nodes u
      go true = bit-other v (field w nodes v 2 + 4) u n
      go false = refl

  pub lifted-zero : (v : ℕ) → v < nodes → bit_of w nodes v ≡ 0 → bit_of (lifted w nodes v) nodes v ≡ 1
  unfolding lifted bit_of
  lifted-zero v l e =
      rw (eq-eqb (bit_at (field w nodes v 2)) 0 e) (ap bit_at (field_at v (field w nodes v 2 + 4) l) ∙ four)
    where
      four : bit_at (field w nodes v 2 + 4) ≡ 1
      four = omega (arith, e)

-- ---- what is fixed stays

module _ (net : Netlist) (arena : Arena) (w : List ℕ) (room : 14 * net.nodes + arena.used + 6 * arena.count ≤ net.words)
    (within : net.words ≤ length w) where
  fixed-at : (v x : ℕ) → fixed x ≡ fixed (field w net.nodes v 2) → fixed (field (stored w net.nodes v 2 x) net.nodes v 2) ≡ fixed (field w net.nodes v 2)
  fixed-at v x e =
      elim (dec_lt v net.nodes) [
        | yes l ↦ ap fixed (field_at w net.nodes (omega arith) v x l) ∙ e
        | no l ↦ ap (λ (u : List ℕ). fixed (field u net.nodes v 2)) (stored-none w net.nodes v 2 x (omega arith))
      ]

  fixed-all : (v x : ℕ) → fixed x ≡ fixed (field w net.nodes v 2) → (u : ℕ)
      → fixed (field (stored w net.nodes v 2 x) net.nodes u 2) ≡ fixed (field w net.nodes u 2)
  fixed-all v x e u =
      elim (ℕ_discrete u v) [
        | no n ↦ ap fixed (stored-field w net.nodes v 2 x u 2 (omega arith) (omega arith) (λ s z. n s))
        | yes s ↦
            subst (λ (k : ℕ). fixed (field (stored w net.nodes v 2 x) net.nodes k 2) ≡ fixed (field w net.nodes k 2)) (sym s) (fixed-at v x e)
      ]

  fact-alike : (v x : ℕ) → fixed x ≡ fixed (field w net.nodes v 2) → Alike net arena w (stored w net.nodes v 2 x)
  unfolding head_place
  fact-alike v x e =
      record {
        long = length-stored w net.nodes v 2 x;
        node = λ u f l. stored-field w net.nodes v 2 x u f (omega arith) (omega arith) (λ s z. omega arith);
        fixed = fixed-all v x e;
        clause = λ p l. stored-after w net.nodes v 2 x (14 * net.nodes + p) (omega arith) (omega arith);
        head = λ c f l k. stored-after w net.nodes v 2 x (head_place net.words c f) (omega arith) (omega arith);
      }

  pub cleared-alike : (v : ℕ) → Alike net arena w (cleared w net.nodes v)
  unfolding cleared
  cleared-alike v = go (is_idle w net.nodes v) (eqb (bit_at (field w net.nodes v 2)) 1) refl
    where
      go : (a b : Bool) → eqb (bit_at (field w net.nodes v 2)) 1 ≡ b
          → Alike net arena w
          (cond a (stored w net.nodes v 2 (uncounted (field w net.nodes v 2))) (cond b (stored w net.nodes v 2 (field w net.nodes v 2 - 4)) w))
      go true b e = fact-alike v (uncounted (field w net.nodes v 2)) (omega arith)
      go false false e = alike_refl net arena w
      go false true e = let f = eqb-true (bit_at (field w net.nodes v 2)) 1 e in fact-alike v (field w net.nodes v 2 - 4) (omega arith)

  pub lifted-alike : (v : ℕ) → Alike net arena w (lifted w net.nodes v)
  unfolding lifted
  lifted-alike v = go (eqb (bit_at (field w net.nodes v 2)) 0)
    where
      go : (b : Bool) → Alike net arena w (cond b (stored w net.nodes v 2 (field w net.nodes v 2 + 4)) w)
      go false = alike_refl net arena w
      go true = fact-alike v (field w net.nodes v 2 + 4) (omega arith)
