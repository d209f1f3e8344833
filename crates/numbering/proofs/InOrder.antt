-- Circuits whose variables are numbered in the order of the binary form: inputs, latches, then gates, each after its operands. Nothing that
-- they use is undefined, and no gate depends on itself. Clause 12.1. Assumes nothing.
use mathlib.Core.Path.{◌≡◌, refl, sym, ap, ◌∙◌, subst}
use mathlib.Core.Bool.{Bool, true, not, ◌&&◌, ◌||◌}
use mathlib.Core.List.Memᴰ
use mathlib.Core.List.{List, [], ◌∷◌, ◌++◌, map, Memᴰ}
use Prim.Native.Nat.{ℕ, zero, suc, ◌+◌, ◌*◌, ◌≤◌, ◌<◌}
use native.Mathlib.Omega.{arith}
use lib.Dec.{T, leb, ltb, eqb, leb→le, le→leb, ltb→lt, eqb→eq}
use lib.ListN.{length, get_or}
use Rattle.aiger.specs.Lists.{every, member, distinct}
use Rattle.aiger.specs.Bits.{odd}
use Rattle.aiger.specs.Circuit.{Circuit, Gate, var, defined, used, literal_tests, literals_right, used_defined, acyclic}
use Rattle.aiger.specs.Binary.{implied}
use Rattle.aiger.proofs.Tests.{and, and_left, and_right, not_T, every-right, every-imp, all-at}
use Rattle.meaning.proofs.Lists.{mem-get_d, mem-at, every-at, every_in, every-both, pairwise-in, mem-member}
use Rattle.meaning.proofs.Shape.{not-odd}
use Rattle.meaning.proofs.Defined.{no_gate, gate_at, gate-in}
use Rattle.meaning.proofs.Cycles.{ranked}
pub use Rattle.roundtrip.proofs.LoadValid.{implied-length}

-- the second operand is not above the first, and the first is below the gate
abbrev pub descends : Gate → Bool
descends g = leb g.right g.left && ltb g.left g.lit

-- definitions are the literals 2, 4, .. to 2M in this order, and each gate comes after its operands
pub record InOrder (d : Circuit) : Type 0 where
  pub definitions : defined d ≡ implied 1 d.max_var
  pub gates : T (every descends d.gates)

-- ---- implied literals by position

pub implied-at : (v n j : ℕ) → j < n → get_or (implied v n) j 0 ≡ 2 * (v + j)
unfolding implied
implied-at v zero j h = absurd (omega arith)
implied-at v (suc n) zero h = omega arith
implied-at v (suc n) (suc j) h = implied-at (suc v) n j (omega arith) ∙ omega arith

pub implied-append : (v a b : ℕ) → implied v a ++ implied (v + a) b ≡ implied v (a + b)
unfolding implied
implied-append v zero b =
    let e : v + 0 ≡ v = omega arith in
    let z : 0 + b ≡ b = omega arith in
    rw (e, z)
implied-append v (suc a) b =
    let e : v + suc a ≡ suc v + a = omega arith in
    let z : suc a + b ≡ suc (a + b) = omega arith in
    rw (e, z, implied-append (suc v) a b)

-- ---- definitions that are listed in order

module _ (d : Circuit) (listed : defined d ≡ implied 1 d.max_var) where
  defined-length : length (defined d) ≡ d.max_var
  defined-length = ap length listed ∙ implied-length 1 d.max_var

  defined-at : (j : ℕ) → j < d.max_var → get_or (defined d) j 0 ≡ 2 * (j + 1)
  defined-at j h = ap (λ (l : List ℕ). get_or l j 0) listed ∙ implied-at 1 d.max_var j h ∙ omega arith

  variable-in : (v : ℕ) → v ≤ d.max_var → Memᴰ v (0 ∷ map var (defined d))
  variable-in zero h = Memᴰ.head refl
  variable-in (suc j) h =
      let e : suc j ≡ var (get_or (defined d) j 0) = omega (arith, defined-at j (omega arith)) in
      Memᴰ.tail (Memᴰ.cast e (Memᴰ.map var (mem-get_d (defined d) j 0 (omega (arith, defined-length)))))

  -- number 6 is not given where what is used is not too large and the resets are right
  pub listed-right : T (every (λ l. leb l (2 * d.max_var + 1)) (used d))
      → T (every (λ l. leb l.reset 1 || eqb l.reset l.lit) d.latches) → T (literals_right d)
  unfolding literals_right
  listed-right u r =
      let M = d.max_var in
      let t0 = every (λ l. leb l (2 * M + 1)) (defined d ++ used d) in
      let t1 = every (λ l. leb 2 l && not (odd l)) (defined d) in
      let t2 = distinct (defined d) in
      let t3 = every (λ l. leb l.reset 1 || eqb l.reset l.lit) d.latches in
      let low : T t0 =
      every-both (λ l. leb l (2 * M + 1)) (defined d) (used d)
      (each (λ l. leb l (2 * M + 1)) (λ v h k. le→leb (2 * v) (2 * M + 1) (omega arith))) u in
      let even : T t1 =
      each (λ l. leb 2 l && not (odd l)) (λ v h k. and (leb 2 (2 * v)) (not (odd (2 * v))) (le→leb 2 (2 * v) (omega arith)) (not-odd v)) in
      and t0 (t1 && (t2 && (t3 && true))) low (and t1 (t2 && (t3 && true)) even (and t2 (t3 && true) apart (and t3 true r tt)))
    where
      each : (p : ℕ → Bool) → ((v : ℕ) → 1 ≤ v → v ≤ d.max_var → T (p (2 * v))) → T (every p (defined d))
      each p h =
          subst (λ (l : List ℕ). T (every p l)) (sym listed)
          (every_in p (implied 1 d.max_var) 0
          (λ i k.
          let b : i < d.max_var = omega (arith, implied-length 1 d.max_var) in
          subst (λ (x : ℕ). T (p x)) (sym (implied-at 1 d.max_var i b)) (h (1 + i) (omega arith) (omega arith))))

      apart : T (distinct (defined d))
      apart =
          let ls = implied 1 d.max_var in
          subst (λ (l : List ℕ). T (distinct l)) (sym listed)
          (pairwise-in (λ x y. not (eqb x y)) (implied 1 d.max_var) 0
          (λ i j h k.
          let n : j < d.max_var = omega (arith, implied-length 1 d.max_var) in
          let a = implied-at 1 d.max_var i (omega arith) in
          let b = implied-at 1 d.max_var j n in
          not_T (eqb (get_or ls i 0) (get_or ls j 0)) (λ t. let e = eqb→eq (get_or ls i 0) (get_or ls j 0) t in omega arith)))

  -- number 7 is not given: a literal up to 2M+1 has a variable that is defined
  pub listed-defined : T (literals_right d) → T (used_defined d)
  unfolding literals_right used_defined
  listed-defined t =
      let m = 2 * d.max_var + 1 in
      let low = every-right (λ l. leb l m) (defined d) (used d) (all-at (literal_tests d) t 0) in
      every-imp (λ l. leb l m) (λ l. member (var l) (0 ∷ map var (defined d)))
      (λ l h. mem-member (variable-in (var l) (bound l (leb→le l m h)))) (used d) low
    where
      bound : (l : ℕ) → l ≤ 2 * d.max_var + 1 → var l ≤ d.max_var
      bound l h = omega arith

  -- number 8 is not given where both operands of each gate are below it
  pub listed-acyclic : ((i : ℕ) → i < length d.gates → ((gate_at d i).left < (gate_at d i).lit) × ((gate_at d i).right < (gate_at d i).lit))
      → T (acyclic d)
  listed-acyclic less = ranked d (λ v. v) below
    where
      even : (i : ℕ) → i < length d.gates → (k : ℕ) × ((gate_at d i).lit ≡ 2 * k)
      even i h =
          let m = mem-at 0 (gate-in d i h) in
          (m.0 + 1, sym m.2 ∙ defined-at m.0 (omega (arith, m.1, defined-length)))

      below : (i : ℕ) → i < length d.gates
          → (var (gate_at d i).left < var (gate_at d i).lit) × (var (gate_at d i).right < var (gate_at d i).lit)
      below i h =
          let e = even i h in
          let l = less i h in
          (omega (arith, e.1, l.0), omega (arith, e.1, l.1))

-- ---- circuits in order

module _ {d : Circuit} (o : InOrder d) where
  pub order-right : T (every (λ l. leb l (2 * d.max_var + 1)) (used d))
      → T (every (λ l. leb l.reset 1 || eqb l.reset l.lit) d.latches) → T (literals_right d)
  order-right = listed-right d o.definitions

  pub order-defined : T (literals_right d) → T (used_defined d)
  order-defined = listed-defined d o.definitions

  pub order-acyclic : T (acyclic d)
  order-acyclic = listed-acyclic d o.definitions below
    where
      below : (i : ℕ) → i < length d.gates → ((gate_at d i).left < (gate_at d i).lit) × ((gate_at d i).right < (gate_at d i).lit)
      below i h =
          let g = gate_at d i in
          let t = every-at descends d.gates i no_gate h o.gates in
          let r = leb→le g.right g.left (and_left (leb g.right g.left) (ltb g.left g.lit) t) in
          let l = ltb→lt g.left g.lit (and_right (leb g.right g.left) (ltb g.left g.lit) t) in
          (omega arith, omega arith)
