-- The text of a circuit in binary form is read back, where its definitions are in order: load gives that circuit. Clause 12.1. Assumes
-- nothing.
use mathlib.Core.Path.{◌≡◌, refl, sym, ap₂}
use mathlib.Core.Bool.{true, cond, ◌&&◌, ◌||◌}
use mathlib.Core.List.{List, [], ◌∷◌, ◌++◌, map, append_assoc, append-nil}
use mathlib.Core.Option.{some}
use Prim.Native.Nat.{ℕ, zero, suc, ◌+◌, ◌-◌, ◌*◌, ◌/◌, ◌^◌, ◌≤◌, ◌<◌}
use native.Mathlib.Decide.{dec_lt}
use native.Mathlib.Omega.{arith}
use borrow.Author.Tests.{le-leb, eq-eqb}
use lib.Dec.{T, leb, ltb, eqb, leb→le, ltb→lt, eqb-suc-zero, lit<, lit≤}
use lib.ListN.{length, length-append}
use Rattle.aiger.specs.Lists.{every}
use Rattle.aiger.specs.Circuit.{Circuit, Latch, Gate, literal_tests, literals_right}
use Rattle.aiger.specs.File.{is_text, is_binary, header, counts_right, header_of, is_tail}
use Rattle.aiger.specs.Binary.{difference_text, implied, latches_from, gate_by, gates_from}
use Rattle.aiger.specs.Load.{gives, binary_body, sections, load, needed}
use Rattle.aiger.specs.Write.{lines_of, literal_row, count_row}
use Rattle.aiger.proofs.Tests.{T_true, and, and_left, and_right, every_map, all-at}
use Rattle.roundtrip.proofs.LoadWrite.{Valid, low, first-map, reset-row, rows-map, map-short, counts, heads-low, low-each, reset-low}
use Rattle.roundtrip.proofs.LoadWrite.{fits}
use Rattle.roundtrip.proofs.Text.{row_fits, row_line, every-below, line-short}
use Rattle.numbering.proofs.InOrder.{descends}
use Rattle.differences.proofs.Writing.{one, another, difference-back}
use Rattle.renumbered.specs.Renumbered.{latch_tail, gates_text, binary_text}
use Rattle.renumbered_laws.proofs.Accepted.{Placed}

-- ---- differences are short

difference-short : (n : ℕ) → n < 10 ^ 4 → length (difference_text n) ≤ 2
difference-short n h =
    elim (dec_lt n 128) [
      | yes l ↦ rw (one 4 n l) (omega arith)
      | no l ↦ (let k : n / 128 < 128 = omega arith in rw (another 3 n (omega arith), one 3 (n / 128) k) (omega arith))
    ]

gates-short : (gs : List Gate) → T (every (λ g. low g.lit) gs) → T (every descends gs) → length (gates_text gs) ≤ 4 * length gs
unfolding gates_text
gates-short [] t s = omega arith
gates-short (g ∷ gs) t s =
    let a = difference_text (g.lit - g.left) in
    let b = difference_text (g.left - g.right) in
    let l = ltb→lt g.lit (10 ^ 4) (and_left (low g.lit) (every (λ (x : Gate). low x.lit) gs) t) in
    let e = and_left (descends g) (every descends gs) s in
    let u = ltb→lt g.left g.lit (and_right (leb g.right g.left) (ltb g.left g.lit) e) in
    omega (
      arith,
      length-append (a ++ b) (gates_text gs),
      length-append a b,
      difference-short (g.lit - g.left) (omega arith),
      difference-short (g.left - g.right) (omega arith),
      gates-short gs (and_right (low g.lit) (every (λ (x : Gate). low x.lit) gs) t) (and_right (descends g) (every descends gs) s),
    )

-- ---- gates read back

module _ (g : Gate) (t : T (descends g)) (low : g.lit < 2 ^ 32) where
  lower : g.right ≤ g.left
  lower = leb→le g.right g.left (and_left (leb g.right g.left) (ltb g.left g.lit) t)

  under : g.left < g.lit
  under = ltb→lt g.left g.lit (and_right (leb g.right g.left) (ltb g.left g.lit) t)

  gate-back : (f : List ℕ) → gate_by g.lit (difference_text (g.lit - g.left) ++ (difference_text (g.left - g.right) ++ f)) ≡ some (g, f)
  unfolding gate_by
  gate-back f =
      let a = g.lit - g.left in
      let b = g.left - g.right in
      let x : g.lit - a ≡ g.left = omega (arith, under) in
      let y : g.lit - a - b ≡ g.right = omega (arith, under, lower) in
      rw (difference-back a (difference_text b ++ f) (omega arith))
      (rw (le-leb 1 a (omega (arith, under)), le-leb a g.lit (omega arith), difference-back b f (omega (arith, under)))
      (rw (le-leb b (g.lit - a) (omega (arith, x))) (λ i. some (record { lit = g.lit; left = x i; right = y i }, f))))

gates-back : (v : ℕ) (gs : List Gate) (f : List ℕ) → map (λ g. g.lit) gs ≡ implied v (length gs) → T (every descends gs)
    → v + length gs ≤ 10000
    → gates_from v (length gs) (gates_text gs ++ f) ≡ some (gs, f)
unfolding gates_from gates_text implied
gates-back v [] f e t l = refl
gates-back v (g ∷ gs) f e t l =
    let own : g.lit ≡ 2 * v = cc in
    let rest : map (λ (x : Gate). x.lit) gs ≡ implied (suc v) (length gs) = cc in
    let a = difference_text (g.lit - g.left) in
    let b = difference_text (g.left - g.right) in
    let s : (a ++ b ++ gates_text gs) ++ f ≡ a ++ (b ++ (gates_text gs ++ f)) = simp append_assoc in
    rw (s, ← own)
    (rw (gate-back g (and_left (descends g) (every descends gs) t) (omega arith) (gates_text gs ++ f))
    (rw (gates-back (suc v) gs f rest (and_right (descends g) (every descends gs) t) (omega arith))))

-- ---- latches read back

latches-back : (v : ℕ) (ls : List Latch) → map (λ l. l.lit) ls ≡ implied v (length ls) → latches_from v (map latch_tail ls) ≡ ls
unfolding latches_from latch_tail implied
latches-back v [] e = refl
latches-back v (l ∷ ls) e =
    let own : 2 * v ≡ l.lit = cc in
    let rest : map (λ (x : Latch). x.lit) ls ≡ implied (suc v) (length ls) = cc in
    ap₂ (λ (x : Latch) (xs : List Latch). x ∷ xs) (λ i. record { lit = own i; next = l.next; reset = reset-row l.reset i })
    (latches-back (suc v) ls rest)

-- ---- lines read back

latch-fits : (a r : ℕ) → T (low a) → T (low r) → T (row_fits (10 ^ 4) 1 2 (a ∷ cond (eqb r 0) [] (r ∷ [])))
latch-fits a zero h k = and (low a) true h tt
latch-fits a (suc r) h k = simp (eqb-suc-zero r) (and (low a) (low (suc r) && true) h (and (low (suc r)) true k tt))

-- what follows the header
abbrev sections_text : Circuit → List ℕ
sections_text d =
    lines_of (map latch_tail d.latches)
    ++ (lines_of (map literal_row d.outputs)
    ++ (lines_of (map literal_row d.bads) ++ (lines_of (map literal_row d.constraints) ++ (gates_text d.gates ++ []))))

-- the binary form, and a text that is not empty
binary-form : (d : Circuit) → is_binary (binary_text d) ≡ true
unfolding is_binary binary_text
binary-form d = refl

some_byte : (d : Circuit) → 1 ≤ length (binary_text d)
unfolding binary_text
some_byte d = omega arith

module _ {room : ℕ} {d : Circuit} (v : Valid room d) (p : Placed d) where
  -- the lines of latches and the literals of gates are such as are read
  latches-fit : T (every (row_fits (10 ^ 4) 1 2) (map latch_tail d.latches))
  unfolding latch_tail literals_right
  latches-fit =
      every_map (λ x. low x.lit) (λ x. low x.next) (λ x. leb x.reset 1 || eqb x.reset x.lit) (row_fits (10 ^ 4) 1 2) latch_tail
      (λ x s t r. latch-fits x.next x.reset t (reset-low v x s r)) d.latches (low-each v).latches (low-each v).nexts
      (all-at (literal_tests d) (T_true v.literals) 3)

  head-back : header (binary_text d) ≡ some (header_of d, sections_text d)
  unfolding is_text is_binary header binary_text
  head-back =
      simp (
        append_assoc,
        append-nil,
        row_line 9 d.max_var (count_row d) (lit< tt) (every-below (10 ^ 4) (10 ^ 10) (lit≤ tt) (d.max_var ∷ count_row d) (heads-low v)),
      )

  -- the text has at most 24,576 bytes
  pub binary-short : length (binary_text d) ≤ 24576
  unfolding binary_text
  binary-short =
      simp length-append
      (omega (
        arith,
        counts v,
        line-short 3 d.max_var (count_row d) (heads-low v),
        map-short 1 2 latch_tail d.latches latches-fit,
        map-short 1 1 literal_row d.outputs (fits v).outputs,
        map-short 1 1 literal_row d.bads (fits v).bads,
        map-short 1 1 literal_row d.constraints (fits v).constraints,
        gates-short d.gates (low-each v).gates p.descend,
      ))

  body_back : binary_body (header_of d) (sections_text d) ≡ gives d
  unfolding binary_body is_tail
  body_back =
      simp (
        rows-map 1 2 latch_tail d.latches latches-fit,
        rows-map 1 1 literal_row d.outputs (fits v).outputs,
        rows-map 1 1 literal_row d.bads (fits v).bads,
        rows-map 1 1 literal_row d.constraints (fits v).constraints,
        gates-back (length d.inputs + length d.latches + 1) d.gates [] p.gates p.descend (omega (arith, counts v)),
        first-map,
        latches-back (length d.inputs + 1) d.latches p.latches,
        sym p.inputs,
      )

  counts-back : counts_right true (header_of d) ≡ true
  unfolding counts_right
  counts-back =
      simp (v.fit, eq-eqb (length d.inputs + length d.latches + length d.gates) d.max_var (sym p.top))

  -- load gives the circuit
  pub load-binary : load room (binary_text d) ≡ gives d
  unfolding sections load
  load-binary =
      simp (
        le-leb 1 (length (binary_text d)) (some_byte d),
        le-leb (length (binary_text d)) 65536 (omega (arith, binary-short)),
        binary-form d,
        head-back,
        counts-back,
        le-leb (needed d.max_var) room v.held,
        body_back,
        v.literals,
        v.uses,
        v.order,
      )
