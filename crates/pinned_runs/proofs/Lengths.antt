-- How long a body is that was read, and the bytes of one user among those of both. Assumes nothing.
use mathlib.Core.Path.{◌≡◌, refl, sym, ap, ◌∙◌, subst}
use mathlib.Core.Bool.{Bool, true, false, ◌||◌}
use mathlib.Core.List.{List, [], ◌∷◌}
use mathlib.Core.Option.{none, some}
use Prim.Native.Nat.{ℕ, zero, suc, ◌+◌, ◌-◌, ◌*◌, ◌≤◌, ◌<◌}
use native.Mathlib.Decide.{dec_lt}
use native.Mathlib.Omega.{arith}
use borrow.Author.Tests.{le-leb, lt-leb}
use lib.Dec.{eqb, ltb, leb}
use lib.ListN.{length, get_or, take, drop, length-drop}
use lib.Seq.{take_all}
use Rattle.aiger.specs.Lists.{same}
use Rattle.aiger.specs.Text.{bytes, ◌>>=◌, when}
use Rattle.aiger.specs.Circuit.{Circuit}
use Rattle.aiger.specs.Frames.{Run}
use Rattle.aiger.specs.Witness.{Witness, bits, bit_rows, read_run}
use Rattle.aiger.proofs.Tests.{T_true}
use Rattle.meaning.proofs.Lists.{same-eq}
use Rattle.roundtrip.proofs.LoadValid.{some-bind, some_same}
use Rattle.completions.specs.Either.{completion}
use Rattle.completions.proofs.Completions.{completes}
use Rattle.completions.proofs.Forms.{completes-form}
use Rattle.blocks.specs.Runs.{BodyRead, Fits}
use Rattle.pins.specs.Pins.{pins_of}
use Rattle.pinned_runs.specs.Places.{own_of}
use Rattle.pinned_runs.specs.declared.Own.{Own}

bits-size : (n : ℕ) (w : List ℕ) (r : List Bool × List ℕ) → bits n w ≡ some r → length w ≡ n + 1 + length r.1
unfolding bits
bits-size n [] r e = let z : ◌≡◌ {A = ℕ} 0 1 = cc in absurd (omega arith)
bits-size zero (c ∷ w) r e =
    let a = some-bind (when (eqb c 10)) _ r e in
    let s : ◌≡◌ {A = List Bool × List ℕ} ([], w) r = some_same a.2 in
    let k : length w ≡ length r.1 = ap (λ (x : List Bool × List ℕ). length x.1) s in
    omega arith
bits-size (suc n) (c ∷ w) r e =
    let a = some-bind (when (eqb c 48 || eqb c 49)) _ r e in
    let b = some-bind (bits n w) _ r a.2 in
    let s : ◌≡◌ {A = List Bool × List ℕ} (eqb c 49 ∷ b.0.0, b.0.1) r = some_same b.2 in
    let k : length b.0.1 ≡ length r.1 = ap (λ (x : List Bool × List ℕ). length x.1) s in
    omega (arith, bits-size n w b.0 b.1)

-- lines of n bits, and the line that ends the text
record Sized (n most : ℕ) (w : List ℕ) (rs : List (List Bool)) : Type 0 where
  size : length w ≡ length rs * (n + 1) + 2
  few : length rs ≤ most

module _ (n most : ℕ) (w : List ℕ) where
  rows_end : same w (bytes ".\n") ≡ true → bit_rows n (suc most) w ≡ some []
  unfolding bit_rows
  rows_end e = simp (bit_rows, e)

  rows_next : same w (bytes ".\n") ≡ false → bit_rows n (suc most) w ≡ (bits n w >>= λ r. bit_rows n most r.1 >>= λ rs. some (r.0 ∷ rs))
  unfolding bit_rows
  rows_next e = simp (bit_rows, e)

  sized-none : (rs : List (List Bool)) → [] ≡ rs → same w (bytes ".\n") ≡ true → Sized n most w rs
  sized-none rs s q =
      let e : length w ≡ 2 = ap length (same-eq w (bytes ".\n") (T_true q)) in
      subst (Sized n most w) s (record { size = omega arith; few = omega arith })

when_true : (b : Bool) (u : Unit {0}) → when b ≡ some u → b ≡ true
when_true true u e = refl
when_true false u e = let z : ◌≡◌ {A = ℕ} 0 1 = cc in absurd (omega arith)

rows-size : (n most : ℕ) (w : List ℕ) (rs : List (List Bool)) → bit_rows n most w ≡ some rs → Sized n most w rs
unfolding bit_rows
rows-size n zero w rs e =
    let a = some-bind (when (same w (bytes ".\n"))) _ rs e in
    sized-none n zero w rs (some_same a.2) (when_true (same w (bytes ".\n")) a.0 a.1)
rows-size n (suc most) w rs e = go (same w (bytes ".\n")) refl (rows-size n most)
  where
    next : (r w : ℕ) → (1 + r) * w ≡ w + r * w
    next r w = omega arith

    go : (b : Bool) → same w (bytes ".\n") ≡ b → ((f : List ℕ) (qs : List (List Bool)) → bit_rows n most f ≡ some qs → Sized n most f qs) → Sized n (suc most) w rs
    go true q k = sized-none n (suc most) w rs (some_same (sym (rows_end n most w q) ∙ e)) q
    go false q k =
        let a = some-bind (bits n w) _ rs (sym (rows_next n most w q) ∙ e) in
        let b = some-bind (bit_rows n most a.0.1) _ rs a.2 in
        let s : ◌≡◌ {A = List (List Bool)} (a.0.0 ∷ b.0) rs = some_same b.2 in
        let l : 1 + length b.0 ≡ length rs = omega (arith, ap length s) in
        let i = k a.0.1 b.0 b.1 in
        record {
          size =
              omega (arith, bits-size n w a.0 a.1, i.size, next (length b.0) (n + 1), ap (λ (x : ℕ). x * (n + 1)) l);
          few = omega (arith, i.few, l);
        }

run-size : (c : Circuit) (b : ℕ) (f : List ℕ) (w : Witness) → read_run c b f ≡ some w
    → (length f ≡ length c.latches + 1 + (length w.run.rows * (length c.inputs + 1) + 2)) × (length w.run.rows ≤ 256)
unfolding read_run
run-size c b f w e =
    let a1 = some-bind (when (ltb b (length c.bads))) _ w e in
    let a2 = some-bind (bits (length c.latches) f) _ w a1.2 in
    let a3 = some-bind (bit_rows (length c.inputs) 256 a2.0.1) _ w a2.2 in
    let a4 = some-bind (when (leb 1 (length a3.0))) _ w a3.2 in
    let s : record { bad = b; run = record { start = a2.0.0; rows = a3.0 } } ≡ w = some_same a4.2 in
    let z = rows-size (length c.inputs) 256 a2.0.1 a3.0 a3.1 in
    subst (λ (v : Witness). (length f ≡ length c.latches + 1 + (length v.run.rows * (length c.inputs + 1) + 2)) × (length v.run.rows ≤ 256)) s
    (bits-size (length c.latches) f a2.0 a2.1 ∙ ap (λ (k : ℕ). length c.latches + 1 + k) z.size, z.few)

-- a body that fits is its start values, its rows and the line that ends it
pub fits-size : {c : Circuit} {b frames count : ℕ} {w : List ℕ} → Fits c b frames count w
    → (length w ≡ length c.latches + 1 + (frames * (length c.inputs + 1) + 2)) × (frames ≤ 256)
fits-size {c} {b} {frames} {w = w} F =
    let h = completes 0 w in
    let B = F.form (completion 0 w) (completes-form h) in
    let r = run-size c b (completion 0 w) (record { bad = b; run = B.run }) B.reads in
    let f = B.run_at.frames-are in (
      sym h.size ∙ r.0 ∙ ap (λ (k : ℕ). length c.latches + 1 + (k * (length c.inputs + 1) + 2)) f,
      omega (arith, r.1, f),
    )

-- ---- the bytes of one user

-- the bytes of a user among `len` bytes of pins
pub record OwnAt (len user : ℕ) (r : Own) : Type 0 where
  pub ordered : r.from ≤ r.to
  pub inside : r.to ≤ len
  pub bytes : (pins : List ℕ) → length pins ≡ len → take (r.to - r.from) (drop r.from pins) ≡ take 256 (drop (256 * user) pins)

module _ (len user : ℕ) where
  drop_past : (n : ℕ) (l : List ℕ) → length l ≤ n → drop n l ≡ []
  drop_past zero [] h = refl
  drop_past zero (x ∷ xs) h = absurd (omega arith)
  drop_past (suc n) [] h = refl
  drop_past (suc n) (x ∷ xs) h = drop_past n xs (omega arith)

  at_none : len ≤ 256 * user → OwnAt len user (record { from = len; to = len })
  at_none h =
      record {
        ordered = omega arith;
        inside = omega arith;
        bytes = λ pins e.
            let z : len - len ≡ 0 = omega arith in
            ap (λ (n : ℕ). take n (drop len pins)) z ∙ sym (ap (take 256) (drop_past (256 * user) pins (omega arith)));
      }

  at_some : 256 * user < len → len - 256 * user ≤ 256 → OwnAt len user (record { from = 256 * user; to = len })
  at_some h l =
      record {
        ordered = omega arith;
        inside = omega arith;
        bytes = λ pins e.
            let k = length-drop (256 * user) pins in
            take_all (len - 256 * user) (drop (256 * user) pins) (omega arith) ∙ sym (take_all 256 (drop (256 * user) pins) (omega arith));
      }

  at_all : 256 * user < len → 256 < len - 256 * user → OwnAt len user (record { from = 256 * user; to = 256 * user + 256 })
  at_all h l =
      record {
        ordered = omega arith;
        inside = omega arith;
        bytes = λ pins e. let z : 256 * user + 256 - 256 * user ≡ 256 = omega arith in ap (λ (n : ℕ). take n (drop (256 * user) pins)) z;
      }

  -- where they stand, by how many bytes there are
  pub own-none : len ≤ 256 * user → record { from = len; to = len } ≡ own_of len user
  own-none h = rw (le-leb len (256 * user) h, le-leb len (256 * user + 256) (omega arith))

  pub own-some : 256 * user < len → len - 256 * user ≤ 256 → record { from = 256 * user; to = len } ≡ own_of len user
  own-some h l = rw (lt-leb len (256 * user) h, le-leb len (256 * user + 256) (omega arith))

  pub own-all : 256 * user < len → 256 < len - 256 * user → record { from = 256 * user; to = 256 * user + 256 } ≡ own_of len user
  own-all h l = rw (lt-leb len (256 * user) h, lt-leb len (256 * user + 256) (omega arith))

  own-of : OwnAt len user (own_of len user)
  own-of =
      elim (dec_lt (256 * user) len) [
        | yes h ↦
            elim (dec_lt 256 (len - 256 * user)) [
              | yes l ↦ subst (OwnAt len user) (own-all h l) (at_all h l)
              | no l ↦ subst (OwnAt len user) (own-some h (omega arith)) (at_some h (omega arith))
            ]
        | no h ↦ subst (OwnAt len user) (own-none (omega arith)) (at_none (omega arith))
      ]

  pub own_at : {r : Own} → r ≡ own_of len user → OwnAt len user r
  own_at e = subst (OwnAt len user) (sym e) own-of

-- the pins of the user, as those bytes give them
pub own-are : (pins : List ℕ) (len user : ℕ) (r : Own) → length pins ≡ len → OwnAt len user r → (λ i. get_or (take (r.to - r.from) (drop r.from pins)) i 2) ≡ pins_of pins user
unfolding pins_of
own-are pins len user r e o = ap {B = ℕ → ℕ} (λ (l : List ℕ) (i : ℕ). get_or l i 2) (o.bytes pins e)
