-- The answers of the binary writer, by what the test of the memory and the length of the text say. Assumes nothing.
use mathlib.Core.Path.{◌≡◌, refl, sym, ap, ◌∙◌}
use mathlib.Core.List.{List, [], ◌++◌, append-nil}
use Prim.Native.Nat.{ℕ, ◌≤◌, ◌<◌}
use native.Mathlib.Omega.{arith}
use borrow.Author.Tests.{le-leb, lt-leb}
use lib.ListN.{length, take, drop}
use lib.Seq.{take_at}
use Rattle.aiger.specs.Load.{refused, gives}
use Rattle.aiger.specs.Memory.{Holds}
use Rattle.aiger.specs.Operations.{front, judge, Operated}
use Rattle.layout.specs.Words.{circuit_in}
use Rattle.frames.proofs.Facts.{valid}
use Rattle.renumbered.specs.Renumbered.{write_binary, BinaryEffect, WrittenBinary}
use Rattle.renumbered_laws.proofs.Accepted.{placed, renumbered-valid}
use Rattle.renumbered_laws.proofs.Reading.{binary-short}
use Rattle.output.specs.Output.{Placed}
use Rattle.output.proofs.Output.{put_front}

-- a text at the front of some bytes, copied to the front of others
pub copied : {text w text' : List ℕ} {n : ℕ} (out : List ℕ) → Placed text 0 w n text'
    → take (length (take n text')) (take n text') ++ drop (length (take n text')) out ≡ front w out
copied {text} {w} {text'} {n} out p =
    let size : length w ≡ n = omega (arith, p.past) in
    let e : take n text' ≡ w = ap (take n) (p.contents ∙ put_front text w) ∙ take_at w (drop (length w) text) n size in
    let same : take (length w) w ≡ w = ap (take (length w)) (sym (append-nil w)) ∙ take_at w [] (length w) refl in
    rw e (ap (λ (x : List ℕ). x ++ drop (length w) out) same)

-- the same, where the front of the others is written by a slice's copy
pub copied_front : {text w text' : List ℕ} {n : ℕ} (out : List ℕ) → Placed text 0 w n text' → take n text' ++ drop n out ≡ front w out
copied_front {text} {w} {text'} {n} out p =
    let size : length w ≡ n = omega (arith, p.past) in
    let e : take n text' ≡ w = ap (take n) (p.contents ∙ put_front text w) ∙ take_at w (drop (length w) text) n size in
    rw e (ap (λ (k : ℕ). w ++ drop k out) (sym size))

module _ {m : List ℕ} (h : Holds m (circuit_in m)) where
  -- the text of a held circuit is short
  pub text-short : length (write_binary (circuit_in m)) ≤ 24576
  text-short = binary-short (renumbered-valid (valid h)) (placed (valid h))

  module _ {n : ℕ} (e : n ≡ length (write_binary (circuit_in m))) (out : List ℕ) where
    -- the text is too long
    pub too_long : length out < n → WrittenBinary m out (refused 13) out
    unfolding judge
    too_long l = Operated.refuses (circuit_in m) {n = 13} h (rw (lt-leb (length (write_binary (circuit_in m))) (length out) (omega arith)))

    -- the text fits and is written
    pub fitting : n ≤ length out → {out' : List ℕ} → out' ≡ front (write_binary (circuit_in m)) out → WrittenBinary m out (gives n) out'
    unfolding judge
    fitting l q =
        Operated.acts (circuit_in m) h (rw (le-leb (length (write_binary (circuit_in m))) (length out) (omega arith)))
        (record { count = e; shows = q })
