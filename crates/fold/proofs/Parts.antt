-- Laws of a loop that writes a text part after part. Assumes nothing.
use mathlib.Core.Path.{◌≡◌, ap, ◌∙◌}
use mathlib.Core.List.{List, ◌++◌}
use Prim.Native.Nat.{ℕ, zero, suc, ◌+◌, ◌-◌, ◌≤◌, ◌<◌}
use native.Mathlib.Numerals.{add-one}
use native.Mathlib.Omega.{arith}
use lib.ListN.{length, length-append}
use Rattle.output.specs.Output.{Room, Placed}
use Rattle.output.proofs.Output.{Rest, put_front, placed-length, placed-more}
use Rattle.fold.specs.Text.{Shown}

-- the last part
pub shown : {out : List ℕ} {text mid : List ℕ} {end : ℕ} {rest : List ℕ} {end' : ℕ} {last : List ℕ} → Room out 0 text → Rest out 0 text mid end rest
    → Placed mid end rest end' last → Shown text out end' last
shown {out} {text} {mid} {end} {rest} h r p =
    record { count = omega (arith, p.past, r.ends); contents = p.contents ∙ r.contents ∙ put_front out text }

-- a text that grows by a part at a time
module _ (text part : ℕ → List ℕ) (grows : (j : ℕ) → text (suc j) ≡ text j ++ part j) where
  longer : (j : ℕ) → length (text (suc j)) ≡ length (text j) + length (part j)
  longer j = ap length (grows j) ∙ length-append (text j) (part j)

  pub shorter : (j k : ℕ) → length (text j) ≤ length (text (k + j))
  shorter j zero = let e : 0 + j ≡ j = omega arith in rw e (omega arith)
  shorter j (suc k) = let e : suc k + j ≡ suc (k + j) = omega arith in rw e (omega (arith, longer (k + j), shorter j k))

  module _ (out : List ℕ) (at n : ℕ) (h : Room out at (text n)) where
    pub text-room : (j : ℕ) → j ≤ n → Room out at (text j)
    text-room j l =
        let k = n - j in
        let e : length (text (k + j)) ≡ length (text n) = (let z : k + j ≡ n = omega arith in ap (λ (x : ℕ). length (text x)) z) in
        omega (arith, shorter j k, e)

    -- there is room for the next part
    pub part_room : {end : ℕ} {mid : List ℕ} (j : ℕ) → j < n → Placed out at (text j) end mid → Room mid end (part j)
    part_room j l p =
        omega (arith, p.past, placed-length (text-room j (omega arith)) p, longer j, text-room (suc j) (omega arith))

    -- the next part is written
    pub part-more : {end end' : ℕ} {mid last : List ℕ} (j : ℕ) → j < n → Placed out at (text j) end mid → Placed mid end (part j) end' last
        → Placed out at (text (j + 1)) end' last
    part-more j l p q = rw (add-one j, grows j) (placed-more (text-room j (omega arith)) p q)
