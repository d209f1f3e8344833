-- Words put into a table. Assumes nothing.
use mathlib.Core.Path.{◌≡◌, refl, sym, ap, ◌∙◌}
use mathlib.Core.List.{List, ◌++◌}
use Prim.Native.Nat.{ℕ, ◌+◌, ◌-◌, ◌≤◌, ◌<◌}
use native.Mathlib.Omega.{arith}
use lib.ListN.{length, get_or, take, drop, length-append, length-drop, get_or-append}
use lib.Seq.{length-take-le, get_or-take, get_or-drop, get_or-append-add}
use Rattle.set_stage.specs.Table.{splice}

module _ (table : List ℕ) (at : ℕ) (ws : List ℕ) (fits : at + length ws ≤ length table) where
  front : length (take at table) ≡ at
  front = length-take-le at table (omega arith)

  pub splice-length : length (splice table at ws) ≡ length table
  unfolding splice
  splice-length =
      omega
      (arith, length-append (take at table) (ws ++ drop (at + length ws) table), length-append ws (drop (at + length ws) table), length-drop (at + length ws) table, front)

  pub splice-before : (i : ℕ) → i < at → get_or (splice table at ws) i 0 ≡ get_or table i 0
  unfolding splice
  splice-before i l =
      get_or-append (take at table) (ws ++ drop (at + length ws) table) 0 i (omega (arith, front)) ∙ get_or-take at table i 0 l

  rest_at : (i : ℕ) → get_or (take at table ++ (ws ++ drop (at + length ws) table)) (at + i) 0 ≡ get_or (ws ++ drop (at + length ws) table) i 0
  rest_at i =
      let e : at + i ≡ length (take at table) + i = omega (arith, front) in
      ap (λ (k : ℕ). get_or (take at table ++ (ws ++ drop (at + length ws) table)) k 0) e
      ∙ get_or-append-add (take at table) (ws ++ drop (at + length ws) table) i 0

  pub splice-in : (i : ℕ) → i < length ws → get_or (splice table at ws) (at + i) 0 ≡ get_or ws i 0
  unfolding splice
  splice-in i l = rest_at i ∙ get_or-append ws (drop (at + length ws) table) 0 i l

  pub splice-after : (i : ℕ) → at + length ws ≤ i → get_or (splice table at ws) i 0 ≡ get_or table i 0
  unfolding splice
  splice-after i l =
      let k = i - (at + length ws) in
      let e : i ≡ at + (length ws + k) = omega arith in
      let q : at + length ws + k ≡ i = omega arith in
      ap (λ (j : ℕ). get_or (take at table ++ (ws ++ drop (at + length ws) table)) j 0) e ∙ rest_at (length ws + k)
      ∙ get_or-append-add ws (drop (at + length ws) table) k 0 ∙ get_or-drop (at + length ws) table k 0 ∙ ap (λ (j : ℕ). get_or table j 0) q
