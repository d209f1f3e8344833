-- Searches that are replaced, and those that wait. Assumes nothing.
use mathlib.Core.Path.{◌≡◌, refl, ap}
use mathlib.Core.Bool.{Bool, cond}
use Prim.Native.Nat.{ℕ, ◌≤◌, ◌<◌}
use lib.Dec.{T, leb, ltb, eqb, leb→le, ltb→lt, eqb→eq}
use borrow.Author.Tests.{eq-eqb, ne_eqb}
use Rattle.aiger.proofs.Tests.{and_left, and_right}
use Rattle.benches.specs.declared.Entry.{Entry}
use Rattle.benches.specs.Bench.{Bench, is_free, is_waiting, replaced}

pub replaced-same : (entry : ℕ → Entry) (n : ℕ) (e : Entry) → replaced entry n e n ≡ e
replaced-same entry n e = ap (λ (t : Bool). cond t e (entry n)) (eq-eqb n n refl)

pub replaced-other : (entry : ℕ → Entry) (n : ℕ) (e : Entry) (i : ℕ) → (i ≡ n → ⊥) → replaced entry n e i ≡ entry i
replaced-other entry n e i f = ap (λ (t : Bool). cond t e (entry i)) (ne_eqb i n f)

pub waiting-stage : (e : Entry) → T (is_waiting e) → e.stage ≡ 1
waiting-stage e h = eqb→eq e.stage 1 (and_left (eqb e.stage 1) (leb 1 e.budget) h)

pub waiting-budget : (e : Entry) → T (is_waiting e) → 1 ≤ e.budget
waiting-budget e h = leb→le 1 e.budget (and_right (eqb e.stage 1) (leb 1 e.budget) h)

pub free-stage : (s : Bench) (n : ℕ) → T (is_free s n) → (s.entry n).stage ≡ 0
free-stage s n h = eqb→eq (s.entry n).stage 0 (and_right (ltb n 16) (eqb (s.entry n).stage 0) h)

pub free-below : (s : Bench) (n : ℕ) → T (is_free s n) → n < 16
free-below s n h = ltb→lt n 16 (and_left (ltb n 16) (eqb (s.entry n).stage 0) h)
