-- Texts put into a line, one after the other. Assumes nothing.
use mathlib.Core.Path.{◌≡◌, refl, sym, ap, ◌∙◌}
use mathlib.Core.List.{List, [], ◌++◌, append_assoc, append-nil}
use Prim.Native.Nat.{ℕ, ◌+◌, ◌-◌, ◌≤◌}
use native.Mathlib.Omega.{arith}
use lib.ListN.{length, take, drop, length-append, length-take, drop_of_length-le}
use lib.Seq.{take_all, take_at, drop-drop}
use Rattle.aiger.specs.Operations.{front}
use Rattle.output.specs.Output.{Placed}
use Rattle.output.proofs.Output.{put_front, placed-length, placed-more}
use Rattle.replies.specs.Refusal.{refusal_text}
use Rattle.replies.specs.Reply.{refusal, Fronts, Leaves}
use Rattle.replies.specs.declared.Report.{Report}

-- a text that is placed at the front
pub placed-fronts : {line text : List ℕ} {end : ℕ} {line' : List ℕ} → Placed line 0 text end line' → Fronts text line end line'
placed-fronts {line} {text} p = record { long = omega (arith, p.past); contents = p.contents ∙ put_front line text }

-- a text at the front lies inside, and can be taken from there
pub fronts-inside : {text line : List ℕ} {n : ℕ} {line' : List ℕ} → Fronts text line n line' → n ≤ length line'
fronts-inside {text} {line} f =
    omega (arith, f.long, ap length f.contents, length-append text (drop (length text) line))

pub fronts-taken : {text line : List ℕ} {n : ℕ} {line' : List ℕ} → Fronts text line n line' → take n line' ≡ text
fronts-taken {text} {line} {n} f = ap (take n) f.contents ∙ take_at text (drop (length text) line) n (omega (arith, f.long))

-- no text at the front
pub fronts-none : (line : List ℕ) → Fronts [] line 0 line
fronts-none line = record { long = refl; contents = refl }

-- the line of a refusal alone
pub refused-leaves : (n : ℕ) {line : List ℕ} (out : List ℕ) {r : Report} {line' : List ℕ} → Fronts (refusal_text n) line r.line line'
    → r.out ≡ 0 → Leaves (refusal n) line out r line' out
refused-leaves n out f e = record { line-is = f; out-is = record { long = e; contents = refl } }

-- a text of at most `most` bytes stands at the front of a line, and ends at `end`
pub record Fronted (line : List ℕ) (most : ℕ) (text : List ℕ) (end : ℕ) (line' : List ℕ) : Type 0 where
  pub placed : Placed line 0 text end line'
  pub short : length text ≤ most

-- the first text
pub front-first : {line u : List ℕ} {end : ℕ} {line' : List ℕ} → length u ≤ length line → Placed line 0 u end line'
    → Fronted line (length u) u end line'
front-first h p = record { placed = p; short = omega arith }

module _ {line : List ℕ} {most : ℕ} {u : List ℕ} {end : ℕ} {line' : List ℕ} (f : Fronted line most u end line') where
  -- so much room is left
  pub front-room : (n : ℕ) → most + n ≤ length line → end + n ≤ length line'
  front-room n h = omega (arith, f.short, f.placed.past, placed-length (omega (arith, f.short)) f.placed)

  -- one text more
  pub front-more : (n : ℕ) {v : List ℕ} {end' : ℕ} {line'' : List ℕ} → most + n ≤ length line → length v ≤ n → Placed line' end v end' line''
      → Fronted line (most + n) (u ++ v) end' line''
  front-more n {v} h l q =
      record { placed = placed-more (omega (arith, f.short)) f.placed q; short = omega (arith, f.short, length-append u v) }

  pub front-fronts : Fronts u line end line'
  front-fronts = placed-fronts f.placed
