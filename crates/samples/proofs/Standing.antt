-- A text that stands in an output and is written over part by part. Assumes nothing.
use mathlib.Core.Path.{◌≡◌, sym, ap, ap₂, ◌∙◌}
use mathlib.Core.List.{List, [], ◌∷◌, ◌++◌, append_assoc}
use Prim.Native.Nat.{ℕ, ◌+◌}
use native.Mathlib.Omega.{arith}
use lib.ListN.{length, get_or, take, drop, length-append}
use lib.Seq.{length-take-le, take_at, drop-append_seam}
use Rattle.roundtrip.proofs.Lists.{drop_past, get_d_front}
use Rattle.output.specs.Output.{put_text, Room, Placed}
use Rattle.samples.specs.Passes.{Stands}

-- what stands at the end of a text that was written
past-put : (out : List ℕ) (at : ℕ) (u : List ℕ) → Room out at u → drop (at + length u) (put_text out at u) ≡ drop (at + length u) out
unfolding put_text
past-put out at u h =
    let w = take at out ++ u in
    let e : length w ≡ at + length u = length-append (take at out) u ∙ omega (arith, length-take-le at out (omega arith)) in
    ap (λ (n : ℕ). drop n (w ++ drop (at + length u) out)) (sym e) ∙ drop-append_seam w (drop (at + length u) out)

-- the text itself
at-put : (out : List ℕ) (at : ℕ) (u : List ℕ) → Room out at u → drop at (put_text out at u) ≡ u ++ drop (at + length u) out
unfolding put_text
at-put out at u h =
    let r = drop (at + length u) out in
    let e : length (take at out) ≡ at = length-take-le at out (omega arith) in
    ap (drop at) (append_assoc (take at out) u r) ∙ ap (λ (n : ℕ). drop n (take at out ++ (u ++ r))) (sym e)
    ∙ drop-append_seam (take at out) (u ++ r)

-- a text of the same length over it
pub put-over : (out : List ℕ) (at : ℕ) (u v : List ℕ) → Room out at u → length v ≡ length u
    → put_text (put_text out at u) at v ≡ put_text out at v
unfolding put_text
put-over out at u v h e =
    let r = drop (at + length u) out in
    let n : length (take at out) ≡ at = length-take-le at out (omega arith) in
    let t : take at ((take at out ++ u) ++ r) ≡ take at out = ap (take at) (append_assoc (take at out) u r) ∙ take_at (take at out)
    (u ++ r) at n in
    let q : at + length v ≡ at + length u = omega (arith, e) in
    let d : drop (at + length v) ((take at out ++ u) ++ r) ≡ drop (at + length v) out =
    ap (λ (k : ℕ). drop k ((take at out ++ u) ++ r)) q ∙ past-put out at u h ∙ ap (λ (k : ℕ). drop k out) (sym q) in
    ap₂ (λ (x y : List ℕ). (x ++ v) ++ y) t d

pub stands-placed : {out out' : List ℕ} {at end : ℕ} (u : List ℕ) → Room out at u → Placed out at u end out' → Stands out' at u
stands-placed {out} {out'} {at} u h p =
    record { rest = drop (at + length u) out; stands = ap (drop at) p.contents ∙ at-put out at u h }

module _ {out : List ℕ} {at : ℕ} (u v : List ℕ) (s : Stands out at (u ++ v)) where
  pub stands-first : Stands out at u
  stands-first = record { rest = v ++ s.rest; stands = s.stands ∙ append_assoc u v s.rest }

  -- after a text as long was written in place of the first part
  pub stands-next : (w : List ℕ) {end : ℕ} {out' : List ℕ} → Room out at w → length w ≡ length u → Placed out at w end out'
      → Stands out' end v
  stands-next w {end} {out'} h e p =
      let q : drop (at + length u) out ≡ v ++ s.rest = drop_past out at u (v ++ s.rest) (s.stands ∙ append_assoc u v s.rest) in
      record {
        rest = s.rest;
        stands =
            ap (λ (n : ℕ). drop n out') p.past ∙ ap (drop (at + length w)) p.contents ∙ past-put out at w h
            ∙ ap (λ (n : ℕ). drop (at + n) out) e ∙ q;
      }

-- its first byte
pub stands-byte : {out : List ℕ} {at : ℕ} (b : ℕ) (v : List ℕ) → Stands out at (b ∷ v) → get_or out at 0 ≡ b
stands-byte {out} {at} b v s = get_d_front out at b 0 (v ++ s.rest) s.stands
