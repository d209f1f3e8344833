-- Each turn packs a word. Assumes nothing.
use mathlib.Core.Path.{◌≡◌, ◌∙◌}
use mathlib.Core.Bool.{Bool}
use mathlib.Core.List.{List}
use Prim.Native.Nat.{ℕ, ◌-◌, ◌*◌, ◌≤◌, ◌<◌}
use native.Mathlib.Omega.{arith}
use borrow.Author.Count.{below_more}
use lib.ListN.{length, get_or, set, take, drop, length-take}
use lib.Seq.{get_or-set_same, get_or-set_other}
use Rattle.aiger.specs.Bits.{bit}
use Rattle.transitions.proofs.Words.{Packed, packed_all, packed-part, packed-words}
use Rattle.layers.proofs.pack_words.Goals as goal

abbrev row : ℕ → ℕ → Bool
row p w = bit w p

pub loop-j-init : goal.loop-j-init
loop-j-init c = λ i l. absurd (omega arith)

pub offset_bounds-state-from : goal.offset_bounds-state-from
offset_bounds-state-from c = omega (arith, c.word_end-end.ensures)

pub slice_bounds-pack-count : goal.slice_bounds-pack-count
slice_bounds-pack-count c = omega (arith, c.word_end-end.ensures)

pub slice_bounds-pack-start : goal.slice_bounds-pack-start
slice_bounds-pack-start c = omega (arith, c.word_end-end.ensures)

pub slice_bounds-pack-end : goal.slice_bounds-pack-end
slice_bounds-pack-end c = omega (arith, c.word_end-end.ensures)

-- how long a part of a list is
part_length : (n at : ℕ) (ks : List ℕ) → n ≤ 32 → length (take n (drop at ks)) ≤ 32
part_length n at ks l = omega (arith, length-take n (drop at ks))

pub pack-requires : goal.pack-requires
pack-requires c =
    let from = 32 * c.loop-j.j in
    let e = c.word_end-end.ensures in
    (part_length (c.word_end-end.result - from) from c.args.state.now (omega arith), omega arith)

pub loop-j-preserved : goal.loop-j-preserved
loop-j-preserved c =
    let a = c.args in
    let v = c.pack.result in
    below_more (λ i. Packed (row a.p) a.state.now i (get_or (set c.loop-j.s c.loop-j.j v) i 0)) c.loop-j.j
    (λ i l. get_or-set_other c.loop-j.s c.loop-j.j i v 0 (λ e. omega arith) ∙ c.loop-j.invariant i l)
    (get_or-set_same c.loop-j.s c.loop-j.j v 0 (omega arith)
    ∙ packed-part (row a.p) a.state.now c.loop-j.j c.word_end-end.result v c.word_end-end.ensures c.pack.ensures)

pub returns : goal.returns
returns c =
    let a = c.args in
    let f = row a.p in
    let all : (i : ℕ) → i < length a.s.now → Packed f a.state.now i (get_or c.loop-j.s i 0) = λ i l. c.loop-j.invariant i (omega arith) in
    packed_all f a.state.now c.loop-j.s (packed-words f a.state.now c.loop-j.s (length a.s.now) c.loop-j.auto.s all) (length a.s.now)
    c.requires.1 c.requires.2 all
