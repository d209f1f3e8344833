-- `write::write_text` meets its contract. The loop's invariant: the sections are written but for those from section k on. The measure is
-- how many are left. Assumes nothing.
use mathlib.Core.Path.{◌≡◌, ◌∙◌}
use mathlib.Core.List.{List, ◌++◌}
use Prim.Native.Nat.{ℕ, suc, ◌-◌, ◌≤◌}
use native.Mathlib.Numerals.{add-one}
use native.Mathlib.Omega.{arith}
use lib.ListN.{length, drop}
use Rattle.aiger.specs.Text.{bytes}
use Rattle.aiger.specs.Write.{write}
use Rattle.layout.specs.Words.{circuit_in}
use Rattle.layout.specs.Table.{table, section_at}
use Rattle.output.specs.Output.{Room, Placed}
use Rattle.output.specs.Row.{row_text}
use Rattle.output.proofs.Output.{Rest, put_front, placed-length, rest-start, rest-room, rest_more, rest_end, last-room, last-placed}
use Rattle.write.specs.Rows.{section_text}
use Rattle.write.proofs.Sections.{sections_text, text-more, head-inside, section-rows, text-parts}
use borrow.Author.Rules.{rules}
use Rattle.write.proofs.write_text.Statement.{statement}
use Rattle.write.proofs.write_text.Tie as tie

abbrev invariant-loop : tie.invariant-loop-k
invariant-loop m p out₀ head₀ end₀ k₀ out end k = (k ≤ 6) × Rest out₀ end₀ (sections_text m (table p)) out end (sections_text m (drop k (table p)))

abbrev decreases-loop : tie.decreases-loop-k
decreases-loop m p out₀ head₀ end₀ k₀ out end k = 6 - k

-- the function's entry, and what is left to write there and after each call
module _ (s : tie.Start invariant-loop decreases-loop) where
  abbrev head : List ℕ
  head = row_text s.args.m.now 0 7

  abbrev from : ℕ → List ℕ
  from k = sections_text s.args.m.now (drop k (table s.args.layout))

  abbrev Leaves : List ℕ → ℕ → List ℕ → Type 0
  Leaves out end rest = Rest s.args.out.now 0 (write (circuit_in s.args.m.now)) out end rest

  room : Room s.args.out.now 0 (write (circuit_in s.args.m.now))
  room = omega (arith, s.requires.2)

  whole : Leaves s.args.out.now 0 (bytes "aag " ++ (head ++ from 0))
  whole = rw (text-parts s.requires.0 s.requires.1) (rest-start s.args.out.now 0 (bytes "aag " ++ (head ++ from 0)))

abbrev entry-1 : tie.After-put-head invariant-loop decreases-loop → tie.Start invariant-loop decreases-loop
entry-1 w = w.before.before.before.before.before.before

named : (w : tie.After-put-head invariant-loop decreases-loop) → let s = entry-1 w in Leaves s w.put-head.new.out w.put-head.result (head s ++ from s 0)
named w = let s = entry-1 w in rest_more (bytes "aag ") (head s ++ from s 0) (room s) (whole s) w.put-head.ensures

abbrev entry-2 : tie.After-put_row-end invariant-loop decreases-loop → tie.Start invariant-loop decreases-loop
entry-2 w = entry-1 w.before.before.before.before

headed : (w : tie.After-put_row-end invariant-loop decreases-loop) → let s = entry-2 w in
    Leaves s w.put_row-end.new.out w.put_row-end.result (from s 0)
headed w = let s = entry-2 w in rest_more (head s) (from s 0) (room s) (named w.before.before.before.before) w.put_row-end.ensures

-- the place before the loop, and the room for the sections there
abbrev start : tie.At-loop-k invariant-loop decreases-loop → tie.After-put_row-end invariant-loop decreases-loop
start l = l.before.before.before

abbrev entry : tie.At-loop-k invariant-loop decreases-loop → tie.Start invariant-loop decreases-loop
entry l = entry-2 (start l)

sections-room : (w : tie.After-put_row-end invariant-loop decreases-loop) → Room w.put_row-end.new.out w.put_row-end.result (from (entry-2 w) 0)
sections-room w = let s = entry-2 w in last-room (from s 0) (room s) (headed w)

-- what is left at a turn of the loop: section k, and those after it
left : (t : tie.In-loop-k invariant-loop decreases-loop)
    → let s = entry t.before in
    let w = start t.before in
    Rest w.put_row-end.new.out w.put_row-end.result (from s 0) t.loop-k.out t.loop-k.end
    (section_text s.args.m.now (section_at s.args.layout t.loop-k.k) ++ from s (suc t.loop-k.k))
left t =
    let s = entry t.before in
    rw (text-more s.args.m.now s.args.layout t.loop-k.k t.loop-k-test.true) at t.loop-k.invariant.1

put-requires : tie.Need-put-head-requires invariant-loop decreases-loop
put-requires c κs =
    rest-room (bytes "aag ") (head c.before.before.before.before.before ++ from c.before.before.before.before.before 0) (room c.before.before.before.before.before) (whole c.before.before.before.before.before)

put-row-requires : tie.Need-put_row-end-requires invariant-loop decreases-loop
put-row-requires c κs =
    let s = entry-1 c.before.before.before in
    (omega (arith, head-inside s.requires.0 s.requires.1), rest-room (head s) (from s 0) (room s) (named c.before.before.before))

loop-holds : tie.Need-loop-k-init invariant-loop decreases-loop
loop-holds c =
    (omega arith, rest-start c.put_row-end.new.out c.put_row-end.result (from (entry-2 c.before.before) 0))

section-at-requires : tie.Need-section_at-t-requires invariant-loop decreases-loop
section-at-requires c κs = c.loop-k-test.true

write-section-requires : tie.Need-write_section-end-requires invariant-loop decreases-loop
write-section-requires c κs =
    let s = entry c.before.before.before in
    let k = c.loop-k.k in
    let r = section-rows s.requires.0 s.requires.1 k c.loop-k-test.true in
    let u = section_text s.args.m.now (section_at s.args.layout k) in
    rw c.section_at-t.ensures
    (r, rest-room u (from s (suc k)) (sections-room (start c.before.before.before)) (left c.before.before))

add-k : tie.Need-overflow_add-k invariant-loop decreases-loop
add-k c = omega (arith, c.loop-k-test.true)

loop-less : tie.Need-loop-k-smaller invariant-loop decreases-loop
loop-less c = omega (arith, c.loop-k-test.true)

loop-again : tie.Need-loop-k-preserved invariant-loop decreases-loop
loop-again c =
    let s = entry c.before.before.before.before.before.before in
    let k = c.loop-k.k in (
      omega (arith, c.loop-k-test.true),
      rw (add-one k)
          (rest_more (section_text s.args.m.now (section_at s.args.layout k)) (from s (suc k)) (sections-room (start c.before.before.before.before.before.before))
          (left c.before.before.before.before.before) (rw c.section_at-t.ensures at c.write_section-end.ensures)),
    )

-- all is written
done : (c : tie.After-loop-k invariant-loop decreases-loop) → let s = entry c.before in
    Placed s.args.out.now 0 (write (circuit_in s.args.m.now)) c.loop-k.end c.loop-k.out
done c =
    let s = entry c.before in
    let e : c.loop-k.k ≡ 6 = omega (arith, c.loop-k.invariant.0, c.loop-k-test.false) in
    last-placed (from s 0) (room s) (headed (start c.before)) (rest_end (rw e at c.loop-k.invariant.1))

same_length : tie.Need-shape_of-out invariant-loop decreases-loop
same_length c = placed-length (room (entry c.before)) (done c)

returns : tie.Need-returns invariant-loop decreases-loop
returns c =
    let s = entry c.before in
    (done c).contents ∙ put_front s.args.out.now (write (circuit_in s.args.m.now))

pub write_text_spec : {M : Type 1} → statement M
write_text_spec =
    tie.close
    (tie.spec invariant-loop decreases-loop put-requires put-row-requires loop-holds section-at-requires write-section-requires add-k loop-less loop-again same_length returns)
