-- The frames of the run of a completion, and what is seen of all of them. Assumes nothing.
use mathlib.Core.Path.{◌≡◌, refl, sym, ap, ap₂, ◌∙◌, subst}
use mathlib.Core.Bool.{Bool, true, false, ◌&&◌}
use mathlib.Core.List.{List, []}
use mathlib.Core.Option.{Option, none, some}
use Prim.Native.Nat.{ℕ, zero, suc, ◌+◌, ◌-◌, ◌*◌, ◌≤◌, ◌<◌}
use native.Mathlib.Numerals.{add-one}
use native.Mathlib.Omega.{arith}
use lib.Dec.{T}
use lib.ListN.{length, get_or, replicate}
use Rattle.aiger.specs.Lists.{every_below}
use Rattle.aiger.specs.Circuit.{Circuit, var}
use Rattle.aiger.specs.Frames.{Run, value, state, value_at, constrained, allowed, hits}
use Rattle.aiger.specs.Witness.{Witness, agrees, confirms}
use Rattle.aiger.proofs.Tests.{and, and_left, and_right, T_true, below_at, below_all, every_in}
use Rattle.completions.specs.Either.{all_pass, shows}
use Rattle.completions.specs.Forms.{Completes}
use Rattle.completions.proofs.Completions.{all_from}
use Rattle.completions.proofs.Forms.{completes-form}
use Rattle.layout.specs.Words.{word, circuit_in}
use Rattle.layout.specs.declared.Layout.{Layout}
use Rattle.meaning.specs.Frame.{latch_at, Valuation}
use Rattle.meaning.proofs.Values.{frame_at, frame-valuation, state-start, state-next-at}
use Rattle.witness.specs.Line.{values}
use Rattle.witness.proofs.Lines.{values_length}
use Rattle.frames.specs.Lanes.{Ready, constrained_in, bad_in}
use Rattle.frames.proofs.Facts.{right, known, no-cycle, constraints-are, constraint-place, constraint-below, bad-place, bad-below}
use Rattle.frames.proofs.Laws.{constrained-of-run, hit-of-run}
use Rattle.blocks.specs.Runs.{RunAt, BodyRead, Fits}
use Rattle.ternary.specs.Cover.{Covers}
use Rattle.ternary.specs.Entries.{line_of, next_of, row_at, latches_from, entries_at, sure, sure_below, starts_agree, sees_hit}
use Rattle.ternary.proofs.Entries.{latches-length, entries-length}
use Rattle.ternary.proofs.Covering.{Admits, read-admits, below-covers, all-covers}
use Rattle.ternary.proofs.Frames.{line-admits, next_fits, frame-covers, starts-agree, sure-true}

-- a body that was read shows a hit where its start agrees and its last frame hits
shown : (c : Circuit) (b frames : ℕ) (u : List ℕ) (h : BodyRead c b frames u) → T (agrees c.latches h.run.start)
    → T (hits c b h.run (frames - 1)) → T (shows c b u)
unfolding shows confirms
shown c b frames u h s t =
    subst (λ (o : Option Witness). T (elim o [ none ↦ false | some x ↦ confirms c x ])) (sym h.reads)
    (and (agrees c.latches h.run.start) (hits c b h.run (length h.run.rows - 1)) s
    (subst (λ (n : ℕ). T (hits c b h.run (n - 1))) (sym h.run_at.frames-are) t))

-- the next state, by the values of the frame before
state-next : (c : Circuit) (r : Run) (t j : ℕ) → j < length c.latches
    → get_or (state c r (suc t)) j false ≡ value (frame_at c r t) (latch_at c j).next
unfolding value_at
state-next c r t j l = state-next-at c r t j l

-- the variables of constraints and of bad lines, and constraints one by one
module _ {m : List ℕ} {layout : Layout} {order : List ℕ} (R : Ready m layout order 4097) where
  constraint-small : (i : ℕ) → i < length (circuit_in m).constraints → var (get_or (circuit_in m).constraints i 0) < 4097
  constraint-small i h =
      let l : i < layout.c = omega (arith, constraints-are R) in
      omega (arith, ap var (constraint-place R i l), constraint-below R i l)

  bad-small : (b : ℕ) → b < word m 5 → var (get_or (circuit_in m).bads b 0) < 4097
  bad-small b h = omega (arith, ap var (bad-place R b h), bad-below R b h)

  constrained-each : (w : ℕ → Bool) → ((i : ℕ) → i < length (circuit_in m).constraints → T (value w (get_or (circuit_in m).constraints i 0)))
      → T (constrained_in (circuit_in m) w)
  constrained-each w h = every_in (value w) (circuit_in m).constraints 0 h

module _ {m : List ℕ} {layout : Layout} {order : List ℕ} (R : Ready m layout order 4097) where
  abbrev c : Circuit
  c = circuit_in m

  run-frame : (r : Run) (t : ℕ) → Valuation c (get_or r.rows t []) (state c r t) (frame_at c r t)
  run-frame r t = frame-valuation c (right R.held) (no-cycle R.held) (state c r t) (get_or r.rows t [])

  -- a frame in which every constraint holds, and one frame more of those in which they hold
  frame-constrained : (r : Run) (t : ℕ) → T (constrained_in c (frame_at c r t)) → T (constrained c r t)
  frame-constrained r t h = subst T (constrained-of-run (right R.held) (known R.held) (no-cycle R.held) r t (run-frame r t)) h

  -- a run hits where its frames break no constraint and the bad line is true in the last one
  run-hits : (b t : ℕ) (r : Run) → T (every_below (suc t) (constrained c r)) → T (bad_in c b (frame_at c r t)) → T (hits c b r t)
  unfolding allowed
  run-hits b t r h k =
      subst T (hit-of-run (right R.held) (known R.held) (no-cycle R.held) r t (run-frame r t) b)
      (and (allowed c r t) (bad_in c b (frame_at c r t)) h k)

  module _ (n : ℕ) (big : 8194 ≤ n) (body x : List ℕ) (q : Completes body x) {frames : ℕ} {r : Run} (a : RunAt c x frames r) where
    row-frame : (t : ℕ) → t < frames → Valuation c (values x (row_at c t) (length c.inputs)) (state c r t) (frame_at c r t)
    row-frame t h = subst (λ (row : List Bool). Valuation c row (state c r t) (frame_at c r t)) (a.row_is t h) (run-frame r t)

    -- the entries after frame t allow its values
    pub entries-cover : (t : ℕ) → t < frames → Covers (entries_at n c order body t) (frame_at c r t)
    unfolding entries_at
    entries-cover zero h =
        let w = frame_at c r 0 in
        let v = row-frame 0 h in
        let l = length c.latches in
        let start = latches_from c (line_of body 0) n in
        frame-covers R body x q (row_at c 0) start (state c r 0) w (omega (arith, latches-length c (line_of body 0) n)) v
        (below-covers (λ j. var (latch_at c j).lit) (line_of body 0) l (replicate n 1) w
        (λ j k.
        let e = v.latch j k ∙ ap (λ (bs : List Bool). get_or bs j false) (state-start c r ∙ a.start_is) in
        subst (Admits (line_of body 0 j)) (sym e) (line-admits body x q 0 l j k))
        (all-covers n w))
    entries-cover (suc t) h =
        let w = frame_at c r (suc t) in
        let v = row-frame (suc t) h in
        let can = entries_at n c order body t in
        let old = entries-cover t (omega arith) in
        let size = entries-length n c order body t in
        frame-covers R body x q (row_at c (suc t)) (latches_from c (next_of c can) n) (state c r (suc t)) w
        (omega (arith, latches-length c (next_of c can) n)) v
        (below-covers (λ j. var (latch_at c j).lit) (next_of c can) (length c.latches) (replicate n 1) w
        (λ j k.
        let e = v.latch j k ∙ state-next c r t j k in
        subst (Admits (next_of c can j)) (sym e)
        (read-admits can (frame_at c r t) (latch_at c j).next (next_fits R j (length can) k (omega arith)) old))
        (all-covers n w))

    -- sure constraints hold in it
    pub sure-constrained : (t : ℕ) → t < frames → T (sure_below c (entries_at n c order body t)) → T (constrained c r t)
    sure-constrained t h s =
        let can = entries_at n c order body t in
        let size = entries-length n c order body t in
        let k = length c.constraints in
        frame-constrained r t
        (constrained-each R (frame_at c r t)
        (λ i l.
        sure-true can (frame_at c r t) (get_or c.constraints i 0) (omega (arith, size, constraint-small R i l)) (entries-cover t h)
        (below_at k (λ i. sure can (get_or c.constraints i 0)) s i l)))

  -- where the pass sees a hit, every completion shows one
  pub sees-sound : (n b frames count : ℕ) (body : List ℕ) → 8194 ≤ n → b < word m 5 → Fits c b frames count body
      → sees_hit n c order b frames body ≡ true → T (all_pass (shows c b) body)
  unfolding sees_hit
  sees-sound n b frames count body big bad F e =
      let t = T_true e in
      let can = entries_at n c order body in
      let p : ℕ → Bool = λ u. sure_below c (can u) in
      let last = sure (can (frames - 1)) (get_or c.bads b 0) in
      let starts = and_left (starts_agree c body) (every_below frames p && last) t in
      let rest = and_right (starts_agree c body) (every_below frames p && last) t in
      let one : suc (frames - 1) ≡ frames = omega (arith, F.some-frame) in
      all_from (shows c b) body
      (λ x q.
      let B = F.form x (completes-form q) in
      let r = B.run in
      let a = B.run_at in
      shown c b frames x B
      (subst (λ (bs : List Bool). T (agrees c.latches bs)) (sym a.start_is)
      (starts-agree c body x q (values_length x 0 (length c.latches)) starts))
      (run-hits b (frames - 1) r
      (subst (λ (k : ℕ). T (every_below k (constrained c r))) (sym one)
      (below_all frames (constrained c r)
      (λ u l. sure-constrained n big body x q a u l (below_at frames p (and_left (every_below frames p) last rest) u l))))
      (sure-true (can (frames - 1)) (frame_at c r (frames - 1)) (get_or c.bads b 0)
      (omega (arith, entries-length n c order body (frames - 1), bad-small R b bad))
      (entries-cover n big body x q a (frames - 1) (omega (arith, F.some-frame)))
      (and_right (every_below frames p) last rest))))
