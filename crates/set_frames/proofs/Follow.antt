-- The steps of the code, each taken by the definitions; and the sets that stand before each. Assumes nothing.
use mathlib.Core.Path.{◌≡◌, sym, ap, ◌∙◌, subst}
use mathlib.Core.Bool.{Bool, true, false, cond}
use mathlib.Core.List.{List}
use Prim.Native.Nat.{ℕ, suc, ◌≤◌, ◌<◌}
use borrow.Author.Tests.{lt-ltb, le-ltb, ne_eqb, eq-eqb}
use lib.Dec.{ltb}
use lib.ListN.{get_or}
use Rattle.diagrams.specs.States.{State}
use Rattle.diagrams.specs.Meaning.{In, Terms, Good}
use Rattle.collection.specs.Collecting.{Collection, collection, collected}
use Rattle.state_sets.specs.declared.Shape.{Shape}
use Rattle.state_sets.specs.Sets.{Sets, Tried, advanced}
use Rattle.state_sets.specs.Meaning.{terms_of, Held}
use Rattle.state_sets.proofs.Sound.{advanced-right}
use Rattle.set_walk.specs.declared.Start.{Start}
use Rattle.set_walk.specs.declared.Start.TheVariants as starts
use Rattle.set_walk.specs.Start.{sought, seek}
use Rattle.set_attempt.specs.Attempt.{Setup, Seen, seen_in, after_collected, or_once_more, start_seen, start_again}
use Rattle.set_frames.specs.Frames.{setup_in, seen, Ran, ran, reached_by, of_seen, of_set, of_tried, frame_run, on_reached, where_clear, frames_run, Stands}
use Rattle.set_frames.specs.declared.Reached.{Reached}
use Rattle.set_frames.specs.declared.Reached.TheVariants as variants
use Rattle.set_frames.proofs.Sound.{seen-stand, collected-stand, clear-stand}

-- ---- the start states of a set

pub start_is : (s : Shape) (frees base : List ℕ) (t : ℕ) (table : List ℕ) (v u : State) (f : Start) (bits after : List ℕ) → bits ≡ base
    → sought u f after ≡ seek s.vars s.rows t frees table bits v
    → seen (record { state = u; table = table }) f after ≡ start_seen (setup_in s frees base) t (record { state = v; table = table })
unfolding start_seen
start_is s frees base t table v u f bits after e h =
    ap (seen_in table) (h ∙ ap (λ (b : List ℕ). seek s.vars s.rows t frees table b v) e)

module _ (p : Setup) (t : ℕ) (z : Sets) where
  abbrev again : Seen → Seen
  again o = or_once_more o.found o (start_seen p t)

  pub again-least : (y : Sets) (bits : List ℕ) → seen y starts.Least bits ≡ start_seen p t z → seen y starts.Least bits ≡ start_again p t z
  unfolding start_again
  again-least y bits h = ap again h

  pub again-nowhere : (y : Sets) (bits : List ℕ) → seen y starts.Nowhere bits ≡ start_seen p t z → seen y starts.Nowhere bits ≡ start_again p t z
  unfolding start_again
  again-nowhere y bits h = ap again h

  pub again-out : (y : Sets) (bits : List ℕ) (u : State) (table : List ℕ) → seen y starts.Full bits ≡ start_seen p t z
      → collection u table false ≡ collected y.state y.table → seen (record { state = u; table = table }) starts.Full bits ≡ start_again p t z
  unfolding start_again
  again-out y bits u table h g = ap (λ (x : Collection). after_collected x bits (start_seen p t)) g ∙ ap again h

  pub again-more : (y : Sets) (bits : List ℕ) (u : State) (table : List ℕ) (x : Seen) → seen y starts.Full bits ≡ start_seen p t z
      → collection u table true ≡ collected y.state y.table → x ≡ start_seen p t (record { state = u; table = table }) → x ≡ start_again p t z
  unfolding start_again
  again-more y bits u table x h g q = q ∙ ap (λ (x : Collection). after_collected x bits (start_seen p t)) g ∙ ap again h

-- ---- one frame

module _ (p : Setup) (first t : ℕ) (bits : List ℕ) (z y : Sets) where
  pub frame-out : record { sets = y; done = false } ≡ advanced p.vars p.rows t z → ran y bits (variants.GaveUp t) ≡ frame_run p first t bits z
  unfolding frame_run
  frame-out h = ap (of_tried p first t bits) h

  module _ (h : record { sets = y; done = true } ≡ advanced p.vars p.rows t z) where
    frame_made : of_set p first t bits y ≡ frame_run p first t bits z
    unfolding frame_run
    frame_made = ap (of_tried p first t bits) h

    abbrev past : Bool → Bool → Ran
    past e l = cond e (ran y bits (variants.Never t)) (cond l (ran y bits variants.Clear) (of_seen t (start_again p t y)))

    pub frame-never : get_or y.table t 0 ≡ 0 → ran y bits (variants.Never t) ≡ frame_run p first t bits z
    frame-never e = sym (ap (λ (b : Bool). past b (ltb t first)) (eq-eqb (get_or y.table t 0) 0 e)) ∙ frame_made

    pub frame-early : (get_or y.table t 0 ≡ 0 → ⊥) → t < first → ran y bits variants.Clear ≡ frame_run p first t bits z
    frame-early e l =
        sym (ap (λ (b : Bool). past b (ltb t first)) (ne_eqb (get_or y.table t 0) 0 e) ∙ ap (past false) (lt-ltb t first l)) ∙ frame_made

    pub frame-sought : (get_or y.table t 0 ≡ 0 → ⊥) → first ≤ t → (x : Sets) (f : Start) (after : List ℕ) → seen x f after ≡ start_again p t y
        → ran x after (reached_by t f) ≡ frame_run p first t bits z
    frame-sought e l x f after q =
        ap (of_seen t) q
        ∙ sym (ap (λ (b : Bool). past b (ltb t first)) (ne_eqb (get_or y.table t 0) 0 e) ∙ ap (past false) (le-ltb t first l)) ∙ frame_made

-- ---- the frames

module _ (p : Setup) (first : ℕ) where
  pub run_none : (n t : ℕ) (bits : List ℕ) (z : Sets) → n ≡ 0 → ran z bits variants.Clear ≡ frames_run p first n t bits z
  unfolding frames_run
  run_none n t bits z e = sym (ap (λ (k : ℕ). frames_run p first k t bits z) e)

  pub run-stop : (n k t : ℕ) (bits : List ℕ) (z y : Sets) (after : List ℕ) (r : Reached)
      → ((next : List ℕ → Sets → Ran) → ran y after r ≡ on_reached r y after next) → n ≡ suc k
      → ran y after r ≡ frame_run p first t bits z → ran y after r ≡ frames_run p first n t bits z
  unfolding frames_run
  run-stop n k t bits z y after r stops e h =
      stops (frames_run p first k (suc t)) ∙ ap (λ (o : Ran). where_clear o (frames_run p first k (suc t))) h
      ∙ sym (ap (λ (k : ℕ). frames_run p first k t bits z) e)

  pub run_more : (n k t l : ℕ) (bits : List ℕ) (z y : Sets) (after : List ℕ) → n ≡ suc k → l ≡ suc t
      → ran y after variants.Clear ≡ frame_run p first t bits z → frames_run p first k l after y ≡ frames_run p first n t bits z
  unfolding frames_run
  run_more n k t l bits z y after e q h =
      ap (λ (i : ℕ). frames_run p first k i after y) q ∙ ap (λ (o : Ran). where_clear o (frames_run p first k (suc t))) h
      ∙ sym (ap (λ (k : ℕ). frames_run p first k t bits z) e)

-- ---- the sets that stand

module _ (s : Shape) (frees base : List ℕ) (few : s.rows ≤ 16) where
  -- the same machine, where other sets of it stand
  abbrev with_held : {next : ℕ} {z : Sets} (b : Stands s frees base next z) (after : ℕ) (y : Sets)
      → Held b.level b.machine b.n b.at s.vars s.rows after 0 y → Stands s frees base after y
  with_held b after y h =
      record {
        level = b.level;
        machine = b.machine;
        n = b.n;
        at = b.at;
        inside = b.inside;
        coded = b.coded;
        starts = b.starts;
        held = h;
      }

  pub stands-made : (t : ℕ) (z y : Sets) → t < 256 → Stands s frees base t z → record { sets = y; done = true } ≡ advanced s.vars s.rows t z
      → Stands s frees base (suc t) y
  stands-made t z y l b e =
      with_held b (suc t) y
      (subst (λ (x : Sets). Held b.level b.machine b.n b.at s.vars s.rows (suc t) 0 x) (sym (ap (λ (o : Tried). o.sets) e))
      (advanced-right b.level b.machine b.n b.inside b.at s.vars s.rows b.coded few t l z b.held
      (sym (ap (λ (o : Tried). o.done) e))))

  pub stands-again : (t : ℕ) (z y : Sets) (f : Start) (bits : List ℕ) (u : State) (table : List ℕ) → Stands s frees base (suc t) z
      → seen y f bits ≡ start_seen (setup_in s frees base) t z → collection u table true ≡ collected y.state y.table
      → Stands s frees base (suc t) (record { state = u; table = table })
  stands-again t z y f bits u table b e g =
      let p = setup_in s frees base in
      let hold : Sets → Type 0 = λ x. Held b.level b.machine b.n b.at s.vars s.rows (suc t) 0 x in
      let h : hold y =
      subst hold (sym (ap (λ (o : Seen). o.sets) e))
      (seen-stand b.level b.machine b.n b.inside b.at p b.coded few b.starts t z b.held) in
      with_held b (suc t) (record { state = u; table = table })
      (subst hold (sym (ap (λ (x : Collection). record { state = x.state; table = x.roots }) g))
      (collected-stand b.level b.machine b.n b.inside b.at p b.coded few b.starts t y h
      (sym (ap (λ (x : Collection). x.kept) g))))

  pub stands-clear : (first t : ℕ) (bits : List ℕ) (z y : Sets) (after : List ℕ) (l : ℕ) → l ≡ suc t → t < 256 → Stands s frees base t z
      → ran y after variants.Clear ≡ frame_run (setup_in s frees base) first t bits z → Stands s frees base l y
  stands-clear first t bits z y after l q small b e =
      subst (λ (i : ℕ). Stands s frees base i y) (sym q)
      (with_held b (suc t) y
      (clear-stand b.level b.machine b.n b.inside b.at (setup_in s frees base) b.coded few b.starts first t bits z y after small
      b.held e))

  pub stands_good : (next : ℕ) (z : Sets) → Stands s frees base next z → (terms : Terms) × Good terms z.state
  stands_good next z b = (terms_of b.level s.vars s.rows z.table, b.held.tabled.good)

  pub stands-edges : (next : ℕ) (z : Sets) → Stands s frees base next z → (i : ℕ) → In z.state.nodes (get_or z.table i 0)
  stands-edges next z b = b.held.tabled.edges
