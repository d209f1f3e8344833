-- The rows of the table are the same rows of the machine at the end as at the beginning. Assumes nothing.
-- The laws of the sets say of any machine that its rows are rows of the table at the end too, not which. A machine whose rows are those of
-- the table, one for one, leaves no choice: an order of so many rows among themselves is the identity.
use mathlib.Core.Path.{◌≡◌, refl, sym, ap, ◌∙◌, subst}
use mathlib.Core.Bool.{true, false}
use mathlib.Core.List.{List}
use mathlib.Core.Option.{Option, none, some}
use Prim.Native.Nat.{ℕ, zero, suc, ◌+◌, ◌-◌, ◌≤◌, ◌<◌}
use native.Mathlib.Decide.{dec_lt}
use native.Mathlib.Omega.{arith}
use Rattle.machine.specs.Machine.{Machine}
use Rattle.machine.proofs.Theorems.{QuietBefore}
use Rattle.backward.specs.Sets.{any_below, Inside}
use Rattle.diagrams.specs.Meaning.{Assignment}
use Rattle.state_sets.specs.declared.Shape.{Shape}
use Rattle.state_sets.specs.Sets.{Sets, sets_of}
use Rattle.state_sets.specs.Meaning.{Values, values_of, Coded, is_some, Alike, RowsOf, Held}
use Rattle.set_walk.specs.Start.{StartsOf}
use Rattle.set_attempt.specs.Attempt.{Setup}
use Rattle.set_frames.specs.Frames.{setup_in, Ran, ran, frames_run, ending_of, Begun, Started, FramesAre}
use Rattle.set_frames.specs.declared.Reached.{Reached}
use Rattle.set_frames.specs.declared.Reached.TheVariants as variants
use Rattle.set_frames.proofs.Endings.{run_ends}
use Rattle.set_frames.proofs.Sound.{RunIs, run_is}

clash : {A : Type 0} → true ≡ false → A
clash e = absurd (let z : ◌≡◌ {A = ℕ} 0 1 = cc in omega arith)

-- ---- an order of so many rows among themselves

module _ (rows : ℕ) (first like : ℕ → ℕ) (fits : (k : ℕ) → k < rows → first k < rows) (back : (k : ℕ) → k < rows → like (first k) ≡ k)
    (order : (k l : ℕ) → k ≤ l → l < rows → first k ≤ first l) where
  rises : (d k : ℕ) → k + d < rows → first k + d ≤ first (k + d)
  rises zero k l = let e : first (k + 0) ≡ first k = ap first (omega arith) in omega (arith, e)
  rises (suc d) k l =
      let a = rises d k (omega arith) in
      let b = order (k + d) (k + suc d) (omega arith) l in
      elim (dec_lt (first (k + d)) (first (k + suc d))) [
        | yes q ↦ omega (arith, a)
        | no q ↦
            let e : first (k + d) ≡ first (k + suc d) = omega (arith, b) in
            let c : k + d ≡ k + suc d = sym (back (k + d) (omega arith)) ∙ ap like e ∙ back (k + suc d) l in
            absurd (omega arith)
      ]

  stays : (k : ℕ) → k < rows → first k ≡ k
  stays k l =
      let d = rows - 1 - k in
      let e : first (0 + k) ≡ first k = ap first (omega arith) in
      let a = rises k 0 (omega arith) in
      let b = rises d k (omega arith) in
      let c = fits (k + d) (omega arith) in
      omega (arith, a, b, c, e)

-- ---- the machine of the table's rows

abbrev machine_by : Machine → ℕ → (ℕ → ℕ) → Machine
machine_by m rows first =
    record {
      starts = m.starts;
      rows = rows;
      slots = m.slots;
      start = m.start;
      step = λ s k. m.step s (first k);
      hit = λ s k. m.hit s (first k);
    }

module _ (m : Machine) (n : ℕ) (at : ℕ → Assignment) (vars rows : ℕ) where
  -- row k of the table is row `first k` of the machine
  module _ (vs : Values) (r : RowsOf m n at vars rows vs) where
    first_alike : (k s : ℕ) → k < rows → s < n → Alike m at vars k (r.first k) s vs
    first_alike k s kl sl =
        subst (λ (i : ℕ). Alike m at vars i (r.first k) s vs) (r.like-first k kl) (r.alike (r.first k) s (r.first_fits k kl) sl)

    rows-by : RowsOf (machine_by m rows r.first) n at vars rows vs
    rows-by =
        record {
          like = λ k. k;
          first = λ k. k;
          like-fits = λ k l. l;
          first_fits = λ k l. l;
          like-first = λ k l. refl;
          first-least = λ k l. omega arith;
          first-order = λ k i l a. l;
          alike = λ k s kl sl.
              let a = first_alike k s kl sl in record { hits = a.hits; allowed = a.allowed; leads = λ x v e l. a.leads x v e l };
          begins = λ y l. r.begins y l;
        }

  -- the next state of a row that is allowed
  some_next : (o : Option ℕ) → is_some o ≡ true → (x : ℕ) × (o ≡ some x)
  some_next none e = clash (sym e)
  some_next (some x) e = (x, refl)

  -- rows of the table at the beginning, and at the end those of the machine of the table's rows
  module _ (vs us : Values) (r : RowsOf m n at vars rows vs) (e : RowsOf (machine_by m rows r.first) n at vars rows us) where
    same_row : (k : ℕ) → k < rows → e.like k ≡ k
    same_row k l =
        ap (λ (i : ℕ). e.like i) (sym (stays rows e.first e.like e.first_fits e.like-first e.first-order k l)) ∙ e.like-first k l

    at-end : (k s : ℕ) → k < rows → s < n → Alike (machine_by m rows r.first) at vars k k s us
    at-end k s kl sl = subst (λ (i : ℕ). Alike (machine_by m rows r.first) at vars i k s us) (same_row k kl) (e.alike k s kl sl)

    rows-still : RowsOf m n at vars rows us
    rows-still =
        record {
          like = r.like;
          first = r.first;
          like-fits = r.like-fits;
          first_fits = r.first_fits;
          like-first = r.like-first;
          first-least = r.first-least;
          first-order = r.first-order;
          alike = λ q s ql sl.
              let k = r.like q in
              let kl = r.like-fits q ql in
              let a = r.alike q s ql sl in
              let b = first_alike vs r k s kl sl in
              let c = at-end k s kl sl in
              record {
                hits = c.hits ∙ sym b.hits ∙ a.hits;
                allowed = c.allowed ∙ sym b.allowed ∙ a.allowed;
                leads = λ x v d l.
                    let y = some_next (m.step s (r.first k)) (sym b.allowed ∙ a.allowed ∙ ap is_some d) in
                    c.leads y.0 v y.1 l ∙ sym (b.leads y.0 v y.1 l) ∙ a.leads x v d l;
              };
          begins = λ y l. e.begins y l;
        }

-- ---- from the beginning to the end

module _ (level : ℕ) (m : Machine) (n : ℕ) (inside : Inside m n) (at : ℕ → Assignment) (p : Setup)
    (begins : StartsOf m at p.vars p.frees p.base) (z : Sets) (h : Held level m n at p.vars p.rows 0 0 z) where
  abbrev by : Machine
  by = machine_by m p.rows h.standing.rows-of.first

  inside-by : Inside (machine_by m p.rows h.standing.rows-of.first) n
  inside-by =
      record {
        begins = λ y l. inside.begins y l;
        goes = λ s k x sl kl e. inside.goes s (h.standing.rows-of.first k) x sl (h.standing.rows-of.first_fits k kl) e;
      }

  starts_by : StartsOf (machine_by m p.rows h.standing.rows-of.first) at p.vars p.frees p.base
  starts_by =
      record {
        places = begins.places;
        wide = begins.wide;
        past = begins.past;
        clear = begins.clear;
        apart = begins.apart;
        free = λ y u l. begins.free y u l;
        fixed = λ y v l. begins.fixed y v l;
      }

  held_by : Held level (machine_by m p.rows h.standing.rows-of.first) n at p.vars p.rows 0 0 z
  unfolding any_below
  held_by =
      record {
        room = h.room;
        tabled = h.tabled;
        standing =
            record {
              rows-of = rows-by m n at p.vars p.rows (values_of z.state.nodes z.table) h.standing.rows-of;
              sets = λ j s l sl. absurd (omega arith);
              union = λ s l. h.standing.union s l;
              part = λ s l. h.standing.part s l;
            };
      }

  -- what stands at the end, with the rows of the beginning
  held-still : (next : ℕ) (y : Sets) → Held level m n at p.vars p.rows next 0 y
      → Held level (machine_by m p.rows h.standing.rows-of.first) n at p.vars p.rows next 0 y
      → Held level m n at p.vars p.rows next 0 y
  unfolding any_below
  held-still next y a b =
      record {
        room = a.room;
        tabled = a.tabled;
        standing =
            record {
              rows-of =
                  rows-still m n at p.vars p.rows (values_of z.state.nodes z.table) (values_of y.state.nodes y.table)
                  h.standing.rows-of b.standing.rows-of;
              sets = a.standing.sets;
              union = a.standing.union;
              part = λ s l. a.standing.part s l;
            };
      }

-- ---- the contract

module _ (s : Shape) (frees base : List ℕ) (first n : ℕ) (z : Sets) (before : List ℕ) (few : s.rows ≤ 16) (most : n ≤ 256) where
  module _ (w table bits : List ℕ) (t : ℕ) (e : ran (sets_of w table) bits (variants.Hit t) ≡ frames_run (setup_in s frees base) first n 0 before z) where
    hit-is : (level : ℕ) (m : Machine) (states : ℕ) (inside : Inside m states) (at : ℕ → Assignment) (coded : Coded at s.vars)
        (begins : StartsOf m at s.vars frees base) → Held level m states at s.vars s.rows 0 0 z
        → RunIs level m states inside at (setup_in s frees base) coded few begins first (0 + n) (variants.Hit t) (sets_of w table) bits
    hit-is level m states inside at coded begins h =
        let p = setup_in s frees base in
        subst (λ (o : Ran). RunIs level m states inside at p coded few begins first (0 + n) o.reached o.sets o.bits) (sym e)
        (run_is level m states inside at p coded few begins first n 0 before z (omega arith) h (λ q u l. absurd (omega arith)))

    hit-started : (level : ℕ) (m : Machine) (states : ℕ) → Inside m states → (at : ℕ → Assignment) → Coded at s.vars
        → StartsOf m at s.vars frees base → (h : Held level m states at s.vars s.rows 0 0 z) → QuietBefore m first
        → Started level m states at s t w table frees bits h.standing.rows-of.first
    unfolding held-still rows-still
    hit-started level m states inside at coded begins h quiet =
        let p = setup_in s frees base in
        let a = hit-is level m states inside at coded begins h in
        let b =
        hit-is level (machine_by m s.rows h.standing.rows-of.first) states (inside-by level m states inside at p begins z h) at coded
        (starts_by level m states inside at p begins z h) (held_by level m states inside at p begins z h) in
        let q = a.2 quiet in
        record {
          setting =
              record {
                inside = inside;
                coded = coded;
                held = held-still level m states inside at p begins z h (suc t) (sets_of w table) a.1 b.1;
                quiet = q.0;
              };
          rows = λ k. refl;
          place = q.1.0;
          walking = q.1.1;
          here = q.1.2;
          free = q.1.3;
        }

  pub frames-are : Begun s frees base z → (w table bits : List ℕ) (r : Reached)
      → ran (sets_of w table) bits r ≡ frames_run (setup_in s frees base) first n 0 before z → FramesAre s frees base first n z w table bits r
  frames-are b w table bits r e =
      record {
        ends = λ q. run_ends q (setup_in s frees base) first n 0 before z ∙ ap (λ (o : Ran). ending_of q o.reached) (sym e);
        hit = λ t d.
            let f : ran (sets_of w table) bits (variants.Hit t) ≡ frames_run (setup_in s frees base) first n 0 before z =
            ap (ran (sets_of w table) bits) (sym d) ∙ e in (
              omega (arith, (hit-is w table bits t f b.level b.machine b.n b.inside b.at b.coded b.starts b.held).0),
              λ level m states inside at coded small begins h quiet. hit-started w table bits t f level m states inside at coded begins h quiet,
            );
      }
