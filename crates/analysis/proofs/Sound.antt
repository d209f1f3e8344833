-- Analysis keeps the working clause one that holds in every hit. Assumes nothing.
use mathlib.Core.Path.{◌≡◌, refl, sym, ap, ◌∙◌}
use mathlib.Core.Bool.{Bool, true, false, cond}
use mathlib.Core.List.{List}
use Prim.Native.Nat.{ℕ, zero, suc, ◌+◌, ◌-◌, ◌*◌, ◌/◌, ◌≤◌, ◌<◌}
use native.Mathlib.Omega.{arith}
use lib.Dec.{leb}
use lib.ListN.{get_or}
use Rattle.memory.specs.Record.{field, stored, opposite}
use Rattle.memory.specs.declared.Netlist.{Netlist}
use Rattle.memory.specs.declared.Arena.{Arena}
use Rattle.memory.specs.declared.Draft.{Draft}
use Rattle.memory.specs.declared.Trail.{Trail}
use Rattle.reasons.specs.Reason.{is_reason}
use Rattle.reasons.specs.Claims.{Same, Sound}
use Rattle.reasons.proofs.Valid.{sound-same}
use Rattle.reasons.proofs.Frame.{stored_same, stored-after}
use Rattle.resolve.specs.Draft.{Drafted, drafted, draft_at, is_member, taken, started, resolved}
use Rattle.resolve.proofs.Sound.{InDraft, Drafting, start-sound, resolve-sound}
use Rattle.analysis.specs.declared.Analysis.{Analysis}
use Rattle.analysis.specs.Analysis.{sum, less, touched, tallied, draft, analysis_of, touched_all, recounted, replaced, visited}
use Rattle.analysis.specs.Analysis.{descended, followed, analysed, unfolded, expanded, expanded_from, expanded_all, Analysed}

module _ (hit : (ℕ → Bool) → Type 0) (net : Netlist) (arena : Arena) where
  -- an activity is part of no claim
  touch-sound : (w : List ℕ) (v step : ℕ) (d : Draft) → Drafting hit net arena w d → Drafting hit net arena (touched w net.nodes v step) d
  unfolding touched
  touch-sound w v step d given =
      let x = sum (field w net.nodes v 11) step in
      let u = stored w net.nodes v 11 x in
      let room = given.sound.room in
      let e : (i : ℕ) → draft_at u net arena i ≡ draft_at w net arena i =
      λ i. stored-after w net.nodes v 11 x (14 * net.nodes + arena.used + i) (omega arith) (omega arith) in
      record {
        sound = sound-same (stored_same net arena w room v 11 x (omega arith) (omega arith)) given.sound;
        fits = given.fits;
        valid = λ z a h. let r = given.valid z a h in (r.0, (r.1.0, r.1.1, e r.1.0 ∙ r.1.2), r.2);
      }

  touch-all-sound : (w : List ℕ) (from level step k n : ℕ) (d : Draft) → Drafting hit net arena w d
      → Drafting hit net arena (touched_all w net arena from level step k n).words d
  unfolding touched_all
  touch-all-sound w from level step zero n d given = given
  touch-all-sound w from level step (suc k) n d given =
      let v = draft_at w net arena k / 2 in
      let u = touched w net.nodes v step in
      let m = tallied w net.nodes v level n in
      go (leb (suc k) from) (touch-all-sound u from level step k m d (touch-sound w v step d given))
    where
      go : (b : Bool)
          → Drafting hit net arena
          (touched_all (touched w net.nodes (draft_at w net arena k / 2) step) net arena from level step k
          (tallied w net.nodes (draft_at w net arena k / 2) level n)).words d
          → Drafting hit net arena
          (cond b (record { words = w; count = n })
          (touched_all (touched w net.nodes (draft_at w net arena k / 2) step) net arena from level step k
          (tallied w net.nodes (draft_at w net arena k / 2) level n))).words d
      go true r = given
      go false r = r

  -- an analysis whose working clause is one
  abbrev Analysing : Analysed → Type 0
  Analysing s = Drafting hit net arena s.words (draft s.now)

  recount-sound : (w : List ℕ) (d : Draft) (from current level step : ℕ) → Drafting hit net arena w d
      → Analysing (recounted w net arena d from current level step)
  unfolding recounted
  recount-sound w d from current level step given = touch-all-sound w from level step d.length 0 d given

  replace-sound : (w : List ℕ) (a : Analysis) (l level step : ℕ) → Drafting hit net arena w (draft a) → Analysing (replaced w net arena a l level step)
  unfolding replaced
  replace-sound w a l level step given =
      let why = field w net.nodes (l / 2) 4 in
      let s = resolved w net arena (draft a) why l in
      recount-sound s.words s.draft (less a.length) a.current level step (resolve-sound hit net arena w (draft a) why l given)

  either : (b : Bool) (s t : Analysed) → Analysing s → Analysing t → Analysing (cond b s t)
  either true s t p q = p
  either false s t p q = q

  visit-sound : (w : List ℕ) (a : Analysis) (t level step : ℕ) → Drafting hit net arena w (draft a) → Analysing (visited w net arena a t level step)
  unfolding visited
  visit-sound w a t level step given =
      let l = field w net.nodes t 9 in
      either (is_member w net arena (draft a) (opposite l)) (replaced w net arena a l level step) (record { words = w; now = a })
      (replace-sound w a l level step given) given

  descend-sound : (w : List ℕ) (a : Analysis) (level step t : ℕ) → Drafting hit net arena w (draft a) → Analysing (descended w net arena a level step t)
  unfolding descended
  descend-sound w a level step zero given = given
  descend-sound w a level step (suc t) given =
      let s = visited w net arena a t level step in
      either (leb a.current 1) (record { words = w; now = a }) (descended s.words net arena s.now level step t) given
      (descend-sound s.words s.now level step t (visit-sound w a t level step given))

  -- the clause that is learnt from a violated clause holds in every hit, whatever the trail, the levels and the reasons say
  pub analyse-sound : (w : List ℕ) (trail : Trail) (r step : ℕ) → Sound hit net arena w
      → Drafting hit net arena (analysed w net arena trail r step).words (analysed w net arena trail r step).draft
  unfolding analysed followed
  analyse-sound w trail r step sound =
      let s = started w net arena r in
      let d = s.draft in
      let c = touched_all s.words net arena 0 trail.level step d.length 0 in
      descend-sound c.words (analysis_of d c.count) trail.level step trail.length
      (touch-all-sound s.words 0 trail.level step d.length 0 d (start-sound hit net arena w r sound))

  -- a working clause
  abbrev Whole : Drafted → Type 0
  Whole s = Drafting hit net arena s.words s.draft

  choose : (b : Bool) (s t : Drafted) → Whole s → Whole t → Whole (cond b s t)
  choose true s t p q = p
  choose false s t p q = q

  expand-sound : (w : List ℕ) (d : Draft) (t : ℕ) → Drafting hit net arena w d → Whole (expanded w net arena d t)
  unfolding expanded unfolded
  expand-sound w d t given =
      let l = field w net.nodes t 9 in
      let why = field w net.nodes (l / 2) 4 in
      let old = drafted w d in
      let new = resolved w net arena d why l in
      choose (is_reason net arena why) (cond (is_member w net arena d (opposite l)) new old) old
      (choose (is_member w net arena d (opposite l)) new old (resolve-sound hit net arena w d why l given) given) given

  expand-from-sound : (w : List ℕ) (d : Draft) (t : ℕ) → Drafting hit net arena w d → Whole (expanded_from w net arena d t)
  unfolding expanded_from
  expand-from-sound w d zero given = given
  expand-from-sound w d (suc t) given =
      let s = expanded w net arena d t in
      expand-from-sound s.words s.draft t (expand-sound w d t given)

  -- so does the clause of decisions
  pub expand-all-sound : (w : List ℕ) (r n : ℕ) → Sound hit net arena w → Whole (expanded_all w net arena r n)
  unfolding expanded_all
  expand-all-sound w r n sound =
      let s = started w net arena r in
      expand-from-sound s.words s.draft n (start-sound hit net arena w r sound)
