-- Clause 12.17: what a finished search says, where all its turns met one circuit. Assumes nothing.
use mathlib.Core.Path.{◌≡◌, refl, sym, ap, ◌∙◌, subst}
use mathlib.Core.Bool.{Bool, true, false, cond}
use mathlib.Core.List.{List, [], ◌∷◌}
use mathlib.Core.Option.{Option, none, some}
use Prim.Native.Nat.{ℕ, ◌+◌, ◌^◌, ◌≤◌, ◌<◌}
use native.Mathlib.Decide.{dec_lt, ℕ_discrete}
use native.Mathlib.Omega.{arith}
use lib.Dec.{T, ltb, eqb}
use borrow.Author.Tests.{eq-eqb, ne_eqb, ltb-true, ltb-false}
use Rattle.aiger.specs.Circuit.{Circuit}
use Rattle.aiger.specs.Frames.{free_bits, run}
use Rattle.aiger.specs.Lists.{every}
use Rattle.aiger.specs.Search.{Question, Outcome, question, reaches, permitted, first_witness}
use Rattle.aiger.specs.Witness.{witness}
use Rattle.aiger.proofs.Tests.{and_left, and_right}
use Rattle.meaning.proofs.Decisions.{NoneFrom, FirstHit}
use Rattle.meaning.proofs.Outcomes.{Decided, Quiet, answer-same, found_in, none_in, first-witness}
use Rattle.place_search.specs.Places.{Placed, answers}
use Rattle.place_search.proofs.Answers.{answers-out, none_then, true-back}
use Rattle.benches.specs.declared.Entry.{Entry}
use Rattle.benches.specs.Bench.{Bench, is_waiting, queued, turned, fresh, moved, entry_after}
use Rattle.benches.specs.Happenings.{Event, Answered, Step, History, is_turn_of, lasts, MeetsAt, Meets}
use Rattle.benches.proofs.Entries.{replaced-same, replaced-other, waiting-stage, free-stage, free-below}
use Rattle.benches.proofs.Order.{turn-first}
use Rattle.benches.proofs.Turns.{next-below, nexts-below, entry-stays}

-- frame t has no hit, and none before it has one
quiet-more : (q : Question) (t : ℕ) → Quiet q t → NoneFrom (q.hitting t) 0 (q.places t) → Quiet q (t + 1)
quiet-more q t f g u l =
    elim (dec_lt u t) [
      | yes b ↦ f u b
      | no b ↦ let e : t ≡ u = omega arith in subst (λ (v : ℕ). NoneFrom (q.hitting v) 0 (q.places v)) e g
    ]

-- ---- how far a search for b up to bound k is

-- no frame before its own has a hit. Unfinished, it has passed the places before its own; found, its frame has a first hit; none, no frame
-- up to the bound has one
pub record Progress (q : Question) (b k : ℕ) (e : Entry) : Type 0 where
  pub line : e.b ≡ b
  pub bound : e.k ≡ k
  pub within : e.frame ≤ k
  pub used : e.stage ≡ 0 → ⊥
  pub quiet : Quiet q e.frame
  pub passed : e.stage ≡ 1 → NoneFrom (q.hitting e.frame) 0 e.place
  pub found : e.stage ≡ 2 → (x : ℕ) × FirstHit (q.hitting e.frame) (q.places e.frame) 0 x
  pub clear : e.stage ≡ 3 → Quiet q (k + 1)

pub fresh-progress : (q : Question) (b k D : ℕ) → Progress q b k (fresh b k D)
fresh-progress q b k D =
    record {
      line = refl;
      bound = refl;
      within = omega arith;
      used = λ z. omega arith;
      quiet = λ u l. absurd (omega arith);
      passed = λ z x l m. absurd (omega arith);
      found = λ z. absurd (omega arith);
      clear = λ z. absurd (omega arith);
    }

module _ (q : Question) (b k : ℕ) (e : Entry) (r : Progress q b k e) (one : e.stage ≡ 1) (g : ℕ) where
  abbrev p : ℕ → Bool
  p = q.hitting e.frame

  abbrev places : ℕ
  places = q.places e.frame

  -- the first hit from the search's place on is the first hit of its frame
  pub hit-first : (x : ℕ) → T (answers p places e.place g (Placed.hit x)) → FirstHit p places 0 x
  hit-first x h =
      true-back p places 0 e.place (omega arith) (r.passed one) (Placed.hit x) (answers-out p places e.place g (Placed.hit x) h)

  clear-all : T (answers p places e.place g Placed.clear) → Quiet q (e.frame + 1)
  clear-all h =
      quiet-more q e.frame r.quiet
      (none_then p places 0 e.place (r.passed one) places (answers-out p places e.place g Placed.clear h))

  hit-progress : (x : ℕ) → T (answers p places e.place g (Placed.hit x)) → Progress q b k (moved e g 2 e.frame e.place)
  hit-progress x h =
      record {
        line = r.line;
        bound = r.bound;
        within = r.within;
        used = λ z. omega arith;
        quiet = r.quiet;
        passed = λ z. absurd (omega arith);
        found = λ z. (x, hit-first x h);
        clear = λ z. absurd (omega arith);
      }

  on-progress : T (answers p places e.place g Placed.clear) → e.frame < e.k → Progress q b k (moved e g 1 (e.frame + 1) 0)
  on-progress h l =
      record {
        line = r.line;
        bound = r.bound;
        within = omega (arith, r.bound);
        used = λ z. omega arith;
        quiet = clear-all h;
        passed = λ z x m n. absurd (omega arith);
        found = λ z. absurd (omega arith);
        clear = λ z. absurd (omega arith);
      }

  last_progress : T (answers p places e.place g Placed.clear) → e.k ≤ e.frame → Progress q b k (moved e g 3 e.frame e.place)
  last_progress h l =
      let same : e.frame ≡ k = omega (arith, r.bound, r.within) in
      record {
        line = r.line;
        bound = r.bound;
        within = r.within;
        used = λ z. omega arith;
        quiet = r.quiet;
        passed = λ z. absurd (omega arith);
        found = λ z. absurd (omega arith);
        clear = λ z. subst (λ (t : ℕ). Quiet q (t + 1)) same (clear-all h);
      }

  spent-progress : (R : ℕ) → T (answers p places e.place g (Placed.spent R)) → Progress q b k (moved e g 1 e.frame R)
  spent-progress R h =
      record {
        line = r.line;
        bound = r.bound;
        within = r.within;
        used = λ z. omega arith;
        quiet = r.quiet;
        passed = λ z. none_then p places 0 e.place (r.passed one) R (answers-out p places e.place g (Placed.spent R) h).1.none;
        found = λ z. absurd (omega arith);
        clear = λ z. absurd (omega arith);
      }

  -- a turn keeps it
  pub turn-progress : (a : Placed) → T (answers p places e.place g a) → Progress q b k (entry_after e g a)
  turn-progress (Placed.hit x) h = hit-progress x h
  turn-progress Placed.clear h = go (ltb e.frame e.k) refl
    where
      go : (t : Bool) → ltb e.frame e.k ≡ t
          → Progress q b k (cond t (moved e g 1 (e.frame + 1) 0) (moved e g 3 e.frame e.place))
      go true z = on-progress h (ltb-true e.frame e.k z)
      go false z = last_progress h (ltb-false e.frame e.k z)
  turn-progress (Placed.spent R) h = spent-progress R h

-- ---- over histories

module _ (chosen : Circuit → ℕ → ℕ → ℕ → ℕ → Placed) (c : Circuit) (b k i : ℕ) where
  -- what a turn of number i says, where it met circuit c
  answer-for : (e : Entry) (g : ℕ) (a : Placed) → Progress (question c b) b k e → Answered chosen c e g a
      → T (answers (reaches c b e.frame) (2 ^ free_bits c e.frame) e.place g a)
  answer-for e g a r h =
      subst (λ (l : ℕ). T (answers (reaches c l e.frame) (2 ^ free_bits c e.frame) e.place g a)) r.line h.permitted

  own_turn : {s : Bench} {d : Circuit} {n g : ℕ} {a : Placed} {u : Bench} → s.next < 16 → Step chosen s (Event.turn d n g a) u → n ≡ i → d ≡ c
      → Progress (question c b) b k (s.entry i) → Progress (question c b) b k (u.entry i)
  own_turn {s} {d = d} {n = n} {g = g} {a = a} l (Step.turns x y z) e f r =
      let one : (s.entry i).stage ≡ 1 = subst (λ (j : ℕ). (s.entry j).stage ≡ 1) e (waiting-stage (s.entry n) (turn-first s l n x).passes) in
      let h = subst (λ (j : ℕ). Answered chosen c (s.entry j) g a) e (subst (λ (y : Circuit). Answered chosen y (s.entry n) g a) f z) in
      let t = turn-progress (question c b) b k (s.entry i) r one g a (answer-for (s.entry i) g a r h) in
      let same : (turned s n g a).entry i ≡ entry_after (s.entry i) g a =
      subst (λ (j : ℕ). (turned s n g a).entry j ≡ entry_after (s.entry j) g a) e (replaced-same s.entry n (entry_after (s.entry n) g a)) in
      subst (Progress (question c b) b k) (sym same) t

  step_stays : {s u : Bench} {e : Event} → Step chosen s e u → T (lasts e) → is_turn_of i e ≡ false
      → Progress (question c b) b k (s.entry i) → Progress (question c b) b k (u.entry i)
  step_stays p l t r = subst (Progress (question c b) b k) (sym (entry-stays chosen i p l t r.used)) r

  step-progress : {s u : Bench} {e : Event} → s.next < 16 → Step chosen s e u → T (lasts e) → MeetsAt c i e
      → Progress (question c b) b k (s.entry i) → Progress (question c b) b k (u.entry i)
  step-progress {e = Event.queue n x y D} m p l w r = step_stays p l refl r
  step-progress {e = Event.allow amount} m p l w r = step_stays p l refl r
  step-progress {e = Event.turn d n g a} m p l w r =
      elim (ℕ_discrete n i) [ yes e ↦ own_turn m p e (w e) r | no f ↦ step_stays p l (ne_eqb n i f) r ]
  step-progress {e = Event.idle} m p l w r = step_stays p l refl r
  step-progress {e = Event.ends} m p l w r = absurd l
  step-progress {e = Event.overwritten} m p l w r = step_stays p l refl r
  step-progress {e = Event.other} m p l w r = step_stays p l refl r

  pub progress : {s u : Bench} {es : List Event} → s.next < 16 → History chosen s es u → T (every lasts es) → Meets c i es
      → Progress (question c b) b k (s.entry i) → Progress (question c b) b k (u.entry i)
  progress m History.stops l w r = r
  progress m (History.goes {e = e} {es = es} p h) l w r =
      progress (next-below chosen p m) h (and_right (lasts e) (every lasts es) l) w.1
      (step-progress m p (and_left (lasts e) (every lasts es) l) w.0 r)

-- ---- from the queue of a search on

module _ (chosen : Circuit → ℕ → ℕ → ℕ → ℕ → Placed) (c : Circuit) (b k D n : ℕ) (s : Bench) (m : s.next < 16) {u : Bench} {es : List Event}
    (h : History chosen (queued s n b k D) es u) (l : T (every lasts es)) (w : Meets c n es) where
  pub queued-progress : Progress (question c b) b k (u.entry n)
  queued-progress =
      progress chosen c b k n m h l w
      (subst (Progress (question c b) b k) (sym (replaced-same s.entry n (fresh b k D))) (fresh-progress (question c b) b k D))

  -- Clause 12.17: found is the answer of every plain search for b and k that is not spent
  pub finished-found : (u.entry n).stage ≡ 2 → (D' : ℕ) (o : Outcome) → Decided o → T (permitted c b k D' o)
      → o ≡ Outcome.found (u.entry n).frame
  finished-found two D' o d g =
      let r = queued-progress in
      let t = (u.entry n).frame in
      let x = r.found two in
      answer-same (question c b) k D' D' o (Outcome.found t) d tt g
      (found_in (question c b) k D' t (record { within = r.within; quiet = r.quiet; place = x.0; first = x.1 }))

  -- and so is none
  pub finished-none : (u.entry n).stage ≡ 3 → (D' : ℕ) (o : Outcome) → Decided o → T (permitted c b k D' o) → o ≡ Outcome.none k
  finished-none three D' o d g =
      answer-same (question c b) k D' D' o (Outcome.none k) d tt g
      (none_in (question c b) k D' k (record { bound = refl; quiet = queued-progress.clear three }))

  finishing : {g x : ℕ} {v : Bench} → Step chosen u (Event.turn c n g (Placed.hit x)) v
      → first_witness c b (u.entry n).frame ≡ witness b (run c (u.entry n).frame x)
  finishing {g = g} {x = x} (Step.turns y z a) =
      let r = queued-progress in
      let one = waiting-stage (u.entry n) (turn-first u (nexts-below chosen h m) n y).passes in
      first-witness c b (u.entry n).frame x
      (hit-first (question c b) b k (u.entry n) r one g x (answer-for chosen c b k n (u.entry n) g (Placed.hit x) r a))

  -- Clause 12.17: the hit that finishes the search is the first of its frame, and its witness the one that a plain search shows
  pub finished-witness : {v : Bench} {g x : ℕ} → Step chosen u (Event.turn c n g (Placed.hit x)) v
      → first_witness c b (u.entry n).frame ≡ witness b (run c (u.entry n).frame x)
  finished-witness p = finishing p
