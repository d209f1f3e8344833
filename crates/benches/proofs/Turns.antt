-- Clause 12.17: a search that waits gets a turn within sixteen. Assumes nothing.
use mathlib.Core.Path.{◌≡◌, refl, sym, ap, ◌∙◌, subst}
use mathlib.Core.Bool.{Bool, true, false, cond, ◌&&◌}
use mathlib.Core.List.{List, [], ◌∷◌}
use mathlib.Core.Option.{Option, none, some}
use Prim.Native.Nat.{ℕ, ◌+◌, ◌≤◌, ◌<◌}
use native.Mathlib.Decide.{dec_le}
use native.Mathlib.Omega.{arith}
use lib.Dec.{T, eqb}
use borrow.Author.Tests.{eq-eqb, eqb-false}
use Rattle.aiger.specs.Circuit.{Circuit}
use Rattle.aiger.specs.Lists.{every, tally}
use Rattle.aiger.proofs.Tests.{and_left, and_right}
use Rattle.place_search.specs.Places.{Placed}
use Rattle.benches.specs.declared.Entry.{Entry}
use Rattle.benches.specs.Bench.{Bench, after, is_waiting, waits, queued, turned, fresh, entry_after}
use Rattle.benches.specs.Happenings.{Event, Step, History, is_turn, is_turn_of, lasts}
use Rattle.benches.proofs.Entries.{replaced-other, waiting-stage, free-stage}
use Rattle.benches.proofs.Order.{gap, gap-nearer, turn-first, idle-spent}

module _ (chosen : Circuit → ℕ → ℕ → ℕ → ℕ → Placed) where
  -- the next number stays one of sixteen
  pub next-below : {s u : Bench} {e : Event} → Step chosen s e u → s.next < 16 → u.next < 16
  next-below (Step.queues f r) l = l
  next-below (Step.allows r) l = l
  next-below (Step.turns w g a) l = omega arith
  next-below (Step.idles w) l = l
  next-below Step.finishes l = omega arith
  next-below Step.overwrites l = l
  next-below Step.others l = l

  pub nexts-below : {s u : Bench} {es : List Event} → History chosen s es u → s.next < 16 → u.next < 16
  nexts-below History.stops l = l
  nexts-below (History.goes p h) l = nexts-below h (next-below p l)

  -- a search changes by its own turns, by a queue where the number is free, and by the end of its bench alone
  pub entry-stays : {s u : Bench} {e : Event} (i : ℕ) → Step chosen s e u → T (lasts e) → is_turn_of i e ≡ false → ((s.entry i).stage ≡ 0 → ⊥)
      → u.entry i ≡ s.entry i
  entry-stays {s} i (Step.queues {n = n} {b = b} {k = k} {D = D} f r) l t w =
      replaced-other s.entry n (fresh b k D) i (λ q. w (ap (λ (j : ℕ). (s.entry j).stage) q ∙ free-stage s n f))
  entry-stays i (Step.allows r) l t w = refl
  entry-stays {s} i (Step.turns {n = n} {grant = g} {a = a} x y z) l t w =
      replaced-other s.entry n (entry_after (s.entry n) g a) i (λ q. eqb-false n i t (sym q))
  entry-stays i (Step.idles w) l t x = refl
  entry-stays i Step.finishes l t w = absurd l
  entry-stays i Step.overwrites l t w = refl
  entry-stays i Step.others l t w = refl

  -- a turn of another number brings i nearer
  nearer : {s u : Bench} {e : Event} (i : ℕ) → Step chosen s e u → s.next < 16 → i < 16 → T (waits s i) → T (lasts e) → is_turn_of i e ≡ false
      → cond (is_turn e) 1 0 + gap i u.next ≤ gap i s.next
  nearer i (Step.queues f r) b a w l t = omega arith
  nearer i (Step.allows r) b a w l t = omega arith
  nearer {s} i (Step.turns {n = n} x y z) b a w l t =
      let f = turn-first s b n x in
      gap-nearer i n s.next a f.below b (eqb-false n i t) (f.near i a w)
  nearer i (Step.idles x) b a w l t = omega arith
  nearer i Step.finishes b a w l t = absurd l
  nearer i Step.overwrites b a w l t = omega arith
  nearer i Step.others b a w l t = omega arith

  no-turn : (b : Bool) (n : ℕ) → cond b 1 0 + n ≡ 0 → (b ≡ false) × (n ≡ 0)
  no-turn true n e = absurd (omega arith)
  no-turn false n e = (refl, omega arith)

  -- while a search waits and gets none, there are no more turns than numbers before it
  pub turns-before : {s u : Bench} {es : List Event} (i : ℕ) → History chosen s es u → s.next < 16 → i < 16 → T (waits s i)
      → T (every lasts es) → tally (is_turn_of i) es ≡ 0 → tally is_turn es ≤ gap i s.next
  turns-before i History.stops b a w l t = omega arith
  turns-before {s} i (History.goes {t = v} {e = e} {es = es} p r) b a w l t =
      let here = and_left (lasts e) (every lasts es) l in
      let none = no-turn (is_turn_of i e) (tally (is_turn_of i) es) t in
      let stage = waiting-stage (s.entry i) w in
      let stays = entry-stays i p here none.0 (λ z. omega arith) in
      let waiting : T (waits v i) = subst (λ (x : Entry). T (is_waiting x)) (sym stays) w in
      let rest = turns-before i r (next-below p b) a waiting (and_right (lasts e) (every lasts es) l) none.1 in
      let near = nearer i p b a w here none.0 in
      omega arith

  -- Clause 12.17: of sixteen turns that are granted while the bench lasts, one goes to a search that waits. What else happens between them
  -- does not matter: queues, allowances, refused calls, an overwritten circuit
  pub gets-turn : {s u : Bench} {es : List Event} (i : ℕ) → History chosen s es u → s.next < 16 → i < 16 → T (waits s i)
      → T (every lasts es) → 16 ≤ tally is_turn es → 1 ≤ tally (is_turn_of i) es
  gets-turn {s} {es = es} i r b a w l m =
      elim (dec_le 1 (tally (is_turn_of i) es)) [
        | yes h ↦ h
        | no h ↦
            let most = turns-before i r b a w l (omega arith) in
            absurd (omega arith)
      ]

  -- and a turn is idle only where no allowance is left
  pub idle-without : {s u : Bench} (i : ℕ) → Step chosen s Event.idle u → s.next < 16 → i < 16 → T (waits s i) → s.allowance ≡ 0
  idle-without {s} i (Step.idles e) b a w = idle-spent s b i a w e
