-- A call of a user, or an accepted load, can be answered the same from any state that is the same to the user. Clause 12.7. Assumes nothing.
use mathlib.Core.Path.{◌≡◌, refl, sym, ap, ap₂, ◌∙◌, subst}
use mathlib.Core.Bool.{Bool}
use mathlib.Core.List.{List, [], ◌∷◌}
use Prim.Native.Nat.{ℕ, ◌+◌, ◌*◌, ◌≤◌, ◌<◌}
use lib.Dec.{T}
use lib.ListN.{length, get_or, set, replicate}
use Rattle.aiger.specs.Circuit.{Circuit}
use Rattle.aiger.specs.Load.{Answer, refused, gives}
use Rattle.aiger.specs.Memory.{Holds}
use Rattle.aiger.specs.Operations.{Loaded, Written, Operated, HoldsNone, Test, judge, search_tests, fold_tests}
use Rattle.pins.specs.Pins.{pins_of, pinned}
use Rattle.pinning.specs.FromPlace.{PinnedPlaceEffect}
use Rattle.place_search.specs.Operation.{place_tests}
use Rattle.place_decision.specs.Reach.{place_chosen}
use Rattle.pinning.specs.Operations.{PinnedSearchEffect, PinnedFoldEffect}
use Rattle.call_forms.specs.Forms.{
  Tested,
  ForUser,
  shared_after,
  UserLoaded,
  UserJoined,
  PinSet,
  pin_tests,
  UserWritten,
  UserWaveformed,
  UserPreviewed,
}
use Rattle.call_forms.specs.Table.{replay_row, widen_row}
use Rattle.pinned_runs.specs.Obeys.{PinnedReplayed, PinnedWidened}
use Rattle.joined.specs.Joined.{JoinedInto}
use Rattle.search.specs.Chosen as Search
use Rattle.fold.specs.Chosen as Fold
use Rattle.call_forms.specs.History.{State, Call, Returned, Step, Same, user_of, is_accepted}
use Rattle.history.proofs.Calls.{Agree, Replacing, own-pins, set-agree, shared-agree}

-- ---- operations

-- what an operation answers from m is answered from m', where f takes what is left
operated-moves : {A S R : Type 0} {m m' : List ℕ} {tests tests' : Circuit → List Test} {lent : S} {effect : Circuit → A → S → Type 0}
    {effect' : Circuit → A → R → Type 0} (f : S → R) → m ≡ m' → ((c : Circuit) → tests c ≡ tests' c)
    → ((c : Circuit) (a : A) (s : S) → effect c a s → effect' c a (f s)) → {a : Answer A} {s : S} → Operated m tests lent effect a s
    → Operated m' tests' (f lent) effect' a (f s)
operated-moves f e t g (Operated.no_circuit h) = Operated.no_circuit (subst HoldsNone e h)
operated-moves f e t g (Operated.refuses c h j) = Operated.refuses c (subst (λ (n : List ℕ). Holds n c) e h) (ap judge (sym (t c)) ∙ j)
operated-moves f e t g (Operated.acts c {a = a} {s = s} h j k) =
    Operated.acts c (subst (λ (n : List ℕ). Holds n c) e h) (ap judge (sym (t c)) ∙ j) (g c a s k)

tested-moves : {A S R : Type 0} {tests : List Test} {lent : S} {P : Answer A → S → Type 0} {Q : Answer A → R → Type 0} (f : S → R)
    → ((a : Answer A) (s : S) → P a s → Q a (f s)) → {a : Answer A} {s : S} → Tested tests lent P a s → Tested tests (f lent) Q a (f s)
tested-moves f g (Tested.refuses h) = Tested.refuses h
tested-moves f g (Tested.passes {a = a} {s = s} h p) = Tested.passes h (g a s p)

-- a step from t that returns r, to a state that is the same to user u as s₁
pub record Moved (u : ℕ) (t : State) (c : Call) (r : Returned) (s₁ : State) : Type 0 where
  pub next : State
  pub step : Step t c r next
  pub same : Same u s₁ next

module _ (u : ℕ) {s t : State} (a : Same u s t) where
  -- where neither circuit memory nor pins change, and working memory keeps its length
  kept : {w : List ℕ} → length w ≡ length s.work → Same u (record { memory = s.memory; work = w; pins = s.pins }) t
  kept e = record { memory = a.memory; work = e ∙ a.work; room = a.room; own = a.own }

  -- ---- calls that replace the circuit

  module _ {P Q : Answer (List ℕ) → List ℕ → Type 0} (move : (x : Answer (List ℕ)) (m : List ℕ) → P x m → Q x m) where
    pub record Replaces (tests : List Test) (x : Answer (List ℕ)) (m₁ p₁ : List ℕ) : Type 0 where
      pub memory : List ℕ
      pub pins : List ℕ
      pub answers : Replacing tests t Q x memory pins
      pub same : Same u (record { memory = m₁; work = s.work; pins = p₁ }) (record { memory = memory; work = t.work; pins = pins })

    replaced-moves : {tests : List Test} {x : Answer (List ℕ)} {m₁ p₁ : List ℕ} → Replacing tests s P x m₁ p₁ → Replaces tests x m₁ p₁
    replaced-moves (Tested.refuses h) =
        record {
          memory = t.memory;
          pins = t.pins;
          answers = Tested.refuses h;
          same = record { memory = a.memory; work = a.work; room = a.room; own = a.own };
        }
    replaced-moves {x = x} {m₁ = m} (Tested.passes h l) =
        let k = shared-agree u x s.pins t.pins (a.room, a.own) in
        record {
          memory = m;
          pins = shared_after x t.pins;
          answers = Tested.passes h (move x m l.0, refl);
          same = record {
            memory = refl;
            work = a.work;
            room = ap length l.1 ∙ k.0;
            own = λ i n. ap (λ (v : List ℕ). get_or v (256 * u + i) 2) l.1 ∙ k.1 i n;
          };
        }

  load_moves : (user : ℕ) {file m₁ p₁ : List ℕ} {x : Answer (List ℕ)} → UserLoaded s.memory file s.pins user x m₁ p₁
      → Moved u t (Call.load user file) (Returned.loaded x) (record { memory = m₁; work = s.work; pins = p₁ })
  load_moves user {file = file} x =
      let z = replaced-moves (λ b n. subst (λ (m : List ℕ). Loaded m file b n) a.memory) x in
      record { next = record { memory = z.memory; work = t.work; pins = z.pins }; step = Step.loads z.answers; same = z.same }

  join-moves : (user : ℕ) {first second m₁ p₁ : List ℕ} {x : Answer (List ℕ)} → UserJoined first second s.memory s.pins user x m₁ p₁
      → Moved u t (Call.join user first second) (Returned.loaded x) (record { memory = m₁; work = s.work; pins = p₁ })
  join-moves user {first = first} {second = second} x =
      let z = replaced-moves (λ b n. subst (λ (m : List ℕ). JoinedInto first second m b n) a.memory) x in
      record { next = record { memory = z.memory; work = t.work; pins = z.pins }; step = Step.joins z.answers; same = z.same }

-- ---- one call

pin-moves : {m m' p p' p₁ : List ℕ} (user input value : ℕ) {x : Answer (Unit {0})} → m ≡ m' → Agree user p p' → PinSet m user input value p x p₁
    → (p₂ : List ℕ) × PinSet m' user input value p' x p₂ × Agree user p₁ p₂
pin-moves {p' = p'} user input value e a (Tested.refuses h) = (p', Tested.refuses h, a)
pin-moves {p' = p'} user input value e a (Tested.passes h (Operated.no_circuit f)) = (p', Tested.passes h (Operated.no_circuit (subst HoldsNone e f)), a)
pin-moves {p' = p'} user input value e a (Tested.passes h (Operated.refuses c k j)) = (
  p',
  Tested.passes h (Operated.refuses c (subst (λ (n : List ℕ). Holds n c) e k) (ap (λ (n : ℕ). judge (pin_tests user input n c)) (sym a.0) ∙ j)),
  a,
)
pin-moves {p = p} {p' = p'} user input value e a (Tested.passes h (Operated.acts c {s = s} k j f)) = (
  set p' (256 * user + input) value,
  Tested.passes h (Operated.acts c (subst (λ (n : List ℕ). Holds n c) e k) (ap (λ (n : ℕ). judge (pin_tests user input n c)) (sym a.0) ∙ j) refl),
  subst (λ (l : List ℕ). Agree user l (set p' (256 * user + input) value)) (sym f) (set-agree user (256 * user + input) value p p' a),
)

-- a user's own call has the same answer from a state that is the same to the user
pub own-moves : {c : Call} {r : Returned} {s t s₁ : State} → Same (user_of c) s t → Step s c r s₁ → Moved (user_of c) t c r s₁
own-moves a (Step.loads {user = user} x) = load_moves user a user x
own-moves {s = s} {t = t} a (Step.pins {user = user} {input = input} {value = value} x) =
    let z = pin-moves user input value a.memory (a.room, a.own) x in
    record {
      next = record { memory = t.memory; work = t.work; pins = z.0 };
      step = Step.pins z.1;
      same = record { memory = a.memory; work = a.work; room = z.2.0; own = z.2.1 };
    }
own-moves {s = s} {t = t} a (Step.searches {user = user} {b = b} {k = k} {D = D} {out = out} {w' = w} {out' = o} x e) =
    record {
      next = t;
      step = Step.searches
          (tested-moves (λ (l : List ℕ × List ℕ). (t.work, l.1))
          (λ v l p. operated-moves (λ (l : List ℕ × List ℕ). (t.work, l.1)) a.memory (λ c. ap (λ (n : ℕ). search_tests c b k D n (length out)) a.work)
          (λ c v l f.
          subst (λ (q : ℕ → ℕ). PinnedSearchEffect Search.chosen q b k D out c v (t.work, l.1)) (own-pins user s.pins t.pins a.own)
          (record {
            chose = f.chose;
            allowed = f.allowed;
            measured = f.measured;
            never = f.never;
            told = f.told;
            shows = f.shows;
          })) p)
          x) refl;
      same = kept user a e;
    }
own-moves {s = s} {t = t} a (Step.searches_from {user = user} {b = b} {t = n} {place = place} {D = D} {out = out} {w' = w} {out' = o} x e) =
    record {
      next = t;
      step = Step.searches_from
          (tested-moves (λ (l : List ℕ × List ℕ). (t.work, l.1))
          (λ v l p. operated-moves (λ (l : List ℕ × List ℕ). (t.work, l.1)) a.memory
          (λ c.
          ap₂ (λ (q : ℕ → ℕ) (i : ℕ). place_tests (pinned c q) c b n place D i (length out)) (own-pins user s.pins t.pins a.own) a.work)
          (λ c v l f.
          subst (λ (q : ℕ → ℕ). PinnedPlaceEffect place_chosen q b n place D out c v (t.work, l.1)) (own-pins user s.pins t.pins a.own)
          (record { chose = f.chose; allowed = f.allowed; shows = f.shows })) p)
          x) refl;
      same = kept user a e;
    }
own-moves {s = s} {t = t} a (Step.folds {user = user} {b = b} {t = n} {out = out} {w' = w} {out' = o} x e) =
    record {
      next = t;
      step = Step.folds
          (tested-moves (λ (l : List ℕ × List ℕ). (t.work, l.1))
          (λ v l p. operated-moves (λ (l : List ℕ × List ℕ). (t.work, l.1)) a.memory (λ c. ap (λ (i : ℕ). fold_tests c b n i (length out)) a.work)
          (λ c v l f.
          subst (λ (q : ℕ → ℕ). PinnedFoldEffect Fold.chosen q b n out c v (t.work, l.1)) (own-pins user s.pins t.pins a.own)
          (record { permitted = f.permitted; short = f.short; count = f.count; shows = f.shows })) p)
          x) refl;
      same = kept user a e;
    }
own-moves {t = t} a (Step.writes {user = user} {form = form} {out = out} {out' = o} {a = v} x) =
    record { next = t; step = Step.writes (subst (λ (m : List ℕ). UserWritten m user form out v o) a.memory x); same = a }
own-moves {t = t} a (Step.previews {user = user} {n = n} {file = file} {a = v} x) =
    record { next = t; step = Step.previews (subst (λ (i : ℕ). UserPreviewed i file user v n) (ap length a.memory) x); same = a }
own-moves a (Step.joins {user = user} x) = join-moves user a user x
own-moves {s = s} {t = t} a (Step.replays {user = user} {witness = witness} {a = v} x) =
    record {
      next = t;
      step = Step.replays
          (subst (λ (m : List ℕ). ForUser {S = Unit {0}} replay_row user tt (λ b _. PinnedReplayed m (pins_of t.pins user) witness b) v tt) a.memory
          (subst (λ (q : ℕ → ℕ). ForUser {S = Unit {0}} replay_row user tt (λ b _. PinnedReplayed s.memory q witness b) v tt)
          (own-pins user s.pins t.pins a.own) x));
      same = a;
    }
own-moves {s = s} {t = t} a (Step.widens {user = user} {witness = witness} {out = out} {out' = o} {a = v} x) =
    record {
      next = t;
      step = Step.widens
          (subst (λ (m : List ℕ). ForUser widen_row user out (PinnedWidened m (pins_of t.pins user) witness out) v o) a.memory
          (subst (λ (q : ℕ → ℕ). ForUser widen_row user out (PinnedWidened s.memory q witness out) v o) (own-pins user s.pins t.pins a.own) x));
      same = a;
    }
own-moves {t = t} a (Step.waveforms {user = user} {only = only} {witness = witness} {out = out} {out' = o} {a = v} x) =
    record { next = t; step = Step.waveforms (subst (λ (m : List ℕ). UserWaveformed m user only witness out v o) a.memory x); same = a }
own-moves {t = t} a (Step.generates x) = record { next = t; step = Step.generates x; same = a }

-- so has an accepted load, for any user
pub accepted-moves : (u : ℕ) {c : Call} {r : Returned} {s t s₁ : State} → Same u s t → T (is_accepted r) → Step s c r s₁ → Moved u t c r s₁
accepted-moves u a h (Step.loads {user = user} x) = load_moves u a user x
accepted-moves u a h (Step.pins x) = absurd h
accepted-moves u a h (Step.searches x e) = absurd h
accepted-moves u a h (Step.searches_from x e) = absurd h
accepted-moves u a h (Step.folds x e) = absurd h
accepted-moves u a h (Step.writes x) = absurd h
accepted-moves u a h (Step.previews x) = absurd h
accepted-moves u a h (Step.joins {user = user} x) = join-moves u a user x
accepted-moves u a h (Step.replays x) = absurd h
accepted-moves u a h (Step.widens x) = absurd h
accepted-moves u a h (Step.waveforms x) = absurd h
accepted-moves u a h (Step.generates x) = absurd h
