-- What one call answers and leaves is determined by what is the same to its user, and a call of another user leaves that as it was, unless it is an
-- accepted load. Clause 12.7. Assumes nothing.
use mathlib.Core.Path.{◌≡◌, refl, sym, ap, ap₂, ◌∙◌, subst}
use mathlib.Core.Bool.{Bool, true, false, cond, ◌&&◌, ◌||◌}
use mathlib.Core.List.{List, [], ◌∷◌, map}
use mathlib.Core.Logic.{⊎_elim}
use Prim.Native.Nat.{ℕ, zero, suc, ◌+◌, ◌*◌, ◌≤◌, ◌<◌}
use native.Mathlib.Decide.{ℕ_discrete, dec_lt}
use native.Mathlib.Omega.{arith}
use lib.Dec.{T, ltb, ltb→lt}
use lib.ListN.{length, get_or, set, take, drop, replicate, length-set, length-take, get_or-eq_default}
use lib.Seq.{get_or-take, get_or-drop, get_or-set_same, get_or-set_other, set_out}
use Rattle.aiger.specs.Lists.{upto}
use Rattle.aiger.specs.Circuit.{Circuit}
use Rattle.aiger.specs.Load.{Answer, refused, gives, load, ◌>>=◌}
use Rattle.aiger.specs.Memory.{Holds, image}
use Rattle.aiger.specs.Search.{Report}
use Rattle.aiger.specs.Write.{count_row}
use Rattle.aiger.specs.Operations.{Loaded, Operated, Test, judge, search_tests, fold_tests, front}
use Rattle.aiger.proofs.Tests.{and_left, and_right}
use Rattle.roundtrip.proofs.LoadWrite.{counts-fit}
use Rattle.roundtrip.proofs.Holding.{held-valid, one-circuit}
use Rattle.roundtrip.proofs.LoadValid.{some_same}
use Rattle.roundtrip.proofs.Determined.{Alike, alike_self, operated-same, loaded-same}
use Rattle.waveform_laws.proofs.Theorems.{waveformed-same}
use Rattle.limits.proofs.Refusals.{judge-first}
use Rattle.pins.specs.Pins.{pins_of, pinned}
use Rattle.first_tests.proofs.Tested.{tested-same}
use Rattle.writer.specs.Forms.{InForm}
use Rattle.writer.proofs.Forms.{form-same}
use Rattle.completions.specs.Either.{Verdict, verdict}
use Rattle.pinned_runs.specs.Obeys.{pinned_shows, PinnedReplayed, PinnedReplayEffect, pinned_widened_text, PinnedWidened, PinnedWidenEffect}
use Rattle.load.specs.Preview.{counts_of}
use Rattle.joined.specs.Joined.{joined, join_tests, JoinedInto}
use Rattle.waveform.specs.Waveform.{Waveformed}
use Rattle.generated.specs.Generated.{Generated}
use Rattle.generated.proofs.Theorems.{generated-same}
use Rattle.pinning.specs.Operations.{PinnedSearchEffect, PinnedFoldEffect, pinned_shown}
use Rattle.pinning.specs.FromPlace.{PinnedPlaceEffect}
use Rattle.place_search.specs.Operation.{place_tests}
use Rattle.place_decision.specs.Reach.{place_chosen}
use Rattle.call_forms.specs.Forms.{
  Tested,
  free_byte,
  shared_after,
  UserLoaded,
  UserJoined,
  PinSet,
  PinEffect,
  pin_tests,
  UserSearched,
  UserSearchedFrom,
  UserFolded,
  UserWritten,
  UserPreviewed,
}
use Rattle.search.specs.Chosen as Search
use Rattle.fold.specs.Chosen as Fold
use Rattle.call_forms.specs.History.{State, Call, Returned, Step, Same, user_of, is_accepted}
use Rattle.parting.proofs.Contract.{join-determined}

few : (n : ℕ) (l : List ℕ) → length (take n l) ≤ n
few zero l = omega arith
few (suc n) [] = omega arith
few (suc n) (x ∷ xs) = omega (arith, few n xs)

-- the pins of two pin memories that agree on a user's bytes
pub own-pins : (u : ℕ) (p p' : List ℕ) → ((i : ℕ) → i < 256 → get_or p (256 * u + i) 2 ≡ get_or p' (256 * u + i) 2) → pins_of p u ≡ pins_of p' u
unfolding pins_of
own-pins u p p' h = λ j i. one i j
  where
    one : (i : ℕ) → get_or (take 256 (drop (256 * u) p)) i 2 ≡ get_or (take 256 (drop (256 * u) p')) i 2
    one i =
        elim (dec_lt i 256) [
          | yes l ↦ get_or-take 256 (drop (256 * u) p) i 2 l ∙ get_or-drop (256 * u) p i 2 ∙ h i l ∙ sym (get_or-drop (256 * u) p' i 2)
              ∙ sym (get_or-take 256 (drop (256 * u) p') i 2 l)
          | no l ↦ get_or-eq_default (take 256 (drop (256 * u) p)) 2 {n = i} (omega (arith, few 256 (drop (256 * u) p)))
              ∙ sym (get_or-eq_default (take 256 (drop (256 * u) p')) 2 {n = i} (omega (arith, few 256 (drop (256 * u) p'))))
        ]

-- ---- an operation under pins

module _ {m m' : List ℕ} (pins pins' w w' out w₁ w₂ o₁ o₂ : List ℕ) (u : ℕ) (e : m ≡ m') (l : length w ≡ length w') (q : pins_of pins u ≡ pins_of pins' u) where
  alike : Alike m m'
  alike = subst (Alike m) e alike_self

  pub search-same : (b k D : ℕ) (x y : Answer Report) → UserSearched Search.chosen m pins u b k D w out x w₁ o₁
      → UserSearched Search.chosen m' pins' u b k D w' out y w₂ o₂ → (x ≡ y) × (o₁ ≡ o₂)
  search-same b k D x y s t =
      tested-same (λ (x y : List ℕ × List ℕ). x.1 ≡ y.1) refl
      (λ x y s t f g.
      operated-same (λ (x y : List ℕ × List ℕ). x.1 ≡ y.1) alike (λ c. ap (λ (n : ℕ). search_tests c b k D n (length out)) l) refl one f g)
      x y (w₁, o₁) (w₂, o₂) s t
    where
      one : (c : Circuit) (o o' : Report) (y z : List ℕ × List ℕ) → PinnedSearchEffect Search.chosen (pins_of pins u) b k D out c o y
          → PinnedSearchEffect Search.chosen (pins_of pins' u) b k D out c o' z → (o ≡ o') × (y.1 ≡ z.1)
      one c o o' y z f g =
          let h : PinnedSearchEffect Search.chosen (pins_of pins u) b k D out c o' z =
          subst (λ (p : ℕ → ℕ). PinnedSearchEffect Search.chosen p b k D out c o' z) (sym q) g in
          let same : o ≡ o' = f.chose ∙ sym h.chose in
          (same, f.shows ∙ ap (λ (v : Report). pinned_shown c (pins_of pins u) b v.outcome out) same ∙ sym h.shows)

  pub from-same : (b t place D : ℕ) (x y : Answer Report) → UserSearchedFrom place_chosen m pins u b t place D w out x w₁ o₁
      → UserSearchedFrom place_chosen m' pins' u b t place D w' out y w₂ o₂ → (x ≡ y) × (o₁ ≡ o₂)
  from-same b t place D x y s r =
      tested-same (λ (x y : List ℕ × List ℕ). x.1 ≡ y.1) refl
      (λ x y s t' f g.
      operated-same (λ (x y : List ℕ × List ℕ). x.1 ≡ y.1) alike
      (λ c. ap₂ (λ (p : ℕ → ℕ) (n : ℕ). place_tests (pinned c p) c b t place D n (length out)) q l) refl one f g)
      x y (w₁, o₁) (w₂, o₂) s r
    where
      one : (c : Circuit) (o o' : Report) (y z : List ℕ × List ℕ) → PinnedPlaceEffect place_chosen (pins_of pins u) b t place D out c o y
          → PinnedPlaceEffect place_chosen (pins_of pins' u) b t place D out c o' z → (o ≡ o') × (y.1 ≡ z.1)
      one c o o' y z f g =
          let h : PinnedPlaceEffect place_chosen (pins_of pins u) b t place D out c o' z =
          subst (λ (p : ℕ → ℕ). PinnedPlaceEffect place_chosen p b t place D out c o' z) (sym q) g in
          (f.chose ∙ sym h.chose, f.shows ∙ sym h.shows)

  pub fold_same : (b t : ℕ) (x y : Answer ℕ) → UserFolded Fold.chosen m pins u b t w out x w₁ o₁
      → UserFolded Fold.chosen m' pins' u b t w' out y w₂ o₂ → (x ≡ y) × (o₁ ≡ o₂)
  fold_same b t x y s r =
      tested-same (λ (x y : List ℕ × List ℕ). x.1 ≡ y.1) refl
      (λ x y s t' f g.
      operated-same (λ (x y : List ℕ × List ℕ). x.1 ≡ y.1) alike (λ c. ap (λ (n : ℕ). fold_tests c b t n (length out)) l) refl one f g)
      x y (w₁, o₁) (w₂, o₂) s r
    where
      one : (c : Circuit) (n n' : ℕ) (y z : List ℕ × List ℕ) → PinnedFoldEffect Fold.chosen (pins_of pins u) b t out c n y
          → PinnedFoldEffect Fold.chosen (pins_of pins' u) b t out c n' z → (n ≡ n') × (y.1 ≡ z.1)
      one c n n' y z f g =
          let h : PinnedFoldEffect Fold.chosen (pins_of pins u) b t out c n' z =
          subst (λ (p : ℕ → ℕ). PinnedFoldEffect Fold.chosen p b t out c n' z) (sym q) g in
          (f.count ∙ sym h.count, f.shows ∙ sym h.shows)

pub write_same : {m m' : List ℕ} (user form : ℕ) (out o₁ o₂ : List ℕ) (x y : Answer ℕ) → m ≡ m' → UserWritten m user form out x o₁
    → UserWritten m' user form out y o₂ → (x ≡ y) × (o₁ ≡ o₂)
write_same {m} {m'} user form out o₁ o₂ x y e s t =
    tested-same (λ (o p : List ℕ). o ≡ p) refl
    (λ x y o p f g. form-same x y o p f (subst (λ (n : List ℕ). InForm form n out y p) (sym e) g))
    x y o₁ o₂ s t

-- ---- the setting of a pin

-- own bytes stay the same where both pin memories get the same pin
set_own : (u a v : ℕ) (p p' : List ℕ) → length p ≡ length p' → a < length p
    → ((i : ℕ) → i < 256 → get_or p (256 * u + i) 2 ≡ get_or p' (256 * u + i) 2)
    → (i : ℕ) → i < 256 → get_or (set p a v) (256 * u + i) 2 ≡ get_or (set p' a v) (256 * u + i) 2
set_own u a v p p' e l h i k =
    elim (ℕ_discrete (256 * u + i) a) [
      | yes d ↦ ap (λ (x : ℕ). get_or (set p a v) x 2) d ∙ get_or-set_same p a v 2 l ∙ sym (get_or-set_same p' a v 2 (omega arith))
          ∙ sym (ap (λ (x : ℕ). get_or (set p' a v) x 2) d)
      | no d ↦ get_or-set_other p a (256 * u + i) v 2 d ∙ h i k ∙ sym (get_or-set_other p' a (256 * u + i) v 2 d)
    ]

-- a pin that is set is that of an input below 256
pub pin-within : {m : List ℕ} {c : Circuit} (user input len : ℕ) → Holds m c → judge (pin_tests user input len c) ≡ gives tt → (input < 256) × (256 * user + input < len)
pin-within {c = c} user input len h j =
    let t = (judge-first _ _ j).0 in
    let a = ltb→lt input (length c.inputs) (and_left (ltb input (length c.inputs)) (ltb (256 * user + input) len) t) in
    let b = ltb→lt (256 * user + input) len (and_right (ltb input (length c.inputs)) (ltb (256 * user + input) len) t) in
    (omega (arith, a, (counts-fit c (held-valid h).fit).inputs), b)

-- two pin memories that are the same to user u
abbrev pub Agree : ℕ → List ℕ → List ℕ → Type 0
Agree u p p' = (length p ≡ length p') × ((i : ℕ) → i < 256 → get_or p (256 * u + i) 2 ≡ get_or p' (256 * u + i) 2)

pub set-agree : (u a v : ℕ) (p p' : List ℕ) → Agree u p p' → Agree u (set p a v) (set p' a v)
set-agree u a v p p' h =
    elim (dec_lt a (length p)) [
      | yes l ↦ (length-set p a v ∙ h.0 ∙ sym (length-set p' a v), set_own u a v p p' h.0 l h.1)
      | no l ↦ rw (set_out p a v (omega arith), set_out p' a v (omega (arith, h.0))) h
    ]

pub pin-same : {m m' p p' p₁ p₂ : List ℕ} (user input value : ℕ) (x y : Answer (Unit {0})) → m ≡ m' → Agree user p p' → PinSet m user input value p x p₁
    → PinSet m' user input value p' y p₂ → (x ≡ y) × Agree user p₁ p₂
pin-same {m} {m'} {p} {p'} {p₁} {p₂} user input value x y e a s t =
    tested-same (Agree user) a
    (λ x y s t o r.
    operated-same (Agree user) (subst (Alike m) e alike_self) (λ c. ap (λ (n : ℕ). pin_tests user input n c) a.0) a one o r)
    x y p₁ p₂ s t
  where
    one : (c : Circuit) (x y : Unit {0}) (s t : List ℕ) → s ≡ set p (256 * user + input) value → t ≡ set p' (256 * user + input) value → (x ≡ y) × Agree user s t
    one c x y s t f g = (refl, rw (f, g) (set-agree user (256 * user + input) value p p' a))

-- ---- operations that write nothing, or the output alone

-- two calls on one circuit memory under the same pins
under_same : {A S : Type 0} {tests : List Test} {lent : S} (P : List ℕ → (ℕ → ℕ) → Answer A → S → Type 0)
    → ((m : List ℕ) (q : ℕ → ℕ) (x y : Answer A) (a b : S) → P m q x a → P m q y b → (x ≡ y) × (a ≡ b))
    → {m m' : List ℕ} {q q' : ℕ → ℕ} → m ≡ m' → q ≡ q' → (x y : Answer A) (a b : S) → Tested tests lent (P m q) x a → Tested tests lent (P m' q') y b → (x ≡ y) × (a ≡ b)
under_same P f {m} {m'} {q} {q'} e d x y a b s t =
    tested-same (λ (a b : _). a ≡ b) refl (λ x y a b g h. f m q x y a b g (subst (λ (n : List ℕ). P n q y b) (sym e) (subst (λ (k : ℕ → ℕ). P m' k y b) (sym d) h))) x y a b s t

replay-one : (m : List ℕ) (q : ℕ → ℕ) (witness : List ℕ) (x y : Answer Verdict) → PinnedReplayed m q witness x → PinnedReplayed m q witness y → x ≡ y
replay-one m q witness x y f g =
    (operated-same (λ (a b : Unit {0}). Unit {0}) alike_self (λ c. refl) tt (λ c a b s t e k. (one c a b s t e k, tt)) f g).0
  where
    one : (c : Circuit) (a b : Verdict) (s t : Unit {0}) → PinnedReplayEffect q witness c a s → PinnedReplayEffect q witness c b t → a ≡ b
    one c a b s t e k =
        let z : ◌≡◌ {A = ℕ × List ℕ} (e.bad, e.body) (k.bad, k.body) = some_same (sym e.reads ∙ k.reads) in
        e.judged ∙ ap (λ (h : ℕ × List ℕ). verdict (pinned_shows c q h.0) h.1) z ∙ sym k.judged

widen-one : (m : List ℕ) (q : ℕ → ℕ) (witness out : List ℕ) (x y : Answer ℕ) (o p : List ℕ) → PinnedWidened m q witness out x o → PinnedWidened m q witness out y p
    → (x ≡ y) × (o ≡ p)
widen-one m q witness out x y o p f g =
    operated-same (λ (a b : List ℕ). a ≡ b) alike_self (λ c. refl) refl (λ c a b s t e k. (e.count ∙ sym k.count, one c a b s t e k)) f g
  where
    one : (c : Circuit) (a b : ℕ) (s t : List ℕ) → PinnedWidenEffect q witness out c a s → PinnedWidenEffect q witness out c b t → s ≡ t
    one c a b s t e k =
        let z : ◌≡◌ {A = ℕ × List ℕ} (e.bad, e.body) (k.bad, k.body) = some_same (sym e.reads ∙ k.reads) in
        e.writes ∙ ap (λ (h : ℕ × List ℕ). front (pinned_widened_text c q witness h) out) z ∙ sym k.writes

preview-same : {room room' : ℕ} (f : List ℕ) (user : ℕ) (x y : Answer (List ℕ)) (n k : ℕ) → room ≡ room' → UserPreviewed room f user x n
    → UserPreviewed room' f user y k → Returned.previewed x n ≡ Returned.previewed y k
preview-same f user x y n k e s t =
    let z =
    tested-same (λ (n k : ℕ). n ≡ k) refl
    (λ x y n k p q. (p.0 ∙ ap (λ (i : ℕ). load i f >>= λ c. gives (counts_of c)) e ∙ sym q.0, p.1 ∙ sym q.1)) x y n k s t in
    ap₂ Returned.previewed z.0 z.1

-- ---- a call that replaces the circuit, for any user

-- what users share is the same to a user after calls that answered the same, where it was before
pub shared-agree : (u : ℕ) (x : Answer (List ℕ)) (p p' : List ℕ) → Agree u p p' → Agree u (shared_after x p) (shared_after x p')
shared-agree u (refused n) p p' h = h
shared-agree u (gives counts) p p' h =
    let e : shared_after (gives counts) p ≡ shared_after (gives counts) p' = ap (λ (n : ℕ). map free_byte (upto n)) h.0 in
    (ap length e, λ i l. ap (λ (q : List ℕ). get_or q (256 * u + i) 2) e)

-- a call with these first tests that replaces the circuit
abbrev pub Replacing : List Test → State → (Answer (List ℕ) → List ℕ → Type 0) → Answer (List ℕ) → List ℕ → List ℕ → Type 0
Replacing tests s P x m p =
    Tested {S = List ℕ × List ℕ} tests (s.memory, s.pins) (λ a left. P a left.0 × (left.1 ≡ shared_after a s.pins)) x (m, p)

module _ (u : ℕ) {s t : State} (a : Same u s t) {P Q : Answer (List ℕ) → List ℕ → Type 0}
    (one : (x y : Answer (List ℕ)) (m₁ m₂ : List ℕ) → P x m₁ → Q y m₂ → (x ≡ y) × (m₁ ≡ m₂)) where
  pub replaced-same : {tests : List Test} (x y : Answer (List ℕ)) (m₁ m₂ p₁ p₂ : List ℕ) → Replacing tests s P x m₁ p₁ → Replacing tests t Q y m₂ p₂
      → (x ≡ y) × Same u (record { memory = m₁; work = s.work; pins = p₁ }) (record { memory = m₂; work = t.work; pins = p₂ })
  replaced-same x y m₁ m₂ p₁ p₂ f g =
      tested-same
      (λ (l r : List ℕ × List ℕ). Same u (record { memory = l.0; work = s.work; pins = l.1 }) (record { memory = r.0; work = t.work; pins = r.1 }))
      (record { memory = a.memory; work = a.work; room = a.room; own = a.own })
      (λ x y l r p q. let z = one x y l.0 r.0 p.0 q.0 in (z.0, left x y l r z.0 z.1 p.1 q.1))
      x y (m₁, p₁) (m₂, p₂) f g
    where
      left : (x y : Answer (List ℕ)) (l r : List ℕ × List ℕ) → x ≡ y → l.0 ≡ r.0 → l.1 ≡ shared_after x s.pins → r.1 ≡ shared_after y t.pins
          → Same u (record { memory = l.0; work = s.work; pins = l.1 }) (record { memory = r.0; work = t.work; pins = r.1 })
      left x y l r e z p q =
          let k : r.1 ≡ shared_after x t.pins = q ∙ ap (λ (v : Answer (List ℕ)). shared_after v t.pins) (sym e) in
          let h = shared-agree u x s.pins t.pins (a.room, a.own) in
          record {
            memory = z;
            work = a.work;
            room = ap length p ∙ h.0 ∙ sym (ap length k);
            own = λ i n. ap (λ (v : List ℕ). get_or v (256 * u + i) 2) p ∙ h.1 i n ∙ sym (ap (λ (v : List ℕ). get_or v (256 * u + i) 2) k);
          }

load_same : (u user : ℕ) {s t : State} {file m₁ m₂ p₁ p₂ : List ℕ} {x y : Answer (List ℕ)} → Same u s t
    → UserLoaded s.memory file s.pins user x m₁ p₁ → UserLoaded t.memory file t.pins user y m₂ p₂
    → (x ≡ y) × Same u (record { memory = m₁; work = s.work; pins = p₁ }) (record { memory = m₂; work = t.work; pins = p₂ })
load_same u user {file = file} {m₁ = m₁} {m₂ = m₂} {p₁ = p₁} {p₂ = p₂} {x = x} {y = y} a f g =
    replaced-same u a (λ x y m₁ m₂ l r. loaded-same l (subst (λ (m : List ℕ). Loaded m file y m₂) (sym a.memory) r)) x y m₁ m₂ p₁ p₂ f g

join-same : (u user : ℕ) {s t : State} {first second m₁ m₂ p₁ p₂ : List ℕ} {x y : Answer (List ℕ)} → Same u s t
    → UserJoined first second s.memory s.pins user x m₁ p₁ → UserJoined first second t.memory t.pins user y m₂ p₂
    → (x ≡ y) × Same u (record { memory = m₁; work = s.work; pins = p₁ }) (record { memory = m₂; work = t.work; pins = p₂ })
join-same u user {first = first} {second = second} {m₁ = m₁} {m₂ = m₂} {p₁ = p₁} {p₂ = p₂} {x = x} {y = y} a f g =
    replaced-same u a (λ x y m₁ m₂ l r. join-determined l (subst (λ (m : List ℕ). JoinedInto first second m y m₂) (sym a.memory) r)) x y m₁ m₂ p₁ p₂ f g

-- ---- one call

-- a user's own call returns one thing, and leaves states that are the same to the user
pub own-step : {c : Call} {r r' : Returned} {s t s₁ t₁ : State} → Same (user_of c) s t → Step s c r s₁ → Step t c r' t₁ → (r ≡ r') × Same (user_of c) s₁ t₁
own-step a (Step.loads {user = user} x) (Step.loads y) = let z = load_same user user a x y in (ap Returned.loaded z.0, z.1)
own-step a (Step.pins {user = user} {input = input} {value = value} {a = v} x) (Step.pins {a = v'} y) =
    let z = pin-same user input value v v' a.memory (a.room, a.own) x y in
    (ap Returned.pinned z.0, record { memory = a.memory; work = a.work; room = z.1.0; own = z.1.1 })
own-step {s = s} {t = t} a (Step.searches {user = user} {b = b} {k = k} {D = D} {out = out} {w' = w₁} {out' = o₁} {a = v} x e)
    (Step.searches {w' = w₂} {out' = o₂} {a = v'} y d) =
    let z = search-same s.pins t.pins s.work t.work out w₁ w₂ o₁ o₂ user a.memory a.work (own-pins user s.pins t.pins a.own) b k D v v' x y in
    (ap₂ Returned.searched z.0 z.1, record { memory = a.memory; work = e ∙ a.work ∙ sym d; room = a.room; own = a.own })
own-step {s = s} {t = t} a (Step.searches_from {user = user} {b = b} {t = n} {place = place} {D = D} {out = out} {w' = w₁} {out' = o₁} {a = v} x e)
    (Step.searches_from {w' = w₂} {out' = o₂} {a = v'} y d) =
    let z =
    from-same s.pins t.pins s.work t.work out w₁ w₂ o₁ o₂ user a.memory a.work (own-pins user s.pins t.pins a.own) b n place D v v'
    x y in
    (ap₂ Returned.searched z.0 z.1, record { memory = a.memory; work = e ∙ a.work ∙ sym d; room = a.room; own = a.own })
own-step {s = s} {t = t} a (Step.folds {user = user} {b = b} {t = n} {out = out} {w' = w₁} {out' = o₁} {a = v} x e)
    (Step.folds {w' = w₂} {out' = o₂} {a = v'} y d) =
    let z = fold_same s.pins t.pins s.work t.work out w₁ w₂ o₁ o₂ user a.memory a.work (own-pins user s.pins t.pins a.own) b n v v' x y in
    (ap₂ Returned.folded z.0 z.1, record { memory = a.memory; work = e ∙ a.work ∙ sym d; room = a.room; own = a.own })
own-step a (Step.writes {user = user} {form = form} {out = out} {out' = o₁} {a = v} x) (Step.writes {out' = o₂} {a = v'} y) =
    let z = write_same user form out o₁ o₂ v v' a.memory x y in
    (ap₂ Returned.written z.0 z.1, a)
own-step a (Step.previews {user = user} {n = n} {file = file} {a = v} x) (Step.previews {n = k} {a = v'} y) =
    (preview-same file user v v' n k (ap length a.memory) x y, a)
own-step a (Step.joins {user = user} x) (Step.joins y) = let z = join-same user user a x y in (ap Returned.loaded z.0, z.1)
own-step {s = s} {t = t} a (Step.replays {user = user} {witness = witness} {a = v} x) (Step.replays {a = v'} y) =
    let z =
    under_same {lent = tt {0}} (λ m q b _. PinnedReplayed m q witness b) (λ m q b d _ _ f g. (replay-one m q witness b d f g, refl)) a.memory
    (own-pins user s.pins t.pins a.own) v v' tt tt x y in
    (ap Returned.replayed z.0, a)
own-step {s = s} {t = t} a (Step.widens {user = user} {witness = witness} {out = out} {out' = o₁} {a = v} x) (Step.widens {out' = o₂} {a = v'} y) =
    let z =
    under_same (λ m q. PinnedWidened m q witness out) (λ m q b d o p f g. widen-one m q witness out b d o p f g) a.memory
    (own-pins user s.pins t.pins a.own) v v' o₁ o₂ x y in
    (ap₂ Returned.written z.0 z.1, a)
own-step {s = s} {t = t} a (Step.waveforms {user = user} {only = only} {witness = witness} {out = out} {out' = o₁} {a = v} x) (Step.waveforms {out' = o₂} {a = v'} y) =
    let z =
    under_same (λ m q. Waveformed m only witness out) (λ m q b d o p f g. waveformed-same f g) a.memory
    (own-pins user s.pins t.pins a.own) v v' o₁ o₂ x y in
    (ap₂ Returned.written z.0 z.1, a)
own-step a (Step.generates {seed = seed} {i = i} {l = l} {a = g} {out = out} {out' = o₁} {answer = v} x) (Step.generates {out' = o₂} {answer = v'} y) =
    let z = tested-same (λ (o p : List ℕ). o ≡ p) refl (λ v w o p f h. generated-same f h) v v' o₁ o₂ x y in
    (ap₂ Returned.written z.0 z.1, a)

-- an accepted load returns one thing, and leaves states that are the same to every user
pub load_step : (u : ℕ) {c : Call} {r r' : Returned} {s t s₁ t₁ : State} → Same u s t → T (is_accepted r) → Step s c r s₁ → Step t c r' t₁ → (r ≡ r') × Same u s₁ t₁
load_step u a h (Step.loads {user = user} x) (Step.loads y) = let z = load_same u user a x y in (ap Returned.loaded z.0, z.1)
load_step u a h (Step.pins x) y = absurd h
load_step u a h (Step.searches x e) y = absurd h
load_step u a h (Step.searches_from x e) y = absurd h
load_step u a h (Step.folds x e) y = absurd h
load_step u a h (Step.writes x) y = absurd h
load_step u a h (Step.previews x) y = absurd h
load_step u a h (Step.joins {user = user} x) (Step.joins y) = let z = join-same u user a x y in (ap Returned.loaded z.0, z.1)
load_step u a h (Step.replays x) y = absurd h
load_step u a h (Step.widens x) y = absurd h
load_step u a h (Step.waveforms x) y = absurd h
load_step u a h (Step.generates x) y = absurd h

pin-other : (u user input value : ℕ) {m p p₁ : List ℕ} {x : Answer (Unit {0})} → (user ≡ u → ⊥) → PinSet m user input value p x p₁ → Agree u p₁ p
pin-other u user input value n (Tested.refuses h) = (refl, λ i l. refl)
pin-other u user input value n (Tested.passes h (Operated.no_circuit f)) = (refl, λ i l. refl)
pin-other u user input value n (Tested.passes h (Operated.refuses c k j)) = (refl, λ i l. refl)
pin-other u user input value {p = p} n (Tested.passes h (Operated.acts c k j f)) =
    let w = pin-within user input (length p) k j in
    rw f (
      length-set p (256 * user + input) value,
      λ i l. get_or-set_other p (256 * user + input) (256 * u + i) value 2 (apart i l w.0),
    )
  where
    apart : (i : ℕ) → i < 256 → input < 256 → 256 * u + i ≡ 256 * user + input → ⊥
    apart i l d e = n (omega arith)

-- a load or a join that was not accepted leaves the circuit memory
load_kept : {m f m' : List ℕ} (a : Answer (List ℕ)) → Loaded m f a m' → (T (is_accepted (Returned.loaded a)) → ⊥) → m' ≡ m
load_kept a (Loaded.refuses e) h = refl
load_kept a (Loaded.stores c e) h = absurd (h tt)

join_kept : {first second m m' : List ℕ} (a : Answer (List ℕ)) → JoinedInto first second m a m' → (T (is_accepted (Returned.loaded a)) → ⊥) → m' ≡ m
join_kept a (JoinedInto.no_circuit f) h = refl
join_kept a (JoinedInto.refuses c d p q j) h = refl
join_kept a (JoinedInto.stores c d p q j) h = absurd (h tt)

-- and what users share
shared_kept : (a : Answer (List ℕ)) (p : List ℕ) → (T (is_accepted (Returned.loaded a)) → ⊥) → shared_after a p ≡ p
shared_kept (refused n) p h = refl
shared_kept (gives counts) p h = absurd (h tt)

other-replaces : (u : ℕ) {s t : State} {tests : List Test} (P : Answer (List ℕ) → List ℕ → Type 0) {x : Answer (List ℕ)} {m₁ p₁ : List ℕ} → Same u s t
    → (T (is_accepted (Returned.loaded x)) → ⊥) → ((m : List ℕ) → P x m → m ≡ s.memory) → Replacing tests s P x m₁ p₁
    → Same u (record { memory = m₁; work = s.work; pins = p₁ }) t
other-replaces u P a h f (Tested.refuses k) = record { memory = a.memory; work = a.work; room = a.room; own = a.own }
other-replaces u {s = s} P {x = x} {m₁ = m₁} {p₁ = p₁} a h f (Tested.passes k l) =
    let z : p₁ ≡ s.pins = l.1 ∙ shared_kept x s.pins h in
    record {
      memory = f m₁ l.0 ∙ a.memory;
      work = a.work;
      room = ap length z ∙ a.room;
      own = λ i n. ap (λ (v : List ℕ). get_or v (256 * u + i) 2) z ∙ a.own i n;
    }

-- a call of another user that is no accepted load leaves a state that is the same to user u
pub other_step : (u : ℕ) {c : Call} {r : Returned} {s t s₁ : State} → Same u s t → (user_of c ≡ u → ⊥) → (T (is_accepted r) → ⊥) → Step s c r s₁ → Same u s₁ t
other_step u {s = s} a n h (Step.loads {file = file} {a = v} x) = other-replaces u (Loaded s.memory file) a h (λ m l. load_kept v l h) x
other_step u a n h (Step.pins {user = user} {input = input} {value = value} x) =
    let z = pin-other u user input value n x in
    record { memory = a.memory; work = a.work; room = z.0 ∙ a.room; own = λ i l. z.1 i l ∙ a.own i l }
other_step u a n h (Step.searches x e) = record { memory = a.memory; work = e ∙ a.work; room = a.room; own = a.own }
other_step u a n h (Step.searches_from x e) = record { memory = a.memory; work = e ∙ a.work; room = a.room; own = a.own }
other_step u a n h (Step.folds x e) = record { memory = a.memory; work = e ∙ a.work; room = a.room; own = a.own }
other_step u a n h (Step.writes x) = a
other_step u a n h (Step.previews x) = a
other_step u {s = s} a n h (Step.joins {first = first} {second = second} {a = v} x) =
    other-replaces u (JoinedInto first second s.memory) a h (λ m l. join_kept v l h) x
other_step u a n h (Step.replays x) = a
other_step u a n h (Step.widens x) = a
other_step u a n h (Step.waveforms x) = a
other_step u a n h (Step.generates x) = a
