-- Parts of runs: from any frame of the run of a sequence on, so many of its frames are the run of a sequence too, from the latches that they
-- begin with. Assumes nothing.
use mathlib.Core.Path.{◌≡◌, refl, sym, ap, ap₂, ◌∙◌}
use mathlib.Core.Bool.{Bool, true, false, cond}
use mathlib.Core.List.{List, [], map}
use Prim.Native.Nat.{ℕ, zero, suc, ◌+◌, ◌-◌, ◌*◌, ◌^◌, ◌≤◌, ◌<◌}
use native.Mathlib.Nat.{mul-add, mul-suc, mul-le-mul_left}
use native.Mathlib.Omega.{arith}
use borrow.Author.Tests.{lt-ltb, le-ltb}
use lib.Dec.{T, ltb}
use lib.ListN.{length, get_or, length-map}
use lib.Seq.{ext_get_or}
use Rattle.aiger.specs.Lists.{every, upto}
use Rattle.aiger.specs.Circuit.{Circuit}
use Rattle.aiger.specs.Frames.{Run, Space, value, frame, state, value_at, constrained, free_starts, space, run_in, bits_in, free_bit}
use Rattle.meaning.proofs.Lists.{map-upto-eq, length-map-upto, get_d-map-upto}
use Rattle.meaning.proofs.Bits.{sequence-of}
use Rattle.meaning.proofs.Sequences.{starts-same, length-starts}
use Rattle.never_search.specs.Runs.{freed_space}

-- a space of c in which start and rows depend on their own free bits alone, and the start has a value for each latch
pub record Local (c : Circuit) (s : Space) : Type 0 where
  pub start : (f g : ℕ → Bool) → ((j : ℕ) → j < s.free → f j ≡ g j) → s.start_of f ≡ s.start_of g
  pub row : (f g : ℕ → Bool) → ((i : ℕ) → i < s.width → f i ≡ g i) → s.row_of f ≡ s.row_of g
  pub latches : (f : ℕ → Bool) → length (s.start_of f) ≡ length c.latches

-- the space of a circuit is one
pub space-local : (c : Circuit) → Local c (space c)
unfolding free_starts
space-local c =
    record {
      start = λ f g h. starts-same f g 0 c.latches (λ j l. h j (omega arith));
      row = λ f g h. map-upto-eq f g (length c.inputs) h;
      latches = λ f. length-starts f 0 c.latches;
    }

-- and so it is with every latch free
pub freed-local : (c : Circuit) (s : Space) → Local c s → Local c (freed_space c s)
freed-local c s l =
    record {
      start = λ f g h. map-upto-eq f g (length c.latches) h;
      row = l.row;
      latches = λ f. length-map-upto f (length c.latches);
    }

-- run q has in its frames 0 to n the latches and rows that run r has from frame d on
pub record Window (c : Circuit) (r : Run) (d n : ℕ) (q : Run) : Type 0 where
  pub start : q.start ≡ state c r d
  pub row : (u : ℕ) → u ≤ n → get_or q.rows u [] ≡ get_or r.rows (d + u) []

module _ {c : Circuit} {r q : Run} {d n : ℕ} (w : Window c r d n q) where
  pub window-state : (u : ℕ) → u ≤ n → state c q u ≡ state c r (d + u)
  unfolding state
  window-state zero l = let e : d ≡ d + 0 = omega arith in w.start ∙ ap (state c r) e
  window-state (suc u) l =
      let e : suc (d + u) ≡ d + suc u = omega arith in
      ap₂ (λ (x : List Bool) (y : List Bool). map (λ k. value (frame c x y) k.next) c.latches) (window-state u (omega arith)) (w.row u (omega arith))
      ∙ ap (state c r) e

  pub window-value : (u : ℕ) → u ≤ n → (l : ℕ) → value_at c q u l ≡ value_at c r (d + u) l
  unfolding value_at
  window-value u h l = ap₂ (λ (x : List Bool) (y : List Bool). value (frame c x y) l) (window-state u h) (w.row u h)

  pub window-constrained : (u : ℕ) → u ≤ n → constrained c q u ≡ constrained c r (d + u)
  unfolding constrained value_at
  window-constrained u h = ap₂ (λ (x : List Bool) (y : List Bool). every (value (frame c x y)) c.constraints) (window-state u h) (w.row u h)

-- a space with the rows of s and a start of its own
abbrev rows_of : Space → ℕ → ((ℕ → Bool) → List Bool) → Space
rows_of s m h = record { free = m; width = s.width; start_of = h; row_of = s.row_of }

module _ (c : Circuit) (s : Space) (l : Local c s) (t x : ℕ) where
  -- the free bits of the frames from d on, after m bits of the start
  abbrev bits : ℕ → ℕ → (ℕ → Bool) → ℕ → Bool
  bits m d init j = cond (ltb j m) (init j) (free_bit (bits_in s t) x (s.free + s.width * d + (j - m)))

  bits-start : (m d : ℕ) (init : ℕ → Bool) (j : ℕ) → j < m → bits m d init j ≡ init j
  bits-start m d init j h = ap (λ (b : Bool). cond b (init j) (free_bit (bits_in s t) x (s.free + s.width * d + (j - m)))) (lt-ltb j m h)

  bits-row : (m d u i : ℕ) (init : ℕ → Bool) → bits m d init (m + s.width * u + i) ≡ free_bit (bits_in s t) x (s.free + s.width * (d + u) + i)
  bits-row m d u i init =
      let j = m + s.width * u + i in
      let e : s.free + s.width * d + (j - m) ≡ s.free + s.width * (d + u) + i = omega (arith, mul-add s.width d u) in
      ap (λ (b : Bool). cond b (init j) (free_bit (bits_in s t) x (s.free + s.width * d + (j - m)))) (le-ltb j m (omega arith))
      ∙ ap (free_bit (bits_in s t) x) e

  row_inside : (m n u i : ℕ) → u ≤ n → i < s.width → m + s.width * u + i < m + s.width * (n + 1)
  row_inside m n u i h k =
      let e : s.width * suc u ≤ s.width * (n + 1) = mul-le-mul_left s.width (omega arith) in
      omega (arith, mul-suc s.width u)

  -- n + 1 frames from frame d on are the run of a sequence of a space with the same rows, where its start can have the latches of frame d
  pub window-of : (m : ℕ) (h : (ℕ → Bool) → List Bool) → ((f g : ℕ → Bool) → ((j : ℕ) → j < m → f j ≡ g j) → h f ≡ h g) → (d n : ℕ) → d + n ≤ t
      → (init : ℕ → Bool) → h init ≡ state c (run_in s t x) d
      → (y : ℕ) × (y < 2 ^ bits_in (rows_of s m h) n) × Window c (run_in s t x) d n (run_in (rows_of s m h) n y)
  window-of m h local d n fits init e =
      let N = bits_in (rows_of s m h) n in
      let q = sequence-of N (bits m d init) in
      let y = q.0 in
      let agree : (j : ℕ) → j < N → free_bit N y j ≡ bits m d init j = q.2 in (
        y,
        q.1,
        record {
          start = local (free_bit N y) init (λ j k. agree j (omega arith) ∙ bits-start m d init j k) ∙ e;
          row = λ u k.
              get_d-map-upto (λ v. s.row_of (λ i. free_bit N y (m + s.width * v + i))) (n + 1) u [] (omega arith)
              ∙ l.row (λ i. free_bit N y (m + s.width * u + i)) (λ i. free_bit (bits_in s t) x (s.free + s.width * (d + u) + i))
              (λ i b. agree (m + s.width * u + i) (row_inside m n u i k b) ∙ bits-row m d u i init)
              ∙ sym (get_d-map-upto (λ v. s.row_of (λ i. free_bit (bits_in s t) x (s.free + s.width * v + i))) (t + 1) (d + u) [] (omega arith));
        },
      )

  -- the first n + 1 frames are the run of a sequence of frame n
  pub prefix-of : (n : ℕ) → n ≤ t → (y : ℕ) × (y < 2 ^ bits_in s n) × Window c (run_in s t x) 0 n (run_in s n y)
  unfolding state
  prefix-of n h = window-of s.free s.start_of l.start 0 n (omega arith) (free_bit (bits_in s t) x) refl

  state-length : (d : ℕ) → length (state c (run_in s t x) d) ≡ length c.latches
  unfolding state
  state-length zero = l.latches (free_bit (bits_in s t) x)
  state-length (suc d) = length-map c.latches _

  -- with every latch free, n + 1 frames from any frame d on are the run of a sequence
  pub suffix-of : (d n : ℕ) → d + n ≤ t → (y : ℕ) × (y < 2 ^ bits_in (freed_space c s) n) × Window c (run_in s t x) d n (run_in (freed_space c s) n y)
  suffix-of d n h =
      let L = length c.latches in
      let st = state c (run_in s t x) d in
      let init : ℕ → Bool = λ j. get_or st j false in
      window-of L (λ f. map f (upto L)) (λ f g e. map-upto-eq f g L e) d n h init
      (ext_get_or false (map init (upto L)) st (length-map-upto init L ∙ sym (state-length d))
      (λ j k. get_d-map-upto init L j false (omega (arith, length-map-upto init L))))
