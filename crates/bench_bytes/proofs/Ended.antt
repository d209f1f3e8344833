-- Clause 12.17: the end of a bench in bytes. Assumes nothing.
use mathlib.Core.Path.{◌≡◌, refl, sym, ap, ◌∙◌}
use mathlib.Core.Bool.{Bool, true, false, cond, ◌&&◌}
use mathlib.Core.List.{List}
use Prim.Native.Nat.{ℕ, ◌+◌, ◌≤◌, ◌<◌}
use native.Mathlib.Decide.{dec_lt, ℕ_discrete}
use native.Mathlib.Omega.{arith}
use lib.Dec.{leb, ltb, leb→le, ltb→lt}
use lib.ListN.{length, get_or, set, length-set, get_or-eq_default}
use lib.Seq.{ext_get_or, get_or-set_same, get_or-set_other}
use borrow.Author.Tests.{le-leb, lt-ltb}
use Rattle.aiger.proofs.Tests.{and_left, and_right, false_of}
use Rattle.meaning.proofs.Lists.{length-map-upto, get_d-map-upto}
use Rattle.benches.specs.Bench.{ended}
use Rattle.bench_bytes.specs.Bytes.{bench_place, bench_of, cleared_byte, put_ended}
use Rattle.bench_bytes.proofs.Records.{zeros-ended}
use Rattle.bench_bytes.proofs.Apart.{Apart}

-- a byte of the bench is cleared, another stays
pub cleared-in : (user i x : ℕ) → bench_place user ≤ i → i < bench_place user + 1024 → cleared_byte user i x ≡ 0
cleared-in user i x a b =
    ap (λ (t : Bool). cond (t && ltb i (bench_place user + 1024)) 0 x) (le-leb (bench_place user) i a)
    ∙ ap (λ (t : Bool). cond t 0 x) (lt-ltb i (bench_place user + 1024) b)

pub cleared-out : (user i x : ℕ) → (bench_place user ≤ i → i < bench_place user + 1024 → ⊥) → cleared_byte user i x ≡ x
cleared-out user i x f =
    let p1 = leb (bench_place user) i in
    let p2 = ltb i (bench_place user + 1024) in
    ap (λ (t : Bool). cond t 0 x)
    (false_of (p1 && p2)
    (λ h. f (leb→le (bench_place user) i (and_left p1 p2 h)) (ltb→lt i (bench_place user + 1024) (and_right p1 p2 h))))

same-both : (t : Bool) → ◌≡◌ {A = ℕ} (cond t 0 0) 0
same-both true = refl
same-both false = refl

nothing : (user i : ℕ) → cleared_byte user i 0 ≡ 0
nothing user i = same-both (leb (bench_place user) i && ltb i (bench_place user + 1024))

module _ (shared : List ℕ) (user : ℕ) where
  -- byte i after the end
  byte_at : (i : ℕ) → get_or (put_ended shared user) i 0 ≡ cleared_byte user i (get_or shared i 0)
  byte_at i =
      elim (dec_lt i (length shared)) [
        | yes h ↦ get_d-map-upto (λ j. cleared_byte user j (get_or shared j 0)) (length shared) i 0 h
        | no h ↦
            let l = length-map-upto (λ j. cleared_byte user j (get_or shared j 0)) (length shared) in
            get_or-eq_default (put_ended shared user) 0 {n = i} (omega arith)
            ∙ sym (ap (cleared_byte user i) (get_or-eq_default shared 0 {n = i} (omega arith)) ∙ nothing user i)
      ]

  -- the user has then a bench that has ended
  pub ended-bench : bench_of (put_ended shared user) user ≡ ended
  ended-bench = zeros-ended (put_ended shared user) user (λ j a b. byte_at j ∙ cleared-in user j (get_or shared j 0) a b)

  -- and nothing else changes
  pub ended-apart : Apart user (put_ended shared user) shared
  ended-apart =
      record {
        room = length-map-upto (λ j. cleared_byte user j (get_or shared j 0)) (length shared);
        outside = λ j f. byte_at j ∙ cleared-out user j (get_or shared j 0) f;
      }

-- ---- bytes that are cleared one after the other

-- the first i bytes are done, the others are as they were
pub record Clearing (before now : List ℕ) (user i : ℕ) : Type 0 where
  pub room : length now ≡ length before
  pub done : (k : ℕ) → k < i → get_or now k 0 ≡ cleared_byte user k (get_or before k 0)
  pub rest : (k : ℕ) → i ≤ k → get_or now k 0 ≡ get_or before k 0

pub clearing-none : (before : List ℕ) (user : ℕ) → Clearing before before user 0
clearing-none before user = record { room = refl; done = λ k l. absurd (omega arith); rest = λ k l. refl }

pub clearing-more : (before now : List ℕ) (user i v : ℕ) → v ≡ cleared_byte user i (get_or now i 0) → i < length now → Clearing before now user i
    → Clearing before (set now i v) user (i + 1)
clearing-more before now user i v e l f =
    record {
      room = length-set now i v ∙ f.room;
      done = λ k h.
          elim (ℕ_discrete k i) [
            | yes d ↦
                ap (λ (x : ℕ). get_or (set now i v) x 0) d ∙ get_or-set_same now i v 0 l ∙ e
                ∙ ap (cleared_byte user i) (f.rest i (omega arith)) ∙ sym (ap (λ (x : ℕ). cleared_byte user x (get_or before x 0)) d)
            | no d ↦ get_or-set_other now i k v 0 d ∙ f.done k (omega arith)
          ];
      rest = λ k h. get_or-set_other now i k v 0 (λ d. omega arith) ∙ f.rest k (omega arith);
    }

pub clearing-all : (before now : List ℕ) (user i : ℕ) → length now ≤ i → Clearing before now user i → now ≡ put_ended before user
clearing-all before now user i l f =
    ext_get_or 0 now (put_ended before user)
    (f.room ∙ sym (length-map-upto (λ j. cleared_byte user j (get_or before j 0)) (length before)))
    (λ k h. f.done k (omega arith)
    ∙ sym (get_d-map-upto (λ j. cleared_byte user j (get_or before j 0)) (length before) k 0 (omega (arith, f.room))))
