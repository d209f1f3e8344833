-- Clause 12.17: the tests of a turn, and that it answers what the search of its frame from its place does. Assumes nothing.
use mathlib.Core.Path.{◌≡◌, refl, sym, ap, ◌∙◌, subst}
use mathlib.Core.Bool.{Bool, true, false, cond, ◌&&◌}
use mathlib.Core.List.{List, [], ◌∷◌}
use mathlib.Core.Option.{Option, none, some}
use Prim.Native.Nat.{ℕ, ◌+◌, ◌*◌, ◌≤◌, ◌<◌}
use native.Mathlib.Nat.{mul-le-mul_right}
use native.Mathlib.Omega.{arith}
use lib.Dec.{T, leb, ltb, eqb, leb→le, le→leb}
use lib.ListN.{length}
use borrow.Author.Tests.{eqb-false}
use Rattle.aiger.specs.Circuit.{Circuit}
use Rattle.aiger.specs.Frames.{free_bits, size}
use Rattle.aiger.specs.Load.{Answer, refused, gives}
use Rattle.aiger.specs.Memory.{Holds}
use Rattle.aiger.specs.Search.{Report}
use Rattle.aiger.specs.Witness.{witness_length}
use Rattle.aiger.specs.Operations.{Test, need, judge, bad_test, budget_right, size_test, Operated}
use Rattle.aiger.proofs.Tests.{T_true, true-T, and, and_left, and_right}
use Rattle.place_search.specs.Operation.{place_right, place_test, place_tests}
use Rattle.place_search.proofs.Refused.{judge-pass, judge-fail}
use Rattle.benches.specs.declared.Entry.{Entry}
use Rattle.benches.specs.Bench.{Bench, is_free, turn_of, first_of, waits, grant_of}
use Rattle.bench_bytes.specs.Bytes.{is_there, bench_of}
use Rattle.bench_bytes.specs.Calls.{queue_first, entry_tests, tests_at, turn_tests}
use Rattle.benches.proofs.Entries.{waiting-budget}
use Rattle.benches.proofs.Order.{turn-first}

-- ---- which test refuses

-- without a bench it is 18, whatever the number
pub queue-stranger : (shared : List ℕ) (user n : ℕ) → is_there shared user ≡ false → judge (queue_first shared user n) ≡ refused 18
queue-stranger shared user n e = judge-fail 18 (is_there shared user) _ e

-- a number that may not be queued is 20
pub queue-used : (shared : List ℕ) (user n : ℕ) → is_there shared user ≡ true → is_free (bench_of shared user) n ≡ false
    → judge (queue_first shared user n) ≡ refused 20
queue-used shared user n e f = judge-pass 18 (is_there shared user) _ e ∙ judge-fail 20 (is_free (bench_of shared user) n) _ f

module _ (asked c : Circuit) (e : Entry) (room len : ℕ) where
  -- a search whose bound has too large a size is 12, also where its frame has not
  pub bound-refused : ltb e.b (length c.bads) ≡ true → place_right (free_bits asked e.frame) e.place ≡ true
      → (leb (size c e.k) 65536 && leb (16 * size c e.k) room) ≡ false → judge (entry_tests asked c e room len) ≡ refused 12
  bound-refused e₁ e₂ e₃ =
      judge-pass 10 (ltb e.b (length c.bads)) _ e₁ ∙ judge-pass 19 (place_right (free_bits asked e.frame) e.place) _ e₂
      ∙ judge-fail 12 (leb (size c e.k) 65536 && leb (16 * size c e.k) room) _ e₃

-- ---- the search of its frame

size-within : (c : Circuit) (t k : ℕ) → t ≤ k → size c t ≤ size c k
unfolding size
size-within c t k l =
    let w = length c.inputs + length c.gates + length c.constraints + 1 in
    let x : (t + 1) * w ≤ (k + 1) * w = mul-le-mul_right w (omega arith) in
    omega arith

length-within : (c : Circuit) (b t k : ℕ) → t ≤ k → witness_length c b t ≤ witness_length c b k
unfolding witness_length
length-within c b t k l =
    let I = length c.inputs in
    let x : (t + 1) * (I + 1) ≤ (k + 1) * (I + 1) = mul-le-mul_right (I + 1) (omega arith) in
    omega arith

-- where all tests pass, so does the first, and the others
first_passes : (n : ℕ) (p : Bool) (ts : List Test) → judge (need n p ∷ ts) ≡ gives tt → T p × (judge ts ≡ gives tt)
unfolding judge
first_passes n true ts e = (tt, e)
first_passes n false ts e = absurd (let z : ◌≡◌ {A = ℕ} 0 1 = cc in omega arith)

one_more : (n : ℕ) (p : Bool) (ts : List Test) → T p → judge ts ≡ gives tt → judge (need n p ∷ ts) ≡ gives tt
one_more n p ts h e = judge-pass n p ts (true-T p h) ∙ e

no_test : judge [] ≡ gives tt
unfolding judge
no_test = refl

-- what passes a turn's tests passes those of the search of its frame from its place
pub frame-passes : (asked c : Circuit) (e : Entry) (grant room len : ℕ) → e.frame ≤ e.k → e.k ≤ 255 → T (budget_right grant)
    → judge (entry_tests asked c e room len) ≡ gives tt → judge (place_tests asked c e.b e.frame e.place grant room len) ≡ gives tt
frame-passes asked c e grant room len l m g h =
    let p1 = first_passes 10 (ltb e.b (length c.bads)) _ h in
    let p2 = first_passes 19 (place_right (free_bits asked e.frame) e.place) _ p1.1 in
    let p3 = first_passes 12 (leb (size c e.k) 65536 && leb (16 * size c e.k) room) _ p2.1 in
    let p4 = first_passes 13 (leb (witness_length c e.b e.k) len) _ p3.1 in
    let small = leb→le (size c e.k) 65536 (and_left (leb (size c e.k) 65536) (leb (16 * size c e.k) room) p3.0) in
    let words = leb→le (16 * size c e.k) room (and_right (leb (size c e.k) 65536) (leb (16 * size c e.k) room) p3.0) in
    let less = size-within c e.frame e.k l in
    let long = leb→le (witness_length c e.b e.k) len p4.0 in
    let short = length-within c e.b e.frame e.k l in
    one_more 10 (ltb e.b (length c.bads)) _ p1.0
    (one_more 11 (leb e.frame 255 && budget_right grant) _
    (and (leb e.frame 255) (budget_right grant) (le→leb e.frame 255 (omega arith)) g)
    (one_more 19 (place_right (free_bits asked e.frame) e.place) _ p2.0
    (one_more 12 (leb (size c e.frame) 65536 && leb (16 * size c e.frame) room) _
    (and (leb (size c e.frame) 65536) (leb (16 * size c e.frame) room) (le→leb (size c e.frame) 65536 (omega arith))
    (le→leb (16 * size c e.frame) room (omega arith)))
    (one_more 13 (leb (witness_length c e.b e.frame) len) [] (le→leb (witness_length c e.b e.frame) len (omega arith)) no_test))))

-- a grant is a right budget
pub grant-right : (s : Bench) (n : ℕ) → s.next < 16 → turn_of s ≡ some n → T (budget_right (grant_of s n))
unfolding turn_of
grant-right s n l e = go (eqb s.allowance 0) refl e
  where
    go : (t : Bool) → eqb s.allowance 0 ≡ t → cond t none (first_of (waits s) s.next 16) ≡ some n → T (budget_right (grant_of s n))
    go true h e = absurd (let z : ◌≡◌ {A = ℕ} 0 1 = cc in omega arith)
    go false h f =
        let some = eqb-false s.allowance 0 h in
        let budget = waiting-budget (s.entry n) (turn-first s l n e).passes in
        let g = grant_of s n in
        and (leb 1 g) (leb g 4294967296) (le→leb 1 g (omega arith)) (le→leb g 4294967296 (omega arith))

-- Clause 12.17: a turn that is granted answers and leaves in working memory and output what the search of its frame from its place does
pub turn-searches : (asked : Circuit → Circuit) (effect : ℕ → ℕ → ℕ → ℕ → Circuit → Report → List ℕ × List ℕ → Type 0) {m w out w' out' : List ℕ}
    {c : Circuit} {r : Report} (s : Bench) (n : ℕ) → s.next < 16 → turn_of s ≡ some n → (s.entry n).frame ≤ (s.entry n).k → (s.entry n).k ≤ 255
    → Holds m c → judge (turn_tests (asked c) c s (length w) (length out)) ≡ gives tt
    → effect (s.entry n).b (s.entry n).frame (s.entry n).place (grant_of s n) c r (w', out')
    → (let e = s.entry n in
    let g = grant_of s n in
    Operated m (λ x. place_tests (asked x) x e.b e.frame e.place g (length w) (length out)) (w, out)
    (effect e.b e.frame e.place g) (gives r) (w', out'))
turn-searches asked effect {w = w} {out = out} {c = c} s n l t f k h j x =
    let e = s.entry n in
    let g = grant_of s n in
    let tests = ap (λ (o : Option ℕ). judge (tests_at (asked c) c s (length w) (length out) o)) (sym t) ∙ j in
    Operated.acts c h (frame-passes (asked c) c e g (length w) (length out) f k (grant-right s n l t) tests) x
