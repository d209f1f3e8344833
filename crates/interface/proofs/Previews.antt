-- A preview is refused exactly to a user who may not ask: no file gets 18 from load. Assumes nothing.
use mathlib.Core.Path.{◌≡◌, refl, sym, ap, ◌∙◌}
use mathlib.Core.Bool.{Bool, true, false, cond, ◌&&◌}
use mathlib.Core.List.{List, [], ◌∷◌}
use mathlib.Core.Option.{Option, some, none}
use Prim.Native.Nat.{ℕ, ◌≤◌, ◌<◌}
use native.Mathlib.Decide.{dec_le}
use native.Mathlib.Omega.{arith}
use lib.Dec.{leb}
use lib.ListN.{length}
use borrow.Author.Tests.{ne_eqb, le-leb, lt-leb}
use Rattle.aiger.specs.Circuit.{Circuit, literals_right, used_defined, acyclic}
use Rattle.aiger.specs.File.{Header, is_binary, header, counts_right, body}
use Rattle.aiger.specs.Load.{Answer, refused, gives, ◌>>=◌, ◌>>◌, test, read, needed, sections, load}
use Rattle.numbering.proofs.Reading.{refused-read, sections-causes}
use Rattle.load.specs.Preview.{counts_of}
use Rattle.call_forms.specs.Table.{preview_row}
use Rattle.call_forms.specs.Forms.{UserPreviewed}
use Rattle.call_forms.proofs.Tests.{known_only, first-refuses}
use Rattle.interface.specs.Told.{preview_told, number_of}

refused-test : {B : Type 0} (m n : ℕ) (b : Bool) (k : Answer B) → (m ≡ n → ⊥) → (test m b >> k) ≡ refused n → k ≡ refused n
refused-test m n true k h e = e
refused-test m n false k h e = let z : m ≡ n = cc in absurd (h z)

given : {A : Type 0} {a : A} {n : ℕ} → gives a ≡ refused n → ⊥
given e = let z : ◌≡◌ {A = ℕ} 0 1 = cc in omega arith

read-causes : {A : Type 0} (m n : ℕ) (o : Option A) → (m ≡ n → ⊥) → read m o ≡ refused n → ⊥
read-causes m n none h e = let z : m ≡ n = cc in h z
read-causes m n (some x) h e = given e

sections-number : (b : Bool) (h : Header) (f : List ℕ) → sections b h f ≡ refused 18 → ⊥
unfolding sections
sections-number true h f e = sections-causes h f 18 e (λ q. omega arith) (λ q. omega arith)
sections-number false h f e = read-causes 5 18 (body h f) (λ q. omega arith) e

judged-number : (a : Answer Circuit) → (a ≡ refused 18 → ⊥)
    → (a >>= λ d. test 6 (literals_right d) >> (test 7 (used_defined d) >> (test 8 (acyclic d) >> gives d))) ≡ refused 18 → ⊥
judged-number (refused m) h e = h e
judged-number (gives d) h e =
    let x6 = refused-test 6 18 (literals_right d) _ (λ q. omega arith) e in
    let x7 = refused-test 7 18 (used_defined d) _ (λ q. omega arith) x6 in
    given (refused-test 8 18 (acyclic d) _ (λ q. omega arith) x7)

-- load gives no 18
pub load-number : (room : ℕ) (f : List ℕ) → load room f ≡ refused 18 → ⊥
unfolding load
load-number room f e =
    let x1 = refused-test 1 18 (leb 1 (length f) && leb (length f) 65536) _ (λ q. omega arith) e in
    let x2 = refused-read 2 18 (header f) _ (λ q. omega arith) x1 in
    let h = x2.0.0 in
    let g = x2.0.1 in
    let x3 = refused-test 3 18 (counts_right (is_binary f) h) _ (λ q. omega arith) x2.1 in
    let x4 = refused-test 4 18 (leb (needed h.M) room) _ (λ q. omega arith) x3 in
    judged-number (sections (is_binary f) h g) (sections-number (is_binary f) h g) x4

-- what is told where load gives another number is no refusal
told-done : (a : Answer (List ℕ)) (words : ℕ) → (a ≡ refused 18 → ⊥) → number_of (preview_told a words) ≡ 0
told-done (refused n) words h = rw (ne_eqb n 18 (λ e. h (ap refused e)))
told-done (gives counts) words h = refl

counted : (a : Answer Circuit) → (a ≡ refused 18 → ⊥) → (a >>= λ c. gives (counts_of c)) ≡ refused 18 → ⊥
counted (refused n) h e = let z : n ≡ 18 = cc in h (ap refused z)
counted (gives c) h e = given e

pub preview-number : (room : ℕ) (f : List ℕ) (user : ℕ) (a : Answer (List ℕ)) (words : ℕ) → UserPreviewed room f user a words
    → number_of (preview_told a words) ≡ cond (leb user 1) 0 18
preview-number room f user a words p =
    elim (dec_le user 1) [
      | yes h ↦
          let q = known_only preview_row user h a words p in
          rw (le-leb user 1 h) (told-done a words (λ e. counted (load room f) (load-number room f) (sym q.0 ∙ e)))
      | no h ↦
          let l : 1 < user = omega (arith, h) in
          let q = first-refuses preview_row user [] l p in
          rw (lt-leb user 1 l) (ap (λ (x : Answer (List ℕ)). number_of (preview_told x words)) q.0)
    ]
