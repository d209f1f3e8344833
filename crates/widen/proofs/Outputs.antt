-- The output after widening. Assumes nothing.
use mathlib.Core.Path.{◌≡◌, refl, sym, ap, ap₂, ◌∙◌, subst}
use mathlib.Core.List.{List, [], ◌∷◌, ◌++◌, append_assoc}
use mathlib.Core.Option.{some}
use Prim.Native.Nat.{ℕ, ◌+◌, ◌-◌, ◌≤◌, ◌<◌}
use native.Mathlib.Omega.{arith}
use borrow.Author.Tests.{le-leb, lt-leb}
use lib.Dec.{leb}
use borrow.Rule.Slice.PartMut.{put_mid, Post-is}
use lib.ListN.{length, take, drop, length-append, length-take, length-drop}
use lib.Seq.{take_all, take-append-le, drop_at, drop-drop, drop-append-le}
use Rattle.aiger.specs.Circuit.{Circuit}
use Rattle.aiger.specs.Load.{refused, gives}
use Rattle.aiger.specs.Memory.{Holds}
use Rattle.completions.specs.Either.{eithers, read_either, widened}
use Rattle.aiger.specs.Operations.{front, Test, need, judge, Operated}
use Rattle.completions.specs.Operations.{either_tests, widen_tests}
use Rattle.pinned_runs.specs.Obeys.{pinned_shows, pinned_widened_text, PinnedWidened}
use Rattle.limits.proofs.Refusals.{judge-refused, judge-rest}
use Rattle.replay.proofs.Answers.{passed}

-- the body of a text that stands at the front of an output
pub body_of : (text out : List ℕ) (start : ℕ) → start ≤ length text → take (length text - start) (drop start (front text out)) ≡ drop start text
body_of text out start h =
    ap (take (length text - start)) (drop-append-le start text (drop (length text) out) h)
    ∙ take-append-le (length text - start) (drop start text) (drop (length text) out) (omega (arith, length-drop start text))
    ∙ take_all (length text - start) (drop start text) (omega (arith, length-drop start text))

-- another body in its place
pub body-put : (text out body : List ℕ) (start : ℕ) → start ≤ length text → length body ≡ length text - start
    → put_mid start (length text - start) (front text out) body ≡ front (take start text ++ body) out
body-put text out body start h e =
    let n : ℕ = length text in
    let rest : List ℕ = drop n out in
    let size : n ≡ length (take start text ++ body) = omega (arith, length-append (take start text) body, length-take start text) in
    ap₂ (λ (x y : List ℕ). x ++ (body ++ y)) (take-append-le start text rest h) (Post-is start n (front text out) h ∙ drop_at text rest n refl)
    ∙ sym (append_assoc (take start text) body rest)
    ∙ ap (λ (k : ℕ). (take start text ++ body) ++ drop k out) size

-- what was copied
pub copied : (text out : List ℕ) → take (length text) text ++ drop (length text) out ≡ front text out
copied text out = ap (λ (w : List ℕ). w ++ drop (length text) out) (take_all (length text) text (omega arith))

-- ---- the answers

module _ {m : List ℕ} (c : Circuit) (held : Holds m c) (q : ℕ → ℕ) (text out : List ℕ) where
  abbrev short : Test
  short = need 13 (leb (length text) (length out))

  pub refuses : (n : ℕ) → judge (either_tests c text) ≡ refused n → PinnedWidened m q text out (refused n) out
  refuses n e = Operated.refuses c held (judge-refused (either_tests c text) (short ∷ []) n e)

  module _ (b : ℕ) (body : List ℕ) (e : read_either c text ≡ some (b, body)) (l : eithers body ≤ 16) where
    rest : judge (widen_tests c text (length out)) ≡ judge (short ∷ [])
    rest = judge-rest (either_tests c text) (short ∷ []) (passed c text b body e l)

    last-refuses : length out < length text → judge (short ∷ []) ≡ refused 13
    unfolding judge
    last-refuses k = rw (lt-leb (length text) (length out) k)

    last-passes : length text ≤ length out → judge (short ∷ []) ≡ gives tt
    unfolding judge
    last-passes k = rw (le-leb (length text) (length out) k)

    pub too_short : length out < length text → PinnedWidened m q text out (refused 13) out
    too_short k = Operated.refuses c held (rest ∙ last-refuses k)

    text-is : (start : ℕ) → start ≤ length text → body ≡ drop start text → pinned_widened_text c q text (b, body) ≡ take start text ++ widened (pinned_shows c q b) body
    unfolding pinned_widened_text
    text-is start s z =
        let size : length body ≡ length text - start = ap length z ∙ length-drop start text in
        let y : length text - length body ≡ start = omega arith in
        ap (λ (j : ℕ). take j text ++ widened (pinned_shows c q b) body) y

    pub widens : length text ≤ length out → (start : ℕ) → start ≤ length text → body ≡ drop start text → (n : ℕ) → n ≡ length text → (o : List ℕ)
        → o ≡ front (take start text ++ widened (pinned_shows c q b) body) out → PinnedWidened m q text out (gives n) o
    widens k start s y n z o r =
        Operated.acts c held (rest ∙ last-passes k)
        (record {
          bad = b;
          body = body;
          reads = e;
          count = z;
          writes = r ∙ ap (λ (w : List ℕ). front w out) (sym (text-is start s y));
        })
