-- Words that are copied, and resets that are stored, one after the other. Assumes nothing.
use mathlib.Core.Path.{◌≡◌, refl, sym, ap, ◌∙◌, subst}
use mathlib.Core.List.{List, ◌++◌}
use Prim.Native.Nat.{ℕ, ◌+◌, ◌-◌, ◌*◌, ◌≤◌, ◌<◌}
use native.Mathlib.Decide.{ℕ_discrete}
use native.Mathlib.Omega.{arith}
use lib.ListN.{length, get_or, set, take, drop, length-set, length-drop, get_or-append}
use lib.Seq.{get_or-set_same, get_or-set_other, length-take-le}
use Rattle.std.proofs.Common.{length-append}
use Rattle.std.proofs.lemmas.List.{get_or-take, get_or-drop, get_or-append_right}
use Rattle.layout.specs.Words.{word}
use Rattle.freeing.specs.Steps.{Copied, Reset}

pub copied-front : (m : List ℕ) (n : ℕ) (before after : List ℕ) → n ≤ length m → n ≤ length before → after ≡ take n m ++ drop n before
    → Copied m n before after
copied-front m n before after h k e =
    let l = length-take-le n m h in
    subst (Copied m n before) (sym e)
    (record {
      size = omega (arith, length-append (take n m) (drop n before), l, length-drop n before);
      new = λ i g. get_or-append (take n m) (drop n before) 0 i (omega (arith, l)) ∙ get_or-take n m i 0 g;
      others = λ i g.
          get_or-append_right (take n m) (drop n before) n i 0 l g ∙ get_or-drop n before (i - n) 0 ∙ ap (word before) (omega arith);
    })

pub reset-none : (at : ℕ) (before : List ℕ) → Reset at 0 before before
reset-none at before = record { size = refl; new = λ j l. absurd (omega arith); others = λ i f. refl }

pub reset-more : (at n : ℕ) {before : List ℕ} (now : List ℕ) (x : ℕ) → Reset at n before now → at + 3 * n + 2 < length now → x ≡ word now (at + 3 * n)
    → Reset at (n + 1) before (set now (at + 3 * n + 2) x)
reset-more at n {before} now x c l e =
    let p = at + 3 * n + 2 in
    let old : word now (at + 3 * n) ≡ word before (at + 3 * n) = c.others (at + 3 * n) (λ j k q. omega arith) in
    record {
      size = length-set now p x ∙ c.size;
      new = λ j h.
          elim (ℕ_discrete j n) [
            | yes q ↦
                ap (λ (i : ℕ). word (set now p x) (at + 3 * i + 2)) q ∙ get_or-set_same now p x 0 l ∙ e ∙ old
                ∙ ap (λ (i : ℕ). word before (at + 3 * i)) (sym q)
            | no q ↦ get_or-set_other now p (at + 3 * j + 2) x 0 (λ z. q (omega arith)) ∙ c.new j (omega arith)
          ];
      others = λ i f.
          get_or-set_other now p i x 0 (λ z. f n (omega arith) (sym z)) ∙ c.others i (λ j k. f j (omega arith));
    }
