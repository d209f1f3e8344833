-- Gates that use no free bit from a node on. Assumes nothing.
use mathlib.Core.Path.{◌≡◌, refl, sym, ap, ap₂, ◌∙◌, subst}
use mathlib.Core.List.{List}
use Prim.Native.Nat.{ℕ, ◌+◌, ◌*◌, ◌≤◌, ◌<◌}
use native.Mathlib.Decide.{ℕ_discrete}
use native.Mathlib.Omega.{arith}
use lib.ListN.{length, get_or, set}
use lib.Seq.{get_or-set_same, get_or-set_other}
use Rattle.nodes.specs.declared.Graph.{Graph}
use Rattle.simulation.specs.Store.{Unused, UsedFrom, Firsts}

pub unused-more : (work : List ℕ) (low free k : ℕ) → ((v : ℕ) → free < v → v < k → Unused work v low free) → Unused work k low free
    → (v : ℕ) → free < v → v < k + 1 → Unused work v low free
unused-more work low free k h u v l m =
    elim (ℕ_discrete v k) [ yes e ↦ subst (λ (x : ℕ). Unused work x low free) (sym e) u | no e ↦ h v l (omega arith) ]

pub firsts_more : (work : List ℕ) (g : Graph) (slots firsts : List ℕ) (k first : ℕ) → k < length firsts → Firsts work g slots k firsts
    → UsedFrom work g (get_or slots k 0) first → Firsts work g slots (k + 1) (set firsts k first)
firsts_more work g slots firsts k first h a u j m =
    elim (ℕ_discrete j k) [
      | yes e ↦
          subst (λ (x : ℕ). UsedFrom work g (get_or slots x 0) (get_or (set firsts k first) x 0)) (sym e)
          (subst (UsedFrom work g (get_or slots k 0)) (sym (get_or-set_same firsts k first 0 h)) u)
      | no e ↦ subst (UsedFrom work g (get_or slots j 0)) (sym (get_or-set_other firsts k j first 0 e)) (a j (omega arith))
    ]
