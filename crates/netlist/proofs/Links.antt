-- Fan-outs guide the search alone: operands stay, and so does what is known of a node. Assumes nothing.
use mathlib.Core.Path.{◌≡◌, refl, sym, ap, ◌∙◌, subst}
use mathlib.Core.List.{List}
use Prim.Native.Nat.{ℕ, zero, suc, ◌+◌, ◌-◌, ◌*◌, ◌/◌, ◌%◌, ◌≤◌, ◌<◌}
use native.Mathlib.Decide.{ℕ_discrete, dec_lt}
use native.Mathlib.Omega.{arith}
use borrow.Author.Tests.{le-leb, lt-leb}
use lib.ListN.{length}
use lib.Seq.{get_or-set_same}
use Rattle.memory.specs.Record.{field, place, stored}
use Rattle.reasons.proofs.Frame.{length-stored, stored-field, stored_at}
use Rattle.records.specs.Steps.{edge_to, linked_to, linked, all_linked}
use Rattle.records.proofs.Words.{down-keeps}

-- a node that is not in the netlist
pub field-none : (w : List ℕ) (nodes v f : ℕ) → nodes ≤ v → field w nodes v f ≡ 0
unfolding field
field-none w nodes v f l = rw (le-leb nodes v l)

module _ (w : List ℕ) (nodes : ℕ) (long : 14 * nodes ≤ length w) where
  -- operands and what is known are those of w
  pub record Linked (u : List ℕ) : Type 0 where
    pub size : length u ≡ length w
    pub operand : (v f : ℕ) → f < 2 → field u nodes v f ≡ field w nodes v f
    pub known : (v : ℕ) → field u nodes v 2 % 16 ≡ field w nodes v 2 % 16

  link-more : (u : List ℕ) (g s x : ℕ) → s < 2 → Linked u → Linked (linked_to u nodes g s x)
  unfolding linked_to
  link-more u g s x h l =
      let fact = field u nodes x 2 in
      let y = stored u nodes g (12 + s) (fact / 16) in
      let size : length y ≡ length u = length-stored u nodes g (12 + s) (fact / 16) in
      let word = fact % 16 + 16 * (edge_to g s % 268435456) in
      let fields : (v f : ℕ) → f < 3 → field y nodes v f ≡ field u nodes v f =
      λ v f k. stored-field u nodes g (12 + s) (fact / 16) v f (omega arith) (omega arith) (λ p q. omega arith) in
      record {
        size = length-stored y nodes x 2 word ∙ size ∙ l.size;
        operand = λ v f k. stored-field y nodes x 2 word v f (omega arith) (omega arith) (λ p q. omega arith) ∙ fields v f (omega arith) ∙ l.operand v f k;
        known = λ v.
            elim (ℕ_discrete v x) [
              | yes e ↦
                  elim (dec_lt x nodes) [
                    | yes i ↦
                        let q : field (stored y nodes x 2 word) nodes x 2 ≡ word = stored_at y nodes x 2 word (omega (arith, size, l.size)) (omega arith) i in
                        let r : word % 16 ≡ fact % 16 = omega arith in
                        subst (λ (z : ℕ). field (stored y nodes x 2 word) nodes z 2 % 16 ≡ field w nodes z 2 % 16) (sym e)
                        (ap (λ (z : ℕ). z % 16) q ∙ r ∙ l.known x)
                    | no i ↦
                        let p = field-none (stored y nodes x 2 word) nodes v 2 (omega arith) in
                        let q = field-none w nodes v 2 (omega arith) in
                        ap (λ (z : ℕ). z % 16) (p ∙ sym q)
                  ]
              | no e ↦
                  ap (λ (z : ℕ). z % 16) (stored-field y nodes x 2 word v 2 (omega arith) (omega arith) (λ p q. e p) ∙ fields v 2 (omega arith)) ∙ l.known v
            ];
      }

  pub all-linked : (first n : ℕ) → Linked (all_linked w nodes first n)
  all-linked first n =
      down-keeps (λ j. Linked) (λ u j. linked (linked u nodes (first + j) 1) nodes (first + j) 0) n w
      (record { size = refl; operand = λ v f k. refl; known = λ v. refl })
      (λ j u h l.
      let y = linked u nodes (first + j) 1 in
      link-more y (first + j) 0 (field y nodes (first + j) 0 / 2) (omega arith)
      (link-more u (first + j) 1 (field u nodes (first + j) 1 / 2) (omega arith) l))
