-- A circuit whose literals are right has no number above 2M+1, so that one with such a number is refused with 6. Assumes nothing.
use mathlib.Core.Path.{◌≡◌, ◌∙◌, subst}
use mathlib.Core.Bool.{Bool, true, false, ◌&&◌, ◌||◌}
use mathlib.Core.List.{List, [], ◌∷◌, ◌++◌}
use mathlib.Core.Logic.{⊎_elim}
use Prim.Native.Nat.{ℕ, ◌+◌, ◌*◌, ◌≤◌}
use native.Mathlib.Omega.{arith}
use lib.Dec.{T, leb, eqb, leb→le, le→leb, eqb→eq}
use Rattle.aiger.specs.Lists.{every}
use Rattle.aiger.specs.Circuit.{Circuit, Latch, Gate, literal_tests, literals_right}
use Rattle.aiger.specs.Memory.{latch_words, gate_words, content}
use Rattle.aiger.proofs.Tests.{and, and_left, and_right, T_true, true-T, false_of, all-at, or_cases}
use Rattle.roundtrip.proofs.LoadWrite.{each}
use Rattle.lines.specs.Lines.{within}
use Rattle.lines.proofs.Storing.{every_append}
use Rattle.sections.specs.Sections.{latch_numbers, line_numbers, numbers_within}

-- no number of a part is above the limit
record Within (limit : ℕ) (c : Circuit) : Type 0 where
  pub inputs : T (within limit c.inputs)
  pub latches : T (within limit (latch_words c.latches))
  pub outputs : T (within limit c.outputs)
  pub bads : T (within limit c.bads)
  pub constraints : T (within limit c.constraints)
  pub gates : T (within limit (gate_words c.gates))

three : (limit a b c : ℕ) (w : List ℕ) → T (leb a limit) → T (leb b limit) → T (leb c limit) → T (within limit w)
    → T (within limit (a ∷ b ∷ c ∷ w))
three limit a b c w ha hb hc t =
    and (leb a limit) (leb b limit && (leb c limit && within limit w)) ha
    (and (leb b limit) (leb c limit && within limit w) hb (and (leb c limit) (within limit w) hc t))

-- a right reset is 0, 1 or the latch's literal
reset-within : (limit a r : ℕ) → 1 ≤ limit → T (leb a limit) → T (leb r 1 || eqb r a) → T (leb r limit)
reset-within limit a r l h t =
    le→leb r limit
    (⊎_elim (λ x. omega (arith, leb→le r 1 x)) (λ y. omega (arith, eqb→eq r a y, leb→le a limit h)) (or_cases (leb r 1) (eqb r a) t))

module _ (limit : ℕ) where
  latches-within : 1 ≤ limit → (ls : List Latch) → T (every (λ l. leb l.lit limit) ls) → T (every (λ l. leb l.next limit) ls)
      → T (every (λ l. leb l.reset 1 || eqb l.reset l.lit) ls) → T (within limit (latch_words ls))
  unfolding latch_words
  latches-within l [] a b c = tt
  latches-within l (x ∷ ls) a b c =
      let at = leb x.lit limit in
      let rest-a = every (λ (y : Latch). leb y.lit limit) ls in
      let bt = leb x.next limit in
      let rest-b = every (λ (y : Latch). leb y.next limit) ls in
      let ct = leb x.reset 1 || eqb x.reset x.lit in
      let rest-c = every (λ (y : Latch). leb y.reset 1 || eqb y.reset y.lit) ls in
      three limit x.lit x.next x.reset (latch_words ls) (and_left at rest-a a) (and_left bt rest-b b)
      (reset-within limit x.lit x.reset l (and_left at rest-a a) (and_left ct rest-c c))
      (latches-within l ls (and_right at rest-a a) (and_right bt rest-b b) (and_right ct rest-c c))

  gates-within : (gs : List Gate) → T (every (λ g. leb g.lit limit) gs) → T (every (λ g. leb g.left limit) gs)
      → T (every (λ g. leb g.right limit) gs) → T (within limit (gate_words gs))
  unfolding gate_words
  gates-within [] a b c = tt
  gates-within (x ∷ gs) a b c =
      let at = leb x.lit limit in
      let rest-a = every (λ (y : Gate). leb y.lit limit) gs in
      let bt = leb x.left limit in
      let rest-b = every (λ (y : Gate). leb y.left limit) gs in
      let ct = leb x.right limit in
      let rest-c = every (λ (y : Gate). leb y.right limit) gs in
      three limit x.lit x.left x.right (gate_words gs) (and_left at rest-a a) (and_left bt rest-b b) (and_left ct rest-c c)
      (gates-within gs (and_right at rest-a a) (and_right bt rest-b b) (and_right ct rest-c c))

-- where the literals are right, no number is above 2M+1
literals-within : (c : Circuit) → literals_right c ≡ true → Within (2 * c.max_var + 1) c
unfolding literals_right
literals-within c e =
    let limit = 2 * c.max_var + 1 in
    let at = all-at (literal_tests c) (T_true e) in
    let l = each (λ x. leb x limit) c (at 0) in
    record {
      inputs = l.inputs;
      latches = latches-within limit (omega arith) c.latches l.latches l.nexts (at 3);
      outputs = l.outputs;
      bads = l.bads;
      constraints = l.constraints;
      gates = gates-within limit c.gates l.gates l.lefts l.rights;
    }

-- latch lines in binary form have some of the words of the latches
pairs-within : (limit : ℕ) (ls : List Latch) → T (within limit (latch_words ls)) → T (within limit (latch_numbers ls))
unfolding latch_words latch_numbers
pairs-within limit [] t = tt
pairs-within limit (x ∷ ls) t =
    let n = leb x.next limit in
    let r = leb x.reset limit in
    let w = within limit (latch_words ls) in
    let t1 = and_right (leb x.lit limit) (n && (r && w)) t in
    let t2 = and_right n (r && w) t1 in
    let k = within limit (latch_numbers ls) in
    and n (r && k) (and_left n (r && w) t1) (and r k (and_left r w t2) (pairs-within limit ls (and_right r w t2)))

joined : (limit : ℕ) (xs ys : List ℕ) → T (within limit xs) → T (within limit ys) → T (within limit (xs ++ ys))
joined limit xs ys a b =
    let x = within limit xs in
    let y = within limit ys in
    T_true (every_append (λ n. leb n limit) xs ys ∙ true-T (x && y) (and x y a b))

-- and so none in the lines, of either form
numbers-right : (binary : Bool) (c : Circuit) → literals_right c ≡ true → T (numbers_within binary c)
unfolding numbers_within line_numbers content
numbers-right false c e =
    let v = literals-within c e in
    let limit = 2 * c.max_var + 1 in
    let i = c.inputs in
    let l = latch_words c.latches in
    let o = c.outputs in
    let b = c.bads in
    let k = c.constraints in
    let j1 = joined limit i l v.inputs v.latches in
    let j2 = joined limit (i ++ l) o j1 v.outputs in
    let j3 = joined limit (i ++ l ++ o) b j2 v.bads in
    let j4 = joined limit (i ++ l ++ o ++ b) k j3 v.constraints in
    joined limit (i ++ l ++ o ++ b ++ k) (gate_words c.gates) j4 v.gates
numbers-right true c e =
    let v = literals-within c e in
    let limit = 2 * c.max_var + 1 in
    let l = latch_numbers c.latches in
    let o = c.outputs in
    let b = c.bads in
    let j1 = joined limit l o (pairs-within limit c.latches v.latches) v.outputs in
    let j2 = joined limit (l ++ o) b j1 v.bads in
    joined limit (l ++ o ++ b) c.constraints j2 v.constraints

-- Clause 6.1: a number above 2M+1 is a literal or a reset that is not right
pub large-wrong : (binary : Bool) (c : Circuit) → numbers_within binary c ≡ false → literals_right c ≡ false
large-wrong binary c e =
    false_of (literals_right c) (λ t. subst T e (numbers-right binary c (true-T (literals_right c) t)))
