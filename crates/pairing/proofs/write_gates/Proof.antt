-- `pairing::write_gates` meets its contract. Assumes nothing.
use mathlib.Core.Path.{◌≡◌, refl, sym, ap, ◌∙◌, subst}
use mathlib.Core.List.{List, ◌++◌, map}
use Prim.Native.Nat.{ℕ, ◌+◌, ◌*◌, ◌≤◌}
use native.Mathlib.Omega.{arith}
use lib.ListN.{length}
use Rattle.aiger.specs.Lists.{upto}
use Rattle.aiger.specs.Operations.{front}
use Rattle.layout.specs.Words.{word}
use Rattle.renumber.specs.Names.{under, Put}
use Rattle.pairing.specs.Words.{pairs_var, gates_from, pairs_word, gate_words_of}
use Rattle.pairing.proofs.Fronts.{next-front, longer, regroup}
use Rattle.pairing.proofs.write_gates.Statement.{statement}
use Rattle.pairing.proofs.write_gates.Tie as tie

gates-from-requires : tie.Need-gates_from-at-requires
gates-from-requires c κs =
    (c.requires.0.2, c.requires.0.3)

mul-rename-words : tie.Need-overflow_mul-p
mul-rename-words c = omega (arith, c.requires.0.2)

rename-words-requires : tie.Need-rename_words-requires
rename-words-requires c κs = ((c.requires.0.0.gates-inside, omega (arith, c.requires.1.1, c.gates_from-at.ensures)), c.requires.0.0.gates)

mul-rename-words-2 : tie.Need-overflow_mul-q
mul-rename-words-2 c = omega (arith, c.requires.0.3)

mul-rename-words-3 : tie.Need-overflow_mul-p-2
mul-rename-words-3 c = omega (arith, c.requires.0.2)

add-rename-words : tie.Need-overflow_add-at
add-rename-words c = omega (arith, c.requires.0.2, c.requires.1.1, c.gates_from-at.ensures)

rename-words-requires-2 : tie.Need-rename_words-requires-2
rename-words-requires-2 c κs = (
  (c.requires.0.1.gates-inside, omega (arith, c.requires.1.1, c.gates_from-at.ensures, c.rename_words.auto.m)),
  c.requires.0.1.gates,
)

put-pairs-requires : tie.Need-put_pairs-requires
put-pairs-requires c κs = (
  c.requires.0,
  (c.requires.1.0, omega (arith, c.requires.1.1, c.rename_words-2.auto.m, c.rename_words.auto.m)),
)

same_length : tie.Need-shape_of-m
same_length c = c.put_pairs.auto.m ∙ c.rename_words-2.auto.m ∙ c.rename_words.auto.m

returns : tie.Need-returns
unfolding gate_words_of
returns c =
    λ xs m e t z.
    let p = c.args.p in
    let q = c.args.q in
    let at : ℕ = c.gates_from-at.result in
    let here : at ≡ gates_from p q = c.gates_from-at.ensures in
    let fa : ℕ → ℕ = λ j. under c.args.first.now (word c.args.a.now (p.gates + j)) in
    let fb : ℕ → ℕ = λ j. under c.args.second.now (word c.args.b.now (q.gates + j)) in
    let f : ℕ → ℕ =
    pairs_word (pairs_var p q) (λ j. under c.args.first.now (word c.args.a.now (p.outputs + j)))
    (λ j. under c.args.second.now (word c.args.b.now (q.outputs + j))) in
    let ys : List ℕ = xs ++ map fa (upto (3 * p.a)) in
    let zs : List ℕ = ys ++ map fb (upto (3 * q.a)) in
    let room : at + 3 * p.a + 3 * q.a + 9 * p.o ≤ length m = omega (arith, c.requires.1.1, z) in
    let n₀ : at ≡ length xs = here ∙ t in
    let n₁ : at + 3 * p.a ≡ length ys = longer xs at (3 * p.a) fa n₀ in
    let n₂ : at + 3 * p.a + 3 * q.a ≡ length zs = longer ys (at + 3 * p.a) (3 * q.a) fb n₁ in
    let there : gates_from p q + 3 * p.a + 3 * q.a ≡ length zs = ap (λ (x : ℕ). x + 3 * p.a + 3 * q.a) (sym here) ∙ n₂ in
    let e₁ = next-front xs m c.args.m.now c.rename_words.new.m at (3 * p.a) fa e n₀ (omega (arith, room))
    c.rename_words.auto.m c.rename_words.ensures in
    let e₂ =
    next-front ys m c.rename_words.new.m c.rename_words-2.new.m (at + 3 * p.a) (3 * q.a) fb e₁ n₁ (omega (arith, room))
    c.rename_words-2.auto.m c.rename_words-2.ensures in
    let e₃ =
    next-front zs m c.rename_words-2.new.m c.put_pairs.new.m (gates_from p q + 3 * p.a + 3 * q.a) (9 * p.o) f e₂ there
    (omega (arith, room))
    c.put_pairs.auto.m c.put_pairs.ensures in
    e₃ ∙ ap (λ (w : List ℕ). front w m) (regroup xs (map fa (upto (3 * p.a))) (map fb (upto (3 * q.a))) (map f (upto (9 * p.o))))

pub write_gates_spec : {M : Type 1} → statement M
write_gates_spec =
    tie.close
    (tie.spec gates-from-requires mul-rename-words rename-words-requires mul-rename-words-2 mul-rename-words-3 add-rename-words rename-words-requires-2 put-pairs-requires same_length returns)
