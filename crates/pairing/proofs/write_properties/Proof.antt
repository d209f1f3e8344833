-- `pairing::write_properties` meets its contract. Assumes nothing.
use mathlib.Core.Path.{◌≡◌, refl, sym, ap, ◌∙◌, subst, subst₂}
use mathlib.Core.List.{List, ◌++◌, map}
use Prim.Native.Nat.{ℕ, ◌+◌, ◌*◌, ◌≤◌}
use native.Mathlib.Omega.{arith}
use borrow.Author.Rules.{rules}
use lib.ListN.{length}
use Rattle.aiger.specs.Lists.{upto}
use Rattle.aiger.specs.Operations.{front}
use Rattle.layout.specs.Words.{word}
use Rattle.renumber.specs.Names.{under, Put}
use Rattle.pairing.specs.Words.{pairs_var, properties_at, property_words}
use Rattle.pairing.proofs.Fronts.{next-front, longer, regroup}
use Rattle.pairing.proofs.write_properties.Statement.{statement}
use Rattle.pairing.proofs.write_properties.Tie as tie

properties-at-requires : tie.Need-properties_at-at-requires
properties-at-requires c κs = (c.requires.0.2, c.requires.0.3)

pairs-var-requires : tie.Need-pairs_var-v-requires
pairs-var-requires c κs = (c.requires.0.2, c.requires.0.3)

put-bads-requires : tie.Need-put_bads-requires
put-bads-requires c κs =
    (c.requires.0.4, omega (arith, c.requires.1.0, c.pairs_var-v.ensures), omega (arith, c.requires.1.1, c.properties_at-at.ensures))

add-rename-words : tie.Need-overflow_add-at
add-rename-words c = omega (arith, c.requires.0.2, c.requires.0.3, c.properties_at-at.ensures)

rename-words-requires : tie.Need-rename_words-requires
rename-words-requires c κs = (
  (c.requires.0.0.constraints-inside, omega (arith, c.requires.1.1, c.properties_at-at.ensures, c.put_bads.auto.m)),
  c.requires.0.0.constraints,
)

add-rename-words-2 : tie.Need-overflow_add-at-2
add-rename-words-2 c = omega (arith, c.requires.0.2, c.requires.0.3, c.properties_at-at.ensures)

add-rename-words-3 : tie.Need-overflow_add-at-3
add-rename-words-3 c = omega (arith, c.requires.0.2, c.requires.0.3, c.properties_at-at.ensures)

rename-words-requires-2 : tie.Need-rename_words-requires-2
rename-words-requires-2 c κs = (
  (
    c.requires.0.1.constraints-inside,
    omega (arith, c.requires.1.1, c.properties_at-at.ensures, c.put_bads.auto.m, c.rename_words.auto.m),
  ),
  c.requires.0.1.constraints,
)

same_length : tie.Need-shape_of-m
same_length c = c.rename_words-2.auto.m ∙ c.rename_words.auto.m ∙ c.put_bads.auto.m

returns : tie.Need-returns
unfolding property_words
returns c =
    λ xs m e t z.
    let p = c.args.p in
    let q = c.args.q in
    let at : ℕ = c.properties_at-at.result in
    let v : ℕ = c.pairs_var-v.result.0 in
    let here : at ≡ properties_at p q = c.properties_at-at.ensures in
    let var : v ≡ pairs_var p q = c.pairs_var-v.ensures in
    let f : ℕ → ℕ = λ j. 2 * (pairs_var p q + 3 * j + 2) + 1 in
    let fa : ℕ → ℕ = λ j. under c.args.first.now (word c.args.a.now (p.constraints + j)) in
    let fb : ℕ → ℕ = λ j. under c.args.second.now (word c.args.b.now (q.constraints + j)) in
    let bads : Put at f p.o c.args.m.now c.put_bads.new.m = subst (λ (x : ℕ). Put at (λ j. 2 * (x + 3 * j + 2) + 1) p.o c.args.m.now c.put_bads.new.m) var c.put_bads.ensures in
    let ys : List ℕ = xs ++ map f (upto p.o) in
    let zs : List ℕ = ys ++ map fa (upto p.c) in
    let room : at + p.o + p.c + q.c ≤ length m = omega (arith, c.requires.1.1, z) in
    let n₀ : at ≡ length xs = here ∙ t in
    let n₁ : at + p.o ≡ length ys = longer xs at p.o f n₀ in
    let n₂ : at + p.o + p.c ≡ length zs = longer ys (at + p.o) p.c fa n₁ in
    let e₁ = next-front xs m c.args.m.now c.put_bads.new.m at p.o f e n₀ (omega (arith, room)) c.put_bads.auto.m bads in
    let e₂ = next-front ys m c.put_bads.new.m c.rename_words.new.m (at + p.o) p.c fa e₁ n₁ (omega (arith, room)) c.rename_words.auto.m c.rename_words.ensures in
    let e₃ =
    next-front zs m c.rename_words.new.m c.rename_words-2.new.m (at + p.o + p.c) q.c fb e₂ n₂ (omega (arith, room)) c.rename_words-2.auto.m c.rename_words-2.ensures in
    e₃ ∙ ap (λ (w : List ℕ). front w m) (regroup xs (map f (upto p.o)) (map fa (upto p.c)) (map fb (upto q.c)))

pub write_properties_spec : {M : Type 1} → statement M
write_properties_spec =
    tie.close
    (tie.spec properties-at-requires pairs-var-requires put-bads-requires add-rename-words rename-words-requires add-rename-words-2 add-rename-words-3 rename-words-requires-2 same_length returns)
