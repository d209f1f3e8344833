-- `join::write_definitions` meets its contract. Assumes nothing.
use mathlib.Core.Path.{◌≡◌, refl, sym, ap, ◌∙◌}
use mathlib.Core.List.{List, [], ◌∷◌, ◌++◌, map}
use Prim.Native.Nat.{ℕ, ◌+◌, ◌*◌}
use native.Mathlib.Omega.{arith}
use lib.ListN.{length}
use Rattle.aiger.specs.Lists.{upto}
use Rattle.layout.specs.Words.{word}
use Rattle.renumber.specs.Names.{under}
use Rattle.pairing.specs.Words.{renamed_words, count_words, pairs_var, properties_at, gates_from, pairs_word, definition_words, property_words, gate_words_of}
use Rattle.pairing.proofs.Fronts.{next-front, longer}
use borrow.Author.Rules.{rules}
use Rattle.pairing.proofs.write_definitions.Statement.{statement}
use Rattle.pairing.proofs.write_definitions.Tie as tie
use Rattle.pairing.proofs.write_definitions.Reads as reads
use Rattle.pairing.proofs.write_definitions.Lts as lts
use Rattle.pairing.proofs.copy_words.Reads as copy-words-reads
use Rattle.pairing.proofs.put_inputs.Reads as put-inputs-reads
use Rattle.renumber.proofs.rename_words.Reads as rename-words-reads

add-latches : tie.Need-overflow_add-latches
add-latches c = omega (arith, c.requires.0.2, c.requires.0.3, c.requires.1)

add-gates : tie.Need-overflow_add-gates
add-gates c = omega (arith, c.requires.0.2, c.requires.0.3, c.requires.1)

mul-gates : tie.Need-overflow_mul-gates
mul-gates c = omega (arith, c.requires.0.2, c.requires.0.3, c.requires.1)

add-gates-2 : tie.Need-overflow_add-gates-2
add-gates-2 c = omega (arith, c.requires.0.2, c.requires.0.3, c.requires.1)

add-all : tie.Need-overflow_add-all
add-all c = omega (arith, c.requires.0.2, c.requires.0.3, c.requires.1)

add-all-2 : tie.Need-overflow_add-all-2
add-all-2 c = omega (arith, c.requires.0.2, c.requires.0.3, c.requires.1)

cast-all : tie.Need-overflow_cast-all
cast-all c = omega (arith, c.requires.0.2, c.requires.0.3, c.requires.1)

cast-t14 : tie.Need-overflow_cast-row
cast-t14 c = omega (arith, c.requires.0.2, c.requires.0.3, c.requires.1)

cast-t15 : tie.Need-overflow_cast-row-2
cast-t15 c = omega (arith, c.requires.0.2, c.requires.0.3, c.requires.1)

cast-t16 : tie.Need-overflow_cast-row-3
cast-t16 c = omega (arith, c.requires.0.2, c.requires.0.3, c.requires.1)

cast-t17 : tie.Need-overflow_cast-row-4
cast-t17 c = omega (arith, c.requires.0.2, c.requires.0.3, c.requires.1)

add-t12 : tie.Need-overflow_add-row
add-t12 c = omega (arith, c.requires.0.2, c.requires.0.3, c.requires.1)

cast-t18 : tie.Need-overflow_cast-row-5
cast-t18 c = omega (arith, c.requires.0.2, c.requires.0.3, c.requires.1)

copy-words-requires : tie.Need-copy_words-requires
copy-words-requires c κs = (omega arith, omega (arith, c.requires.1))

put-inputs-requires : tie.Need-put_inputs-requires
put-inputs-requires c κs = (c.requires.0.2.inputs, omega (arith, c.requires.1, c.copy_words.auto.m))

mul-rename-words : tie.Need-overflow_mul-p
mul-rename-words c = omega (arith, c.requires.0.2, c.requires.0.3, c.requires.1)

add-rename-words : tie.Need-overflow_add-p
add-rename-words c = omega (arith, c.requires.0.2, c.requires.0.3, c.requires.1)

rename-words-requires : tie.Need-rename_words-requires
rename-words-requires c κs = ((c.requires.0.0.latches-inside, omega (arith, c.requires.1, c.copy_words.auto.m, c.put_inputs.auto.m)), c.requires.0.0.latches)

mul-rename-words-2 : tie.Need-overflow_mul-q
mul-rename-words-2 c = omega (arith, c.requires.0.2, c.requires.0.3, c.requires.1)

add-rename-words-2 : tie.Need-overflow_add-p-2
add-rename-words-2 c = omega (arith, c.requires.0.2, c.requires.0.3, c.requires.1)

mul-rename-words-3 : tie.Need-overflow_mul-p-2
mul-rename-words-3 c = omega (arith, c.requires.0.2, c.requires.0.3, c.requires.1)

add-rename-words-3 : tie.Need-overflow_add-p-3
add-rename-words-3 c = omega (arith, c.requires.0.2, c.requires.0.3, c.requires.1)

rename-words-requires-2 : tie.Need-rename_words-requires-2
rename-words-requires-2 c κs = ((c.requires.0.1.latches-inside, omega (arith, c.requires.1, c.copy_words.auto.m, c.put_inputs.auto.m, c.rename_words.auto.m)), c.requires.0.1.latches)

same_length : tie.Need-shape_of-m
same_length c = c.rename_words-2.auto.m ∙ c.rename_words.auto.m ∙ c.put_inputs.auto.m ∙ c.copy_words.auto.m

returns : tie.Need-returns
unfolding definition_words
returns c =
    let p = c.args.p in
    let q = c.args.q in
    let m = c.args.m.now in
    let fi : ℕ → ℕ = λ i. 2 * (i + 1) in
    let fa : ℕ → ℕ = λ j. under c.args.first.now (word c.args.a.now (p.latches + j)) in
    let fb : ℕ → ℕ = λ j. under c.args.second.now (word c.args.b.now (q.latches + j)) in
    let xs : List ℕ = count_words p q in
    let ys : List ℕ = xs ++ map fi (upto p.i) in
    let zs : List ℕ = ys ++ map fa (upto (3 * p.l)) in
    let room = c.requires.1 in
    let n₁ : 7 + p.i ≡ length ys = longer xs 7 p.i fi refl in
    let n₂ : 7 + p.i + 3 * p.l ≡ length zs = longer ys (7 + p.i) (3 * p.l) fa n₁ in
    let e₁ = next-front [] m m c.copy_words.new.m 0 7 (word xs) refl refl (omega (arith, room)) c.copy_words.auto.m c.copy_words.ensures in
    let e₂ = next-front xs m c.copy_words.new.m c.put_inputs.new.m 7 p.i fi e₁ refl (omega (arith, room)) c.put_inputs.auto.m c.put_inputs.ensures in
    let e₃ = next-front ys m c.put_inputs.new.m c.rename_words.new.m (7 + p.i) (3 * p.l) fa e₂ n₁ (omega (arith, room)) c.rename_words.auto.m c.rename_words.ensures in
    next-front zs m c.rename_words.new.m c.rename_words-2.new.m (7 + p.i + 3 * p.l) (3 * q.l) fb e₃ n₂ (omega (arith, room)) c.rename_words-2.auto.m c.rename_words-2.ensures

pub write_definitions_spec : {M : Type 1} → statement M
write_definitions_spec =
    tie.close
    (tie.spec add-latches add-gates mul-gates add-gates-2 add-all add-all-2 cast-all cast-t14 cast-t15 cast-t16 cast-t17 add-t12 cast-t18 (λ c. search rules) copy-words-requires put-inputs-requires mul-rename-words add-rename-words rename-words-requires mul-rename-words-2 add-rename-words-2 mul-rename-words-3 add-rename-words-3 rename-words-requires-2 same_length returns)
