-- `pairing::write_joined` meets its contract. Assumes nothing.
use mathlib.Core.Path.{◌≡◌, refl, sym, ap, ap₂, ◌∙◌}
use mathlib.Core.List.{List, ◌++◌, map}
use Prim.Native.Nat.{ℕ, ◌+◌, ◌-◌, ◌*◌, ◌≤◌}
use native.Mathlib.Omega.{arith}
use lib.ListN.{length, length-append}
use Rattle.aiger.specs.Load.{needed}
use Rattle.aiger.specs.Operations.{front}
use Rattle.pairing.specs.Words.{variables, gates_from, definition_words, property_words, gate_words_of}
use Rattle.pairing.proofs.Fronts.{next-front}
use Rattle.pairing.proofs.Tables.{first-table, second-table, definitions-length, properties-length, gates-length, all-length, image-is, all_room}
use Rattle.pairing.proofs.write_joined.Statement.{statement}
use Rattle.pairing.proofs.write_joined.Tie as tie

write-definitions-requires : tie.Need-write_definitions-requires
write-definitions-requires c κs =
    let f = c.requires.0 in ((first-table f, second-table f, f.joins.small, f.joins.small'), omega (arith, c.requires.1, all_room f))

write-properties-requires : tie.Need-write_properties-requires
write-properties-requires c κs =
    let f = c.requires.0 in (
      (first-table f, second-table f, f.joins.small, f.joins.small', f.joins.few),
      (omega (arith, f.joins.top, f.joins.some), omega (arith, c.requires.1, all_room f, c.write_definitions.auto.m)),
    )

write-gates-requires : tie.Need-write_gates-requires
write-gates-requires c κs =
    let f = c.requires.0 in (
      (first-table f, second-table f, f.joins.small, f.joins.small', f.joins.few, f.joins.outputs),
      (
        omega (arith, f.joins.top, f.joins.some),
        omega (arith, c.requires.1, all_room f, c.write_definitions.auto.m, c.write_properties.auto.m),
      ),
    )

pairs-from-requires : tie.Need-pairs_from-requires
pairs-from-requires c κs = let f = c.requires.0 in (f.joins.small, f.joins.small')

mul-end : tie.Need-overflow_mul-end
mul-end c = let f = c.requires.0 in omega (arith, f.joins.few)

add-end : tie.Need-overflow_add-end
add-end c = let f = c.requires.0 in omega (arith, c.pairs_from.ensures, f.joins.few, f.joins.small, f.joins.small')

words-needed-requires : tie.Need-words_needed-requires
words-needed-requires c κs = let f = c.requires.0 in (f.joins.small, f.joins.small')

sub-put-zeros : tie.Need-overflow_sub-words_needed
sub-put-zeros c = let f = c.requires.0 in omega (arith, c.pairs_from.ensures, c.words_needed.ensures, all_room f)

put-zeros-requires : tie.Need-put_zeros-requires
put-zeros-requires c κs =
    let f = c.requires.0 in
    omega (
      arith,
      c.pairs_from.ensures,
      c.words_needed.ensures,
      all_room f,
      c.requires.1,
      c.write_definitions.auto.m,
      c.write_properties.auto.m,
      c.write_gates.auto.m,
    )

same_length : tie.Need-shape_of-m
same_length c =
    c.put_zeros.auto.m ∙ c.write_gates.auto.m ∙ c.write_properties.auto.m
    ∙ c.write_definitions.auto.m

returns : tie.Need-returns
returns c =
    let f = c.requires.0 in
    let p = c.args.p in
    let q = c.args.q in
    let a = c.args.a.now in
    let b = c.args.b.now in
    let first = c.args.first.now in
    let second = c.args.second.now in
    let m = c.args.m.now in
    let m₁ : List ℕ = c.write_definitions.new.m in
    let m₂ : List ℕ = c.write_properties.new.m in
    let m₃ : List ℕ = c.write_gates.new.m in
    let k₁ : length m₁ ≡ length m = c.write_definitions.auto.m in
    let k₂ : length m₂ ≡ length m = c.write_properties.auto.m ∙ k₁ in
    let D : List ℕ = definition_words a p first b q second in
    let R : List ℕ = property_words a p first b q second in
    let G : List ℕ = gate_words_of a p first b q second in
    let e₂ : m₂ ≡ front (D ++ R) m = c.write_properties.ensures D m c.write_definitions.ensures (sym (definitions-length f)) k₁ in
    let l₂ : gates_from p q ≡ length (D ++ R) = omega (arith, length-append D R, definitions-length f, properties-length f) in
    let e₃ : m₃ ≡ front (D ++ R ++ G) m = c.write_gates.ensures (D ++ R) m e₂ l₂ k₂ in
    let end : ℕ = c.pairs_from.result + 9 * p.o in
    let n : ℕ = c.words_needed.result - end in
    let l₃ : end ≡ length (D ++ R ++ G) = ap (λ (x : ℕ). x + 9 * p.o) c.pairs_from.ensures ∙ sym (all-length f) in
    let left : n ≡ needed (variables p q) - (gates_from p q + 3 * p.a + 3 * q.a + 9 * p.o) =
    ap₂ (λ (x y : ℕ). x - (y + 9 * p.o)) c.words_needed.ensures c.pairs_from.ensures in
    let room : end + n ≤ length m = omega (arith, left, c.pairs_from.ensures, all_room f, c.requires.1) in
    next-front (D ++ R ++ G) m m₃ c.put_zeros.new.m end n (λ _. 0) e₃ l₃ room c.put_zeros.auto.m c.put_zeros.ensures
    ∙ ap (λ (w : List ℕ). front w m) (image-is f n left)

pub write_joined_spec : {M : Type 1} → statement M
write_joined_spec =
    tie.close
    (tie.spec write-definitions-requires write-properties-requires write-gates-requires pairs-from-requires mul-end add-end words-needed-requires sub-put-zeros put-zeros-requires same_length returns)
