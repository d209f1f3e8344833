-- `join::join_held` meets its contract. Assumes nothing.
use mathlib.Core.Path.{◌≡◌, subst}
use Prim.Native.Nat.{ℕ, ◌+◌}
use native.Mathlib.Omega.{arith}
use borrow.Author.Rules.{rules}
use lib.ListN.{length}
use Rattle.layout.specs.Words.{circuit_in}
use Rattle.renumber.specs.Names.{Named}
use Rattle.meaning.proofs.Lists.{get_d-zeros}
use Rattle.join.proofs.join_held.Statement.{statement}
use Rattle.join.proofs.join_held.Tie as tie

add-latches : tie.Need-overflow_add-latches
add-latches c = omega (arith, c.requires.1.0.top)

add-latches-2 : tie.Need-overflow_add-latches-2
add-latches-2 c = omega (arith, c.requires.1.0.top)

add-gates : tie.Need-overflow_add-gates
add-gates c = omega (arith, c.requires.1.0.top)

add-gates-2 : tie.Need-overflow_add-gates-2
add-gates-2 c = omega (arith, c.requires.1.0.top)

add-gates-3 : tie.Need-overflow_add-gates-3
add-gates-3 c = omega (arith, c.requires.1.0.top)

add-number-all : tie.Need-overflow_add-p
add-number-all c = omega (arith, c.requires.1.0.top)

cast-number-all : tie.Need-overflow_cast-p
cast-number-all c = omega (arith, c.requires.1.0.top)

cast-number-all-2 : tie.Need-overflow_cast-gates
cast-number-all-2 c = omega (arith, c.requires.1.0.top)

number-all-requires : tie.Need-number_all-requires
number-all-requires c κs = (
  c.requires.0.0,
  (c.requires.0.1, (omega arith, omega (arith, c.requires.1.0.top), omega (arith, c.requires.1.0.top, c.requires.1.0.some), get_d-zeros 4097)),
)

cast-number-all-3 : tie.Need-overflow_cast-latches
cast-number-all-3 c = omega (arith, c.requires.1.0.top)

add-number-all-2 : tie.Need-overflow_add-gates-4
add-number-all-2 c = omega (arith, c.requires.1.0.top)

cast-number-all-4 : tie.Need-overflow_cast-gates-2
cast-number-all-4 c = omega (arith, c.requires.1.0.top)

number-all-requires-2 : tie.Need-number_all-requires-2
number-all-requires-2 c κs = (
  c.requires.0.2,
  (c.requires.0.3, (omega arith, omega (arith, c.requires.1.0.top), omega (arith, c.requires.1.0.top, c.requires.1.0.some), get_d-zeros 4097)),
)

write-joined-requires : tie.Need-write_joined-requires
write-joined-requires c κs =
    let p = c.args.p in
    let q = c.args.q in
    let gates : p.i + p.l + q.l + 1 + p.a ≡ p.i + p.l + q.l + p.a + 1 = omega arith in (
      record {
        held = c.requires.0.0;
        held' = c.requires.0.2;
        layout = c.requires.0.1;
        layout' = c.requires.0.3;
        joins = c.requires.1.0;
        named = c.number_all.ensures;
        named' = subst (λ (g : ℕ). Named (circuit_in c.args.b.now) (p.i + p.l + 1) g c.number_all-2.new.names) gates c.number_all-2.ensures;
        table = omega (arith, c.number_all.auto.names);
        table' = omega (arith, c.number_all-2.auto.names);
      },
      c.requires.1.1,
    )

same_length : tie.Need-shape_of-m
same_length c = c.write_joined.auto.m

returns : tie.Need-returns
returns c = c.write_joined.ensures

pub join_held_spec : {M : Type 1} → statement M
join_held_spec =
    tie.close
    (tie.spec add-latches add-latches-2 add-gates add-gates-2 add-gates-3 add-number-all cast-number-all cast-number-all-2 (λ c. search rules) number-all-requires cast-number-all-3 add-number-all-2 cast-number-all-4 (λ c. search rules) number-all-requires-2 (λ c. search rules) (λ c. search rules) write-joined-requires same_length returns)
