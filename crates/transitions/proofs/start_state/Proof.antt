-- `transitions::start_state` meets its contract. Assumes nothing.
use mathlib.Core.Path.{◌≡◌, refl, sym, ap, ap₂, ◌∙◌, subst}
use Prim.Native.Nat.{ℕ, ◌+◌, ◌-◌, ◌*◌, ◌/◌, ◌%◌, ◌^◌, ◌≤◌, ◌<◌}
use native.Mathlib.Omega.{arith}
use mathlib.Core.Bool.{Bool, true, false, cond}
use mathlib.Core.List.{List, map}
use lib.ListN.{length, get_or, length-map}
use lib.Seq.{ext_get_or}
use Rattle.aiger.specs.Bits.{bit}
use Rattle.aiger.specs.Frames.{free_starts}
use Rattle.layout.specs.Words.{circuit_in}
use Rattle.frames.specs.Starts.{start_bit}
use Rattle.frames.proofs.Places.{latches-are, latches-few}
use Rattle.transitions.specs.Transitions.{number_of}
use Rattle.transitions.proofs.Numbers.{map_at}
use Rattle.transitions.proofs.Packing.{start-list}
use borrow.Author.Rules.{rules}
use Rattle.transitions.proofs.start_state.Statement.{statement}
use Rattle.transitions.proofs.start_state.Tie as tie

-- the only bit of 0 and of 1
bit-unit : (q : Bool) → bit (cond q 1 0) 0 ≡ q
unfolding bit
bit-unit true = refl
bit-unit false = refl

start-words-requires : tie.Need-start_words-requires
start-words-requires c κs = (
  c.requires.0,
  (
    c.requires.1.0,
    (
      c.requires.1.1.0,
      c.requires.1.1.1,
    ),
  ),
)

pack-words-requires : tie.Need-pack_words-requires
pack-words-requires c κs = (
  (λ i l. omega (
    arith,
    c.requires.1.1.2.inside i l,
    latches-are c.requires.0 c.requires.1.0,
    latches-few c.requires.0 c.requires.1.0,
    c.start_words.auto.state,
    c.requires.1.1.1,
  )),
  c.requires.1.1.3,
  c.requires.1.1.4,
)

same_length : tie.Need-shape_of-state
same_length c = c.start_words.auto.state

same-length-2 : tie.Need-shape_of-s
same-length-2 c = c.pack_words.auto.s

returns : tie.Need-returns
returns c =
    let C = circuit_in c.args.m.now in
    let ks = c.args.kept.now in
    let ls = c.requires.1.1.2 in
    let f : ℕ → Bool = λ j. bit (get_or c.start_words.new.state j 0) 0 in
    let g = start_bit C (free_starts C) c.args.y in
    c.pack_words.ensures
    ∙ ap number_of
    (ext_get_or false (map f ks) (map g ks) (length-map ks f ∙ sym (length-map ks g))
    (λ i l.
    let k : i < length ks = omega (arith, length-map ks f) in
    let j = get_or ks i 0 in
    map_at f ks i k ∙ ap (λ (w : ℕ). bit w 0) (c.start_words.ensures j (omega (
      arith,
      ls.inside i k,
      latches-are c.requires.0 c.requires.1.0,
    ))) ∙ bit-unit (g j)
    ∙ sym (map_at g ks i k)))
    ∙ start-list C c.args.y
    ks ls.inside

pub start_state_spec : {M : Type 1} → statement M
start_state_spec =
    tie.close
    (tie.spec start-words-requires pack-words-requires same_length same-length-2 returns)
