-- `enumeration::put_starts`: the latches below j have their words, and `left` free bits remain for the others. Assumes nothing.
use Rattle.std.proofs.Common.{◌≡◌, ap, ap₂, ◌∙◌, subst, ℕ, ◌+◌, ◌-◌, ◌*◌, length, cond, eqb, arith}
use Rattle.aiger.specs.Bits.{bit}
use Rattle.aiger.specs.Circuit.{var}
use Rattle.literals.specs.declared.Lit.{Lit}
use Rattle.literals.specs.declared.Var.{Var}
use Rattle.literals.proofs.Words.{word_read}
use Rattle.layout.specs.Words.{word, circuit_in}
use Rattle.meaning.specs.Frame.{latch_at}
use Rattle.frames.specs.Starts.{free_before, start_bit}
use Rattle.enumeration.specs.Blocks.{Given}
use Rattle.frames.proofs.Places.{latches-are, latches-inside, latch-var, latch-small, latches-differ}
use Rattle.frames.proofs.Starts.{free-none, count-more, count-part, start-in}
use Rattle.enumeration.proofs.Stores.{given-start, given-more}
use Rattle.enumeration.proofs.put_starts.Goals as goal
use Rattle.enumeration.proofs.put_starts.Goals.{After-free_start-left}

-- what was counted, in terms of the latch's words
counted : (c : After-free_start-left)
    → (let at = c.args.layout.latches + 3 * c.loop-j.j in
    c.free_start-left.result ≡ cond (eqb (word c.args.m.now (at + 2)) (word c.args.m.now at)) 1 0)
counted c =
    let at = c.args.layout.latches + 3 * c.loop-j.j in
    c.free_start-left.ensures
    ∙ ap₂ (λ (r l : ℕ). cond (eqb r l) 1 0) (word_read (word c.args.m.now (at + 2)) c.from_word-reset.ensures) (word_read (word c.args.m.now at) c.from_word-lit.ensures)

pub loop-j-init : goal.loop-j-init
loop-j-init c = record { remain = omega (arith, free-none (circuit_in c.args.m.now)); given = given-start _ _ _ }

pub overflow_sub-left : goal.overflow_sub-left
overflow_sub-left c = omega (arith, counted c, count-part c.requires.holds c.requires.layout_of c.loop-j.j (omega arith))

pub bounds-m-latches : goal.bounds-m-latches
bounds-m-latches c = omega (arith, latches-inside c.requires.holds c.requires.layout_of)

pub bounds-m-latches-in-loop-j : goal.bounds-m-latches-in-loop-j
bounds-m-latches-in-loop-j c = omega (arith, latches-inside c.requires.holds c.requires.layout_of)

pub bounds-values-place : goal.bounds-values-place
bounds-values-place c =
    omega (arith, ap (λ (v : Var). v.0) c.var-v.ensures ∙ ap (λ (l : Lit). l.0.0) c.from_word-lit.ensures, latch-small c.requires.holds c.requires.layout_of c.loop-j.j (omega arith))

pub loop-j-preserved : goal.loop-j-preserved
loop-j-preserved c =
    let H = c.requires.holds in
    let A = c.requires.layout_of in
    let m = c.args.m.now in
    let at = c.args.layout.latches + 3 * c.loop-j.j in
    let r = word_read (word m (at + 2)) c.from_word-reset.ensures in
    let l = word_read (word m at) c.from_word-lit.ensures in
    let n : c.free_start-left.result ≡ cond (eqb (word m (at + 2)) (word m at)) 1 0 =
    c.free_start-left.ensures ∙ ap₂ (λ (x y : ℕ). cond (eqb x y) 1 0) r l in
    let e : c.loop-j.left - c.free_start-left.result + free_before (circuit_in m) (c.loop-j.j + 1) ≡ c.args.n = omega (arith, n, count-more H A c.loop-j.j (omega arith), count-part H A c.loop-j.j (omega arith)) in
    record {
      remain = e;
      given = rw (ap (λ (v : Var). v.0) c.var-v.ensures ∙ ap (λ (l : Lit). l.0.0) c.from_word-lit.ensures)
          (given-more (λ i. var (latch_at (circuit_in m) i).lit) (λ i p. start_bit (circuit_in m) c.args.n (c.args.block * 64 + p) i) c.loop-j.j
          c.args.values.now c.loop-j.values (var (word m at)) c.start_word.result (latch-var H A c.loop-j.j (omega arith))
          (omega (arith, latch-small H A c.loop-j.j (omega arith))) (λ i k q. latches-differ H A i c.loop-j.j k (omega arith) q)
          (λ p k. c.start_word.ensures p k
          ∙ ap₂ (λ (x y : ℕ). cond (eqb x y) (bit (c.args.block * 64 + p) (c.loop-j.left - c.free_start-left.result)) (eqb x 1)) r l
          ∙ start-in H A c.args.n (c.args.block * 64 + p) (c.loop-j.left - c.free_start-left.result) c.loop-j.j (omega arith) e) c.loop-j.invariant.given);
    }

pub returns : goal.returns
returns c =
    let e : c.loop-j.j ≡ length (circuit_in c.args.m.now).latches = omega (arith, latches-are c.requires.holds c.requires.layout_of) in
    subst
    (λ (k : ℕ).
    Given (λ i. var (latch_at (circuit_in c.args.m.now) i).lit) (λ i p. start_bit (circuit_in c.args.m.now) c.args.n (c.args.block * 64 + p) i) k
    c.args.values.now c.loop-j.values)
    e c.loop-j.invariant.given
