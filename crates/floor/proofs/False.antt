-- A clause that holds in every hit and is false at the floor raises it. Assumes nothing.
use mathlib.Core.Path.{◌≡◌, refl, sym, ap, ap₂, ◌∙◌, subst}
use mathlib.Core.Bool.{Bool, true, false, not, cond}
use mathlib.Core.List.{List}
use mathlib.Core.Logic.{◌⊎◌, inl, inr}
use Prim.Native.Nat.{ℕ, zero, suc, ◌+◌, ◌-◌, ◌*◌, ◌/◌, ◌%◌, ◌^◌, ◌≤◌, ◌<◌}
use native.Mathlib.Decide.{ℕ_discrete, dec_lt}
use native.Mathlib.Omega.{arith}
use borrow.Author.Tests.{eq-eqb, ne_eqb, eqb-true, eqb-false, ltb-true, ltb-false}
use lib.Dec.{T, eqb, ltb}
use lib.ListN.{length}
use Rattle.aiger.specs.Bits.{nonzero, odd, bit}
use Rattle.aiger.specs.Frames.{value, free_bit}
use Rattle.memory.specs.Record.{opposite}
use Rattle.memory.specs.declared.Netlist.{Netlist}
use Rattle.memory.specs.declared.Arena.{Arena}
use Rattle.memory.specs.declared.Draft.{Draft}
use Rattle.clauses.specs.Clause.{Among, Holds, Valid}
use Rattle.clauses.specs.Floor.{Free, Floor, prefix, Above}
use Rattle.clauses.proofs.Resolution.{not-both}
use Rattle.clauses.proofs.Raise.{above-start}
use Rattle.reasons.specs.Claims.{Sound}
use Rattle.reasons.proofs.Valid.{sound-alike}
use Rattle.resolve.specs.Draft.{draft_at}
use Rattle.resolve.proofs.Sound.{InDraft, Drafting}
use Rattle.std.specs.Prelude.{Option, Some, None}
use Rattle.floor.specs.declared.Refutation.{Refutation}
use Rattle.floor.specs.declared.Refutation.TheVariants.{Raised, NoHit, Unlearnt}
use Rattle.floor.specs.Place.{risen, bit_of, floor_bit, is_wrong, later, judged, raised, raised_by, refuted}
use Rattle.floor.proofs.Rise.{bits, digits, Before, After, Claim, raise-after, raise-claim}

never : true ≡ false → ⊥
never e = subst T e tt

later-top : (net : Netlist) (l top : ℕ) → top ≤ later net l top
unfolding later
later-top net l top = go (eqb l (opposite net.root)) (ltb top (l / 2)) refl
  where
    go : (a b : Bool) → ltb top (l / 2) ≡ b → top ≤ cond a top (cond b (l / 2) top)
    go true b e = omega arith
    go false true e = let h = ltb-true top (l / 2) e in omega arith
    go false false e = omega arith

later-node : (net : Netlist) (l top : ℕ) → (l ≡ opposite net.root → ⊥) → l / 2 ≤ later net l top
unfolding later
later-node net l top n = rw (ne_eqb l (opposite net.root) n) (go (ltb top (l / 2)) refl)
  where
    go : (b : Bool) → ltb top (l / 2) ≡ b → l / 2 ≤ cond b (l / 2) top
    go true e = omega arith
    go false e = ltb-false top (l / 2) e

-- whether a clause is false at the floor, and by how many free bits
is_false : Option ℕ → Bool
is_false (Some m) = true
is_false None = false

bits_of : Option ℕ → ℕ
bits_of (Some m) = m
bits_of None = 0

not-false : {r : ℕ} → None ≡ Some r → ⊥
unfolding is_false
not-false e = never (sym (ap is_false e))

false-by : {m r : ℕ} → Some m ≡ Some r → m ≡ r
unfolding bits_of
false-by e = ap bits_of e

module _ (w : List ℕ) (net : Netlist) (arena : Arena) where
  -- a literal that is not wrong, and not the complement of the hit, is a free bit's and false at the floor
  right : (l : ℕ) → is_wrong w net l ≡ false → (l ≡ opposite net.root → ⊥) → (1 ≤ l / 2) × (l / 2 ≤ net.free) × (l % 2 ≡ bits w net.nodes (l / 2))
  unfolding is_wrong
  right l = go (eqb l (opposite net.root)) (eqb (l / 2) 0) (ltb net.free (l / 2)) (eqb (bit_of w net.nodes (l / 2)) 1) refl refl refl
    where
      go : (a b c d : Bool) → eqb l (opposite net.root) ≡ a → eqb (l / 2) 0 ≡ b → ltb net.free (l / 2) ≡ c
          → cond a false (cond b true (cond c true (cond d (eqb (l % 2) 0) (eqb (l % 2) 1)))) ≡ false → (l ≡ opposite net.root → ⊥)
          → (1 ≤ l / 2) × (l / 2 ≤ net.free) × (l % 2 ≡ cond d 1 0)
      go true b c d e f g h n = absurd (n (eqb-true l (opposite net.root) e))
      go false true c d e f g h n = absurd (never h)
      go false false true d e f g h n = absurd (never h)
      go false false false true e f g h n =
          let p = eqb-false (l / 2) 0 f in
          let q = eqb-false (l % 2) 0 h in
          (one p, ltb-false net.free (l / 2) g, odd-of q)
        where
          one : (l / 2 ≡ 0 → ⊥) → 1 ≤ l / 2
          one p = omega arith

          odd-of : (l % 2 ≡ 0 → ⊥) → l % 2 ≡ 1
          odd-of q = omega arith
      go false false false false e f g h n =
          let p = eqb-false (l / 2) 0 f in
          let q = eqb-false (l % 2) 1 h in
          (one p, ltb-false net.free (l / 2) g, even-of q)
        where
          one : (l / 2 ≡ 0 → ⊥) → 1 ≤ l / 2
          one p = omega arith

          even-of : (l % 2 ≡ 1 → ⊥) → l % 2 ≡ 0
          even-of q = omega arith

  later-small : (l top : ℕ) → is_wrong w net l ≡ false → top ≤ net.free → later net l top ≤ net.free
  unfolding later
  later-small l top e h =
      elim (ℕ_discrete l (opposite net.root)) [
        | yes z ↦ rw (eq-eqb l (opposite net.root) z) h
        | no z ↦ let r = right l e z in rw (ne_eqb l (opposite net.root) z) (go (ltb top (l / 2)) r.1)
      ]
    where
      go : (b : Bool) → l / 2 ≤ net.free → cond b (l / 2) top ≤ net.free
      go true s = s
      go false s = h

  -- what is known of the first k literals where they are false by the first r free bits
  pub record Seen (k r : ℕ) : Type 0 where
    pub small : r ≤ net.free
    pub right : (i : ℕ) → i < k → is_wrong w net (draft_at w net arena i) ≡ false
    pub last : (i : ℕ) → i < k → (draft_at w net arena i ≡ opposite net.root → ⊥) → draft_at w net arena i / 2 ≤ r

  judge-seen : (k top r : ℕ) → judged w net arena k top ≡ Some r → top ≤ net.free → Seen k r × (top ≤ r)
  unfolding judged
  judge-seen zero top r e h =
      let f = false-by e in
      (record { small = omega arith; right = λ i l. absurd (omega arith); last = λ i l. absurd (omega arith) }, omega arith)
  judge-seen (suc k) top r e h =
      go (is_wrong w net (draft_at w net arena k)) refl e (λ q f. judge-seen k (later net (draft_at w net arena k) top) r f q)
    where
      go : (b : Bool) → is_wrong w net (draft_at w net arena k) ≡ b
          → cond b None (judged w net arena k (later net (draft_at w net arena k) top)) ≡ Some r
          → (later net (draft_at w net arena k) top ≤ net.free → judged w net arena k (later net (draft_at w net arena k) top) ≡ Some r
          → Seen k r × (later net (draft_at w net arena k) top ≤ r))
          → Seen (suc k) r × (top ≤ r)
      go true q f rec = absurd (not-false f)
      go false q f rec =
          let l = draft_at w net arena k in
          let s = rec (later-small l top q h) f in
          let t = later-top net l top in (
            record {
              small = s.0.small;
              right = λ i z.
                  elim (ℕ_discrete i k) [
                    | yes y ↦ ap (λ (j : ℕ). is_wrong w net (draft_at w net arena j)) y ∙ q
                    | no y ↦ s.0.right i (omega arith)
                  ];
              last = λ i z m.
                  elim (ℕ_discrete i k) [
                    | yes y ↦
                        let d = ap (λ (j : ℕ). draft_at w net arena j / 2) y in
                        let g = later-node net l top (λ x. m (ap (draft_at w net arena) y ∙ x)) in
                        omega (arith, s.1)
                    | no y ↦ s.0.last i (omega arith) m
                  ];
            },
            omega (arith, s.1),
          )

-- a literal with the sign of its bit is false
false-there : (c : Bool) → cond c (not c) c ≡ false
false-there true = refl
false-there false = refl

module _ (hit : (ℕ → Bool) → Type 0) (net : Netlist) (arena : Arena) (hits : ℕ → Type 0) (val : ℕ → ℕ → Bool) (free : Free net.free val)
    (small : net.free < net.nodes) (bound : (x : ℕ) → hits x → x < 2 ^ net.free) (obeys : (x : ℕ) → hits x → hit (val x))
    (top : (x : ℕ) → hits x → T (value (val x) net.root)) where
  -- no hit shares the bits up to the clause's last
  no-share : (w : List ℕ) (d : Draft) (m : ℕ) → Valid hit (InDraft net arena w d) → Seen w net arena d.length m → (x : ℕ) → hits x
      → ((u : ℕ) → u < m → x / 2 ^ (net.free - (u + 1)) % 2 ≡ bits w net.nodes (u + 1)) → ⊥
  unfolding bit
  no-share w d m valid seen x h share =
      let r = valid (val x) (obeys x h) in
      let l = r.0 in
      let i = r.1.0 in
      let e = r.1.2 in
      elim (ℕ_discrete l (opposite net.root)) [
        | yes z ↦ not-both (val x) net.root (subst (λ (k : ℕ). T (value (val x) k)) z r.2) (top x h)
        | no z ↦
            let q = right w net arena l (ap (is_wrong w net) (sym e) ∙ seen.right i r.1.1) z in
            let p : l / 2 ≤ m = subst (λ (k : ℕ). k / 2 ≤ m) e (seen.last i r.1.1 (λ y. z (sym e ∙ y))) in
            let u = l / 2 - 1 in
            let s : u + 1 ≡ l / 2 = omega (arith, q.0) in
            let b = bits w net.nodes (l / 2) in
            let f : free_bit net.free x u ≡ nonzero b = ap nonzero (share u (omega (arith, q.0)) ∙ ap (bits w net.nodes) s) in
            let v : val x (l / 2) ≡ nonzero b = ap (val x) (sym s) ∙ free x u (omega (arith, q.0, q.1)) ∙ f in
            let o : odd l ≡ nonzero b = ap nonzero q.2 in
            subst T (ap₂ (λ (c y : Bool). cond c (not y) y) o v ∙ false-there (nonzero b)) r.2
      ]

  -- what is claimed before and after: the floor, and that a hit is 0 where a bit does not count
  pub refute-claim : (w : List ℕ) (d : Draft) → Drafting hit net arena w d
      → ((v : ℕ) → v < net.free → (bit_of w net.nodes (suc v) ≡ 0 → ⊥) → (bit_of w net.nodes (suc v) ≡ 1 → ⊥) → (x : ℕ) → hits x
      → free_bit net.free x v ≡ false)
      → Floor hits (prefix (bits w net.nodes) net.free)
      → Claim hits net.free net.nodes (refuted w net arena d).words (refuted w net arena d).says
      × Sound hit net arena (refuted w net arena d).words
  unfolding refuted raised_by
  refute-claim w d given clean floor = go d.whole refl (judged w net arena d.length 0) refl
    where
      go : (b : Bool) → d.whole ≡ b → (j : Option ℕ) → judged w net arena d.length 0 ≡ j
          → Claim hits net.free net.nodes (cond b (raised_by w net j) (risen w Unlearnt)).words (cond b (raised_by w net j) (risen w
          Unlearnt)).says
          × Sound hit net arena (cond b (raised_by w net j) (risen w Unlearnt)).words
      go false e j c = (floor, given.sound)
      go true e None c = (floor, given.sound)
      go true e (Some k) c =
          let seen = (judge-seen w net arena d.length 0 k c (omega arith)).0 in
          let above =
          above-start net.free (bits w net.nodes) (digits w net.nodes) hits k seen.small floor
          (no-share w d k (given.valid e) seen) in
          let begin : Before net arena net.free k small hits w net.free =
          record {
            room = given.sound.room;
            within = given.sound.within;
            clean = λ v h. clean v h;
            low = λ h. let q : k ≡ net.free = omega (arith, seen.small) in subst (Above hits net.free (bits w net.nodes)) q above;
            high = λ h. above;
          } in (
            raise-claim net arena net.free k small hits bound w begin,
            sound-alike (raise-after net arena net.free k small hits w net.free (omega arith) begin).alike given.sound,
          )
