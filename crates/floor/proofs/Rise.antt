-- The raise of the floor in memory is the raise of the law of counting order. Assumes nothing.
use mathlib.Core.Path.{◌≡◌, refl, sym, ap, ap₂, ◌∙◌, subst}
use mathlib.Core.Bool.{Bool, true, false, not, cond, ◌&&◌}
use mathlib.Core.List.{List}
use mathlib.Core.Logic.{◌⊎◌, inl, inr}
use Prim.Native.Nat.{ℕ, zero, suc, ◌+◌, ◌-◌, ◌*◌, ◌/◌, ◌%◌, ◌^◌, ◌≤◌, ◌<◌}
use native.Mathlib.Nat.{div-lt_iff_lt-mul}
use native.Mathlib.Decide.{ℕ_discrete, dec_lt}
use native.Mathlib.Omega.{arith}
use borrow.Author.Tests.{eq-eqb, ne_eqb, eqb-true, eqb-false, leb-true, leb-false}
use lib.Dec.{T, eqb, leb}
use lib.ListN.{length}
use lib.Pow.{pow_pos}
use Rattle.aiger.specs.Frames.{free_bit}
use Rattle.memory.specs.declared.Netlist.{Netlist}
use Rattle.memory.specs.declared.Arena.{Arena}
use Rattle.clauses.specs.Floor.{Floor, prefix, Above}
use Rattle.clauses.proofs.Raise.{prefix-at, above-one, above-still, above_floor, above-none}
use Rattle.reasons.specs.Claims.{Alike}
use Rattle.reasons.proofs.Valid.{alike_refl, alike-trans}
use Rattle.floor.specs.declared.Refutation.{Refutation}
use Rattle.floor.specs.declared.Refutation.TheVariants.{Raised, NoHit, Unlearnt}
use Rattle.floor.specs.Place.{Risen, risen, bit_of, floor_bit, is_idle, cleared, lifted, can_rise, raised}
use Rattle.floor.proofs.Bits.{prefix_same, prefix-zeros, cleared-other, cleared-idle, cleared-one, cleared-not, lifted-other, lifted-zero, cleared-alike, lifted-alike}

-- the bits as a function
abbrev pub bits : List ℕ → ℕ → ℕ → ℕ
bits w nodes v = floor_bit w nodes v

digit : (d : ℕ) → cond (eqb d 1) 1 0 < 2
digit d = go (eqb d 1)
  where
    go : (b : Bool) → cond b 1 0 < 2
    go true = omega arith
    go false = omega arith

pub digits : (w : List ℕ) (nodes v : ℕ) → bits w nodes v < 2
digits w nodes v = digit (bit_of w nodes v)

abbrev as_bit : ℕ → ℕ
as_bit d = cond (eqb d 1) 1 0

number : {d e : ℕ} → d ≡ e → as_bit d ≡ as_bit e
number p = ap as_bit p

zero_of : (d : ℕ) → (d ≡ 1 → ⊥) → as_bit d ≡ 0
zero_of d n = rw (ne_eqb d 1 n)

-- the node whose bit becomes 1, or 0
abbrev pub node_of : Refutation → ℕ
node_of (Raised v) = v
node_of NoHit = 0
node_of Unlearnt = 0

module _ (net : Netlist) (arena : Arena) (n m : ℕ) (small : n < net.nodes) (hits : ℕ → Type 0) where
  -- a hit is 0 where a bit up to node k does not count
  abbrev Clean : List ℕ → ℕ → Type 0
  Clean w k = (v : ℕ) → v < k → (bit_of w net.nodes (suc v) ≡ 0 → ⊥) → (bit_of w net.nodes (suc v) ≡ 1 → ⊥) → (x : ℕ) → hits x → free_bit n x v ≡ false

  -- the bit of node j did not count, or the node is idle and stands after node v
  abbrev pub Uncounted : List ℕ → ℕ → ℕ → Type 0
  Uncounted w v j = ((bit_of w net.nodes j ≡ 0 → ⊥) × (bit_of w net.nodes j ≡ 1 → ⊥)) ⊎ ((v < j) × (is_idle w net.nodes j ≡ true))

  -- what is known before node k is looked at: each hit is above the places that share the bits up to k, or up to m if that is less
  pub record Before (w : List ℕ) (k : ℕ) : Type 0 where
    pub room : 14 * net.nodes + arena.used + 6 * arena.count ≤ net.words
    pub within : net.words ≤ length w
    pub clean : Clean w k
    pub low : k ≤ m → Above hits n (bits w net.nodes) k
    pub high : m < k → Above hits n (bits w net.nodes) m

  -- what the raise leaves
  pub record After (w : List ℕ) (k : ℕ) (to : Risen) : Type 0 where
    pub alike : Alike net arena w to.words
    pub some : (to.says ≡ NoHit) ⊎ ((0 < node_of to.says) × (to.says ≡ Raised (node_of to.says)))
    pub none : node_of to.says ≡ 0 → Above hits n (bits w net.nodes) 0
    pub at : node_of to.says ≤ k
    pub above : 0 < node_of to.says → Above hits n (bits w net.nodes) (node_of to.says)
    pub old : 0 < node_of to.says → bits w net.nodes (node_of to.says) ≡ 0
    pub new : 0 < node_of to.says → bits to.words net.nodes (node_of to.says) ≡ 1
    pub same : (j : ℕ) → j < node_of to.says → bits to.words net.nodes j ≡ bits w net.nodes j
    pub rest : (j : ℕ) → node_of to.says < j → j ≤ k → bits to.words net.nodes j ≡ 0
    pub past : (j : ℕ) → k < j → bits to.words net.nodes j ≡ bits w net.nodes j
    pub still : (j : ℕ) → (bit_of to.words net.nodes j ≡ 0 → ⊥) → (bit_of to.words net.nodes j ≡ 1 → ⊥)
        → Uncounted w (node_of to.says) j

  above_same : (w u : List ℕ) (k : ℕ) → ((j : ℕ) → j ≤ k → bits w net.nodes j ≡ bits u net.nodes j)
      → Above hits n (bits w net.nodes) k → Above hits n (bits u net.nodes) k
  above_same w u k s a x h = subst (λ (p : ℕ). p < x / 2 ^ (n - k)) (prefix_same (bits w net.nodes) (bits u net.nodes) k s) (a x h)

  -- the bit at node k becomes 1
  lift-after : (w : List ℕ) (k : ℕ) → suc k ≤ n → Before w (suc k) → suc k ≤ m → bit_of w net.nodes (suc k) ≡ 0
      → After w (suc k) (risen (lifted w net.nodes (suc k)) (Raised (suc k)))
  lift-after w k l given h e =
      let r = given.room in
      let i = given.within in
      let long : 14 * net.nodes ≤ length w = omega arith in
      let one = lifted-zero w net.nodes long (suc k) (omega arith) e in
      record {
        alike = lifted-alike net arena w r i (suc k);
        some = inr (omega arith, refl);
        none = λ z. absurd (omega arith);
        at = omega arith;
        above = λ z. given.low h;
        old = λ z. number e;
        new = λ z. number one;
        same = λ j s. number (lifted-other w net.nodes long (suc k) j (λ z. omega arith));
        rest = λ j s t. absurd (omega arith);
        past = λ j s. number (lifted-other w net.nodes long (suc k) j (λ z. omega arith));
        still = λ j p q.
            elim (ℕ_discrete j (suc k)) [
              | yes z ↦ absurd (q (ap (bit_of (lifted w net.nodes (suc k)) net.nodes) z ∙ one))
              | no z ↦ let s = lifted-other w net.nodes long (suc k) j z in inl (λ y. p (s ∙ y), λ y. q (s ∙ y))
            ];
      }

  -- the bit at node k does not become 1: it becomes 0 if it is 1
  module _ (w : List ℕ) (k : ℕ) (l : suc k ≤ n) (given : Before w (suc k)) (stuck : suc k ≤ m → bit_of w net.nodes (suc k) ≡ 0 → ⊥) where
    long : 14 * net.nodes ≤ length w
    long = omega (arith, given.room, given.within)

    next : List ℕ
    next = cleared w net.nodes (suc k)

    other : (j : ℕ) → (j ≡ suc k → ⊥) → bit_of next net.nodes j ≡ bit_of w net.nodes j
    unfolding next
    other j z = cleared-other w net.nodes long (suc k) j z

    idle-same : (j : ℕ) → is_idle next net.nodes j ≡ is_idle w net.nodes j
    unfolding next is_idle
    idle-same j =
        let a = cleared-alike net arena w given.room given.within (suc k) in
        ap₂ (λ (x y : ℕ). not (eqb x y)) (a.node j 0 (omega arith)) (a.node j 1 (omega arith))

    here : bits next net.nodes (suc k) ≡ 0
    unfolding next
    here = go (is_idle w net.nodes (suc k)) refl
      where
        go : (b : Bool) → is_idle w net.nodes (suc k) ≡ b → bits (cleared w net.nodes (suc k)) net.nodes (suc k) ≡ 0
        go true i = number (cleared-idle w net.nodes long (suc k) (omega arith) i)
        go false i =
            elim (ℕ_discrete (bit_of w net.nodes (suc k)) 1) [
              | yes e ↦ number (cleared-one w net.nodes long (suc k) (omega arith) i e)
              | no e ↦
                  ap (λ (u : List ℕ). bits u net.nodes (suc k)) (cleared-not w net.nodes long (suc k) i e) ∙ zero_of (bit_of w net.nodes (suc k)) e
            ]

    -- a bit that does not count did not count before, or is that of an idle node
    before : (j : ℕ) → (bit_of next net.nodes j ≡ 0 → ⊥) → (bit_of next net.nodes j ≡ 1 → ⊥) → Uncounted w k j
    unfolding next
    before j p q =
        elim (ℕ_discrete j (suc k)) [
          | no z ↦ let s = cleared-other w net.nodes long (suc k) j z in inl (λ y. p (s ∙ y), λ y. q (s ∙ y))
          | yes z ↦ go z (is_idle w net.nodes (suc k)) refl
        ]
      where
        go : j ≡ suc k → (b : Bool) → is_idle w net.nodes (suc k) ≡ b → Uncounted w k j
        go z true i = inr (omega arith, ap (is_idle w net.nodes) z ∙ i)
        go z false i =
            elim (ℕ_discrete (bit_of w net.nodes (suc k)) 1) [
              | yes e ↦ absurd (p (ap (bit_of (cleared w net.nodes (suc k)) net.nodes) z ∙ cleared-one w net.nodes long (suc k) (omega arith) i e))
              | no e ↦
                  let s = ap (λ (u : List ℕ). bit_of u net.nodes j) (cleared-not w net.nodes long (suc k) i e) in
                  inl (λ y. p (s ∙ y), λ y. q (s ∙ y))
            ]

    low_bits : (j : ℕ) → j ≤ k → bits w net.nodes j ≡ bits next net.nodes j
    low_bits j h = sym (number (other j (λ z. omega arith)))

    down : suc k ≤ m → Above hits n (bits w net.nodes) k
    down h =
        elim (ℕ_discrete (bit_of w net.nodes (suc k)) 1) [
          | yes e ↦ above-one n (bits w net.nodes) (digits w net.nodes) hits k l (number e) (given.low h)
          | no e ↦ above-still n (bits w net.nodes) (digits w net.nodes) hits k l (given.clean k (omega arith) (stuck h) e) (given.low h)
        ]

    clear-before : Before next k
    unfolding next
    clear-before =
        record {
          room = given.room;
          within = omega (arith, given.within, (cleared-alike net arena w given.room given.within (suc k)).long);
          clean = λ v h p q x t.
              let s = cleared-other w net.nodes long (suc k) (suc v) (λ z. omega arith) in
              given.clean v (omega arith) (λ y. p (s ∙ y)) (λ y. q (s ∙ y)) x t;
          low = λ h.
              above_same w (cleared w net.nodes (suc k)) k low_bits
              (elim (ℕ_discrete k m) [ yes z ↦ subst (Above hits n (bits w net.nodes)) (sym z) (given.high (omega arith)) | no z ↦ down (omega arith) ]);
          high = λ h. above_same w (cleared w net.nodes (suc k)) m (λ j s. low_bits j (omega arith)) (given.high (omega arith));
        }

    clear-after : (to : Risen) → After next k to → After w (suc k) to
    unfolding next
    clear-after to a =
        record {
          alike = alike-trans (cleared-alike net arena w given.room given.within (suc k)) a.alike;
          some = a.some;
          none = λ z. above_same (cleared w net.nodes (suc k)) w 0 (λ j h. sym (low_bits j (omega arith))) (a.none z);
          at = omega (arith, a.at);
          above = λ z. above_same (cleared w net.nodes (suc k)) w (node_of to.says) (λ j h. sym (low_bits j (omega (arith, a.at))))
              (a.above z);
          old = λ z. low_bits (node_of to.says) a.at ∙ a.old z;
          new = a.new;
          same = λ j h. a.same j h ∙ sym (low_bits j (omega (arith, a.at)));
          rest = λ j h s.
              elim (ℕ_discrete j (suc k)) [
                | yes z ↦ subst (λ (i : ℕ). bits to.words net.nodes i ≡ 0) (sym z) (a.past (suc k) (omega arith) ∙ here)
                | no z ↦ a.rest j h (omega arith)
              ];
          past = λ j h. a.past j (omega arith) ∙ number (other j (λ z. omega arith));
          still = λ j p q.
              elim (a.still j p q) [
                | inl b ↦ elim (before j b.0 b.1) [ inl d ↦ inl d | inr d ↦ inr (omega (arith, a.at, d.0), d.1) ]
                | inr b ↦ inr (b.0, sym (idle-same j) ∙ b.1)
              ];
        }

  pub raise-after : (w : List ℕ) (k : ℕ) → k ≤ n → Before w k → After w k (raised w net.nodes m k)
  unfolding raised can_rise next
  raise-after w zero l given =
      record {
        alike = alike_refl net arena w;
        some = inl refl;
        none = λ z. given.low (omega arith);
        at = omega arith;
        above = λ z. absurd (omega arith);
        old = λ z. absurd (omega arith);
        new = λ z. absurd (omega arith);
        same = λ j h. refl;
        rest = λ j h s. absurd (omega arith);
        past = λ j h. refl;
        still = λ j p q. inl (p, q);
      }
  raise-after w (suc k) l given =
      go (leb (suc k) m) (eqb (bit_of w net.nodes (suc k)) 0) refl refl (λ b. raise-after (cleared w net.nodes (suc k)) k (omega arith) b)
    where
      go : (a b : Bool) → leb (suc k) m ≡ a → eqb (bit_of w net.nodes (suc k)) 0 ≡ b
          → (Before (cleared w net.nodes (suc k)) k → After (cleared w net.nodes (suc k)) k (raised (cleared w net.nodes (suc k)) net.nodes m k))
          → After w (suc k)
          (cond (a && b) (risen (lifted w net.nodes (suc k)) (Raised (suc k))) (raised (cleared w net.nodes (suc k)) net.nodes m
          k))
      go true true e f rec = lift-after w k l given (leb-true (suc k) m e) (eqb-true (bit_of w net.nodes (suc k)) 0 f)
      go true false e f rec =
          let stuck : (suc k ≤ m → bit_of w net.nodes (suc k) ≡ 0 → ⊥) = λ h z. eqb-false (bit_of w net.nodes (suc k)) 0 f z in
          clear-after w k l given stuck (raised (cleared w net.nodes (suc k)) net.nodes m k) (rec (clear-before w k l given stuck))
      go false b e f rec =
          let past = leb-false (suc k) m e in
          let stuck : (suc k ≤ m → bit_of w net.nodes (suc k) ≡ 0 → ⊥) = λ h z. absurd (omega arith) in
          clear-after w k l given stuck (raised (cleared w net.nodes (suc k)) net.nodes m k) (rec (clear-before w k l given stuck))

-- what is claimed of the words u after a raise: no place below the floor hits, or none does
abbrev pub Claim : (ℕ → Type 0) → ℕ → ℕ → List ℕ → Refutation → Type 0
Claim hits n nodes u (Raised v) = Floor hits (prefix (bits u nodes) n)
Claim hits n nodes u NoHit = (x : ℕ) → hits x → ⊥
Claim hits n nodes u Unlearnt = Floor hits (prefix (bits u nodes) n)

-- one bit becomes 1 and those after it 0: the next prefix
next-prefix : (b c : ℕ → ℕ) (r n : ℕ) → 0 < r → r ≤ n → b r ≡ 0 → c r ≡ 1 → ((j : ℕ) → j < r → c j ≡ b j) → ((j : ℕ) → r < j → j ≤ n → c j ≡ 0)
    → prefix c n ≡ (prefix b r + 1) * 2 ^ (n - r)
unfolding prefix
next-prefix b c zero n p l e f s z = absurd (omega arith)
next-prefix b c (suc r) n p l e f s z =
    let k = n - suc r in
    let q : suc r + k ≡ n = omega arith in
    let same : prefix c r ≡ prefix b r = prefix_same c b r (λ j h. s j (omega arith)) in
    let one : 2 * prefix c r + c (suc r) ≡ 2 * prefix b r + b (suc r) + 1 = omega arith in
    ap (prefix c) (sym q) ∙ prefix-zeros c (suc r) k (λ j h i. z j h (omega arith)) ∙ ap (λ (y : ℕ). y * 2 ^ k) one

module _ (net : Netlist) (arena : Arena) (n m : ℕ) (small : n < net.nodes) (hits : ℕ → Type 0) (bound : (x : ℕ) → hits x → x < 2 ^ n) where
  pub raise-claim : (w : List ℕ) → Before net arena n m small hits w n
      → Claim hits n net.nodes (raised w net.nodes m n).words (raised w net.nodes m n).says
  raise-claim w given =
      let to = raised w net.nodes m n in
      let a = raise-after net arena n m small hits w n (omega arith) given in
      let b = bits w net.nodes in
      let c = bits to.words net.nodes in
      elim a.some [
        | inl e ↦
            subst (Claim hits n net.nodes to.words) (sym e) (above-none n b (digits w net.nodes) hits bound (a.none (ap node_of
            e)))
        | inr s ↦
            let r = node_of to.says in
            let e = next-prefix b c r n s.0 a.at (a.old s.0) (a.new s.0) a.same a.rest in
            subst (Claim hits n net.nodes to.words) (sym s.1)
            (subst (Floor hits) (sym e) (above_floor n b (digits w net.nodes) hits r (a.above s.0)))
      ]

  -- where the floor does not rise to none, it is no lower than before, and 0 after the bit that rises
  pub raise-rises : (w : List ℕ) → Before net arena n m small hits w n → ((raised w net.nodes m n).says ≡ NoHit → ⊥)
      → prefix (bits w net.nodes) n ≤ prefix (bits (raised w net.nodes m n).words net.nodes) n
  raise-rises w given some =
      let to = raised w net.nodes m n in
      let a = raise-after net arena n m small hits w n (omega arith) given in
      let b = bits w net.nodes in
      let c = bits to.words net.nodes in
      elim a.some [
        | inl e ↦ absurd (some e)
        | inr s ↦
            let r = node_of to.says in
            let e = next-prefix b c r n s.0 a.at (a.old s.0) (a.new s.0) a.same a.rest in
            let f = prefix-at n b (digits w net.nodes) r (n - r) (omega (arith, a.at)) in
            let g = (div-lt_iff_lt-mul {x = prefix b n} {y = prefix b r + 1} (pow_pos (n - r))).0 (omega (arith, f)) in
            omega (arith, e, g)
      ]
