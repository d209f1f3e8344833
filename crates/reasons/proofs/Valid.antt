-- What is claimed stays where the claimed words stay, and each reason is a clause that holds in every hit. Assumes nothing.
use mathlib.Core.Path.{◌≡◌, refl, sym, ap, ap₂, ◌∙◌, subst}
use mathlib.Core.Bool.{Bool, true, false, not, cond, ◌&&◌}
use mathlib.Core.List.{List}
use Prim.Native.Nat.{ℕ, ◌+◌, ◌-◌, ◌*◌, ◌/◌, ◌%◌, ◌≤◌, ◌<◌}
use native.Mathlib.Decide.{ℕ_discrete}
use native.Mathlib.Omega.{arith}
use borrow.Author.Tests.{eq-eqb, ne_eqb, lt-leb, le-leb, ltb-true, eqb-true, eqb-false}
use lib.Dec.{T, ltb, eqb, ltb→lt, eqb→eq}
use lib.ListN.{length, get_or}
use Rattle.aiger.specs.Frames.{value}
use Rattle.memory.specs.Record.{field, place, fixed, head, literal, opposite}
use Rattle.memory.specs.declared.Netlist.{Netlist}
use Rattle.memory.specs.declared.Arena.{Arena}
use Rattle.clauses.specs.Clause.{Among, Holds, Valid, Always, GateOf}
use Rattle.clauses.proofs.Resolution.{opposite-node, opposite-sign, left-holds, right-holds, above_holds}
use Rattle.reasons.specs.Reason.{is_false, is_reason, kept_length, kept_literal, below_literal, above_literal, length_of, literal_of}
use Rattle.reasons.specs.Claims.{Same, Alike, Sound}

pub same_refl : (net : Netlist) (arena : Arena) (w : List ℕ) → Same net arena w w
same_refl net arena w = record { long = refl; node = λ v f h. refl; clause = λ p h. refl; head = λ c f h k. refl }

pub same-trans : {net : Netlist} {arena : Arena} {w u x : List ℕ} → Same net arena w u → Same net arena u x → Same net arena w x
same-trans a b =
    record {
      long = b.long ∙ a.long;
      node = λ v f h. b.node v f h ∙ a.node v f h;
      clause = λ p h. b.clause p h ∙ a.clause p h;
      head = λ c f h k. b.head c f h k ∙ a.head c f h k;
    }

pub same_cond : {net : Netlist} {arena : Arena} (w u x : List ℕ) (b : Bool) → Same net arena w u → Same net arena w x → Same net arena w (cond b u x)
same_cond w u x true s t = s
same_cond w u x false s t = t

pub alike : {net : Netlist} {arena : Arena} {w u : List ℕ} → Same net arena w u → Alike net arena w u
alike s =
    record {
      long = s.long;
      node = λ v f h. s.node v f (omega arith);
      fixed = λ v. ap fixed (s.node v 2 (omega arith));
      clause = s.clause;
      head = s.head;
    }

pub alike_refl : (net : Netlist) (arena : Arena) (w : List ℕ) → Alike net arena w w
alike_refl net arena w = alike (same_refl net arena w)

pub alike-trans : {net : Netlist} {arena : Arena} {w u x : List ℕ} → Alike net arena w u → Alike net arena u x → Alike net arena w x
alike-trans a b =
    record {
      long = b.long ∙ a.long;
      node = λ v f h. b.node v f h ∙ a.node v f h;
      fixed = λ v. b.fixed v ∙ a.fixed v;
      clause = λ p h. b.clause p h ∙ a.clause p h;
      head = λ c f h k. b.head c f h k ∙ a.head c f h k;
    }

module _ {hit : (ℕ → Bool) → Type 0} {net : Netlist} {arena : Arena} {w u : List ℕ} (same : Alike net arena w u) (sound : Sound hit net arena w) where
  length-same : (c : ℕ) → c < arena.count → kept_length u net c ≡ kept_length w net c
  length-same c h = ap (λ (k : ℕ). k % 1048576) (same.head c 1 h (omega arith))

  literal-same : (c i : ℕ) → c < arena.count → i < kept_length w net c → kept_literal u net c i ≡ kept_literal w net c i
  literal-same c i h l =
      let p = head w net.words c 0 in
      let e : 14 * net.nodes + p + i ≡ 14 * net.nodes + (p + i) = omega arith in
      ap (λ (k : ℕ). get_or u (14 * net.nodes + k + i) 0) (same.head c 0 h (omega arith))
      ∙ ap (λ (k : ℕ). get_or u k 0) e ∙ same.clause (p + i) (omega (arith, sound.inside c h)) ∙ ap (λ (k : ℕ). get_or w k 0) (sym e)

  below-same : (g k i : ℕ) → k < 2 → below_literal u net.nodes g k i ≡ below_literal w net.nodes g k i
  unfolding below_literal
  below-same g k i l = ap (cond (eqb i 0) (2 * g + 1)) (same.node g k l)

  above_same : (g i : ℕ) → above_literal u net.nodes g i ≡ above_literal w net.nodes g i
  unfolding above_literal
  above_same g i =
      ap₂ (λ (x y : ℕ). cond (eqb i 0) (2 * g) (cond (eqb i 1) (opposite x) (opposite y))) (same.node g 0 (omega arith)) (same.node g 1 (omega arith))

  -- a reason has the same literals
  alike-length : (r : ℕ) → T (is_reason net arena r) → length_of u net r ≡ length_of w net r
  unfolding is_reason length_of
  alike-length r = go (eqb (r % 4) 3)
    where
      go : (b : Bool) → T (cond b (ltb (r / 4) arena.count) (ltb (r / 4) net.nodes))
          → cond b (kept_length u net (r / 4)) (cond (eqb (r % 4) 2) 3 2) ≡ cond b (kept_length w net (r / 4)) (cond (eqb (r % 4) 2) 3 2)
      go true t = length-same (r / 4) (ltb→lt (r / 4) arena.count t)
      go false t = refl

  alike-literal : (r i : ℕ) → T (is_reason net arena r) → i < length_of w net r → literal_of u net r i ≡ literal_of w net r i
  unfolding is_reason length_of literal_of
  alike-literal r i = go (eqb (r % 4) 3) (eqb (r % 4) 2) refl refl
    where
      go : (b d : Bool) → eqb (r % 4) 3 ≡ b → eqb (r % 4) 2 ≡ d → T (cond b (ltb (r / 4) arena.count) (ltb (r / 4) net.nodes))
          → i < cond b (kept_length w net (r / 4)) (cond d 3 2)
          → cond b (kept_literal u net (r / 4) i) (cond d (above_literal u net.nodes (r / 4) i) (below_literal u net.nodes (r / 4) (r % 4) i))
          ≡ cond b (kept_literal w net (r / 4) i) (cond d (above_literal w net.nodes (r / 4) i) (below_literal w net.nodes (r / 4) (r % 4) i))
      go true d e f t l = literal-same (r / 4) i (ltb→lt (r / 4) arena.count t) l
      go false true e f t l = above_same (r / 4) i
      go false false e f t l = let p = eqb-false (r % 4) 3 e in let q = eqb-false (r % 4) 2 f in below-same (r / 4) (r % 4) i (small p q)
        where
          small : (r % 4 ≡ 3 → ⊥) → (r % 4 ≡ 2 → ⊥) → r % 4 < 2
          small p q = omega arith

  pub sound-alike : Sound hit net arena u
  sound-alike =
      record {
        room = sound.room;
        within = omega (arith, sound.within, same.long);
        gate = λ a h v l.
            sound.gate a h v l
            ∙ ap₂ (λ (x y : ℕ). value a x && value a y) (sym (same.node v 0 (omega arith))) (sym (same.node v 1 (omega arith)));
        zero = sound.zero;
        fixed = λ l e. sound.fixed l (sym (same.fixed (l / 2)) ∙ e);
        inside = λ c h. omega (arith, sound.inside c h, same.head c 0 h (omega arith), length-same c h);
        valid = λ c h a t.
            let r = sound.valid c h a t in
            let i = r.1.0 in
            (r.0, (i, subst (λ (k : ℕ). i < k) (sym (length-same c h)) r.1.1, literal-same c i h r.1.1 ∙ r.1.2), r.2);
      }

module _ {hit : (ℕ → Bool) → Type 0} {net : Netlist} {arena : Arena} {w u : List ℕ} (same : Same net arena w u) (sound : Sound hit net arena w) where
  pub sound-same : Sound hit net arena u
  sound-same = sound-alike (alike same) sound

  pub reason-length : (r : ℕ) → T (is_reason net arena r) → length_of u net r ≡ length_of w net r
  reason-length r t = alike-length (alike same) sound r t

  pub reason-literal : (r i : ℕ) → T (is_reason net arena r) → i < length_of w net r → literal_of u net r i ≡ literal_of w net r i
  reason-literal r i t l = alike-literal (alike same) sound r i t l

module _ {hit : (ℕ → Bool) → Type 0} {net : Netlist} {arena : Arena} {w : List ℕ} (sound : Sound hit net arena w) where
  -- what is noted to be false is false in every hit
  pub false-always : (l : ℕ) → T (is_false w net.nodes l) → Always hit (opposite l)
  unfolding is_false
  false-always l t =
      let e = eqb→eq (fixed (field w net.nodes (l / 2) 2)) (2 - l % 2) t in
      let s = opposite-sign l in
      sound.fixed (opposite l) (rw (opposite-node l) (omega arith))

  module _ (g : ℕ) (small : g < net.nodes) where
    below-valid : (k : ℕ) → k < 2 → Valid hit (Among 2 (below_literal w net.nodes g k))
    unfolding below_literal
    below-valid k l a h = go (ℕ_discrete k 0)
      where
        own : Among 2 (below_literal w net.nodes g k) (2 * g + 1)
        own = (0, omega arith, refl)

        other : Among 2 (below_literal w net.nodes g k) (field w net.nodes g k)
        other = (1, omega arith, refl)

        go : Dec (k ≡ 0) → Holds a (Among 2 (below_literal w net.nodes g k))
        go (yes e) =
            left-holds a g (field w net.nodes g 0) (field w net.nodes g 1) (sound.gate a h g small) (Among 2 (below_literal w net.nodes g k)) own
            (subst (λ (j : ℕ). Among 2 (below_literal w net.nodes g k) (field w net.nodes g j)) e other)
        go (no n) =
            right-holds a g (field w net.nodes g 0) (field w net.nodes g 1) (sound.gate a h g small) (Among 2 (below_literal w net.nodes g k)) own
            (let e : k ≡ 1 = omega arith in subst (λ (j : ℕ). Among 2 (below_literal w net.nodes g k) (field w net.nodes g j)) e other)

    above-valid : Valid hit (Among 3 (above_literal w net.nodes g))
    unfolding above_literal
    above-valid a h =
        above_holds a g (field w net.nodes g 0) (field w net.nodes g 1) (sound.gate a h g small) (Among 3 (above_literal w net.nodes g))
        (0, omega arith, refl) (1, omega arith, refl) (2, omega arith, refl)

  -- the same clause under another name
  renamed : (m n : ℕ) (f g : ℕ → ℕ) → m ≡ n → ((i : ℕ) → f i ≡ g i) → Valid hit (Among m f) → Valid hit (Among n g)
  renamed m n f g e s v a h = let r = v a h in (r.0, (r.1.0, subst (λ (k : ℕ). r.1.0 < k) e r.1.1, sym (s r.1.0) ∙ r.1.2), r.2)

  -- each reason is a clause that holds in every hit
  pub reason-valid : (r : ℕ) → T (is_reason net arena r) → Valid hit (Among (length_of w net r) (literal_of w net r))
  unfolding is_reason length_of literal_of
  reason-valid r = go (eqb (r % 4) 3) (eqb (r % 4) 2) refl refl
    where
      go : (b d : Bool) → eqb (r % 4) 3 ≡ b → eqb (r % 4) 2 ≡ d → T (cond b (ltb (r / 4) arena.count) (ltb (r / 4) net.nodes))
          → Valid hit
          (Among (cond b (kept_length w net (r / 4)) (cond d 3 2))
          (λ i. cond b (kept_literal w net (r / 4) i) (cond d (above_literal w net.nodes (r / 4) i) (below_literal w net.nodes (r / 4) (r % 4) i))))
      go true d e f t = sound.valid (r / 4) (ltb→lt (r / 4) arena.count t)
      go false true e f t = above-valid (r / 4) (ltb→lt (r / 4) net.nodes t)
      go false false e f t =
          let p = eqb-false (r % 4) 3 e in
          let q = eqb-false (r % 4) 2 f in
          below-valid (r / 4) (ltb→lt (r / 4) net.nodes t) (r % 4) (small p q)
        where
          small : (r % 4 ≡ 3 → ⊥) → (r % 4 ≡ 2 → ⊥) → r % 4 < 2
          small p q = omega arith
