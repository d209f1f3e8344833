-- The edge of the start states is true of them. Assumes nothing.
use mathlib.Core.Path.{◌≡◌, refl, sym, ap, ap₂, ◌∙◌, subst}
use mathlib.Core.Bool.{Bool, true, false, not, cond, ◌&&◌}
use mathlib.Core.List.{List, [], ◌∷◌}
use mathlib.Core.Option.{Option, none, some}
use Prim.Native.Nat.{ℕ, zero, suc, ◌+◌, ◌%◌, ◌≤◌, ◌<◌}
use native.Mathlib.Omega.{arith}
use lib.Dec.{T, eqb}
use lib.ListN.{length, get_or}
use Rattle.aiger.specs.Bits.{nonzero}
use Rattle.aiger.specs.Circuit.{Circuit}
use Rattle.aiger.specs.Frames.{is_free}
use Rattle.aiger.proofs.Tests.{nonzero-bit}
use Rattle.meaning.specs.Frame.{latch_at}
use Rattle.machine.specs.Machine.{Machine}
use Rattle.influence.specs.Part.{Part, Listed}
use Rattle.transitions.specs.Transitions.{machine_of}
use Rattle.diagrams.specs.declared.Vertex.{Vertex}
use Rattle.diagrams.specs.Words.{flip}
use Rattle.diagrams.specs.States.{State, Outcome, outcome, and_then, made}
use Rattle.diagrams.specs.Meaning.{Assignment, value, In, Front, Branch, Both, Terms, Good, Answer, no_edge, is-edge, Right}
use Rattle.diagrams.proofs.Values.{signed, flip-in, value-flip, value-false, value-true, front_same, front-more, front-in, front-value}
use Rattle.diagrams.proofs.Sound.{right-as, right-here, right-then, made-right}
use Rattle.conjunction.specs.Conjunction.{both}
use Rattle.conjunction.proofs.Sound.{both_right}
use Rattle.set_stage.specs.Plans.{code_of, Among, reset_word}
use Rattle.set_stage.specs.Table.{with_reset, with_resets}
use Rattle.set_stage.proofs.Starts.{start-code, fixed-bit}

choose : (b : Bool) → cond b true false ≡ b
choose true = refl
choose false = refl

-- a variable with the sign of its reset
sign : (r : Bool) → signed (cond r 0 1) r ≡ true
sign true = refl
sign false = refl

module _ (part : Part) (listed : Listed part) (b : ℕ) (latches : List ℕ) (among : Among part latches) (terms : Terms) where
  abbrev c : Circuit
  c = part.circuit

  -- an edge of the diagram that is true of every start state
  abbrev pub Starting : List Vertex → ℕ → Type 0
  Starting ns e = In ns e × ((y : ℕ) → y < (machine_of part b).starts → value ns (code_of part latches ((machine_of part b).start y)) e ≡ true)

  -- a latch with a reset has that value in every start state
  start-value : (v : ℕ) → v < length latches → is_free (latch_at part.circuit (get_or latches v 0)) ≡ false → (y : ℕ)
      → code_of part latches ((machine_of part b).start y) v ≡ eqb (latch_at part.circuit (get_or latches v 0)).reset 1
  start-value v l e y =
      let j = get_or latches v 0 in
      start-code part listed b latches among y v l ∙ fixed-bit part listed b latches among y j e
      ∙ ap (λ (t : Bool). nonzero (cond t 0 (cond (eqb (latch_at c j).reset 1) 1 0))) e ∙ nonzero-bit (eqb (latch_at c j).reset 1)

  reset-right : (v : ℕ) → v < length latches → (s : State) → Good terms s → (e : ℕ) → Starting s.nodes e
      → Right terms s Starting (with_reset part.circuit v (get_or latches v 0) s e)
  unfolding with_reset
  reset-right v l s g e w = go (is_free (latch_at c (get_or latches v 0))) refl
    where
      r : Bool
      r = eqb (latch_at part.circuit (get_or latches v 0)).reset 1

      go : (f : Bool) → is_free (latch_at part.circuit (get_or latches v 0)) ≡ f
          → Right terms s Starting (cond f (outcome s (some e))
          (and_then (made s v 0 1) (λ t x. both t e (flip x (cond (eqb (latch_at part.circuit (get_or latches v 0)).reset 1) 0 1)))))
      go true q = right-here g (some e) (is-edge w)
      go false q =
          let k : ℕ = cond r 0 1 in
          let o = made s v 0 1 in
          let p = made-right terms s g v 0 1 (omega (arith, g.built.some-node)) (omega (arith, g.built.some-node)) in
          right-then o (λ t x. both t e (flip x k)) p
          (λ x bx.
          let ns = o.state.nodes in
          let p₂ = both_right terms o.state p.good e (flip x k) (front-in p.grows e w.0) (flip-in ns x k bx.r-in) in
          right-as
          (λ d bd. (
            bd.r-in,
            λ y yl.
                let a = code_of part latches ((machine_of part b).start y) in
                bd.same a
                ∙ ap₂ (λ (s t : Bool). s && t) (front-value (front-more p.grows p₂.grows) a e w.0 ∙ w.1 y yl)
                (front-value p₂.grows a (flip x k) (flip-in ns x k bx.r-in) ∙ value-flip ns a x k
                ∙ ap (signed k)
                (bx.same a ∙ ap₂ (λ (s t : Bool). cond (a v) s t) (value-true ns p.good.built a) (value-false ns p.good.built a) ∙ choose (a v)
                ∙ start-value v l q y)
                ∙ sign r),
          ))
          p₂)

  pub resets-right : (js : List ℕ) (v : ℕ) → v + length js ≡ length latches → ((i : ℕ) → i < length js → get_or js i 0 ≡ get_or latches (v + i) 0) → (s : State)
      → Good terms s → (e : ℕ) → Starting s.nodes e → Right terms s Starting (with_resets part.circuit v js s e)
  unfolding with_resets
  resets-right [] v n same s g e w = right-here g (some e) (is-edge w)
  resets-right (j ∷ js) v n same s g e w =
      let here : j ≡ get_or latches v 0 = same 0 (omega arith) ∙ ap (λ (i : ℕ). get_or latches i 0) (omega arith) in
      let o = with_reset c v j s e in
      let r : Right terms s Starting o = subst (λ (i : ℕ). Right terms s Starting (with_reset c v i s e)) (sym here) (reset-right v (omega arith) s g e w) in
      right-then o (with_resets c (v + 1) js) r
      (λ d k. resets-right js (v + 1) (omega arith) (λ i l. same (suc i) (omega arith) ∙ ap (λ (i : ℕ). get_or latches i 0) (omega arith)) o.state r.good d k)
