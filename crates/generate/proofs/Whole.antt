-- The whole text, part after part: its length, and where each part stands. Assumes nothing.
use mathlib.Core.Path.{◌≡◌, refl, sym, ap, ◌∙◌, subst}
use mathlib.Core.List.{List, [], ◌∷◌, ◌++◌}
use Prim.Native.Nat.{ℕ, ◌+◌, ◌*◌, ◌≤◌}
use native.Mathlib.Omega.{arith}
use lib.ListN.{length, length-append}
use Rattle.aiger.specs.Text.{bytes, digits}
use Rattle.aiger.specs.Write.{line_of}
use Rattle.aiger.specs.Operations.{front}
use Rattle.output.specs.Output.{Room, Placed}
use Rattle.output.specs.Row.{number_text, row_text}
use Rattle.output.proofs.Output.{Rest, rest-start, rest-room, rest_more, last-room, last-placed, put_front, room-first, room-second, placed-two}
use Rattle.generator.specs.declared.Generator.{Generator}
use Rattle.generator.specs.Draws.{started_at}
use Rattle.generated.specs.Generated.{after, generated_text}
use Rattle.generated.specs.Parts.{head_text, inputs_text, latches_text, bad_text, gates_text}
use Rattle.generated.proofs.Parts.{text-parts}
use Rattle.generated.proofs.Short.{line-length}
use Rattle.generate.specs.declared.Place.{Place}
use Rattle.generate.specs.Steps.{past_latches, LatchesPut}
use Rattle.generate.proofs.Lines.{line-one, line-six}

-- ---- the header: its first word, and its numbers

module _ (out : List ℕ) (I L A : ℕ) (room : Room out 0 (head_text I L A)) where
  pub head-word-room : Room out 0 (bytes "aag ")
  head-word-room = room-first out 0 (bytes "aag ") (line_of (I + L + A) (I ∷ L ∷ 0 ∷ A ∷ 1 ∷ [])) room

  module _ {all : ℕ} (e : all ≡ I + L + A) {at : ℕ} {mid : List ℕ} (p : Placed out 0 (bytes "aag ") at mid) where
    pub head-row-room : Room mid at (row_text (all ∷ I ∷ L ∷ 0 ∷ A ∷ 1 ∷ []) 0 6)
    head-row-room =
        rw (line-six all I L 0 A 1, e) (room-second out 0 (bytes "aag ") (line_of (I + L + A) (I ∷ L ∷ 0 ∷ A ∷ 1 ∷ [])) room p)

    pub head-placed : {end : ℕ} {last : List ℕ} → Placed mid at (row_text (all ∷ I ∷ L ∷ 0 ∷ A ∷ 1 ∷ []) 0 6) end last
        → Placed out 0 (head_text I L A) end last
    head-placed q =
        placed-two out 0 (bytes "aag ") (line_of (I + L + A) (I ∷ L ∷ 0 ∷ A ∷ 1 ∷ [])) room p (rw (line-six all I L 0 A 1, e) at q)

module _ (s I L A : ℕ) where
  abbrev M : ℕ
  M = I + L + A

  abbrev head : List ℕ
  head = head_text I L A

  abbrev ins : List ℕ
  ins = inputs_text 1 I

  abbrev ls : List ℕ
  ls = latches_text (2 * (I + L + A) + 2) s (I + 1) L

  abbrev bad : List ℕ
  bad = bad_text (I + L + A)

  abbrev gs : List ℕ
  gs = gates_text (after L s) (I + L + 1) A

  -- the length, where the latches end at `past`
  pub whole_length : (g : Generator) (past : Place) → g ≡ started_at s → past ≡ past_latches g (I + 1) L (2 * (I + L + A) + 2)
      → length (generated_text s I L A)
      ≡ length (head_text I L A) + length (inputs_text 1 I) + past.at + (length (digits (2 * (I + L + A))) + 1)
      + length (gates_text past.generator.state (I + L + 1) A)
  whole_length g past e f =
      let at-is : past.at ≡ length ls =
      ap (λ (p : Place). p.at) f ∙ ap (λ (x : Generator). length (latches_text (2 * (I + L + A) + 2) x.state (I + 1) L)) e in
      let state-is : past.generator.state ≡ after L s =
      ap (λ (p : Place). p.generator.state) f ∙ ap (λ (x : Generator). after L x.state) e in
      let gates-are : length (gates_text past.generator.state (I + L + 1) A) ≡ length gs =
      ap (λ (x : ℕ). length (gates_text x (I + L + 1) A)) state-is in
      omega (
        arith,
        ap length (text-parts s I L A),
        length-append head (ins ++ (ls ++ (bad ++ gs))),
        length-append ins (ls ++ (bad ++ gs)),
        length-append ls (bad ++ gs),
        length-append bad gs,
        line-length (2 * (I + L + A)),
      )

  module _ (out : List ℕ) (room : length (generated_text s I L A) ≤ length out) where
    text-room : Room out 0 (generated_text s I L A)
    text-room = omega arith

    left-0 : Rest out 0 (generated_text s I L A) out 0 (head ++ (ins ++ (ls ++ (bad ++ gs))))
    left-0 = rw (text-parts s I L A) (rest-start out 0 (head ++ (ins ++ (ls ++ (bad ++ gs)))))

    pub room-head : Room out 0 (head_text I L A)
    room-head = rest-room head (ins ++ (ls ++ (bad ++ gs))) text-room left-0

    module _ {e1 : ℕ} {o1 : List ℕ} (p1 : Placed out 0 (head_text I L A) e1 o1) where
      left-1 : Rest out 0 (generated_text s I L A) o1 e1 (ins ++ (ls ++ (bad ++ gs)))
      left-1 = rest_more head (ins ++ (ls ++ (bad ++ gs))) text-room left-0 p1

      pub room-inputs : Room o1 e1 (inputs_text 1 I)
      room-inputs = rest-room ins (ls ++ (bad ++ gs)) text-room left-1

      module _ {e2 : ℕ} {o2 : List ℕ} (p2 : Placed o1 e1 (inputs_text 1 I) e2 o2) {g : Generator} (e : g ≡ started_at s) where
        left-2 : Rest out 0 (generated_text s I L A) o2 e2 (ls ++ (bad ++ gs))
        left-2 = rest_more ins (ls ++ (bad ++ gs)) text-room left-1 p2

        pub room-latches : Room o2 e2 (latches_text (2 * (I + L + A) + 2) g.state (I + 1) L)
        room-latches =
            subst (λ (x : Generator). Room o2 e2 (latches_text (2 * (I + L + A) + 2) x.state (I + 1) L)) (sym e)
            (rest-room ls (bad ++ gs) text-room left-2)

        module _ {past : Place} {o3 : List ℕ}
            (p3 : LatchesPut o2 (record { at = e2; generator = g }) (I + 1) L (2 * (I + L + A) + 2) past o3) where
          placed-latches : Placed o2 e2 (latches_text (2 * (I + L + A) + 2) s (I + 1) L) past.at o3
          placed-latches =
              subst (λ (x : Generator). Placed o2 e2 (latches_text (2 * (I + L + A) + 2) x.state (I + 1) L) past.at o3) e p3.placed

          state-past : past.generator.state ≡ after L s
          state-past = p3.state ∙ ap (λ (x : Generator). after L x.state) e

          left-3 : Rest out 0 (generated_text s I L A) o3 past.at (bad ++ gs)
          left-3 = rest_more ls (bad ++ gs) text-room left-2 placed-latches

          pub room-bad : Room o3 past.at (number_text (2 * (I + L + A)) 0)
          room-bad = rw (line-one (2 * (I + L + A))) (rest-room bad gs text-room left-3)

          module _ {e4 : ℕ} {o4 : List ℕ} (p4 : Placed o3 past.at (number_text (2 * (I + L + A)) 0) e4 o4) where
            left-4 : Rest out 0 (generated_text s I L A) o4 e4 gs
            left-4 = rest_more bad gs text-room left-3 (rw (line-one (2 * (I + L + A))) at p4)

            pub room-gates : Room o4 e4 (gates_text past.generator.state (I + L + 1) A)
            room-gates = rw state-past (last-room gs text-room left-4)

            pub whole-put : {e5 : ℕ} {o5 : List ℕ} → Placed o4 e4 (gates_text past.generator.state (I + L + 1) A) e5 o5
                → o5 ≡ front (generated_text s I L A) out
            whole-put p5 = (last-placed gs text-room left-4 (rw state-past at p5)).contents ∙ put_front out (generated_text s I L A)
