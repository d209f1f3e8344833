-- What the writers of `join` put into memory is the joined circuit's image. Assumes nothing.
use mathlib.Core.Path.{◌≡◌, refl, sym, ap, ap₂, ◌∙◌, subst, subst₂}
use mathlib.Core.List.Memᴰ
use mathlib.Core.List.{List, [], ◌∷◌, ◌++◌, map, append_assoc, append-nil, Memᴰ}
use Prim.Native.Nat.{ℕ, zero, suc, ◌+◌, ◌-◌, ◌*◌, ◌/◌, ◌%◌, ◌≤◌, ◌<◌}
use native.Mathlib.Omega.{arith}
use lib.Dec.{T}
use lib.ListN.{length, get_or, length-map, replicate}
use Rattle.aiger.specs.Lists.{upto, from, member}
use Rattle.aiger.specs.Circuit.{Circuit, Latch, Gate, var, defined}
use Rattle.aiger.specs.Memory.{Holds, latch_words, gate_words, content, image}
use Rattle.aiger.specs.Load.{needed}
use Rattle.aiger.specs.Write.{count_row}
use Rattle.layout.specs.Words.{word, latch_in, gate_in, latches_at, outputs_at, constraints_at, gates_at, circuit_in}
use Rattle.layout.specs.Layout.{LayoutOf}
use Rattle.layout.specs.declared.Layout.{Layout}
use Rattle.roundtrip.proofs.Content.{words_at, column-words, map-triples, latches-packed, gates-packed, triples-words}
use Rattle.meaning.proofs.Lists.{map-upto-eq, mem-member, length-map-upto}
use Rattle.meaning.proofs.Defined.{Known, constant, input, latch, gate, input-in, latch-in, gate-in}
use Rattle.joined.specs.Joined.{number_of, literal_under, latch_under, gate_under}
use Rattle.renumber.specs.Names.{under, Named}
use Rattle.pairing.specs.Words.{renamed_words}
use Rattle.pairing.proofs.Sections.{latches-known, gates-known, constraints-known, outputs-known, latch-words-under, gate-words-under}

-- a known variable is among those of the definitions
pub known_member : (c : Circuit) (v : ℕ) → Known c v → T (member v (0 ∷ map var (defined c)))
known_member c v (constant e) = mem-member {xs = 0 ∷ map var (defined c)} (Memᴰ.head e)
known_member c v (input i h e) = mem-member {xs = 0 ∷ map var (defined c)} (Memᴰ.tail (subst (λ (x : ℕ). Memᴰ x (map var (defined c))) e (Memᴰ.map var (input-in c i h))))
known_member c v (latch j h e) = mem-member {xs = 0 ∷ map var (defined c)} (Memᴰ.tail (subst (λ (x : ℕ). Memᴰ x (map var (defined c))) e (Memᴰ.map var (latch-in c j h))))
known_member c v (gate i h e) = mem-member {xs = 0 ∷ map var (defined c)} (Memᴰ.tail (subst (λ (x : ℕ). Memᴰ x (map var (defined c))) e (Memᴰ.map var (gate-in c i h))))

words-map : (f : ℕ → ℕ) (m : List ℕ) (p n : ℕ) → map (λ j. f (word m (p + j))) (upto n) ≡ map f (words_at m p n)
words-map f m p n = go n 0 p (omega arith)
  where
    go : (n s q : ℕ) → p + s ≡ q → map (λ j. f (word m (p + j))) (from s n) ≡ map f (words_at m q n)
    go zero s q e = refl
    go (suc n) s q e = ap₂ (λ (x : ℕ) (l : List ℕ). x ∷ l) (ap (λ (i : ℕ). f (word m i)) e) (go n (suc s) (suc q) (omega arith))

module _ {m : List ℕ} (h : Holds m (circuit_in m)) (l g : ℕ) (names : List ℕ) (named : Named (circuit_in m) l g names) where
  abbrev c : Circuit
  c = circuit_in m

  abbrev σ : ℕ → ℕ
  σ = number_of c l g

  -- literals of known variables under the table's numbers are those under the numbers
  renamed : (at n : ℕ) → ((j : ℕ) → j < n → Known c (var (word m (at + j)))) → renamed_words names m at n ≡ map (literal_under σ) (words_at m at n)
  renamed at n k =
      map-upto-eq (λ j. under names (word m (at + j))) (λ j. literal_under σ (word m (at + j))) n
      (λ j b. ap (λ (x : ℕ). 2 * x + word m (at + j) % 2) (named (var (word m (at + j))) (known_member c (var (word m (at + j))) (k j b))))
      ∙ words-map (literal_under σ) m at n

  pub latches-renamed : renamed_words names m (latches_at m) (3 * word m 2) ≡ latch_words (map (latch_under σ) c.latches)
  unfolding circuit_in
  latches-renamed =
      renamed (latches_at m) (3 * word m 2) (latches-known h)
      ∙ ap (map (literal_under σ)) (sym (ap latch_words (map-triples (λ x y z. record { lit = x; next = y; reset = z }) m (latches_at m) (word m 2)) ∙ triples-words latches-packed m (latches_at m) (word m 2)))
      ∙ sym (latch-words-under σ c.latches)

  pub gates-renamed : renamed_words names m (gates_at m) (3 * word m 4) ≡ gate_words (map (gate_under σ) c.gates)
  unfolding circuit_in
  gates-renamed =
      renamed (gates_at m) (3 * word m 4) (gates-known h)
      ∙ ap (map (literal_under σ)) (sym (ap gate_words (map-triples (λ x y z. record { lit = x; left = y; right = z }) m (gates_at m) (word m 4)) ∙ triples-words gates-packed m (gates_at m) (word m 4)))
      ∙ sym (gate-words-under σ c.gates)

  pub constraints-renamed : renamed_words names m (constraints_at m) (word m 6) ≡ map (literal_under σ) c.constraints
  unfolding circuit_in
  constraints-renamed = renamed (constraints_at m) (word m 6) (constraints-known h) ∙ ap (map (literal_under σ)) (sym (column-words m (constraints_at m) (word m 6)))

  pub outputs-renamed : (j : ℕ) → j < word m 3 → under names (word m (outputs_at m + j)) ≡ literal_under σ (word m (outputs_at m + j))
  outputs-renamed j b =
      ap (λ (x : ℕ). 2 * x + word m (outputs_at m + j) % 2) (named (var (word m (outputs_at m + j))) (known_member c (var (word m (outputs_at m + j))) (outputs-known h j b)))
