-- Laws of reading the gates of a binary file, one at a time. Assumes nothing.
use mathlib.Core.Path.{◌≡◌, refl, sym, ap, ◌∙◌}
use mathlib.Core.List.{List, [], ◌∷◌, ◌++◌, append-nil, append_assoc}
use mathlib.Core.Option.{Option, none, some}
use Prim.Native.Nat.{ℕ, suc, ◌+◌, ◌-◌, ◌*◌, ◌≤◌, ◌<◌}
use native.Mathlib.Numerals.{add-one}
use native.Mathlib.Omega.{arith}
use borrow.Author.Tests.{le-leb, lt-leb}
use lib.ListN.{length, take, drop, set, length-append}
use lib.Seq.{sets, sets-eq, length-sets}
use Rattle.aiger.specs.Text.{◌>>=◌}
use Rattle.aiger.specs.Circuit.{Gate}
use Rattle.aiger.specs.Binary.{difference, gate_by, gates_from}
use Rattle.aiger.specs.Memory.{gate_words}
use Rattle.lines.proofs.Storing.{sets-append}
use Rattle.lines.proofs.Lines.{one_fewer}
use Rattle.binary.specs.Sections.{GateRead, GatesRead, on_gate, gates_left}

-- ---- one gate

module _ (s : List ℕ) (at l : ℕ) where
  pub none_first : none ≡ difference (drop at s) → gate_by l (drop at s) ≡ none
  unfolding gate_by
  none_first e = rw (sym e)

  module _ (first middle : ℕ) (d : some (first, drop middle s) ≡ difference (drop at s)) where
    pub not-below : first < 1 → gate_by l (drop at s) ≡ none
    unfolding gate_by
    not-below h = rw (sym d, lt-leb 1 first h)

    module _ (h1 : 1 ≤ first) where
      pub below-zero : l < first → gate_by l (drop at s) ≡ none
      unfolding gate_by
      below-zero h = rw (sym d, le-leb 1 first h1, lt-leb first l h)

      module _ (h2 : first ≤ l) where
        pub none-second : none ≡ difference (drop middle s) → gate_by l (drop at s) ≡ none
        unfolding gate_by
        none-second e = rw (sym d, le-leb 1 first h1, le-leb first l h2, sym e)

        module _ (second next : ℕ) (e : some (second, drop next s) ≡ difference (drop middle s)) where
          pub below-zero-2 : l - first < second → gate_by l (drop at s) ≡ none
          unfolding gate_by
          below-zero-2 h = rw (sym d, le-leb 1 first h1, le-leb first l h2, sym e, lt-leb second (l - first) h)

          pub gate-read : second ≤ l - first → next ≤ length s → (before : List ℕ) (to : ℕ)
              → GateRead s at l before to (set (set (set before to l) (to + 1) (l - first)) (to + 2) (l - first - second)) next
          unfolding gate_by gate_words
          gate-read h inside before to =
              let two : to + 2 ≡ suc (suc to) = omega arith in
              record {
                gate = record { lit = l; left = l - first; right = l - first - second };
                meaning = rw (sym d, le-leb 1 first h1, le-leb first l h2, sym e, le-leb second (l - first) h);
                inside = inside;
                contents = rw (two, add-one to);
              }

-- ---- one gate after the other

words_append : (gs hs : List Gate) → gate_words (gs ++ hs) ≡ gate_words gs ++ gate_words hs
unfolding gate_words
words_append [] hs = refl
words_append (g ∷ gs) hs = rw (words_append gs hs)

pub words-length : (gs : List Gate) → length (gate_words gs) ≡ 3 * length gs
unfolding gate_words
words-length [] = refl
words-length (g ∷ gs) = omega (arith, words-length gs)

-- a run whose first gates are gs
abbrev pub prefixed : List Gate → Option (List Gate × List ℕ) → Option (List Gate × List ℕ)
prefixed gs none = none
prefixed gs (some q) = some (gs ++ q.0, q.1)

prefixed-none : (o : Option (List Gate × List ℕ)) → o ≡ prefixed [] o
prefixed-none none = refl
prefixed-none (some q) = refl

prefixed-one : (gs : List Gate) (g : Gate) (o : Option (List Gate × List ℕ))
    → prefixed gs (o >>= λ q. some (g ∷ q.0, q.1)) ≡ prefixed (gs ++ (g ∷ [])) o
prefixed-one gs g none = refl
prefixed-one gs g (some q) = rw append_assoc

module _ (v k : ℕ) (f : List ℕ) (gs : List Gate) where
  gates-more : (g : Gate) (r : List ℕ) → gate_by (2 * v) f ≡ some (g, r)
      → prefixed gs (gates_from v (suc k) f) ≡ prefixed (gs ++ (g ∷ [])) (gates_from (v + 1) k r)
  unfolding gates_from
  gates-more g r e = rw (e, add-one v) (prefixed-one gs g (gates_from (suc v) k r))

  gates-bad : gate_by (2 * v) f ≡ none → prefixed gs (gates_from v (suc k) f) ≡ none
  unfolding gates_from
  gates-bad e = rw e

-- what a text leaves, a gate at a time

three : (g : Gate) → length (gate_words (g ∷ [])) ≡ 3
unfolding gate_words
three g = refl

module _ (v k : ℕ) (f : List ℕ) where
  left-more : (g : Gate) (r l : List ℕ) (to : ℕ) → gate_by (2 * v) f ≡ some (g, r)
      → sets l to (gates_left v (suc k) f) ≡ sets (sets l to (gate_words (g ∷ []))) (to + 3) (gates_left (v + 1) k r)
  unfolding gates_left
  left-more g r l to e =
      let words = gate_words (g ∷ []) in
      ap (λ (o : Option (Gate × List ℕ)). sets l to (on_gate o (λ h q. gate_words (h ∷ []) ++ gates_left (suc v) k q))) e
      ∙ sym (sets-append l words (gates_left (suc v) k r) to)
      ∙ ap (λ (n : ℕ). sets (sets l to words) (to + n) (gates_left (suc v) k r)) (three g)
      ∙ ap (λ (u : ℕ). sets (sets l to words) (to + 3) (gates_left u k r)) (sym (add-one v))

  left-bad : gate_by (2 * v) f ≡ none → gates_left v (suc k) f ≡ []
  unfolding gates_left
  left-bad e = rw e

left-none : (v k : ℕ) (f : List ℕ) → k ≡ 0 → gates_left v k f ≡ []
unfolding gates_left
left-none v k f e = rw e

-- some gates are read and stored, and `left` are left
pub record Run (s : List ℕ) (at n v : ℕ) (before : List ℕ) (from : ℕ) (out : List ℕ) (next var to left : ℕ) : Type 0 where
  pub gates : List Gate
  pub count : length gates + left ≡ n
  pub kept : length out ≡ length before
  pub inside : next ≤ length s
  pub low : var + left ≤ 10000
  pub place : to ≡ from + 3 * length gates
  pub room : to + left * 3 ≤ length before
  pub meaning : gates_from v n (drop at s) ≡ prefixed gates (gates_from var left (drop next s))
  pub contents : out ≡ sets before from (gate_words gates)
  pub whole : sets before from (gates_left v n (drop at s)) ≡ sets out to (gates_left var left (drop next s))

pub start : (s : List ℕ) (at n v : ℕ) (out : List ℕ) (from : ℕ) → at ≤ length s → from + n * 3 ≤ length out → v + n ≤ 10000
    → Run s at n v out from out at v from n
unfolding gate_words
start s at n v out from inside room low =
    record {
      gates = [];
      count = omega arith;
      kept = refl;
      inside = inside;
      low = low;
      place = omega arith;
      room = room;
      meaning = prefixed-none (gates_from v n (drop at s));
      contents = refl;
      whole = refl;
    }

module _ {s : List ℕ} {at n v : ℕ} {before : List ℕ} {from : ℕ} {out : List ℕ} {next var to left : ℕ}
    (run : Run s at n v before from out next var to left) where
  next-gate : 0 < left → gates_from v n (drop at s) ≡ prefixed run.gates (gates_from var (suc (left - 1)) (drop next s))
  next-gate h = run.meaning ∙ ap (λ (k : ℕ). prefixed run.gates (gates_from var k (drop next s))) (one_fewer left h)

  next-words : 0 < left → sets before from (gates_left v n (drop at s)) ≡ sets out to (gates_left var (suc (left - 1)) (drop next s))
  next-words h = run.whole ∙ ap (λ (k : ℕ). sets out to (gates_left var k (drop next s))) (one_fewer left h)

  pub room-here : 0 < left → to + 3 ≤ length out
  room-here h = omega (arith, run.room, run.kept)

  pub more : (out' : List ℕ) (after : ℕ) → 0 < left → GateRead s next (2 * var) out to out' after
      → Run s at n v before from out' after (var + 1) (to + 3) (left - 1)
  more out' after h r =
      let one = r.gate ∷ [] in
      let size : length (run.gates ++ one) ≡ length run.gates + 1 = length-append run.gates one in
      let there : to ≡ from + length (gate_words run.gates) = omega (arith, run.place, words-length run.gates) in
      let written : out' ≡ sets before from (gate_words (run.gates ++ one)) =
      r.contents ∙ ap (λ (l : List ℕ). sets l to (gate_words one)) run.contents
      ∙ ap (λ (k : ℕ). sets (sets before from (gate_words run.gates)) k (gate_words one)) there
      ∙ sets-append before (gate_words run.gates) (gate_words one) from
      ∙ ap (sets before from) (sym (words_append run.gates one)) in
      record {
        gates = run.gates ++ one;
        count = omega (arith, size, run.count);
        kept = ap length written ∙ length-sets before from (gate_words (run.gates ++ one));
        inside = r.inside;
        low = omega (arith, run.low);
        place = omega (arith, size, run.place);
        room = omega (arith, run.room);
        meaning = next-gate h ∙ gates-more var (left - 1) (drop next s) run.gates r.gate (drop after s) r.meaning;
        contents = written;
        whole =
            next-words h ∙ left-more var (left - 1) (drop next s) r.gate (drop after s) out to r.meaning
            ∙ ap (λ (l : List ℕ). sets l (to + 3) (gates_left (var + 1) (left - 1) (drop after s))) (sym r.contents);
      }

  pub bad : 0 < left → gate_by (2 * var) (drop next s) ≡ none → gates_from v n (drop at s) ≡ none
  bad h b = next-gate h ∙ gates-bad var (left - 1) (drop next s) run.gates b

  pub bad-left : (out' : List ℕ) → 0 < left → gate_by (2 * var) (drop next s) ≡ none → out' ≡ out
      → out' ≡ sets before from (gates_left v n (drop at s))
  bad-left out' h b e = e ∙ sym (next-words h ∙ ap (sets out to) (left-bad var (left - 1) (drop next s) b))

  pub end-left : left ≤ 0 → out ≡ sets before from (gates_left v n (drop at s))
  end-left h = sym (run.whole ∙ ap (sets out to) (left-none var left (drop next s) (omega arith)))

  ended : left ≤ 0 → prefixed run.gates (gates_from var left (drop next s)) ≡ some (run.gates, drop next s)
  unfolding gates_from
  ended h =
      let z : left ≡ 0 = omega arith in
      rw (z, append-nil run.gates)

  pub end : left ≤ 0 → GatesRead s at n v before from out next
  end h =
      let size : length (gate_words run.gates) ≡ n * 3 = omega (arith, words-length run.gates, run.count) in
      record {
        gates = run.gates;
        meaning = run.meaning ∙ ended h;
        inside = run.inside;
        contents =
            run.contents ∙ sets-eq (gate_words run.gates) before from (omega (arith, size, words-length run.gates, run.place, run.room))
            ∙ ap (λ (k : ℕ). take from before ++ gate_words run.gates ++ drop (from + k) before) size;
      }
