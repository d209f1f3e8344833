-- From what join answers to what is printed. Assumes nothing.
use mathlib.Core.Path.{◌≡◌, refl, sym, ap, ◌∙◌, subst}
use mathlib.Core.List.{List, [], ◌∷◌}
use Prim.Native.Nat.{ℕ, ◌≤◌, ◌<◌}
use native.Mathlib.Omega.{arith}
use lib.Dec.{T, leb, eqb, leb→le}
use mathlib.Core.Bool.{Bool, ◌&&◌}
use lib.ListN.{length, get_or}
use Rattle.aiger.specs.Circuit.{Circuit}
use Rattle.aiger.specs.Load.{Answer, refused, gives, load, ◌>>=◌}
use Rattle.aiger.specs.Write.{write}
use Rattle.aiger.specs.Memory.{Holds, image}
use Rattle.aiger.specs.Operations.{front, judge}
use Rattle.aiger.proofs.Tests.{and_left}
use Rattle.layout.specs.Words.{circuit_in}
use Rattle.roundtrip.proofs.LoadWrite.{Valid, load-write}
use Rattle.roundtrip.proofs.LoadValid.{gives_same, gives-bind}
use Rattle.roundtrip.proofs.Holding.{held, loaded-holds}
use Rattle.load.specs.declared.Counts.{Counts}
use Rattle.load.specs.Answers.{numbers}
use Rattle.limits.proofs.Refusals.{judge-first}
use Rattle.load_laws.proofs.Stored.{Stored}
use Rattle.joined.specs.Joined.{joined, join_tests, JoinedInto}
use Rattle.parting.proofs.Contract.{join-determined, join-refused, join-accepted, join-valid, bad-lines}
use Rattle.replies.specs.Refusal.{refusal_text}
use Rattle.replies.specs.Reply.{Reply, reply_of, Fronts, Leaves}
use Rattle.replies.specs.Loading.{words_after, loaded_words}
use Rattle.replies.specs.declared.Report.{Report}
use Rattle.replies.proofs.Putting.{fronts-none, refused-leaves}
use Rattle.replies.proofs.Loading.{loaded-words}
use Rattle.commands.specs.Texts.{written}
use Rattle.join_command.specs.declared.Paired.{Paired}
use Rattle.join_command.specs.Texts.{joined_answer, second_answer, join_answer, second_words, line_of, pairs_of, JoinedAs, BothLoaded, join_reply}

-- what a refused join leaves
pub refused_as : (n : ℕ) (m : List ℕ) {line line' : List ℕ} {r : Paired} → Fronts (refusal_text n) line r.line line' → r.pairs ≡ 0
    → JoinedAs (refused n) m line r m line'
refused_as n m f e = record { line-is = f; pairs-are = e; third-is = refl }

module _ {m₁ m₂ m m' : List ℕ} {x : Answer (List ℕ)} (h : Holds m₁ (circuit_in m₁)) (h' : Holds m₂ (circuit_in m₂)) (room : length m ≡ 33032)
    (o : JoinedInto m₁ m₂ m x m') where
  abbrev c : Circuit
  c = circuit_in m₁

  abbrev d : Circuit
  d = circuit_in m₂

  answer-is : (a : Answer (Unit {0})) → judge (join_tests c d (length m)) ≡ a → joined_answer c d ≡ (a >>= λ _. gives (joined c d))
  answer-is a e = ap (λ (z : Answer (Unit {0})). z >>= λ _. gives (joined c d)) (ap (λ (n : ℕ). judge (join_tests c d n)) (sym room) ∙ e)

  passed : (a : Answer (Unit {0})) → judge (join_tests c d (length m)) ≡ a → {l : List ℕ} → JoinedInto m₁ m₂ m (gives l) m' → judge (join_tests c d (length m)) ≡ gives tt
  passed (refused n) e y =
      let z = (join-determined y (JoinedInto.refuses c d h h' e)).0 in
      let w : ◌≡◌ {A = ℕ} 0 1 = cc in absurd (omega arith)
  passed (gives tt) e y = e

  pub pair-refused : {n : ℕ} {line line' : List ℕ} {r : Paired} → x ≡ refused n → Fronts (refusal_text n) line r.line line' → r.pairs ≡ 0
      → JoinedAs (joined_answer c d) m line r m' line'
  pair-refused {n} {line} {line'} {r} e f z =
      let q = join-refused h h' (subst (λ (y : Answer (List ℕ)). JoinedInto m₁ m₂ m y m') e o) in
      subst (λ (a : Answer Circuit). JoinedAs a m line r m' line') (sym (answer-is (refused n) q.0))
      (subst (λ (z : List ℕ). JoinedAs (refused n) m line r z line') (sym q.1) (refused_as n m f z))

  pub pair-joined : {k : Counts} (line : List ℕ) → x ≡ gives (numbers k) → JoinedAs (joined_answer c d) m line (record { line = 0; pairs = k.b }) m' line
  pair-joined {k} line e =
      let y = subst (λ (z : Answer (List ℕ)). JoinedInto m₁ m₂ m z m') e o in
      let p = passed (judge (join_tests c d (length m))) refl y in
      let q = join-accepted h h' p y in
      subst (λ (a : Answer Circuit). JoinedAs a m line (record { line = 0; pairs = k.b }) m' line) (sym (answer-is (gives tt) p))
      (record { line-is = fronts-none line; pairs-are = ap (λ (l : List ℕ). get_or l 5 0) (gives_same q.0); third-is = q.1 })

-- the new file
module _ (m new : List ℕ) (c : Circuit) (room : length m ≡ 33032) where
  pub second-refused : {n : ℕ} → load (length m) new ≡ refused n → second_answer c new ≡ refused n
  second-refused e = rw (rw room at e)

  pub second-loaded : {m' : List ℕ} → Stored m new m' → second_answer c new ≡ joined_answer c (circuit_in m')
  second-loaded s = rw (rw room at s.accepted, held s.holds)

  pub second-left : {n : ℕ} → load (length m) new ≡ refused n → (third : List ℕ) {line line' : List ℕ} {r : Paired} → Fronts (refusal_text n) line r.line line'
      → r.pairs ≡ 0 → JoinedAs (second_answer c new) third line r third line'
  second-left {n} e third {line} {line'} {r} f z =
      subst (λ (a : Answer Circuit). JoinedAs a third line r third line') (sym (second-refused e)) (refused_as n third f z)

  pub second-joined : {m' : List ℕ} → Stored m new m' → {third line third' line' : List ℕ} {r : Paired} → JoinedAs (joined_answer c (circuit_in m')) third line r third' line'
      → JoinedAs (second_answer c new) third line r third' line'
  second-joined s {third} {line} {third'} {line'} {r} j = subst (λ (a : Answer Circuit). JoinedAs a third line r third' line') (sym (second-loaded s)) j

-- the old file
module _ (m old new : List ℕ) (room : length m ≡ 33032) where
  pub first-refused : {n : ℕ} → load (length m) old ≡ refused n → join_answer old new ≡ refused n
  unfolding join_answer
  first-refused e = rw (rw room at e)

  pub first-loaded : {m' : List ℕ} → Stored m old m' → join_answer old new ≡ second_answer (circuit_in m') new
  unfolding join_answer
  first-loaded s = rw (rw room at s.accepted, held s.holds)

  pub first-left : {n : ℕ} → load (length m) old ≡ refused n → (third : List ℕ) {line line' : List ℕ} {r : Paired} → Fronts (refusal_text n) line r.line line'
      → r.pairs ≡ 0 → JoinedAs (join_answer old new) third line r third line'
  first-left {n} e third {line} {line'} {r} f z =
      subst (λ (a : Answer Circuit). JoinedAs a third line r third line') (sym (first-refused e)) (refused_as n third f z)

  pub first-joined : {m' : List ℕ} → Stored m old m' → {third line third' line' : List ℕ} {r : Paired} → JoinedAs (second_answer (circuit_in m') new) third line r third' line'
      → JoinedAs (join_answer old new) third line r third' line'
  first-joined s {third} {line} {third'} {line'} {r} j = subst (λ (a : Answer Circuit). JoinedAs a third line r third' line') (sym (first-loaded s)) j

  -- the first two memories
  pub both_left : {n : ℕ} → load (length m) old ≡ refused n → (second : List ℕ) {m' : List ℕ} → m' ≡ loaded_words m old → BothLoaded old new m second m' second
  both_left {n} e second q =
      let z : load 33032 old ≡ refused n = ap (λ (k : ℕ). load k old) (sym room) ∙ e in
      record { first-is = q; second_is = sym (ap (λ (a : Answer Circuit). second_words a new second) z) }

  pub both-loaded : {m' : List ℕ} → Stored m old m' → {second second' : List ℕ} → m' ≡ loaded_words m old → second' ≡ loaded_words second new → BothLoaded old new m second m' second'
  both-loaded s {second} q t =
      let z : load 33032 old ≡ gives s.circuit = ap (λ (k : ℕ). load k old) (sym room) ∙ s.accepted in
      record { first-is = q; second_is = t ∙ sym (ap (λ (a : Answer Circuit). second_words a new second) z) }

-- a joined circuit stands in the third memory, and has a bad line at least
pub joined-holds : (m : List ℕ) → length m ≡ 33032 → (old new : List ℕ) {j : Circuit} → join_answer old new ≡ gives j → Holds (front (image j) m) j × (1 ≤ length j.bads)
unfolding join_answer
joined-holds m room old new {j} e =
    let p = gives-bind (load 33032 old) (λ c. second_answer c new) j e in
    let q = gives-bind (load 33032 new) (joined_answer p.0) j p.2 in
    let t = gives-bind (judge (join_tests p.0 q.0 33032)) (λ _. gives (joined p.0 q.0)) j q.2 in
    let h = loaded-holds m old (ap (λ (n : ℕ). load n old) room ∙ p.1) in
    let h' = loaded-holds m new (ap (λ (n : ℕ). load n new) room ∙ q.1) in
    let same : joined p.0 q.0 ≡ j = gives_same t.2 in
    let v = subst (λ (n : ℕ). Valid n (joined p.0 q.0)) (sym room) (join-valid h h' 33032 t.1) in
    let o = length p.0.outputs in
    let pair = (judge-first _ _ t.1).0 in
    let some = leb→le 1 o (and_left (leb 1 o) (leb o 16) (and_left (leb 1 o && leb o 16) (eqb (length p.0.inputs) (length q.0.inputs)) (and_left (leb 1 o && leb o 16 && eqb (length p.0.inputs) (length q.0.inputs)) (eqb o (length q.0.outputs)) pair))) in
    subst (λ (z : Circuit). Holds (front (image z) m) z × (1 ≤ length z.bads)) same
    (loaded-holds m (write (joined p.0 q.0)) (load-write v), omega (arith, bad-lines p.0 q.0, some))

-- the command join
module _ (m old new : List ℕ) (room : length m ≡ 33032) {line : List ℕ} {r : Paired} {m' line' : List ℕ} (j : JoinedAs (join_answer old new) m line r m' line') where
  -- no pair: the files are refused
  pub join-refusal : (out : List ℕ) → r.pairs ≡ 0 → Leaves (join_reply old new) line out (record { line = r.line; out = 0 }) line' out
  unfolding join_reply
  join-refusal out z = go (join_answer old new) refl j.line-is (sym j.pairs-are ∙ z)
    where
      go : (a : Answer Circuit) → join_answer old new ≡ a → Fronts (line_of a) line r.line line' → pairs_of a ≡ 0
          → Leaves (reply_of written a) line out (record { line = r.line; out = 0 }) line' out
      go (refused n) e f z = refused-leaves n out f refl
      go (gives c) e f z = absurd (omega (arith, (joined-holds m room old new e).1))

  -- a pair: the third memory holds the joined circuit, and the line is as it was
  pub join-held : (r.pairs ≡ 0 → ⊥) → Holds m' (circuit_in m') × (written (circuit_in m') ≡ join_reply old new) × (line' ≡ line)
  unfolding join_reply
  join-held n = go (join_answer old new) refl j.line-is j.pairs-are j.third-is
    where
      go : (a : Answer Circuit) → join_answer old new ≡ a → Fronts (line_of a) line r.line line' → r.pairs ≡ pairs_of a → m' ≡ words_after m a
          → Holds m' (circuit_in m') × (written (circuit_in m') ≡ reply_of written a) × (line' ≡ line)
      go (refused k) e f p t = absurd (n p)
      go (gives c) e f p t =
          let h : Holds m' c = subst (λ (z : List ℕ). Holds z c) (sym t) (joined-holds m room old new e).0 in
          (subst (Holds m') (sym (held h)) h, ap written (held h), f.contents)

  -- and what is written of it is what is to be printed
  pub join-shown : (r.pairs ≡ 0 → ⊥) → {out : List ℕ} {q : Report} {line'' out' : List ℕ} → Leaves (written (circuit_in m')) line' out q line'' out'
      → Leaves (join_reply old new) line out q line'' out'
  join-shown n {out} {q} {line''} {out'} w =
      let h = join-held n in
      subst (λ (l : List ℕ). Leaves (join_reply old new) l out q line'' out') h.2 (subst (λ (y : Reply). Leaves y line' out q line'' out') h.1 w)
