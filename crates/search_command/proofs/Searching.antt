-- What a search answers, as it is left to be printed. Assumes nothing.
use mathlib.Core.Path.{◌≡◌, refl, ◌∙◌}
use mathlib.Core.List.{List}
use Prim.Native.Nat.{ℕ}
use lib.ListN.{length}
use Rattle.aiger.specs.Circuit.{Circuit}
use Rattle.aiger.specs.Load.{Answer, refused, gives, load}
use Rattle.aiger.specs.Search.{Report}
use Rattle.layout.specs.Words.{circuit_in}
use Rattle.roundtrip.proofs.Holding.{held}
use Rattle.job.specs.Replies.{told_length}
use Rattle.load_laws.proofs.Stored.{Stored}
use Rattle.job.proofs.Replying.{Judged, shows}
use Rattle.replies.specs.Refusal.{refusal_text}
use Rattle.replies.specs.Reply.{Fronts}
use Rattle.replies.proofs.Putting.{refused-leaves, fronts-none}
use Rattle.search_command.specs.Texts.{said_words, note_of, searched_answer, searched_reply, search_reply, search_note, SaidIs}

-- what a search answers and leaves, the line for it and the note are what is said
pub left : (c : Circuit) (b k D room : ℕ) (out line note : List ℕ) (l w n : ℕ) {line' note' : List ℕ} {a : Answer Report} {out' : List ℕ}
    → Judged c b k D room out a out' → Fronts (said_words a) line l line' → w ≡ told_length a → Fronts (note_of a) note n note'
    → SaidIs (searched_reply c b k D room (length out)) (note_of (searched_answer c b k D room (length out))) line out note
    (record { line = l; out = w; note = n }) line' out' note'
unfolding searched_reply
left c b k D room out line note l w n (Judged.refuses {n = i} e) f z g = rw e (record { leaves = refused-leaves i out f z; notes = g })
left c b k D room out line note l w n (Judged.answers e o i p y) f z g =
    rw (e, i) (record { leaves = record { line-is = f; out-is = shows c b k D out o.outcome p (z ∙ y) }; notes = g })

module _ (m f : List ℕ) (room : length m ≡ 33032) where
  -- a file that is not loaded
  pub search-refusal : (b k D : ℕ) {line : List ℕ} (out note : List ℕ) {l : ℕ} {line' : List ℕ} {n : ℕ} → load (length m) f ≡ refused n
      → Fronts (refusal_text n) line l line'
      → SaidIs (search_reply f b k D) (search_note f b k D) line out note (record { line = l; out = 0; note = 0 }) line' out note
  unfolding search_reply search_note
  search-refusal b k D out note {n = n} e p = rw (rw room at e) (record { leaves = refused-leaves n out p refl; notes = fronts-none note })

  -- and one that is
  pub search-text : (b k D : ℕ) {m' : List ℕ} → Stored m f m' → searched_reply (circuit_in m') b k D 1048576 66825 ≡ search_reply f b k D
  unfolding search_reply
  search-text b k D s = rw (rw room at s.accepted, held s.holds)

  pub search-note : (b k D : ℕ) {m' : List ℕ} → Stored m f m' → note_of (searched_answer (circuit_in m') b k D 1048576 66825) ≡ search_note f b k D
  unfolding search_note
  search-note b k D s = rw (rw room at s.accepted, held s.holds)
