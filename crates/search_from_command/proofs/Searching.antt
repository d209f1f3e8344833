-- What a search from a place answers, as it is left to be printed. Assumes nothing.
use mathlib.Core.Path.{◌≡◌, refl, sym, ap, ◌∙◌, subst}
use mathlib.Core.List.{List}
use Prim.Native.Nat.{ℕ}
use lib.ListN.{length}
use Rattle.aiger.specs.Circuit.{Circuit}
use Rattle.aiger.specs.Frames.{run}
use Rattle.aiger.specs.Load.{Answer, refused, gives, load}
use Rattle.aiger.specs.Memory.{Holds}
use Rattle.aiger.specs.Search.{Report}
use Rattle.aiger.specs.Witness.{witness}
use Rattle.aiger.specs.Operations.{judge, shown_length}
use Rattle.layout.specs.Words.{circuit_in}
use Rattle.roundtrip.proofs.Determined.{acted, refused_as}
use Rattle.roundtrip.proofs.Holding.{held}
use Rattle.roundtrip.proofs.Witness.{run_length}
use Rattle.job.specs.Replies.{told_length}
use Rattle.load_laws.proofs.Stored.{Stored}
use Rattle.place_search.specs.Places.{Placed, outcome_of}
use Rattle.place_search.specs.Operation.{place_tests, PlaceSearched, report_of, text_of}
use Rattle.place_search.proofs.Searches.{shown-as}
use Rattle.place_decision.specs.Reach.{place_chosen}
use Rattle.replies.specs.Refusal.{refusal_text}
use Rattle.replies.specs.Reply.{Fronts, Leaves}
use Rattle.replies.proofs.Putting.{refused-leaves}
use Rattle.search_command.specs.Texts.{report_words, said_words}
use Rattle.search_from_command.specs.Texts.{placed_reply, searched_from_reply, search_from_reply}

-- the text that an answer shows has the length that is told
text-long : (c : Circuit) (b t : ℕ) (a : Placed) → shown_length c b (outcome_of t a) ≡ length (text_of (λ x. witness b (run c t x)) a)
text-long c b t (Placed.hit x) = sym (run_length c b t x)
text-long c b t Placed.clear = refl
text-long c b t (Placed.spent R) = refl

-- what a search answers and leaves, and the line for it, are the reply
pub left : {m w out w' out' : List ℕ} {c : Circuit} (b t place D : ℕ) (a : Answer Report) → Holds m c
    → PlaceSearched place_chosen m b t place D w out a w' out' → (line : List ℕ) {line' : List ℕ} (l n : ℕ) → Fronts (said_words a) line l line'
    → n ≡ told_length a
    → Leaves (searched_from_reply c b t place D (length w) (length out)) line out (record { line = l; out = n }) line' out'
unfolding searched_from_reply
left {out = out} {out' = out'} b t place D (refused i) h s line {line'} l n f z =
    let e = refused_as h s refl in
    let same : out' ≡ out = ap (λ (p : List ℕ × List ℕ). p.1) e.1 in
    rw (e.0, same) (refused-leaves i out f z)
left {out = out} {out' = out'} {c = c} b t place D (gives o) h s line {line'} l n f z =
    let e = acted h s refl in
    let a = place_chosen c b t place D in
    let text : ℕ → List ℕ = λ x. witness b (run c t x) in
    rw e.0
    (record {
      line-is = subst (λ (r : Report). Fronts (report_words r) line l line') e.1.chose f;
      out-is = record {
        long = z ∙ ap (λ (r : Report). r.length) e.1.chose ∙ text-long c b t a;
        contents = e.1.shows ∙ shown-as text a out;
      };
    })

module _ (m f : List ℕ) (room : length m ≡ 33032) (b t place D : ℕ) where
  -- a file that is not loaded
  pub from-refusal : {line : List ℕ} (out : List ℕ) {l n : ℕ} {line' : List ℕ} {i : ℕ} → load (length m) f ≡ refused i
      → Fronts (refusal_text i) line l line' → n ≡ 0 → Leaves (search_from_reply f b t place D) line out (record { line = l; out = n }) line' out
  unfolding search_from_reply
  from-refusal out {i = i} e p z = rw (rw room at e) (refused-leaves i out p z)

  -- and one that is
  pub from-text : {m' : List ℕ} → Stored m f m' → searched_from_reply (circuit_in m') b t place D 1048576 66825 ≡ search_from_reply f b t place D
  unfolding search_from_reply
  from-text s = rw (rw room at s.accepted, held s.holds)
