-- What a search of a pair answers, as it is left to be printed. Assumes nothing.
use mathlib.Core.Path.{◌≡◌, refl, sym, ap, ◌∙◌}
use mathlib.Core.Bool.{Bool}
use mathlib.Core.List.{List}
use Prim.Native.Nat.{ℕ}
use lib.ListN.{length}
use Rattle.aiger.specs.Circuit.{Circuit}
use Rattle.aiger.specs.Load.{Answer, refused, gives, ◌>>=◌}
use Rattle.aiger.specs.Search.{Report}
use Rattle.aiger.specs.Operations.{judge, search_tests}
use Rattle.search.specs.Chosen.{chosen}
use Rattle.job.specs.Replies.{told_length}
use Rattle.job.proofs.Replying.{Judged, shows}
use Rattle.replies.specs.Reply.{Fronts, Leaves}
use Rattle.replies.proofs.Putting.{refused-leaves}
use Rattle.compare_command.specs.declared.Said.{Said}
use Rattle.compare_command.specs.Texts.{said_words, is_refused, pair_answer, pair_reply, PairSaid}

-- whether it is refused, by what the tests answer
tells : (c : Circuit) (b k D room len : ℕ) {z : Answer (Unit {0})} → judge (search_tests c b k D room len) ≡ z
    → is_refused (pair_answer c b k D room len) ≡ is_refused (z >>= λ _. gives (chosen c b k D))
tells c b k D room len q = ap (λ (v : Answer (Unit {0})). is_refused (v >>= λ _. gives (chosen c b k D))) q

pub left : (c : Circuit) (b k D room : ℕ) (out line : List ℕ) (l w : ℕ) (x : Bool) {line' : List ℕ} {a : Answer Report} {out' : List ℕ}
    → Judged c b k D room out a out' → Fronts (said_words b a) line l line' → w ≡ told_length a → x ≡ is_refused a
    → PairSaid c b k D room line out (record { line = l; out = w; refused = x }) line' out' (length out)
unfolding pair_reply
left c b k D room out line l w x (Judged.refuses {n = n} e) f z y =
    record { leaves = rw e (refused-leaves n out f z); refused-is = y ∙ sym (tells c b k D room (length out) e) }
left c b k D room out line l w x (Judged.answers e o i p u) f z y =
    record {
      leaves = rw (e, i) (record { line-is = f; out-is = shows c b k D out o.outcome p (z ∙ u) });
      refused-is = y ∙ sym (tells c b k D room (length out) e);
    }
