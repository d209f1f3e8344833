-- What a search answers, as it is printed. Assumes nothing.
use mathlib.Core.Path.{◌≡◌, refl, sym, ap, ◌∙◌, subst}
use mathlib.Core.List.{List}
use Prim.Native.Nat.{ℕ}
use lib.Dec.{T}
use lib.ListN.{length}
use Rattle.aiger.specs.Circuit.{Circuit}
use Rattle.aiger.specs.Load.{Answer, refused, gives}
use Rattle.aiger.specs.Search as Search
use Rattle.aiger.specs.Search.{question, Outcome, permitted}
use Rattle.aiger.specs.Memory.{Holds}
use Rattle.aiger.specs.Operations.{judge, shown, shown_length, Searched, search_tests}
use Rattle.aiger.specs.Program.{refusal_line}
use Rattle.roundtrip.proofs.Determined.{acted, refused_as}
use Rattle.roundtrip.proofs.Witness.{run_length}
use Rattle.meaning.proofs.Outcomes.{found-out, first-witness}
use Rattle.search.specs.Chosen.{outcome_chosen, chosen}
use Rattle.replies.specs.Reply.{Fronts}
use Rattle.replies.specs.declared.Report.{Report}
use Rattle.job.specs.Replies.{said_text, witness_of, told_length}
use Rattle.job.specs.Job.{searched, Replied}

-- what a search of the held circuit answers and leaves
pub data Judged (c : Circuit) (b k D room : ℕ) (out : List ℕ) : Answer Search.Report → List ℕ → Type 0 where
  refuses : {n : ℕ} → judge (search_tests c b k D room (length out)) ≡ refused n → Judged c b k D room out (refused n) out
  answers : judge (search_tests c b k D room (length out)) ≡ gives tt → (o : Search.Report) → chosen c b k D ≡ o → T (permitted c b k D o.outcome)
      → o.length ≡ shown_length c b o.outcome → Judged c b k D room out (gives o) (shown c b o.outcome out)

pub judged : {m w out w' out' : List ℕ} {c : Circuit} {b k D : ℕ} {a : Answer Search.Report} → Holds m c → Searched chosen m b k D w out a w' out'
    → Judged c b k D (length w) out a out'
judged {m} {w} {out} {w'} {out'} {c} {b} {k} {D} {a} h s = go a s
  where
    go : (x : Answer Search.Report) → Searched chosen m b k D w out x w' out' → Judged c b k D (length w) out x out'
    go (refused n) r =
        let e = refused_as h r refl in
        subst (Judged c b k D (length w) out (refused n)) (sym (ap (λ (p : List ℕ × List ℕ). p.1) e.1)) (Judged.refuses e.0)
    go (gives o) r =
        let e = acted h r refl in
        subst (Judged c b k D (length w) out (gives o)) (sym e.1.shows)
        (Judged.answers e.0 o (sym e.1.chose) e.1.allowed e.1.measured)

-- the outcome of what is chosen
pub outcome-is : (c : Circuit) (b k D : ℕ) {o : Search.Report} → chosen c b k D ≡ o → outcome_chosen c b k D ≡ o.outcome
unfolding chosen
outcome-is c b k D e = ap (λ (r : Search.Report). r.outcome) e

-- the witness, or nothing, stands at the front of the output
pub shows : (c : Circuit) (b k D : ℕ) (out : List ℕ) {w : ℕ} (o : Outcome) → T (permitted c b k D o) → w ≡ shown_length c b o
    → Fronts (witness_of c b o) out w (shown c b o out)
shows c b k D out (Outcome.found t) p e =
    let f = found-out (question c b) k D t p in
    let n = ap length (first-witness c b t f.place f.first) ∙ run_length c b t f.place in
    record { long = e ∙ sym n; contents = refl }
shows c b k D out (Outcome.none j) p e = record { long = e; contents = refl }
shows c b k D out (Outcome.spent t) p e = record { long = e; contents = refl }

-- the line of a refusal alone
pub refused-replied : (n : ℕ) (work out : List ℕ) {line line' : List ℕ} {r : Report} → Fronts (refusal_line n) line r.line line'
    → r.out ≡ 0 → Replied (refused n) work out line r work out line'
refused-replied n work out f z = record { texts = record { line-is = f; out-is = record { long = z; contents = refl } }; working = refl }

-- what a search answers and leaves, and the line for it, are the reply
pub search-replied : {m work out work' out' : List ℕ} {c : Circuit} {b k D : ℕ} (a : Answer Search.Report) → Holds m c
    → Searched chosen m b k D work out a work' out' → {line line' : List ℕ} {l w : ℕ}
    → Fronts (said_text a) line l line' → w ≡ told_length a
    → Replied (searched c b k D (length work) (length out)) work out line (record { line = l; out = w }) work' out' line'
unfolding searched
search-replied {m} {work} {out} {work'} {out'} {c} {b} {k} {D} (refused n) h s {line} {line'} {l} {w} f z =
    let e = refused_as h s refl in
    rw (
      e.0,
      ap (λ (p : List ℕ × List ℕ). p.0) e.1,
      ap (λ (p : List ℕ × List ℕ). p.1) e.1,
    )
    (refused-replied n work out {r = record { line = l; out = w }} f z)
search-replied {m} {work} {out} {work'} {out'} {c} {b} {k} {D} (gives o) h s {line} {line'} {l} {w} f z =
    let e = acted h s refl in
    rw (e.0, outcome-is c b k D (sym e.1.chose), e.1.shows)
    (record {
      texts = record { line-is = f; out-is = shows c b k D out o.outcome e.1.allowed (z ∙ e.1.measured) };
      working = tt;
    })
