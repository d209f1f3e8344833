-- What a job answers may be printed. Assumes nothing.
use mathlib.Core.Path.{◌≡◌, refl}
use mathlib.Core.Bool.{Bool, true, false}
use mathlib.Core.List.{List, [], ◌∷◌, ◌++◌, append-nil}
use mathlib.Core.Option.{Option, none, some}
use Prim.Native.Nat.{ℕ, ◌≤◌}
use borrow.Author.Tests.{leb-true, leb-false}
use lib.Dec.{leb}
use lib.ListN.{length}
use Rattle.aiger.specs.Circuit.{Circuit}
use Rattle.aiger.specs.Load.{Answer, refused, gives, test, read, load, ◌>>=◌, ◌>>◌}
use Rattle.aiger.specs.Search.{Outcome}
use Rattle.aiger.specs.Witness.{witness_length}
use Rattle.aiger.specs.Operations.{judge, need, budget_right, search_tests}
use Rattle.aiger.specs.Program.{Request, request, report, refusal_line, Prints}
use Rattle.limits.proofs.Refusals.{passed}
use Rattle.search.specs.Chosen.{outcome_chosen}
use Rattle.search.proofs.Theorems.{always-permitted}
use Rattle.job.specs.Replies.{outcome_words}
use Rattle.job.specs.Job.{requested, searched, request_answer, job_answer, Result, reply_to}

-- what is printed for an answer, by the cases in which it comes
module _ (input : List ℕ) where
  abbrev Printed : Answer Result → Type 0
  Printed a = Prints outcome_chosen input ((reply_to a).line ++ (reply_to a).out)

  refusal : (n : ℕ) → Prints outcome_chosen input (refusal_line n) → Printed (refused n)
  refusal n p = rw (append-nil (refusal_line n)) p

  module _ (h : length input ≤ 65536) (q : Request) (e : request input ≡ some q) where
    reported : (c : Circuit) (o : Outcome) → Prints outcome_chosen input (report c q.b o)
        → Printed (gives (record { circuit = c; b = q.b; outcome = o }))
    unfolding report
    reported c (Outcome.found t) p = p
    reported c (Outcome.none k) p = rw (append-nil (outcome_words (Outcome.none k))) p
    reported c (Outcome.spent t) p = rw (append-nil (outcome_words (Outcome.spent t))) p

    by_tests : (c : Circuit) → load 8192 q.file ≡ gives c → Printed (searched c q.b q.k q.D 8192 2048)
    unfolding searched
    by_tests c l = go (judge (search_tests c q.b q.k q.D 8192 2048)) refl
      where
        o : Outcome
        o = outcome_chosen c q.b q.k q.D

        go : (a : Answer (Unit {0})) → judge (search_tests c q.b q.k q.D 8192 2048) ≡ a
            → Printed (a >> gives (record { circuit = c; b = q.b; outcome = o }))
        go (refused n) t = refusal n (Prints.not_searched h q e c l t)
        go (gives u) t =
            let r = (passed c q.b q.k (budget_right q.D) 8192 (need 13 (leb (witness_length c q.b q.k) 2048) ∷ []) t).0 in
            reported c o (Prints.answers h q e c l t o refl (always-permitted c q.b q.k q.D r.bound))

    by-load : Printed (request_answer q)
    by-load = go (load 8192 q.file) refl
      where
        go : (a : Answer Circuit) → load 8192 q.file ≡ a → Printed (a >>= λ c. searched c q.b q.k q.D 8192 2048)
        go (refused n) l = refusal n (Prints.not_loaded h q e l)
        go (gives c) l = by_tests c l

  by-request : length input ≤ 65536 → (a : Option Request) → request input ≡ a → Printed (read 11 a >>= request_answer)
  by-request h none e = refusal 11 (Prints.no_request h e)
  by-request h (some q) e = by-load h q e

  -- Clauses 8.1 to 8.3: the reply to what a job answers may be printed
  pub job-prints : Printed (job_answer input)
  unfolding job_answer requested
  job-prints = go (leb (length input) 65536) refl
    where
      go : (b : Bool) → leb (length input) 65536 ≡ b → Printed (test 1 b >> read 11 (request input) >>= request_answer)
      go true e = by-request (leb-true (length input) 65536 e) (request input) refl
      go false e = refusal 1 (Prints.too_long (leb-false (length input) 65536 e))
