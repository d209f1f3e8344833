-- From the parts of the work to what a job leaves. Assumes nothing.
use mathlib.Core.Path.{◌≡◌, sym, ap, ◌∙◌, subst}
use mathlib.Core.List.{List, ◌++◌}
use mathlib.Core.Option.{none, some}
use Prim.Native.Nat.{ℕ, ◌≤◌, ◌<◌}
use borrow.Author.Tests.{le-leb, lt-leb}
use lib.ListN.{length, take}
use Rattle.aiger.specs.Load.{Answer, refused, gives, load, ◌>>=◌}
use Rattle.aiger.specs.Operations.{Loaded}
use Rattle.aiger.specs.Program.{Request, request, refusal_line, Prints}
use Rattle.layout.specs.Words.{circuit_in}
use Rattle.roundtrip.proofs.Holding.{held}
use Rattle.search.specs.Chosen.{outcome_chosen}
use Rattle.replies.specs.Reply.{Fronts}
use Rattle.replies.specs.Loading.{words_after}
use Rattle.replies.specs.declared.Report.{Report}
use Rattle.replies.proofs.Putting.{fronts-inside, fronts-taken}
use Rattle.replies.proofs.Loading.{loaded-words}
use Rattle.job.specs.Job.{requested, accepted, searched, request_answer, job_answer, Result, Replied, Ran}
use Rattle.load_laws.proofs.Stored.{not-loaded, stored}
use Rattle.job.proofs.Printing.{job-prints}
use Rattle.job.proofs.Replying.{refused-replied}
pub use Rattle.roundtrip.proofs.Lists.{take_rest as whole-rest}

-- a request
asked : (input : List ℕ) → length input ≤ 65536 → {q : Request} → request input ≡ some q → requested input ≡ gives q
unfolding requested
asked input h e = rw (le-leb (length input) 65536 h, e)

-- what is lent before the job, and after it
module _ (input m work out line : List ℕ) {r : Report} {line' : List ℕ} where
  -- what a job leaves may be printed, and lies within line and output
  pub all-ensured : {m' work' out' : List ℕ} → Ran input m work out line r m' work' out' line'
      → Ran input m work out line r m' work' out' line'
      × (Prints outcome_chosen input (take r.line line' ++ take r.out out') × ((r.line ≤ length line') × (r.out ≤ length out')))
  all-ensured g =
      let t = g.replied.texts in (
        g,
        (
          rw (fronts-taken t.line-is, fronts-taken t.out-is) (job-prints input),
          (fronts-inside t.line-is, fronts-inside t.out-is),
        ),
      )

  -- no request
  unrequested : {n : ℕ} → requested input ≡ refused n → Fronts (refusal_line n) line r.line line' → r.out ≡ 0
      → Ran input m work out line r m work out line'
  unfolding accepted job_answer
  unrequested {n} e f z =
      record {
        memory = sym (ap (λ (a : Answer Request). words_after m (a >>= λ q. load 8192 q.file)) e);
        replied =
            subst (λ (a : Answer Result). Replied a work out line r work out line')
            (sym (ap (λ (a : Answer Request). a >>= request_answer) e)) (refused-replied n work out f z);
      }

  pub too_long : 65536 < length input → Fronts (refusal_line 1) line r.line line' → r.out ≡ 0
      → Ran input m work out line r m work out line'
  unfolding requested
  too_long h f z = unrequested (rw (lt-leb (length input) 65536 h)) f z

  module _ (h : length input ≤ 65536) where
    pub no-request : request input ≡ none → Fronts (refusal_line 11) line r.line line' → r.out ≡ 0
        → Ran input m work out line r m work out line'
    unfolding requested
    no-request e f z = unrequested (rw (le-leb (length input) 65536 h, e)) f z

    module _ (q : Request) (e : request input ≡ some q) (room : length m ≡ 8192) where
      -- the request is answered as its file is, and load leaves circuit memory
      answered : {a : Answer (List ℕ)} {m' work' out' : List ℕ} → Loaded m q.file a m'
          → Replied (request_answer q) work out line r work' out' line' → Ran input m work out line r m' work' out' line'
      unfolding accepted job_answer
      answered {work' = work'} {out' = out'} l t =
          record {
            memory =
                loaded-words l ∙ ap (λ (n : ℕ). words_after m (load n q.file)) room
                ∙ sym (ap (λ (a : Answer Request). words_after m (a >>= λ x. load 8192 x.file)) (asked input h e));
            replied =
                subst (λ (a : Answer Result). Replied a work out line r work' out' line')
                (sym (ap (λ (a : Answer Request). a >>= request_answer) (asked input h e))) t;
          }

      -- a file that is not loaded
      pub refused-load : {n : ℕ} {m' : List ℕ} {a : Answer (List ℕ)} → Loaded m q.file a m' → a ≡ refused n
          → Fronts (refusal_line n) line r.line line' → r.out ≡ 0 → Ran input m work out line r m' work out line'
      refused-load {n} l i f z =
          let e = subst (λ (k : ℕ). load k q.file ≡ refused n) room (not-loaded l i) in
          answered l (rw e (refused-replied n work out f z))

      -- and one that is
      pub search-ran : {m' work' out' : List ℕ} {a : Answer (List ℕ)} {ns : List ℕ} → Loaded m q.file a m' → a ≡ gives ns
          → length work ≡ 8192 → length out ≡ 2048
          → Replied (searched (circuit_in m') q.b q.k q.D (length work) (length out)) work out line r work' out' line'
          → Ran input m work out line r m' work' out' line'
      search-ran {work' = work'} {out' = out'} l i w o t =
          let s = stored l i in
          let e = subst (λ (k : ℕ). load k q.file ≡ gives s.circuit) room s.accepted in
          answered l (rw e (rw (held s.holds) at (rw (w, o) at t)))
