-- Search and replay agree: what a search leaves for found, taken from its output, is answered all by replay. Assumes nothing.
use mathlib.Core.Path.{◌≡◌, refl, sym, ap, ◌∙◌, subst}
use mathlib.Core.List.{List, [], ◌∷◌, ◌++◌}
use Prim.Native.Nat.{ℕ, ◌≤◌}
use native.Mathlib.Omega.{arith}
use lib.Dec.{T, leb}
use lib.ListN.{length, take, drop}
use lib.Seq.{take_at}
use Rattle.aiger.specs.Circuit.{Circuit}
use Rattle.aiger.specs.Load.{Answer, gives}
use Rattle.aiger.specs.Search.{question, Outcome, Report, first_witness, permitted}
use Rattle.aiger.specs.Witness.{witness_length}
use Rattle.aiger.specs.Memory.{Holds}
use Rattle.aiger.specs.Operations.{need, budget_right, shown_length, shown, Searched}
use Rattle.completions.specs.Either.{Verdict}
use Rattle.completions.specs.Operations.{EitherReplayed}
use Rattle.meaning.proofs.Outcomes.{found-out, first-witness}
use Rattle.roundtrip.proofs.Determined.{acted}
use Rattle.roundtrip.proofs.Witness.{run_length}
use Rattle.limits.proofs.Refusals.{passed}
use Rattle.search.specs.Chosen.{chosen}
use Rattle.replay.proofs.Theorems.{shown-all}

pub found-replayed : {m w out w' out' : List ℕ} {c : Circuit} {b k D t : ℕ} {r : Report} {a : Answer Verdict} → Holds m c → r.outcome ≡ Outcome.found t
    → Searched chosen m b k D w out (gives r) w' out' → EitherReplayed m (take r.length out') a → a ≡ gives Verdict.all
found-replayed {m} {w} {out} {out' = out'} {c = c} {b = b} {k = k} {D = D} {t = t} {r = r} {a = a} h o s y =
    let e = acted h s refl in
    let W = first_witness c b t in
    let p = (passed c b k (budget_right D) (length w) (need 13 (leb (witness_length c b k) (length out)) ∷ []) e.0).0 in
    let may = subst (λ (x : Outcome). T (permitted c b k D x)) o e.1.allowed in
    let f = found-out (question c b) k D t may in
    let n : length W ≡ witness_length c b t = ap length (first-witness c b t f.place f.first) ∙ run_length c b t f.place in
    let l : r.length ≡ witness_length c b t = e.1.measured ∙ ap (shown_length c b) o in
    let there : out' ≡ W ++ drop (length W) out = e.1.shows ∙ ap (λ (x : Outcome). shown c b x out) o in
    let text : take r.length out' ≡ W =
    ap (λ (x : ℕ). take x out') l ∙ ap (take (witness_length c b t)) there ∙ take_at W (drop (length W) out) (witness_length c b t) n in
    shown-all c h b k D t may (omega (arith, p.bound, f.within)) (subst (λ (x : List ℕ). EitherReplayed m x a) text y)
