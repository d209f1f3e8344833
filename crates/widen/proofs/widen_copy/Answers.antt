-- `widen::widen_copy` meets its contract. Assumes nothing.
use mathlib.Core.Path.{◌≡◌, ap, ap₂, ◌∙◌}
use mathlib.Core.Bool.{Bool}
use mathlib.Core.List.{List, ◌++◌}
use Prim.Native.Nat.{ℕ, ◌-◌}
use borrow.Rule.Slice.PartMut.{put_mid}
use lib.ListN.{length, get_or, take, drop, length-drop}
use Rattle.aiger.specs.Operations.{front}
use Rattle.completions.specs.Either.{widened}
use Rattle.pinned_runs.specs.Obeys.{pinned_shows}
use Rattle.layout.specs.Words.{circuit_in}
use Rattle.completions.proofs.Widening.{widened-wider}
use Rattle.widen.proofs.Outputs.{body_of, body-put}
use Rattle.widen.proofs.widen_copy.Goals as goal

-- after the copy: the output, and the body in it
pub returns : goal.returns
returns c =
    let a = c.args in
    let p : List ℕ → Bool = pinned_shows (circuit_in a.m.now) (λ i. get_or a.own.now i 2) a.w.q.bad in
    let text : List ℕ = a.text.now in
    let body : List ℕ = drop a.start text in
    let out-is : c.copy_from_slice.new.self ++ drop (length text) a.out.now ≡ front text a.out.now =
    ap (λ (w : List ℕ). w ++ drop (length text) a.out.now) c.copy_from_slice.ensures.after in
    let body_is : take (length text - a.start) (drop a.start (c.copy_from_slice.new.self ++ drop (length text) a.out.now)) ≡ body =
    ap (λ (o : List ℕ). take (length text - a.start) (drop a.start o)) out-is
    ∙ body_of text a.out.now a.start c.requires.start_in_bounds.0 in
    ap₂ (put_mid a.start (length text - a.start)) out-is (c.widen_hits.ensures ∙ ap (widened p) body_is)
    ∙ body-put text a.out.now (widened p body) a.start c.requires.start_in_bounds.0
    ((widened-wider p body).size ∙ length-drop a.start text)
