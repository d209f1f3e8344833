-- `place_decision::tell` meets its contract. Assumes nothing.
use mathlib.Core.Path.{◌≡◌, sym, ap, ◌∙◌}
use Prim.Native.Nat.{min}
use Rattle.aiger.specs.Search.{greatest}
use Rattle.enumeration.specs.declared.Frame.{Frame}
use Rattle.place_decision.specs.Decided.{told_of}
use Rattle.place_decision.specs.declared.PlaceFrame.TheVariants as P
use borrow.Author.Rules.{rules}
use Rattle.place_decision.proofs.tell.Statement.{statement}
use Rattle.place_decision.proofs.tell.Tie as tie

returns-3 : tie.Need-returns-in-Spent
returns-3 c = ap P.Spent c.capped.ensures ∙ ap (λ (f : Frame). told_of f (min greatest c.args.end)) (sym c.in-Spent.is)

pub tell_spec : {M : Type 1} → statement M
tell_spec =
    tie.close
    (tie.spec (λ c. search rules) (λ c. search rules) (λ c. search rules) (λ c κs. search rules) (λ c. search rules) (λ c. search rules) returns-3)
