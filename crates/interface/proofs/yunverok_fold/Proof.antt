-- `interface::yunverok_fold` meets its contract. Assumes nothing.
use mathlib.Core.Path.{refl}
use borrow.Author.Rules.{rules}
use Rattle.call_forms.specs.History.{Returned, Step}
use Rattle.fold.specs.Answer.{answered}
use Rattle.interface.proofs.yunverok_fold.Statement.{statement}
use Rattle.interface.proofs.yunverok_fold.Tie as tie

returns : tie.Need-returns
returns c = record { returned = Returned.folded (answered c.fold.result) c.fold.new.out; step = Step.folds c.fold.ensures c.fold.auto.work; output = refl; tells = c.tell_folded.ensures }

pub yunverok_fold_spec : {M : Type 1} → statement M
yunverok_fold_spec =
    tie.close
    (tie.spec (λ c κs. search rules) (λ c κs. search rules) (λ c. search rules) (λ c. search rules) (λ c. search rules) returns)
