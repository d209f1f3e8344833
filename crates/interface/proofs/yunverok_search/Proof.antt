-- `interface::yunverok_search` meets its contract. Assumes nothing.
use mathlib.Core.Path.{refl}
use borrow.Author.Rules.{rules}
use Rattle.call_forms.specs.History.{Returned, Step}
use Rattle.search.specs.Chosen.{said}
use Rattle.interface.proofs.yunverok_search.Statement.{statement}
use Rattle.interface.proofs.yunverok_search.Tie as tie

returns : tie.Need-returns
returns c = record { returned = Returned.searched (said c.search.result) c.search.new.out; step = Step.searches c.search.ensures c.search.auto.work; output = refl; tells = c.tell_searched.ensures }

pub yunverok_search_spec : {M : Type 1} → statement M
yunverok_search_spec =
    tie.close
    (tie.spec (λ c κs. search rules) (λ c κs. search rules) (λ c. search rules) (λ c. search rules) (λ c. search rules) returns)
