-- `panel::query` meets its contract. Assumes nothing.
use mathlib.Core.Path.{refl}
use native.Mathlib.Omega.{arith}
use Rattle.call_forms.specs.History.{Step}
use borrow.Author.Rules.{rules}
use Rattle.panel.proofs.query.Statement.{statement}
use Rattle.panel.proofs.query.Tie as tie

returns : tie.Need-returns-in-Pin
returns c =
    let p = c.pin.ensures in
    rw c.in-Pin.is (record {
      answer = p.answer;
      permitted = (Step.pins p.permitted, refl);
      line-is = p.line-is;
      out-is = p.out-is;
      inside = omega (arith, p.out-is);
    })

returns-2 : tie.Need-returns-in-Search
returns-2 c =
    let p = c.search.ensures in
    rw c.in-Search.is (record {
      answer = p.answer;
      permitted = Step.searches p.permitted c.search.auto.work;
      line-is = p.line-is;
      out-is = p.out-is;
      inside = p.inside;
    })

returns-3 : tie.Need-returns-in-Fold
returns-3 c =
    let p = c.fold.ensures in
    rw c.in-Fold.is (record {
      answer = p.answer;
      permitted = Step.folds p.permitted c.fold.auto.work;
      line-is = p.line-is;
      out-is = p.out-is;
      inside = p.inside;
    })

returns-4 : tie.Need-returns-in-Write
returns-4 c =
    let p = c.write.ensures in
    rw c.in-Write.is (record {
      answer = p.answer;
      permitted = Step.writes p.permitted;
      line-is = p.line-is;
      out-is = p.out-is;
      inside = p.inside;
    })

returns-5 : tie.Need-returns-in-Generate
returns-5 c =
    let p = c.generate.ensures in
    rw c.in-Generate.is (record {
      answer = p.answer;
      permitted = Step.generates p.permitted;
      line-is = p.line-is;
      out-is = p.out-is;
      inside = p.inside;
    })

returns-6 : tie.Need-returns-in-SearchFrom
returns-6 c =
    let p = c.search_from.ensures in
    rw c.in-SearchFrom.is (record {
      answer = p.answer;
      permitted = Step.searches_from p.permitted c.search_from.auto.work;
      line-is = p.line-is;
      out-is = p.out-is;
      inside = p.inside;
    })

pub query_spec : {M : Type 1} → statement M
query_spec =
    tie.close
    (tie.spec (λ c. search rules) (λ c κs. search rules) (λ c. search rules) (λ c κs. search rules) (λ c. search rules) (λ c κs. search rules) (λ c. search rules) (λ c κs. search rules) (λ c. search rules) (λ c κs. search rules) (λ c. search rules) (λ c κs. search rules) (λ c. search rules) (λ c. search rules) returns (λ c. search rules) (λ c. search rules) (λ c. search rules) (λ c. search rules) returns-2 (λ c. search rules) (λ c. search rules) (λ c. search rules) (λ c. search rules) returns-3 (λ c. search rules) (λ c. search rules) returns-4 (λ c. search rules) (λ c. search rules) returns-5 (λ c. search rules) (λ c. search rules) (λ c. search rules) (λ c. search rules) returns-6)
