-- `panel_join::join_new` meets its contract. Assumes nothing.
use mathlib.Core.Path.{sym, ap}
use Prim.Native.Nat.{ℕ}
use native.Mathlib.Omega.{arith}
use lib.ListN.{length-replicate}
use Rattle.aiger.specs.Load.{refused, gives}
use Rattle.load.specs.Answers.{answered}
use Rattle.panel_join.specs.Joins.{NewJoined}
use Rattle.panel_join.proofs.Loading.{load-refused, load-accepted}
use borrow.Author.Rules.{rules}
use Rattle.panel_join.proofs.join_new.Statement.{statement}
use Rattle.panel_join.proofs.join_new.Tie as tie

slice-aggregate-load : tie.Need-slice_bounds-load-end
slice-aggregate-load c = sym (length-replicate {A = ℕ} 33032 0)

returns : tie.Need-returns-in-Refused
returns c =
    record {
      answer = refused _;
      permitted = NewJoined.refuses
          (load-refused (length-replicate {A = ℕ} 33032 0) (ap answered c.in-Refused.is) c.load.ensures);
      line-is = c.refuse.ensures.0;
      out-is = c.refuse.ensures.1;
      inside = omega (arith, c.refuse.ensures.1);
    }

returns-2 : tie.Need-returns-in-Loaded
returns-2 c =
    let p = c.join_loaded.ensures in
    let a = load-accepted (length-replicate {A = ℕ} 33032 0) (ap answered c.in-Loaded.is)
    c.load.ensures in
    record {
      answer = p.answer;
      permitted = NewJoined.joins a.loads a.holds p.permitted;
      line-is = p.line-is;
      out-is = p.out-is;
      inside = p.inside;
    }

pub join_new_spec : {M : Type 1} → statement M
join_new_spec =
    tie.close
    (tie.spec slice-aggregate-load (λ c κs. search rules) (λ c. search rules) (λ c κs. search rules) (λ c. search rules) (λ c. search rules) (λ c κs. search rules) (λ c. search rules) returns (λ c. search rules) (λ c. search rules) (λ c. search rules) returns-2)
