-- `panel_join::join` meets its contract. Assumes nothing.
use mathlib.Core.Path.{refl, sym, ap, ◌∙◌}
use Prim.Native.Nat.{ℕ}
use native.Mathlib.Omega.{arith}
use lib.ListN.{length-replicate}
use Rattle.aiger.specs.Load.{refused, gives}
use Rattle.load.specs.Answers.{answered}
use Rattle.panel_join.specs.Joins.{FilesJoined}
use Rattle.panel_join.proofs.Loading.{load_told, load-joins}
use borrow.Author.Rules.{rules}
use Rattle.panel_join.proofs.join.Statement.{statement}
use Rattle.panel_join.proofs.join.Tie as tie

slice-aggregate-load : tie.Need-slice_bounds-load-end
slice-aggregate-load c = refl

slice-aggregate-load-2 : tie.Need-slice_bounds-load-end-2
slice-aggregate-load-2 c = sym (length-replicate {A = ℕ} 33032 0)

slice-aggregate-join-new : tie.Need-slice_bounds-join_new-end
slice-aggregate-join-new c = sym (c.load.auto.m ∙ length-replicate {A = ℕ} 33032 0)

returns : tie.Need-returns-in-Refused
returns c =
    record {
      answer = refused _;
      permitted = load_told c.args.user (length-replicate {A = ℕ} 33032 0) (ap answered c.in-Refused.is) c.load.ensures;
      line-is = c.refuse.ensures.0;
      out-is = c.refuse.ensures.1;
      inside = omega (arith, c.refuse.ensures.1);
    }

returns-2 : tie.Need-returns-in-Loaded
returns-2 c =
    let p = c.join_new.ensures in
    let a = load-joins c.args.user (length-replicate {A = ℕ} 33032 0) (ap answered c.in-Loaded.is) c.load.ensures in
    record {
      answer = p.answer;
      permitted = FilesJoined.joins a.0 a.1.loads a.1.holds p.permitted;
      line-is = p.line-is;
      out-is = p.out-is;
      inside = p.inside;
    }

pub join_spec : {M : Type 1} → statement M
join_spec =
    tie.close
    (tie.spec slice-aggregate-load slice-aggregate-load-2 (λ c κs. search rules) (λ c. search rules) (λ c κs. search rules) (λ c. search rules) slice-aggregate-join-new (λ c κs. search rules) (λ c. search rules) returns (λ c. search rules) (λ c. search rules) (λ c. search rules) returns-2)
