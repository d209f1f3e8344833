-- `panel_files::view` meets its contract. Assumes nothing.
use mathlib.Core.Path.{refl}
use native.Mathlib.Omega.{arith}
use borrow.Author.Rules.{rules}
use Rattle.panel_files.proofs.view.Statement.{statement}
use Rattle.panel_files.proofs.view.Tie as tie

returns : tie.Need-returns-in-Replay
returns c =
    let p = c.replay.ensures in
    rw c.in-Replay.is (record {
      answer = p.answer;
      permitted = (p.permitted, refl);
      line-is = p.line-is;
      out-is = p.out-is;
      inside = omega (arith, p.out-is);
    })

returns-2 : tie.Need-returns-in-Widen
returns-2 c =
    let p = c.widen.ensures in
    rw c.in-Widen.is (record {
      answer = p.answer;
      permitted = p.permitted;
      line-is = p.line-is;
      out-is = p.out-is;
      inside = p.inside;
    })

returns-3 : tie.Need-returns-in-Waveform
returns-3 c =
    let p = c.waveform.ensures in
    rw c.in-Waveform.is (record {
      answer = p.answer;
      permitted = p.permitted;
      line-is = p.line-is;
      out-is = p.out-is;
      inside = p.inside;
    })

pub view_spec : {M : Type 1} → statement M
view_spec =
    tie.close
    (tie.spec (λ c. search rules) (λ c κs. search rules) (λ c. search rules) (λ c κs. search rules) (λ c. search rules) (λ c κs. search rules) (λ c. search rules) returns (λ c. search rules) (λ c. search rules) returns-2 (λ c. search rules) (λ c. search rules) returns-3)
