-- The line, and a prefix of the output. Assumes nothing.
use Rattle.std.proofs.Common.{ℕ, length, sym, ap, ◌∙◌, arith, length-take-le, rules}
use Rattle.panel_session.specs.declared.Response.{Response}
use Rattle.panel_serving.proofs.telling.tell.Statement.{statement}
use Rattle.panel_serving.proofs.telling.tell.Tie as tie

slice-aggregate-print : tie.Need-slice_bounds-print-end
slice-aggregate-print c = sym (length-take-le c.args.response.out c.args.out.now c.requires.1)

print-requires : tie.Need-print-requires
print-requires c κs = c.requires.0

returns : tie.Need-returns
returns c =
    let r = c.args.response in
    c.print.ensures
    ∙ ap (λ (n : ℕ). record { line = r.line; count = r.count; out = n }) (length-take-le r.out c.args.out.now c.requires.1)

pub tell_spec : {M : Type 1} → statement M
tell_spec =
    tie.close
    (tie.spec slice-aggregate-print print-requires returns)
