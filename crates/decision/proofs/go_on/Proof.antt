-- `decision::go_on` meets its contract. Assumes nothing.
use mathlib.Core.Path.{◌≡◌, subst}
use Prim.Native.Nat.{ℕ, ◌≤◌, ◌<◌, max}
use native.Mathlib.Omega.{arith}
use Rattle.aiger.specs.Frames.{free_bit}
use Rattle.enumeration.specs.Frame.{FreeBits}
use Rattle.enumeration.specs.declared.Frame.{Frame}
use Rattle.nodes.specs.Store.{pairs_of}
use Rattle.nodes.specs.Edges.{edge_word}
use Rattle.cone.specs.Cone.{in_cone}
use Rattle.support.specs.Counting.{spread}
use Rattle.support.specs.Support.{support}
use Rattle.resume.specs.Resume.{before, Spread}
use Rattle.decision.specs.Decided.{Scanned}
use Rattle.decision.proofs.Resuming.{stop-floor, stop-tried, place_is, spread-is, scannable-from, bits-copied}
use borrow.Author.Rules.{rules}
use Rattle.decision.proofs.go_on.Statement.{statement}
use Rattle.decision.proofs.go_on.Tie as tie
use Rattle.decision.proofs.go_on.Reads as reads
use Rattle.decision.proofs.go_on.Lts as lts
use Rattle.decision.proofs.places.Reads as places-reads
use Rattle.decision.proofs.scan.Reads as scan-reads
use Rattle.resume.proofs.copy_bits.Reads as copy-bits-reads
use Rattle.resume.proofs.place_of.Reads as place-of-reads
use Rattle.resume.proofs.spread_bits.Reads as spread-bits-reads

-- what the scan says is the variant that the match found
told : (n : tie.After-scan) (r : Frame) → n.scan.result ≡ r
    → let a = n.args in Scanned a.g.free (pairs_of a.work.now a.g) (edge_word a.root) (max a.d 16384) n.scan.new.work r
told n r e =
    let a = n.args in
    subst (Scanned a.g.free (pairs_of a.work.now a.g) (edge_word a.root) (max a.d 16384) n.scan.new.work) e n.scan.ensures

returns : tie.Need-returns-then-y-from
returns c = λ x left.
    let a = c.args in
    let gs = pairs_of a.work.now a.g in
    let root = edge_word a.root in
    let p = place_is c.requires.net x a.bits.now left.bits in
    let h : max a.d 16384 ≤ before (in_cone a.g.free gs root) (free_bit a.g.free x) a.g.free =
    omega (arith, p, c.place_of-from.ensures, c.places-y.ensures, c.if-y-from.true) in
    stop-floor a.g.free gs root (max a.d 16384) x h left c.copy_bits.new.to
    (bits-copied a.g.free x a.bits.now c.copy_bits.new.to left.bits c.copy_bits.ensures.new)

scan-requires : tie.Need-scan-requires
scan-requires c κs =
    scannable-from c.requires.net c.args.d c.requires.from c.args.bits.now c.place_of-from.result c.requires.budget c.requires.left c.place_of-from.ensures

returns-2 : tie.Need-returns-in-Hit
returns-2 c = λ x left. told c.before.before.before _ c.in-Hit.is

returns-3 : tie.Need-returns-in-Clear
returns-3 c = λ x left. told c.before.before.before _ c.in-Clear.is

returns-4 : tie.Need-returns-in-Spent
returns-4 c = λ x left.
    let a = c.args in
    let n = a.g.free in
    let gs = pairs_of a.work.now a.g in
    let root = edge_word a.root in
    let t = told c.before.before.before.before.before.before.before _ c.in-Spent.is in
    let p = place_is c.requires.net x a.bits.now left.bits in
    let h : before (in_cone n gs root) (free_bit n x) n < max a.d 16384 =
    omega (arith, p, c.place_of-from.ensures, c.places-y.ensures, c.if-y-from.false, c.requires.budget) in
    let f = subst (λ (z : ℕ). FreeBits n (spread (support n gs root) n z) c.spread_bits.new.bits) c.places-y.ensures (spread-is c.requires.net c.places-y.result c.spread_bits.new.bits c.spread_bits.ensures) in
    stop-tried n gs root (max a.d 16384) x h t.0 t.1 c.copy_bits-in-Spent.new.to
    (bits-copied n (spread (support n gs root) n (max a.d 16384)) c.spread_bits.new.bits c.copy_bits-in-Spent.new.to f c.copy_bits-in-Spent.ensures.new)

pub go_on_spec : {M : Type 1} → statement M
go_on_spec =
    tie.close
    (tie.spec (λ c κs. search rules) (λ c κs. search rules) (λ c κs. search rules) (λ c. search rules) (λ c. search rules) returns (λ c κs. search rules) scan-requires (λ c. search rules) (λ c. search rules) (λ c. search rules) (λ c κs. search rules) (λ c. search rules) (λ c. search rules) returns-2 (λ c. search rules) (λ c. search rules) returns-3 (λ c. search rules) (λ c. search rules) returns-4)
