-- From the graph of the hit and what the conflict search says of it to the decision on the frame. Assumes nothing.
use mathlib.Core.Path.{◌≡◌, refl, sym, ap, ap₂, ◌∙◌, subst}
use mathlib.Core.List.{List, ◌++◌}
use Prim.Native.Nat.{ℕ, ◌+◌, ◌*◌, ◌^◌, ◌≤◌, ◌<◌, min}
use native.Mathlib.Omega.{arith}
use lib.Dec.{T}
use lib.ListN.{length, get_or-append}
use Rattle.aiger.specs.Bits.{nonzero}
use Rattle.aiger.specs.Circuit.{Circuit}
use Rattle.aiger.specs.Frames.{free_bits, size}
use Rattle.aiger.specs.Search.{reaches}
use Rattle.meaning.proofs.Decisions.{NoneFrom}
use Rattle.enumeration.specs.Frame.{FreeBits}
use Rattle.nodes.specs.Graph.{Pair}
use Rattle.nodes.specs.Store.{pairs_of}
use Rattle.nodes.specs.Edges.{edge_word}
use Rattle.graph.specs.declared.Made.{Made}
use Rattle.graph.specs.Chosen.{Outcome}
use Rattle.unroll.specs.Chosen.{unrolled}
use Rattle.conflicts.specs.declared.Verdict.{Verdict}
use Rattle.conflicts.specs.declared.Verdict.TheVariants.{Found, Clear, Out}
use Rattle.place_solver.specs.From.{solved_from, floor_from, SolvedFrom}
use Rattle.decision.specs.Reach.{effort}
use Rattle.decision.specs.Decided.{Prepared}
use Rattle.place_decision.specs.Reach.{searched_from, floor_of, reach_from}
use Rattle.place_decision.specs.Decided.{DecidedFrom, number_of}
use Rattle.place_decision.specs.declared.PlaceFrame.{PlaceFrame}
use Rattle.place_decision.specs.declared.PlaceFrame.TheVariants as P
use Rattle.place_decision.proofs.Numbers.{number_is}
use Rattle.place_decision.proofs.Choosing.{as-hit, as-clear, reach-found, reach-clear}

module _ {c : Circuit} {b t : ℕ} {work : List ℕ} {made : Made} (u : Prepared c b t work made) (lo D : ℕ) (long : length work ≡ 16 * size c t) (e : ℕ)
    (q : e ≡ effort (size c t) D) (after : List ℕ) where
  abbrev n : ℕ
  n = made.graph.free

  abbrev gs : List Pair
  gs = pairs_of work made.graph

  abbrev root : ℕ
  root = edge_word made.edge

  searched-is : solved_from n gs root (length work) lo e ≡ searched_from c b t lo D
  unfolding searched_from
  searched-is =
      ap₂ (λ (m : ℕ) (o : Outcome). solved_from m o.gates o.edge (length work) lo e) u.free (sym u.chosen)
      ∙ ap₂ (λ (w f : ℕ). solved_from (free_bits c t) (unrolled c b t).gates (unrolled c b t).edge w lo f) long q

  floor-is : floor_from n gs root (length work) lo e ≡ floor_of c b t lo D
  unfolding floor_of
  floor-is =
      ap₂ (λ (m : ℕ) (o : Outcome). floor_from m o.gates o.edge (length work) lo e) u.free (sym u.chosen)
      ∙ ap₂ (λ (w f : ℕ). floor_from (free_bits c t) (unrolled c b t).gates (unrolled c b t).edge w lo f) long q

  power : 2 ^ made.graph.free ≡ 2 ^ free_bits c t
  power = ap (λ (m : ℕ). 2 ^ m) u.free

  pub solved-hit : SolvedFrom n gs root lo work e after Found → DecidedFrom c b t lo D after P.Hit
  solved-hit f =
      let x = f.1.0 in
      let h = f.1.1 in
      let r = reach-found c b t lo D (sym searched-is ∙ f.0) in
      let k : x < 2 ^ free_bits c t = omega (arith, h.place, power) in
      as-hit c b t lo D after x
      (record {
        from = h.from;
        fits = k;
        first = λ y a l s. h.first y a l (subst T (sym (u.hit y (omega arith))) s);
        hit = subst T (u.hit x k) h.true-there;
      }) (omega (arith, r)) (subst (λ (m : ℕ). FreeBits m x after) u.free h.bits)

  pub solved-clear : {used : ℕ} → SolvedFrom n gs root lo work e after (Clear used) → DecidedFrom c b t lo D after P.Clear
  solved-clear f =
      let r = reach-clear c b t lo D (sym searched-is ∙ f.0) in
      as-clear c b t lo D after (λ y a h w. f.1 y a (omega (arith, power)) (subst T (sym (u.hit y h)) w)) (omega (arith, r))

  -- the search is given up: its floor is a place, none from the starting place up to it hits, and the words begin with its free bits
  pub record Left : Type 0 where
    pub out : searched_from c b t lo D ≡ Out
    pub none : NoneFrom (reaches c b t) lo (floor_of c b t lo D)
    pub inside : floor_of c b t lo D < 2 ^ free_bits c t
    pub number : number_of after made.graph.free ≡ floor_of c b t lo D

  pub solved-out : SolvedFrom n gs root lo work e after Out → Left
  solved-out f =
      let l = f.1 in
      record {
        out = sym searched-is ∙ f.0;
        none = λ x a h w. l.none x a (omega (arith, floor-is)) (subst T (sym (u.hit x (omega (arith, l.place, floor-is, power)))) w);
        inside = omega (arith, l.place, floor-is, power);
        number = number_is after made.graph.free (floor_from n gs root (length work) lo e) l.place l.bits ∙ floor-is;
      }

-- the frame's words are the first ones of working memory
pub part-decided : (c : Circuit) (b t lo D : ℕ) (part rest : List ℕ) (r : PlaceFrame) → free_bits c t ≤ length part → DecidedFrom c b t lo D part r
    → DecidedFrom c b t lo D (part ++ rest) r
part-decided c b t lo D part rest P.Hit l f =
    record {
      chose = (f.chose.0, f.chose.1, λ j h. ap nonzero (get_or-append part rest 0 j (omega arith)) ∙ f.chose.2 j h);
      allowed = f.allowed;
    }
part-decided c b t lo D part rest P.Clear l f = record { chose = f.chose; allowed = f.allowed }
part-decided c b t lo D part rest (P.Spent R) l f = record { chose = f.chose; allowed = f.allowed }
