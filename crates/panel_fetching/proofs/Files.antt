-- The files of a request, by how many it names. Assumes nothing.
use mathlib.Core.Path.{◌≡◌, refl, sym, ap, ap₂, ◌∙◌, subst}
use mathlib.Core.Bool.{Bool, true, false, cond, ◌||◌}
use mathlib.Core.List.{List, [], ◌∷◌}
use Prim.Native.Nat.{ℕ, ◌≤◌}
use native.Mathlib.Omega.{arith}
use lib.ListN.{length, take}
use Rattle.input.specs.Contents.{Whole, nothing}
use Rattle.input.proofs.Contents.{unread-whole}
use Rattle.files.specs.Reading.{name_of}
use Rattle.files.specs.declared.NamedFile.{NamedFile}
use Rattle.panel_lines.specs.Grammar.{parse}
use Rattle.panel_names.specs.Naming.{named_by}
use Rattle.panel_fetching.specs.Fetching.{is_lost, FromReads, Fetches}
use Rattle.panel_fetching.specs.declared.Fetched.{Fetched}

module _ {request : List ℕ} {f : Fetched} where
  pub fetched-none : [] ≡ named_by (parse request) → f.old.content ≡ nothing → f.new.content ≡ nothing → f.failed ≡ false → Fetches request f
  fetched-none e a b d =
      record {
        named = subst (λ (ns : List (List ℕ)). FromReads ns f) e (a, b, d);
        old-is = unread-whole a;
        new_is = unread-whole b;
        lacks = λ h. let z : ◌≡◌ {A = ℕ} 0 1 = ap (λ (b : Bool). cond b 1 0) (sym d ∙ h) in absurd (omega (arith, z));
      }

  pub fetched_one : {name : List ℕ} {g : NamedFile} → (name ∷ []) ≡ named_by (parse request) → (name_of g ≡ take 4096 name) × Whole g.content
      → f.old ≡ g → f.new.content ≡ nothing → f.failed ≡ is_lost g → Fetches request f
  fetched_one {name} {g} e a o b d =
      record {
        named = subst (λ (ns : List (List ℕ)). FromReads ns f) e (ap name_of o ∙ a.0, b, d ∙ ap is_lost (sym o));
        old-is = subst (λ (h : NamedFile). Whole h.content) (sym o) a.1;
        new_is = unread-whole b;
        lacks = λ h. let z = ap length e in omega (arith, z);
      }

  pub fetched-two : {old new : List ℕ} {g h : NamedFile} → (old ∷ new ∷ []) ≡ named_by (parse request)
      → (name_of g ≡ take 4096 old) × Whole g.content → (name_of h ≡ take 4096 new) × Whole h.content → f.old ≡ g → f.new ≡ h
      → f.failed ≡ (is_lost g || is_lost h) → Fetches request f
  fetched-two {old} {new} {g} {h} e a b o u d =
      record {
        named = subst (λ (ns : List (List ℕ)). FromReads ns f) e (
          ap name_of o ∙ a.0,
          ap name_of u ∙ b.0,
          d ∙ ap₂ (λ (x y : NamedFile). is_lost x || is_lost y) (sym o) (sym u),
        );
        old-is = subst (λ (x : NamedFile). Whole x.content) (sym o) a.1;
        new_is = subst (λ (x : NamedFile). Whole x.content) (sym u) b.1;
        lacks = λ x. let z = ap length e in omega (arith, z);
      }
