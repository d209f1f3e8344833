-- Bit p of the word of a literal. Assumes nothing.
use mathlib.Core.Path.{◌≡◌, refl, ap, ap₂, sym, ◌∙◌}
use mathlib.Core.Bool.{Bool, true, false, not, cond, xor}
use mathlib.Core.List.{List}
use Prim.Native.Nat.{ℕ, zero, suc, ◌*◌, ◌<◌}
use native.Mathlib.Omega.{arith}
use mir.Val.{bool_byte}
use lib.Bits.{bit_xor}
use lib.ListN.{get_or}
use Rattle.aiger.specs.Bits.{nonzero, bit}
use Rattle.aiger.specs.Frames.{value}
use Rattle.words.proofs.Bits.{bit-xor, bit-all, bit-none}
use Rattle.literals.specs.declared.Lit.{Lit}
use Rattle.literals.specs.Literal.{word_of}
use Rattle.literals.proofs.Words.{word-var, word-odd}
use Rattle.frames.specs.Lanes.{lane}

xor-with : (b : Bool) (d : Bool) → xor b d ≡ cond d (not b) b
unfolding xor
xor-with true true = refl
xor-with true false = refl
xor-with false true = refl
xor-with false false = refl

pub bit-fits : (b : Bool) → bool_byte b < 2
bit-fits true = omega arith
bit-fits false = omega arith

-- a word with its sign: the word, or its complement
sign_bit : (x p : ℕ) (b : Bool) → p < 64 → bit (bit_xor x (bool_byte b * 0xffff_ffff_ffff_ffff)) p ≡ cond b (not (bit x p)) (bit x p)
sign_bit x p true l = bit-xor x 0xffff_ffff_ffff_ffff p ∙ ap (xor (bit x p)) (bit-all 64 p l) ∙ xor-with (bit x p) true
sign_bit x p false l = bit-xor x 0 p ∙ ap (xor (bit x p)) (bit-none p) ∙ xor-with (bit x p) false

-- the word of a literal in 64 runs
pub literal-bit : (values : List ℕ) (l : Lit) (p : ℕ) → p < 64
    → bit (bit_xor (get_or values l.0.0 0) (bool_byte l.1 * 0xffff_ffff_ffff_ffff)) p ≡ value (lane values p) (word_of l)
literal-bit values l p h =
    sign_bit (get_or values l.0.0 0) p l.1 h
    ∙ ap₂ (λ (b : Bool) (v : ℕ). cond b (not (lane values p v)) (lane values p v)) (sym (word-odd l)) (sym (word-var l))
