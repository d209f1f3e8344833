-- Witnesses that may hold `x`: completions, what replay says of them, and widening. Assumes nothing.
use Rattle.std.specs.Prelude.{Bool, true, false, not, cond, ◌&&◌, ◌||◌, List, [], ◌∷◌, ◌++◌, ℕ, zero, suc, ◌-◌, ◌/◌, ◌^◌, ltb, eqb, length, get_or, take, drop, set}
use Rattle.std.proofs.Math.Option.{Option, none, some}
use Rattle.aiger.specs.Lists.{same, tally, every_below}
use Rattle.aiger.specs.Bits.{odd}
use Rattle.aiger.specs.Text.{bytes, token, on_token, ◌>>=◌, ◌>>◌, when}
use Rattle.aiger.specs.Circuit.{Circuit}
use Rattle.aiger.specs.Witness.{read_run, confirms}

-- the lines `1` and `b` with a number, and the bytes after them
unfoldable pub heading : List ℕ → Option (ℕ × List ℕ)
heading w = when (same (take 3 w) (bytes "1\nb")) >> on_token (token (drop 3 w)) (λ b f. none) (λ b f. some (b, f))

-- After line `b` a witness may hold `x`, byte 120, for a bit that may be either.
abbrev pub is_either : ℕ → Bool
is_either c = eqb c 120

-- how many `x` a text holds
abbrev pub eithers : List ℕ → ℕ
eithers w = tally is_either w

-- completion v of a text has for its x number i, counted from 0, the bit i of v
unfoldable pub completion : ℕ → List ℕ → List ℕ
completion v [] = []
completion v (c ∷ w) = cond (is_either c) (cond (odd v) 49 48) c ∷ completion (cond (is_either c) (v / 2) v) w

-- Clause 12.2: the completions of a text of n `x` are the numbers below 2 to the power n: p holds of every one
unfoldable pub all_pass : (List ℕ → Bool) → List ℕ → Bool
all_pass p w = every_below (2 ^ eithers w) (λ v. p (completion v w))

-- p holds of none
unfoldable pub none_passes : (List ℕ → Bool) → List ℕ → Bool
none_passes p w = every_below (2 ^ eithers w) (λ v. not (p (completion v w)))

-- every completion hits; none does; some do and some do not
pub data Verdict : Type 0 where
  all : Verdict
  no : Verdict
  mixed : Verdict

unfoldable pub verdict : (List ℕ → Bool) → List ℕ → Verdict
verdict p w = cond (all_pass p w) all (cond (none_passes p w) no mixed)

-- whether w, the start values and the frames that follow line `b`, is a run that replay confirms
unfoldable pub shows : Circuit → ℕ → List ℕ → Bool
shows c b w = elim (read_run c b w) [ none ↦ false | some x ↦ confirms c x ]

-- a witness that may hold `x`: b, and the bytes after line `b`. It has the form of a witness where its completions have
unfoldable pub read_either : Circuit → List ℕ → Option (ℕ × List ℕ)
read_either c w = heading w >>= λ h. read_run c h.0 (completion 0 h.1) >> some h

-- a byte that is a bit
abbrev pub is_bit : ℕ → Bool
is_bit c = eqb c 48 || eqb c 49

-- `x` in place of bit i, where every completion still passes and the text holds fewer than 16
unfoldable pub widen_at : (List ℕ → Bool) → List ℕ → ℕ → List ℕ
widen_at p w i = cond (is_bit (get_or w i 0) && ltb (eithers w) 16 && all_pass p (set w i 120)) (set w i 120) w

-- the same for the bits below n, from the last to the first
unfoldable pub widen_below : (List ℕ → Bool) → List ℕ → ℕ → List ℕ
widen_below p w zero = w
widen_below p w (suc i) = widen_below p (widen_at p w i) i

-- a text of which not every completion passes stays as it is
unfoldable pub widened : (List ℕ → Bool) → List ℕ → List ℕ
widened p w = cond (all_pass p w) (widen_below p w (length w)) w

-- a witness widened: the two lines in front stay
unfoldable pub widened_text : Circuit → List ℕ → ℕ × List ℕ → List ℕ
widened_text c text h = take (length text - length h.1) text ++ widened (shows c h.0) h.1
