-- Clause 12.17: which contents mean a search. Assumes nothing.
use mathlib.Core.Path.{◌≡◌, refl}
use Prim.Native.Nat.{ℕ}
use Rattle.benches.specs.declared.Entry.{Entry}
use Rattle.benches.specs.Bench.{no_entry}
use Rattle.bench_bytes.specs.Bytes.{meant}

abbrev entry : ℕ → ℕ → ℕ → ℕ → ℕ → Entry
entry stage k budget frame place = record { stage = stage; b = 2; k = k; budget = budget; frame = frame; place = place }

-- contents that are no search: stages 0 and 4, a bound of 256, a frame above the bound, a budget above 2 to the 32
pub dirt : (meant (entry 0 5 9 3 70) ≡ no_entry) × (meant (entry 4 5 9 3 70) ≡ no_entry) × (meant (entry 1 256 9 3 70) ≡ no_entry)
    × (meant (entry 1 5 9 6 70) ≡ no_entry) × (meant (entry 1 5 4294967297 3 70) ≡ no_entry)
    × (meant (entry 3 255 4294967296 255 18446744073709551615) ≡ entry 3 255 4294967296 255 18446744073709551615)
dirt = (refl, refl, refl, refl, refl, refl)
