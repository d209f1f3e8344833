-- What was read of the files that a request names. Assumes nothing.
use Rattle.std.specs.Prelude.{◌≡◌, Bool, true, false, ◌||◌, List, [], ◌∷◌, ℕ, ◌≤◌, length, take}
use Rattle.input.specs.Reading.{is_failure}
use Rattle.input.specs.Contents.{Whole, nothing}
use Rattle.files.specs.Reading.{name_of}
use Rattle.files.specs.declared.NamedFile.{NamedFile}
use Rattle.panel_lines.specs.Grammar.{parse}
use Rattle.panel_names.specs.Naming.{named_by}
use Rattle.panel_fetching.specs.declared.Fetched.{Fetched}

-- a file could not be read
abbrev pub is_lost : NamedFile → Bool
is_lost f = is_failure f.content.last.given

-- the files of these names: each was read by its name, and whether one could not be read. No file has a name of 4,096 bytes or more
abbrev pub FromReads : List (List ℕ) → Fetched → Type 0
FromReads [] r = (r.old.content ≡ nothing) × (r.new.content ≡ nothing) × (r.failed ≡ false)
FromReads (a ∷ []) r = (name_of r.old ≡ take 4096 a) × (r.new.content ≡ nothing) × (r.failed ≡ is_lost r.old)
FromReads (a ∷ b ∷ more) r =
    (name_of r.old ≡ take 4096 a) × (name_of r.new ≡ take 4096 b) × (r.failed ≡ (is_lost r.old || is_lost r.new))

-- the files that were read are those that the request names, each whole. Where one could not be read, there is one
pub record Fetches (request : List ℕ) (r : Fetched) : Type 0 where
  pub named : FromReads (named_by (parse request)) r
  pub old-is : Whole r.old.content
  pub new_is : Whole r.new.content
  pub lacks : r.failed ≡ true → 1 ≤ length (named_by (parse request))
