-- What reading the first line of the input answers. Assumes nothing.
use Rattle.std.specs.Prelude.{◌≡◌, List, ℕ, ◌≤◌, length, get_or, drop}
use Rattle.std.proofs.Math.Option.{none, some}
use Rattle.aiger.specs.Program.{Request, request}
use Rattle.job.specs.declared.Query.{Query}
use Rattle.job.specs.declared.FirstLine.{FirstLine}
use Rattle.job.specs.declared.FirstLine.TheVariants.{Search, Malformed}

-- the three numbers of a line, and where the file begins
abbrev pub query_of : List ℕ → ℕ → Query
query_of list file = record { b = get_or list 0 0; k = get_or list 1 0; d = get_or list 2 0; file = file }

abbrev pub request_of : List ℕ → Query → Request
request_of input q = record { b = q.b; k = q.k; D = q.d; file = drop q.file input }

-- r is what the first line says
abbrev pub FirstLineIs : List ℕ → FirstLine → Type 0
FirstLineIs input (Search q) = (request input ≡ some (request_of input q)) × (q.file ≤ length input)
FirstLineIs input Malformed = request input ≡ none
