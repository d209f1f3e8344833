-- The bucket is a part of 2^32 times the number of buckets. Assumes nothing.
use mathlib.Core.Path.{ap₂}
use Rattle.pairs.specs.Bucket.{bucket_of}
use Rattle.pairs.proofs.Buckets.{bucket_of-lt}
use Rattle.pairs.proofs.bucket.Goals as goal

pub returns : goal.returns
unfolding bucket_of
returns c = (
  ap₂ (bucket_of c.args.room) c.word.ensures c.word-2.ensures,
  bucket_of-lt c.args.room c.word.result c.word-2.result c.requires.room_nonzero.0,
)
