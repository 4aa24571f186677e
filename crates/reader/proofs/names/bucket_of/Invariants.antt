-- The bytes that are left take the bucket so far to the word's.
use Rattle.std.proofs.Common.{◌≡◌, ◌<◌, drop}
use Rattle.reader.specs.Code.Index.{bucket_count, bucket_from, bucket_of}
use Rattle.reader.proofs.names.bucket_of.Given as goal

abbrev pub invariant-loop-b : goal.invariant-loop-b
invariant-loop-b l =
    (l.bucket < bucket_count) × (bucket_from l.bucket (drop l.b-index l.word) ≡ bucket_of l.word)
