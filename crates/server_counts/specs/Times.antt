-- The bucket of a time, and how many times there are.
use Rattle.std.specs.Prelude.{ℕ, nat_le, if◌then◌else◌, ◌-◌, List, length, Option, Some, None, slice_get}
use Rattle.server_counts.specs.declared.histogram.Bucket.{Bucket}

-- the bucket of a time in microseconds: that of the first bound that it does not exceed, or the last one, which has none
abbrev pub place_of : ℕ → ℕ
place_of micros =
    if nat_le micros 500 then 0
    else if nat_le micros 1000 then 1
    else if nat_le micros 2500 then 2
    else if nat_le micros 5000 then 3
    else if nat_le micros 10000 then 4
    else if nat_le micros 25000 then 5
    else if nat_le micros 50000 then 6
    else if nat_le micros 100000 then 7
    else if nat_le micros 250000 then 8
    else if nat_le micros 500000 then 9
    else if nat_le micros 1000000 then 10
    else if nat_le micros 2500000 then 11
    else 12

-- how many times a bucket counts, and those before it; 0 without one
abbrev pub upto_of : Option Bucket → ℕ
upto_of None = 0
upto_of (Some bucket) = bucket.upto

-- how many times there are: the last bucket counts all
abbrev pub count_of : List Bucket → ℕ
count_of buckets = upto_of (slice_get buckets (length buckets - 1))
