-- The lines of Prometheus' text form, version 0.0.4.
use Rattle.std.specs.Prelude.{ℕ, List, ◌++◌, codes, decimal, flat_map}
use Rattle.server_counts.specs.declared.family.Family.{Family}
use Rattle.server_counts.specs.declared.family.FamilyKind.{FamilyKind}
use Rattle.server_counts.specs.declared.histogram.Bucket.{Bucket}
use Rattle.server_counts.specs.declared.histogram.TimeCounts.{TimeCounts}
use Rattle.server_counts.specs.declared.refusals.CodeCount.{CodeCount}
use Rattle.server_counts.specs.Families.{help_of, kind_of, kind_text, name_of}
use Rattle.server_counts.specs.Times.{count_of}

-- what the family of this name is: a line with its help, and one with its kind
abbrev pub described : List ℕ → List ℕ → FamilyKind → List ℕ
described name help kind = codes "# HELP vindrughe_" ++ (name ++ (codes " " ++ (help
    ++ (codes "\n# TYPE vindrughe_" ++ (name ++ (codes " " ++ (kind_text kind ++ codes "\n")))))))

-- what a family is
abbrev pub head_text : Family → List ℕ
head_text family = described (name_of family) (help_of family) (kind_of family)

-- a sample without labels
abbrev pub sample_text : List ℕ → ℕ → List ℕ
sample_text name value = codes "vindrughe_" ++ (name ++ (codes " " ++ (decimal value ++ codes "\n")))

-- a family of one sample
abbrev pub one_text : Family → ℕ → List ℕ
one_text family value = head_text family ++ sample_text (name_of family) value

-- the sample of a build
abbrev pub build_sample : List ℕ → List ℕ → List ℕ → List ℕ
build_sample name version proved = codes "vindrughe_" ++ (name ++ (codes "{proved=\"" ++ (proved ++ (codes "\",version=\""
    ++ (version ++ codes "\"} 1\n")))))

-- a family that says which build of the program this is
abbrev pub build_text : Family → List ℕ → List ℕ → List ℕ
build_text family version proved = head_text family ++ build_sample (name_of family) version proved

-- a sample of how often a refusal was answered
abbrev pub code_text : List ℕ → CodeCount → List ℕ
code_text name counted = codes "vindrughe_" ++ (name ++ (codes "{code=\"" ++ (decimal counted.code
    ++ (codes "\"} " ++ (decimal counted.count ++ codes "\n")))))

-- a family of one sample for each number of a refusal
abbrev pub codes_text : Family → List CodeCount → List ℕ
codes_text family counts = head_text family ++ flat_map (code_text (name_of family)) counts

-- a sample of how often something took at most so long
abbrev pub bucket_text : List ℕ → Bucket → List ℕ
bucket_text name bucket = codes "vindrughe_" ++ (name ++ (codes "_bucket{le=\"" ++ (bucket.bound.now
    ++ (codes "\"} " ++ (decimal bucket.upto ++ codes "\n")))))

-- a histogram without its sum and count
abbrev pub bucketed_text : Family → List Bucket → List ℕ
bucketed_text family buckets = head_text family ++ flat_map (bucket_text (name_of family)) buckets

-- the sum of the times in seconds, and how many there are
abbrev pub totals_text : List ℕ → ℕ → ℕ → List ℕ
totals_text name micros count = codes "vindrughe_" ++ (name ++ (codes "_sum " ++ (decimal micros
    ++ (codes "e-6\nvindrughe_" ++ (name ++ (codes "_count " ++ (decimal count ++ codes "\n")))))))

-- a histogram with these buckets, this sum and this count
abbrev pub histogram_text : Family → List Bucket → ℕ → ℕ → List ℕ
histogram_text family buckets micros count = bucketed_text family buckets ++ totals_text (name_of family) micros count

-- a histogram of times in seconds: the buckets, the sum and the count
abbrev pub times_text : Family → TimeCounts → List ℕ
times_text family times = histogram_text family times.buckets.items times.micros (count_of times.buckets.items)
