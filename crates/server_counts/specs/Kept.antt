-- The text of `/kept`.
use Rattle.std.specs.Prelude.{ℕ, Bool, true, false, List, ◌++◌, codes, decimal, Option, Some, None}
use Rattle.server_counts.specs.declared.kept.KeptStandby.{KeptStandby}

-- a truth value in JSON
abbrev pub word_of : Bool → List ℕ
word_of true = codes "true"
word_of false = codes "false"

-- on how many machines what is answered now is kept, and how far the standby is
abbrev pub whole_text : ℕ → KeptStandby → List ℕ
whole_text machines standby = codes "{\"caught_up\":" ++ (word_of standby.has_all ++ (codes ",\"confirm\":\""
    ++ (standby.confirm.now ++ (codes "\",\"lag\":" ++ (decimal standby.lag ++ (codes ",\"machines\":"
    ++ (decimal machines ++ codes "}\n")))))))

-- the same, without what is told of the standby if there is none
abbrev pub kept_text : ℕ → Option KeptStandby → List ℕ
kept_text machines None = codes "{\"machines\":" ++ (decimal machines ++ codes "}\n")
kept_text machines (Some standby) = whole_text machines standby
