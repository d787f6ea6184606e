-- What two successive writes have written.
use Rattle.std.proofs.Common.{◌≡◌, ℕ, ◌+◌, ◌-◌, ◌≤◌, ◌<◌, Bool, true, false, cond, eqb, ◌&&◌, List, length, take, drop}
use Rattle.std.proofs.Common.{arith, length-drop, Option}
use Rattle.std.proofs.Math.Seq.{take-add}
use Rattle.std.proofs.lemmas.List.{take_all, length-take}
use Rattle.std.proofs.KnownBytes.{Appends-trans}
use Rattle.std.specs.Io.KnownBytes.{Appends}

pub written_more : (bytes : List ℕ) (place count : ℕ) (a b c : Option (List ℕ)) → Appends a b (take place bytes)
    → Appends b c (take count (take (length bytes - place) (drop place bytes))) →
    Appends a c (take (place + count) bytes)
written_more bytes place count a b c front more =
    let all : take (length bytes - place) (drop place bytes) ≡ drop place bytes = take_all (length bytes - place)
    (drop place bytes) (omega (arith, length-drop place bytes)) in
    rw (take-add place count bytes) (Appends-trans a b c _ _ front (rw all at more))

-- at most as many as there are
pub written_in : (bytes : List ℕ) (place count : ℕ) → place ≤ length bytes →
    count ≤ length (take (length bytes - place) (drop place bytes)) → place + count ≤ length bytes
written_in bytes place count in_range le =
    omega (arith, length-take (length bytes - place) (drop place bytes), length-drop place bytes)

-- some bytes were taken, so the write did not fail
pub took_some : (count : ℕ) (given : Bool) (failed stays : ℕ) → 0 < count → cond (eqb count 0 && given) failed stays
    ≡ stays
took_some count true failed stays lt = grind arith
took_some count false failed stays lt = grind arith
