-- Bytes that wait behind some that were taken, and others that are written over them.
use Rattle.std.proofs.Common.{◌≡◌, ℕ, ◌+◌, ◌-◌, ◌≤◌, List, ◌++◌, length, take, drop, slice_range, refl, ap, ◌∙◌, sym, arith}
use Rattle.std.proofs.Common.{length-append, length-drop, length-take-le}
use Rattle.std.proofs.lemmas.List.{take-append-le, take-take, take_at, drop_at, drop-take}
use Rattle.std.proofs.lemmas.Slice.{between_is}
use Rattle.std.specs.List.{refill}

-- all bytes, with these written over those from a place on
abbrev pub written_from : List ℕ → ℕ → List ℕ → List ℕ
written_from held from bytes = refill (length held) held (take from held ++ (bytes ++ drop (length bytes) (drop from held)))

-- of what is written over the end of the bytes nothing is cut but what is too long
written : (held : List ℕ) (from : ℕ) (bytes : List ℕ) → from ≤ length held
    → written_from held from bytes ≡ take (length held) (take from held ++ (bytes ++ drop (length bytes) (drop from held)))
written held from bytes within =
    let rest = bytes ++ drop (length bytes) (drop from held) in
    let all = take from held ++ rest in
    let long : length held ≤ length all = omega (
      arith,
      length-append (take from held) rest,
      length-take-le from held within,
      length-append bytes (drop (length bytes) (drop from held)),
      length-drop (length bytes) (drop from held),
      length-drop from held,
    ) in
    take-append-le (length held) all (drop (length all) held) long

-- the bytes in front stay
front_stays : (held : List ℕ) (from : ℕ) (bytes : List ℕ) → from ≤ length held
    → take from (written_from held from bytes) ≡ take from held
front_stays held from bytes within =
    let rest = bytes ++ drop (length bytes) (drop from held) in
    ap (take from) (written held from bytes within) ∙ take-take from (length held) (take from held ++ rest) within
    ∙ take_at (take from held) rest from (length-take-le from held within)

-- a part of them stays
pub part_stays : (held : List ℕ) (start from : ℕ) (bytes : List ℕ) → from ≤ length held
    → slice_range (written_from held from bytes) start from ≡ slice_range held start from
part_stays held start from bytes within =
    between_is (written_from held from bytes) start from ∙ ap (drop start) (front_stays held from bytes within)
    ∙ sym (between_is held start from)

-- the bytes from the place on are those that were written
pub rest_written : (held : List ℕ) (from : ℕ) (bytes : List ℕ) → from ≤ length held
    → drop from (written_from held from bytes) ≡ refill (length (drop from held)) (drop from held) bytes
rest_written held from bytes within =
    let rest = bytes ++ drop (length bytes) (drop from held) in
    let all : length held ≡ from + (length held - from) = omega arith in
    ap (drop from) (written held from bytes within)
    ∙ ap (λ n. drop from (take n (take from held ++ rest))) all
    ∙ drop-take from (length held - from) (take from held ++ rest)
    ∙ ap (take (length held - from)) (drop_at (take from held) rest from (length-take-le from held within))
    ∙ ap (λ n. take n rest) (sym (length-drop from held))

-- as many bytes as there were take their place
pub all_written : (old bytes : List ℕ) → length bytes ≡ length old → refill (length old) old bytes ≡ bytes
all_written old bytes same =
    ap (λ n. take n (bytes ++ drop (length bytes) old)) (sym same)
    ∙ take_at bytes (drop (length bytes) old) (length bytes) refl
