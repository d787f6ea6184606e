-- The instant that the parts of a text name.
use Rattle.std.proofs.Common.{◌≡◌, subst, ℤ, pos, neg_ℤ, ◌-ℤ◌, int_lt, ◌||◌, Some, None, arith}
use Rattle.std.proofs.lemmas.Int.{ints}
use Rattle.jiff_core.specs.DateTime.{civil_nanos}
use Rattle.jiff_core.specs.Timestamp.{IsTimestampNanos, nanos_of_seconds}
use Rattle.jiff_core.specs.declared.civil.date.Date.{Date}
use Rattle.jiff_core.specs.declared.civil.datetime.DateTime.{DateTime}
use Rattle.jiff_core.specs.declared.civil.time.Time.{Time}
use Rattle.jiff_fmt.proofs.Cases.{by_bool}
use Rattle.jiff_fmt.proofs.TemporalLemmas.{instant-ok}
use Rattle.jiff_fmt.specs.Temporal.{TimeParts, date_parts, instant, parts_nanos, time_parts}
use Rattle.pad_store.specs.Moments.{if_instant}

-- a clock that shows these parts shows this date and time
pub same_nanos : (dt : DateTime) (date : Date) (time : Time) (parts : TimeParts) (shown seconds : ℤ) → dt.date ≡ date →
    dt.time ≡ time → time_parts time ≡ parts → shown ≡ seconds →
    civil_nanos dt -ℤ nanos_of_seconds shown ≡ parts_nanos (date_parts date) parts -ℤ nanos_of_seconds seconds
unfolding civil_nanos
same_nanos dt date time parts shown seconds on at is east = rw (← east, ← is, ← at, ← on)

-- an instant within the range of a timestamp is found
pub found : (nanos n m : ℤ) → IsTimestampNanos n → nanos ≡ n → n ≡ m → Some nanos ≡ if_instant (instant m)
found nanos n m range is same =
    subst (λ (x : ℤ). Some nanos ≡ if_instant (instant x)) same (rw (instant-ok n range, is))

-- and no other
pub not_found : (n m : ℤ) → (IsTimestampNanos n → ⊥) → n ≡ m → None ≡ if_instant (instant m)
not_found n m outside same = subst (λ (x : ℤ). None ≡ if_instant (instant x)) same
    (by_bool (int_lt n (neg_ℤ (pos 377_705_023_201_000_000_000)) || int_lt (pos 253_402_207_200_999_999_999) n)
    (λ beyond. rw beyond)
    (λ inside. absurd (outside (grind (arith, ints, inside)))))
