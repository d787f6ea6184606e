-- What a batch gives, one operation after the other, and where the operations begin that are missing.
use Rattle.std.proofs.Common.{◌≡◌, ◌≤◌, ◌<◌, ℕ, zero, suc, ◌-◌, min, true, false, eqb, ltb, List, [], ◌∷◌, ◌++◌}
use Rattle.std.proofs.Common.{take, length, filter, slice_get, refl, sym, ap, ◌∙◌}
use Rattle.std.proofs.Common.{arith, append-nil, ap₂, Result, Ok}
use Rattle.std.proofs.lemmas.Bool.{le-ltb, lt-ltb}
use Rattle.std.proofs.lemmas.List.{append_assoc}
use Rattle.pad_model.proofs.Newer.{split}
use Rattle.pad_model.specs.declared.op.Op.{Op}
use Rattle.pad_model.specs.declared.refusal.Refusal.{Refusal}
use Rattle.pad_model.specs.declared.seen.Counted.{Counted}
use Rattle.pad_model.specs.declared.who.Version.{Version}
use Rattle.pad_model.specs.declared.who.Version.TheVariants.{One, Two}
use Rattle.op_log.specs.Log.{is_missing, missing}
use Rattle.pad_core.specs.Batch.{batch_of, fitting, fitting_some, size_of}
use Rattle.pad_core.specs.Exchange.{can_give, can_read, given, pull_batch, readable, told}
use Rattle.pad_core.specs.declared.exchange.TheConstants.{MAX_BATCH, MAX_BATCH_BYTES}
use Rattle.pad_core.specs.declared.reply.PadReply.{PadReply}
use Rattle.pad_core.specs.declared.reply.PadReply.TheVariants as reply

-- what fits after some operations: if there is none yet, the first one in any case
abbrev pub behind : List Op → ℕ → List Op → List Op
behind [] room ops = fitting_some room ops
behind (copy ∷ copies) room ops = fitting room ops

-- what the missing operations that are left give, after the copies so far
abbrev pub rest_of : Version → List Op → ℕ → ℕ → List Op → List Op
rest_of version copies room left ops = readable version (behind copies room (take left ops))

-- nothing is given of nothing
none_behind : (version : Version) (copies : List Op) (room : ℕ) → readable version (behind copies room []) ≡ []
none_behind One [] room = refl
none_behind One (copy ∷ copies) room = refl
none_behind Two [] room = refl
none_behind Two (copy ∷ copies) room = refl

-- nothing is readable of nothing
none_readable : (version : Version) → readable version [] ≡ []
none_readable One = refl
none_readable Two = refl

-- what can be read is read first
first_readable : (version : Version) (op : Op) (ops : List Op) → can_read version op ≡ true → readable version (op ∷ ops)
    ≡ op ∷ readable version ops
first_readable One op ops can = rw can refl
first_readable Two op ops can = refl

-- nothing is read from the first on that cannot be
none_unread : (version : Version) (op : Op) (ops : List Op) → can_read version op ≡ false → readable version (op ∷ ops)
    ≡ []
none_unread One op ops not = rw not refl
none_unread Two op ops not = absurd (cc)

-- nothing more is given where the next missing operation has no room
pub full : (version : Version) (copies : List Op) (room left size : ℕ) (op : Op) (ops : List Op) →
    0 < length copies → size ≡ min (size_of op) 18446744073709551615 → room < size →
    rest_of version copies room left (op ∷ ops) ≡ []
full version copies room zero size op ops some is low = none_behind version copies room
full version [] room (suc n) size op ops some is low = absurd (omega (arith, some))
full version (copy ∷ copies) room (suc n) size op ops some is low =
    let wide : room < size_of op = omega (arith, is, low) in
    rw (lt-ltb room (size_of op) wide) (none_readable version)

-- nothing more is given where the peer cannot read the next missing operation
pub unread : (version : Version) (copies : List Op) (room left : ℕ) (op : Op) (ops : List Op) →
    can_read version op ≡ false → rest_of version copies room left (op ∷ ops) ≡ []
unread version copies room zero op ops not = none_behind version copies room
unread version [] room (suc n) op ops not = none_unread version op _ not
unread version (copy ∷ copies) room (suc n) op ops not =
    split (ltb room (size_of op))
    (λ wide. rw wide (none_readable version))
    (λ fits. rw fits (none_unread version op _ not))

-- the next missing operation is given if it has room, and the rest after it
given_next : (version : Version) (copies : List Op) (room more size then : ℕ) (op : Op) (ops : List Op) →
    (0 < length copies → size ≤ room) → size ≡ min (size_of op) 18446744073709551615 → room ≤ MAX_BATCH_BYTES →
    then ≡ room - size → can_read version op ≡ true →
    (copies ++ op ∷ []) ++ rest_of version (copies ++ op ∷ []) then more ops
    ≡ copies ++ rest_of version copies room (suc more) (op ∷ ops)
given_next version [] room more size then op ops fits is few less can =
    let same : room - size_of op ≡ then = omega (arith, is, few, less) in
    rw same (sym (first_readable version op _ can))
given_next version (copy ∷ copies) room more size then op ops fits is few less can =
    let low : size ≤ room = fits (omega arith) in
    let same : room - size_of op ≡ then = omega (arith, is, few, less) in
    let narrow : size_of op ≤ room = omega (arith, is, few, low) in
    rw (le-ltb room (size_of op) narrow, same)
    (append_assoc (copy ∷ copies) (op ∷ []) _ ∙ ap (λ (xs : List Op). (copy ∷ copies) ++ xs)
    (sym (first_readable version op _ can)))

-- the same, if this many are left
pub taken : (version : Version) (copies new ops rest all : List Op) (room left more size then : ℕ) (op : Op) →
    left ≡ suc more → (0 < length copies → size ≤ room) → size ≡ min (size_of op) 18446744073709551615 →
    room ≤ MAX_BATCH_BYTES → then ≡ room - size → can_read version op ≡ true → ops ≡ op ∷ rest →
    new ≡ copies ++ op ∷ [] → copies ++ rest_of version copies room left ops ≡ all →
    new ++ rest_of version new then more rest ≡ all
taken version copies new ops rest all room left more size then op some fits is few less can there added now =
    ap (λ (xs : List Op). xs ++ rest_of version xs then more rest) added
    ∙ given_next version copies room more size then op rest fits is few less can
    ∙ ap (λ n. copies ++ rest_of version copies room n (op ∷ rest)) (sym some)
    ∙ ap (λ (xs : List Op). copies ++ rest_of version copies room left xs) (sym there) ∙ now

-- the copies are all where no more is given
pub ended : (copies more all : List Op) → copies ++ more ≡ all → more ≡ [] → copies ≡ all
ended copies more all is none =
    sym (append-nil copies) ∙ ap (λ (xs : List Op). copies ++ xs) (sym none) ∙ is

-- a batch can be given where its first operation can
given_batch : (version : Version) (n : ℕ) (ops : List Op) → eqb n 0 ≡ false → can_give version (slice_get ops 0) ≡ true →
    given version (batch_of (take n ops)) ≡ Ok (readable version (batch_of (take n ops)))
given_batch Two n ops some can = refl
given_batch One zero ops some can = absurd (cc)
given_batch One (suc n) [] some can = refl
given_batch One (suc n) (op ∷ ops) some can = rw can refl

-- a batch is given
pub batch_told : (version : Version) (seen : List Counted) (n now : ℕ) (log ops : List Op) → eqb n 0 ≡ false →
    ltb MAX_BATCH n ≡ false → can_give version (slice_get (filter (is_missing seen) log) 0) ≡ true → now ≡ length log →
    ops ≡ readable version (batch_of (missing log seen n)) →
    pull_batch version seen n log ≡ Ok (reply.Pulled now ops)
batch_told version seen n now log ops some few can length_is is =
    rw (some, few) (ap (told (length log)) (given_batch version n (filter (is_missing seen) log) some can)
    ∙ ap₂ (λ (a : ℕ) (b : List Op). (let r : Result PadReply Refusal = Ok (reply.Pulled a b) in r)) (sym length_is) (sym is))
