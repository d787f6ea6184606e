-- What a peer is given is no refusal where the first operation that it lacks can be read.
use Rattle.std.proofs.Common.{◌≡◌, ℕ, zero, suc, true, false, eqb, ltb, List, [], ◌∷◌, take, filter}
use Rattle.std.proofs.Common.{slice_get, None, Result, Ok, Err, IsOk, refl}
use Rattle.pad_model.specs.declared.op.Op.{Op}
use Rattle.pad_model.specs.declared.refusal.Refusal.{Refusal}
use Rattle.pad_model.specs.declared.seen.Counted.{Counted}
use Rattle.pad_model.specs.declared.who.Version.{Version}
use Rattle.pad_model.specs.declared.who.Version.TheVariants.{One, Two}
use Rattle.op_log.specs.Log.{is_missing, missing}
use Rattle.pad_core.specs.Exchange.{can_give, given, pull}
use Rattle.pad_core.specs.declared.exchange.TheConstants.{MAX_PULL}

-- the first operations of some can be given where the first one can
given_some : (version : Version) (most : ℕ) (ops : List Op) → eqb most 0 ≡ false → can_give version (slice_get ops 0)
    ≡ true → IsOk (given version (take most ops))
given_some Two most ops some can = refl
given_some One zero ops some can = absurd (cc)
given_some One (suc n) [] some can = refl
given_some One (suc n) (op ∷ ops) some can = rw can refl

told_given : (version : Version) (seen : List Counted) (most : ℕ) (log : List Op) (r : Result (List Op) Refusal) →
    eqb most 0 ≡ false → ltb MAX_PULL most ≡ false → given version (missing log seen most) ≡ r → IsOk r →
    IsOk (pull version seen most None log)
told_given version seen most log (Ok ops) some few is ok = rw (some, few, is) refl
told_given version seen most log (Err refusal) some few is ok = absurd (cc)

-- a pull is answered
pub pull_answered : (version : Version) (seen : List Counted) (most : ℕ) (log : List Op) → eqb most 0 ≡ false →
    ltb MAX_PULL most ≡ false → can_give version (slice_get (filter (is_missing seen) log) 0) ≡ true →
    IsOk (pull version seen most None log)
pull_answered version seen most log some few can =
    told_given version seen most log (given version (missing log seen most)) some few refl
    (given_some version most (filter (is_missing seen) log) some can)
