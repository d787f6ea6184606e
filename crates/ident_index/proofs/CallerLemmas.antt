-- Consequences of the clauses of this crate, for its callers.
use Rattle.std.proofs.Common.{◌≡◌, ℕ, ◌≤◌, inl, inr, Option, Some, None, refl}
use Rattle.std.proofs.Common.{sym, subst, arith}
use Rattle.std.specs.Option.{IfSome, IsSomeAnd}
use Rattle.std.specs.FinMap.{get, insert, empty, get-empty}
use Rattle.pad_model.specs.Stamp.{Stamp}
use Rattle.ident_index.specs.declared.place.BlockEntry.{BlockEntry}
use Rattle.ident_index.specs.Index.{Index, stamp_cmp, Covers, Holds, IsNew, IsBlock, IsSound}
use Rattle.ident_index.proofs.Sound.{get_here, holds_insert}

-- ---- what the index has at a stamp after a change
pub get-insert_same : (m : Index) (k : Stamp) (e : BlockEntry) → get (insert m k e) k ≡ Some e
get-insert_same m k e = get_here m k e

-- ---- when stamps are new, as `add` requires
pub IsNew-empty : (first : Stamp) (len : ℕ) → IsNew empty first len
IsNew-empty first len s covers other h = subst (λ (o : Option BlockEntry). IsSomeAnd o (λ e. Covers other e.len s))
    (get-empty stamp_cmp other) h

-- beside a block that has none of them
pub IsNew-insert : (m : Index) (k : Stamp) (e : BlockEntry) (first : Stamp) (len : ℕ) → IsNew m first len
    → ((s : Stamp) → Covers first len s → Covers k e.len s → ⊥) → IsNew (insert m k e) first len
IsNew-insert m k e first len fresh apart s covers other h = elim (holds_insert m k e other s h) [
  | inl here ↦ apart s covers here.1
  | inr beside ↦ fresh s covers other beside.1
]

pub covers_itself : (m : Index) (first : Stamp) (o : Option BlockEntry) → get m first ≡ o → IfSome o (IsBlock first) →
    (Holds m first first → ⊥) → o ≡ None
covers_itself m first None is block none = refl
covers_itself m first (Some e) is block none =
    let sized = block.sized in
    absurd (none (subst (λ o. IsSomeAnd o (λ x. Covers first x.len first)) (sym is) (refl, omega arith, omega arith)))

-- no block begins where stamps are new
pub get-from_new : (m : Index) (first : Stamp) (len : ℕ) → IsSound m → 1 ≤ len → IsNew m first len → get m first ≡ None
get-from_new m first len sound sized fresh =
    covers_itself m first (get m first) refl (sound.blocks first)
    (λ h. fresh first (refl, omega arith, omega arith) first h)
