-- The blocks of a text by their first stamps.
use Rattle.std.specs.Prelude.{◌≡◌, ℕ, ◌+◌, ◌-◌, ◌≤◌, ◌<◌, refl}
use Rattle.std.specs.Option.{IfSome, IsSomeAnd}
use Rattle.std.specs.Ordering.{nat_cmp, ordering_then}
use Rattle.std.specs.declared.cmp.Ordering.{Ordering}
use Rattle.std.specs.Coded.{Coded, code_by, coded×, coded_ℕ}
use Rattle.std.specs.FinMap as map
use Rattle.std.specs.FinMap.{FinMap, get, insert}
use Rattle.pad_model.specs.Stamp.{Stamp, IsInLimits}
use Rattle.pad_model.specs.declared.limits.TheConstants.{MAX_COUNTER}
use Rattle.ident_index.specs.declared.place.BlockEntry.{BlockEntry}
use Rattle.ident_index.specs.declared.place.Place.{Place}

-- by replica, and within a replica by counter
abbrev pub stamp_cmp : Stamp → Stamp → Ordering
stamp_cmp a b = ordering_then (nat_cmp a.replica b.replica) (nat_cmp a.counter b.counter)

-- the length and the label of each block, by its first stamp
abbrev pub Index : Type 0
Index = FinMap stamp_cmp BlockEntry

-- a stamp is stored as its counter and its replica
abbrev pub stamp_code : Coded Stamp
stamp_code = code_by (ℕ × ℕ) (coded× coded_ℕ coded_ℕ) (λ s. (s.counter, s.replica))
    (λ p. record { counter = p.0; replica = p.1 }) (λ _. refl)

-- an entry is stored as its length and its label
abbrev pub entry_code : Coded BlockEntry
entry_code = code_by (ℕ × ℕ) (coded× coded_ℕ coded_ℕ) (λ e. (e.len, e.label))
    (λ p. record { len = p.0; label = p.1 })
    (λ _. refl)

-- an index is stored as its entries in order
abbrev pub index_code : Coded Index
index_code = map.code stamp_code entry_code

-- the stamp that many places after the first
abbrev pub stamp_behind : Stamp → ℕ → Stamp
stamp_behind first places = record first { counter = first.counter + places }

-- the stamp is one of the `len` that begin with the first
abbrev pub Covers : Stamp → ℕ → Stamp → Type 0
Covers first len s = (first.replica ≡ s.replica) × (first.counter ≤ s.counter)
    × (s.counter < first.counter + len)

-- the block with this first stamp is there, and holds the stamp
abbrev pub Holds : Index → Stamp → Stamp → Type 0
Holds m first s = IsSomeAnd (get m first) (λ e. Covers first e.len s)

-- no block holds the stamp
abbrev pub HoldsNone : Index → Stamp → Type 0
HoldsNone m s = (first : Stamp) → Holds m first s → ⊥

-- no block holds any of the `len` stamps that begin with the first
abbrev pub IsNew : Index → Stamp → ℕ → Type 0
IsNew m first len = (s : Stamp) → Covers first len s → HoldsNone m s

-- the block begins within the limits of stamps, has a character, and ends by the greatest counter
pub record IsBlock (first : Stamp) (e : BlockEntry) : Type 0 where
  pub limits : IsInLimits first.counter first.replica
  pub sized : 1 ≤ e.len
  pub ends : first.counter + e.len ≤ MAX_COUNTER + 1

-- each entry is a block, and no stamp is held by two blocks
pub record IsSound (m : Index) : Type 0 where
  pub blocks : (first : Stamp) → IfSome (get m first) (IsBlock first)
  pub apart : (s first other : Stamp) → Holds m first s → Holds m other s → first ≡ other

-- the block at the place holds the stamp, which is the place's offset after its first, and no other block does
pub record IsPlace (m : Index) (s : Stamp) (p : Place) : Type 0 where
  pub stamp : s ≡ stamp_behind p.first p.offset
  pub block : IsSomeAnd (get m p.first) (λ e. (p.offset < e.len) × (p.label ≡ e.label))
  pub only : (other : Stamp) → Holds m other s → other ≡ p.first

-- new is old with the block cut in two at the offset, and its right part under the label
abbrev pub IsCut : Index → Index → Stamp → ℕ → ℕ → Type 0
IsCut old new first offset label =
    IsSomeAnd (get old first) (λ e.
    new ≡ insert (insert old first (record e { len = offset })) (stamp_behind first offset)
    (record { len = e.len - offset; label = label }))

-- new is old with the label of the block changed
abbrev pub IsRelabelled : Index → Index → Stamp → ℕ → Type 0
IsRelabelled old new first label = IsSomeAnd (get old first)
    (λ e. new ≡ insert old first (record e { label = label }))
