-- Which pads of a store have their files open.
use Rattle.std.specs.Prelude.{◌≡◌, ◌⊎◌, ◌==◌, ◌-◌, ℕ, if◌then◌else◌, Option, Some, None, length, nat_eq, option_map, take, ⊤}
use Rattle.std.specs.Map.{lookup}
use Rattle.lru.specs.LruCache.{LruCache, lru_cache, last_entry, put_entries, displaced}

-- the cells whose files are open, the one that was written last first, and how many there may be
abbrev pub OpenCells : Type 0
OpenCells = LruCache ℕ ⊤

-- the cell whose file is closed, where another one is pushed out of the open ones
abbrev pub closed_for : ℕ → Option (ℕ × ⊤) → Option ℕ
closed_for cell None = None
closed_for cell (Some pushed) = if pushed.0 == cell then None else Some pushed.0

-- the file of a cell is open from now on, and where as many are open as may be, that of the cell that was written longest ago is
-- to be closed; or there is no memory to note a file that was closed, and it is to be closed again
abbrev pub IsNoted : OpenCells → ℕ → Option ℕ → OpenCells → Type 0
IsNoted old cell closed new =
    ((new ≡ lru_cache (put_entries nat_eq old cell tt) old.cap) × (closed ≡ closed_for cell (displaced nat_eq old cell tt)))
    ⊎ ((lookup (nat_eq cell) old.entries ≡ None) × (new ≡ old) × (closed ≡ Some cell))

-- the cell that was written longest ago is taken out of those whose files are open, if there is one
abbrev pub IsTaken : OpenCells → Option ℕ → OpenCells → Type 0
IsTaken old taken new =
    (taken ≡ option_map (λ entry. entry.0) (last_entry old.entries))
    × (new ≡ lru_cache (take (length old.entries - 1) old.entries) old.cap)
