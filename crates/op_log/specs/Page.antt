-- Items of bytes, one after another.
use Rattle.std.specs.Prelude.{◌≡◌, ℕ, zero, suc, ◌<◌, ◌≤◌, ◌^◌, true, if◌then◌else◌, List, [], ◌∷◌, ◌++◌, length, take, drop, flat_map}
use Rattle.std.specs.Prelude.{Some, None}
use Rattle.std.specs.List.{AllByRecursion}
use Rattle.op_log.specs.Number.{number_bytes, number_at, after_number}
use Rattle.op_log.specs.Items.{Items}
use Rattle.op_log.specs.declared.page.OpPage.TheInside.{Inside}
use Rattle.op_log.specs.declared.page.TheConstants.{PAGE_ITEMS}

-- an item, preceded by its length
abbrev pub framed : List ℕ → List ℕ
framed item = number_bytes (length item) ++ item

-- the item at the start of bytes
abbrev pub item_at : List ℕ → List ℕ
item_at bytes = take (number_at bytes) (after_number bytes)

-- the bytes after that item
abbrev pub behind_item : List ℕ → List ℕ
behind_item bytes = drop (number_at bytes) (after_number bytes)

-- the bytes after the first n items
abbrev pub behind : ℕ → List ℕ → List ℕ
behind zero bytes = bytes
behind (suc n) bytes = behind_item (behind n bytes)

-- the first n items of bytes
unfoldable pub items_of : ℕ → List ℕ → List (List ℕ)
items_of zero bytes = []
items_of (suc n) bytes = item_at bytes ∷ items_of n (behind_item bytes)

-- an item's length fits its type
abbrev pub IsShort : List ℕ → Type 0
IsShort item = length item < 2 ^ 64

-- the items of a page, and the prepared one that follows them, if any
abbrev pub page_shown : Inside → Items
page_shown p = record {
  items = items_of p.count p.bytes.items;
  ready = if p.is_ready then Some (item_at (drop p.end p.bytes.items)) else None;
}

-- the bytes up to an end are the first items, each preceded by its length
pub record Hold (count end : ℕ) (bytes : List ℕ) : Type 0 where
  pub within : end ≤ length bytes
  pub items : take end bytes ≡ flat_map framed (items_of count bytes)
  pub short : AllByRecursion IsShort (items_of count bytes)

-- bytes are one item, preceded by its length
abbrev pub IsFramed : List ℕ → Type 0
IsFramed bytes = (bytes ≡ framed (item_at bytes)) × IsShort (item_at bytes)

-- a page's bytes are its items, followed by the prepared one, if any
pub record IsPage (p : Inside) : Type 0 where
  pub few : p.count ≤ PAGE_ITEMS
  pub hold : Hold p.count p.end p.bytes.items
  pub ready : p.is_ready ≡ true → IsFramed (drop p.end p.bytes.items)
