-- Items of bytes in pages.
use Rattle.std.specs.Prelude.{◌≡◌, ◌+◌, ◌<◌, ◌^◌, true, is_some, ◌++◌, length, flat_map, vec_len}
use Rattle.std.specs.Vec.{vec_capacity}
use Rattle.op_log.specs.Items.{Items}
use Rattle.op_log.specs.Page.{items_of}
use Rattle.op_log.specs.declared.page.TheConstants.{PAGE_ITEMS}
use Rattle.op_log.specs.declared.shelf.Shelf.TheInside.{Inside}

-- the items of the full pages and those of the last one
abbrev pub shelf_shown : Inside → Items
shelf_shown s = record {
  items = flat_map (λ page. items_of PAGE_ITEMS page.items) s.full.items ++ s.last.items;
  ready = s.last.ready;
}

-- the last page is not full, the items are counted, and where one is ready there is room for it
pub record IsShelf (s : Inside) : Type 0 where
  pub last : length s.last.items < PAGE_ITEMS
  pub count : s.count ≡ length (flat_map (λ page. items_of PAGE_ITEMS page.items) s.full.items
      ++ s.last.items)
  pub room : is_some s.last.ready ≡ true → vec_len s.full < vec_capacity s.full
  pub countable : is_some s.last.ready ≡ true → s.count + 1 < 2 ^ 64
