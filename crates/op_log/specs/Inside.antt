-- What a log keeps, and what is shown of it.
use Rattle.std.specs.Prelude.{◌≡◌, ◌<◌, true, if◌then◌else◌, None, [], map, vec_len}
use Rattle.std.specs.List.{AllByRecursion}
use Rattle.std.specs.Vec.{vec_capacity}
use Rattle.op_log.specs.Log.{Log, is_note, is_unsayable}
use Rattle.op_log.specs.Index.{IsIndex, kept, HasRoom, places_of}
use Rattle.op_log.specs.declared.op_log.OpLog.TheInside.{Inside}

-- the operations, and the one that is ready where there is room for it
abbrev pub shown : Inside → Log
shown l = record {
  operations = l.operations.operations;
  ready = if l.has_room then l.operations.ready else None;
}

-- the next operation fits without memory, whatever it is
pub record IsRoomy (l : Inside) : Type 0 where
  pub tracks : vec_len l.tracks < vec_capacity l.tracks
  pub marks : AllByRecursion HasRoom l.tracks.items
  pub fresh : vec_len l.fresh < vec_capacity l.fresh
  pub notes : vec_len l.notes < vec_capacity l.notes
  pub unsayable : vec_len l.unsayable < vec_capacity l.unsayable

-- the tracks are the index of the operations, the places are those of some of them, and there is room where it is said
pub record IsSound (l : Inside) : Type 0 where
  pub index : IsIndex (map kept l.tracks.items) l.operations.operations
  pub empty : l.fresh.items ≡ []
  pub notes : l.notes.items ≡ places_of is_note 0 l.operations.operations
  pub unsayable : l.unsayable.items ≡ places_of is_unsayable 0 l.operations.operations
  pub room : l.has_room ≡ true → IsRoomy l
