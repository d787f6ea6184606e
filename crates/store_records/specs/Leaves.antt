-- Which requests may leave records.
use Rattle.std.specs.Prelude.{Bool, true, false}
use Rattle.pad_core.specs.declared.act.Act.{Act}
use Rattle.pad_core.specs.declared.act.Act.TheVariants as act
use Rattle.pad_core.specs.declared.request.Request.{Request}
use Rattle.pad_core.specs.declared.request.Request.TheVariants as request

-- an act may leave records: it counts a visit, changes a right or the owner, closes the pad or opens it again, names a revision or a guest, or makes or
-- takes an operation
abbrev pub is_kept : Act → Bool
is_kept act.Join = true
is_kept (act.Rejoin old) = true
is_kept (act.Grant grantee right) = true
is_kept (act.Hand author) = true
is_kept (act.SetClosed closed) = true
is_kept (act.Mark rev text) = true
is_kept (act.Introduce display) = true
is_kept (act.Insert rev at text) = true
is_kept (act.Delete rev at len) = true
is_kept (act.Edit rev changes) = true
is_kept (act.Comment rev at len text) = true
is_kept (act.Resolve resolved) = true
is_kept (act.Push op) = true
is_kept other = false

-- a request may leave records: it creates a pad, or makes such an act
abbrev pub may_leave : Request → Bool
may_leave (request.Create name) = true
may_leave (request.On name act) = is_kept act
may_leave other = false
