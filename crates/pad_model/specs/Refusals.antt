-- The numbers and names of refusals.
use Rattle.std.specs.Prelude.{ℕ, List, codes}
use Rattle.pad_model.specs.declared.refusal.Refusal.{Refusal}
use Rattle.pad_model.specs.declared.refusal.Refusal.TheVariants.{TooLong, NotJson, NotRequest, NoSession, BadToken}
use Rattle.pad_model.specs.declared.refusal.Refusal.TheVariants.{HaveSession, Busy, NoPad, PadExists, NoSlot, BadName}
use Rattle.pad_model.specs.declared.refusal.Refusal.TheVariants.{NotJoined, Joined, Denied, Crowded, VisitsSpent}
use Rattle.pad_model.specs.declared.refusal.Refusal.TheVariants.{OwnerKept, GrantsFull, SeatsGone, SeatsOut, ActorsFull}
use Rattle.pad_model.specs.declared.refusal.Refusal.TheVariants.{NoRevision, OutOfRange, Empty, TooMuch, PadFull}
use Rattle.pad_model.specs.declared.refusal.Refusal.TheVariants.{ClockFull, NoComment, LogFull, CommentsFull, NoVisit, PadClosed, BadOp}
use Rattle.pad_model.specs.declared.refusal.Refusal.TheVariants.{HoldFull, PeerFault, NotPeer, OldPeer, BadStamp}
use Rattle.pad_model.specs.declared.refusal.Refusal.TheVariants.{Memory, StoreFull}

-- the number of a refusal
abbrev pub code_of : Refusal → ℕ
code_of TooLong = 100
code_of NotJson = 101
code_of NotRequest = 102
code_of NoSession = 200
code_of BadToken = 201
code_of HaveSession = 202
code_of Busy = 203
code_of NoPad = 300
code_of PadExists = 301
code_of NoSlot = 302
code_of BadName = 303
code_of NotJoined = 310
code_of Joined = 311
code_of Denied = 312
code_of Crowded = 313
code_of VisitsSpent = 314
code_of OwnerKept = 315
code_of GrantsFull = 316
code_of SeatsGone = 317
code_of SeatsOut = 318
code_of ActorsFull = 319
code_of NoRevision = 320
code_of OutOfRange = 321
code_of Empty = 322
code_of TooMuch = 323
code_of PadFull = 324
code_of ClockFull = 325
code_of NoComment = 326
code_of LogFull = 327
code_of CommentsFull = 328
code_of NoVisit = 329
code_of PadClosed = 330
code_of BadOp = 400
code_of HoldFull = 402
code_of PeerFault = 403
code_of NotPeer = 404
code_of OldPeer = 405
code_of BadStamp = 410
code_of Memory = 900
code_of StoreFull = 901

-- the name of a refusal
abbrev pub name_of : Refusal → List ℕ
name_of TooLong = codes "TooLong"
name_of NotJson = codes "NotJson"
name_of NotRequest = codes "NotRequest"
name_of NoSession = codes "NoSession"
name_of BadToken = codes "BadToken"
name_of HaveSession = codes "HaveSession"
name_of Busy = codes "Busy"
name_of NoPad = codes "NoPad"
name_of PadExists = codes "PadExists"
name_of NoSlot = codes "NoSlot"
name_of BadName = codes "BadName"
name_of NotJoined = codes "NotJoined"
name_of Joined = codes "Joined"
name_of Denied = codes "Denied"
name_of Crowded = codes "Crowded"
name_of VisitsSpent = codes "VisitsSpent"
name_of OwnerKept = codes "OwnerKept"
name_of GrantsFull = codes "GrantsFull"
name_of SeatsGone = codes "SeatsGone"
name_of SeatsOut = codes "SeatsOut"
name_of ActorsFull = codes "ActorsFull"
name_of NoRevision = codes "NoRevision"
name_of OutOfRange = codes "OutOfRange"
name_of Empty = codes "Empty"
name_of TooMuch = codes "TooMuch"
name_of PadFull = codes "PadFull"
name_of ClockFull = codes "ClockFull"
name_of NoComment = codes "NoComment"
name_of LogFull = codes "LogFull"
name_of CommentsFull = codes "CommentsFull"
name_of NoVisit = codes "NoVisit"
name_of PadClosed = codes "PadClosed"
name_of BadOp = codes "BadOp"
name_of HoldFull = codes "HoldFull"
name_of PeerFault = codes "PeerFault"
name_of NotPeer = codes "NotPeer"
name_of OldPeer = codes "OldPeer"
name_of BadStamp = codes "BadStamp"
name_of Memory = codes "Memory"
name_of StoreFull = codes "StoreFull"
