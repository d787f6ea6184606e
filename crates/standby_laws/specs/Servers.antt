-- A main server and its standby, over the file of one pad, and the events that change them.
use Rattle.std.specs.Prelude.{◌≡◌, ℕ, ◌+◌, ◌≤◌, ◌==◌, max, if◌then◌else◌, List, [], ◌∷◌, ◌++◌, length, take, Contains}
use Rattle.store_format.specs.Laws.{HasSynced, file_of}
use Rattle.file_copies.specs.Laws.{Stretch}

-- the two servers, as far as the file of one pad is concerned
pub record Servers : Type 0 where
  -- the texts whose lines the main server's file has, and the number of its synced bytes
  pub texts : List (List ℕ)
  pub synced : ℕ
  -- the stretches that the main server has sent so far, and the marks that the standby has sent
  pub sent : List Stretch
  pub marks : List ℕ
  -- the bytes that the standby has, in its copy or in its log, and the number of those that are synced
  pub copy : List ℕ
  pub kept : ℕ
  -- the number of bytes that the main server knows to be synced there: replies may have revealed their lines
  pub confirmed : ℕ

-- the two servers before anything was written
abbrev pub beginning : Servers
beginning = record { texts = []; synced = 0; sent = []; marks = []; copy = []; kept = 0; confirmed = 0 }

-- an event at one of the two servers; a stretch or a mark that never arrives is lost
pub data Event : Type 0 where
  -- the main server writes the lines of further texts
  writes : (texts : List (List ℕ)) → Event
  -- a number of its first lines are synced
  syncs : (lines : ℕ) → Event
  -- it sends a stretch of its file
  sends : (stretch : Stretch) → Event
  -- a mark arrives at it
  hears : (mark : ℕ) → Event
  -- it crashes, and starts again with a number of its first lines
  restarts : (lines : ℕ) → Event
  -- a stretch arrives at the standby
  arrives : (stretch : Stretch) → Event
  -- a number of first bytes of the copy are synced
  keeps : (bytes : ℕ) → Event
  -- the standby sends a mark: the number of bytes that it has synced
  says : Event
  -- it crashes, and starts again with a number of first bytes of the copy
  resumes : (bytes : ℕ) → Event

-- a stretch has the bytes of a file from its place on, all of them among the first ones, up to a number
abbrev pub IsWithin : List ℕ → ℕ → Stretch → Type 0
IsWithin file synced stretch =
    (before after : List ℕ) × (file ≡ before ++ (stretch.lines ++ after)) × (length before ≡ stretch.from)
    × (stretch.from + length stretch.lines ≤ synced)

-- a copy after a stretch has arrived: one that begins where the copy ends is taken, and any other one changes nothing
abbrev pub with_stretch : List ℕ → Stretch → List ℕ
with_stretch copy stretch = if stretch.from == length copy then copy ++ stretch.lines else copy

-- the premise of an event: only synced bytes are sent; a stretch or a mark that arrives was sent, and may arrive at any
-- time and any number of times; neither a sync nor a crash takes back synced bytes
abbrev pub MayHappen : Event → Servers → Type 0
MayHappen (writes texts) now = Unit {0}
MayHappen (syncs lines) now = now.synced ≤ length (file_of (take lines now.texts))
MayHappen (sends stretch) now = IsWithin (file_of now.texts) now.synced stretch
MayHappen (hears mark) now = Contains now.marks mark
MayHappen (restarts lines) now =
    HasSynced (record { written = file_of now.texts; synced = now.synced }) now.texts lines
MayHappen (arrives stretch) now = Contains now.sent stretch
MayHappen (keeps bytes) now = (now.kept ≤ bytes) × (bytes ≤ length now.copy)
MayHappen says now = Unit {0}
MayHappen (resumes bytes) now = now.kept ≤ bytes

-- the two servers after an event: a mark that arrives late takes nothing back
abbrev pub after : Event → Servers → Servers
after (writes texts) now = record now { texts = now.texts ++ texts }
after (syncs lines) now = record now { synced = length (file_of (take lines now.texts)) }
after (sends stretch) now = record now { sent = stretch ∷ now.sent }
after (hears mark) now = record now { confirmed = max now.confirmed mark }
after (restarts lines) now = record now { texts = take lines now.texts }
after (arrives stretch) now = record now { copy = with_stretch now.copy stretch }
after (keeps bytes) now = record now { kept = bytes }
after says now = record now { marks = now.kept ∷ now.marks }
after (resumes bytes) now = record now { copy = take bytes now.copy }

-- successive events lead from one state of the two servers to another
abbrev pub Leads : Servers → List Event → Servers → Type 0
Leads old [] new = new ≡ old
Leads old (event ∷ events) new = MayHappen event old × Leads (after event old) events new
