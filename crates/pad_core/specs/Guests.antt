-- What the guests of a pad call themselves.
use Rattle.std.specs.Prelude.{ℕ, not, if◌then◌else◌, List, Result, Ok, Err}
use Rattle.guests.specs.Book.{introduce as introduced}
use Rattle.guests.specs.Guests.{is_guest}
use Rattle.guests.specs.declared.guest.Guest.{Guest}
use Rattle.pad_model.specs.declared.refusal.Refusal.{Refusal}
use Rattle.pad_model.specs.declared.refusal.Refusal.TheVariants.{Denied}
use Rattle.pad_core.specs.Grants.{told_done}
use Rattle.pad_core.specs.declared.reply.PadReply.{PadReply}
use Rattle.pad_core.specs.declared.reply.PadReply.TheVariants as reply

-- the guest who asks gets a display name, and the reply says so; any other author is refused
abbrev pub introduce : ℕ → List ℕ → List ℕ → List Guest
    → Result PadReply Refusal × List Guest
introduce now author display all =
    if not (is_guest author) then (Err Denied, all)
    else (let done = introduced (record { author = author; display = display }) all in
    (told_done now done.0, done.1))

-- all guests with a display name, in the order in which they first had one
abbrev pub read_guests : ℕ → List Guest → Result PadReply Refusal
read_guests now all = Ok (reply.Guests now all)
