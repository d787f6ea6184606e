-- Who is present on a pad, and where their carets are.
use Rattle.std.specs.Prelude.{ℕ, ◌+◌, nat_lt, if◌then◌else◌, List, length, map, Option, Some, None, option_map, Result, Ok, Err}
use Rattle.std.specs.List.{last_or}
use Rattle.pad_model.specs.Operation.{characters_in}
use Rattle.pad_model.specs.Visible.{visible, caret_of}
use Rattle.op_log.specs.Made.{Made}
use Rattle.op_log.specs.Makers.{made_in}
use Rattle.pad_model.specs.declared.op.Op.{Op}
use Rattle.pad_model.specs.declared.refusal.Refusal.{Refusal}
use Rattle.pad_model.specs.declared.refusal.Refusal.TheVariants.{NoRevision, OutOfRange}
use Rattle.presence.specs.Presence.{Presence, is_joined_by, join_refusal, joined, left, rejoin_refusal, with_caret, without}
use Rattle.presence.specs.declared.presence.Visit.{Visit}
use Rattle.pad_core.specs.Counts.{characters_at}
use Rattle.pad_core.specs.Edits.{before_place}
use Rattle.pad_core.specs.declared.reply.Present.{Present}
use Rattle.pad_core.specs.declared.reply.PadReply.{PadReply}
use Rattle.pad_core.specs.declared.reply.PadReply.TheVariants.{Joined, Rejoined, Done, Who}

-- one more visit
abbrev pub join : ℕ → List ℕ → Presence → Result PadReply Refusal × Presence
join now author p = unless_refused (join_refusal p)
  where
    unless_refused : Option Refusal → Result PadReply Refusal × Presence
    unless_refused (Some refusal) = (Err refusal, p)
    unless_refused None = (Ok (Joined now (p.given + 1)), joined author p)

-- one more visit instead of an old one of the author, which ends if it has not ended yet: the answer tells how many
-- operations the old one made, and the last of them
abbrev pub rejoin : ℕ → List ℕ → List Op → Made → Presence → Result PadReply Refusal × Presence
rejoin old author log made p = unless_refused (rejoin_refusal old author p)
  where
    unless_refused : Option Refusal → Result PadReply Refusal × Presence
    unless_refused (Some refusal) = (Err refusal, p)
    unless_refused None =
        let ops = made_in old log made.visits in (
          Ok (Rejoined (length log) (p.given + 1) (length ops) (option_map (λ op. op.name) (last_or None ops))),
          joined author (without old p),
        )

-- the end of a visit
abbrev pub leave : ℕ → ℕ → Presence → Result PadReply Refusal × Presence
leave now visit p = (Ok (Done now), record p { present = left visit p.present })

-- the end of a visit if it is present and this author's, and otherwise nothing
abbrev pub departed : List ℕ → ℕ → Presence → Presence
departed author visit p = if is_joined_by visit author p.present
    then record p { present = left visit p.present } else p

-- the caret of a visit, after the character before a place of a revision
abbrev pub put_caret : ℕ → ℕ → ℕ → List Op → Presence → Result PadReply Refusal × Presence
put_caret rev at visit log p =
    if nat_lt (length log) rev then (Err NoRevision, p)
    else if nat_lt (length (visible (characters_at rev log))) at then (Err OutOfRange, p)
    else (
      Ok (Done (length log)),
      record p
          { present = with_caret (before_place (characters_at rev log) at) visit p.present },
    )

-- a visit as it is shown: its caret is at a place of the present text
abbrev pub shown_visit : ℕ → List Op → Visit → Present
shown_visit own log visit = record {
  visit = visit.number;
  author = record { name = visit.author; origin = own };
  caret = caret_of (characters_in log) visit.caret;
}

-- the visits, in order of joining
abbrev pub read_who : ℕ → List Op → Presence → Result PadReply Refusal
read_who own log p = Ok (Who (length log) (map (shown_visit own log) p.present))
