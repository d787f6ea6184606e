-- What moments are: milliseconds since 1970, from a text.
use Rattle.std.specs.Prelude.{ℕ, ◌/◌, ℤ, pos, negsuc, ◌-ℤ◌, List, Option, Some, None, option_and_then, Result, Ok, Err}
use Rattle.jiff_core.specs.Timestamp.{nanos_of_seconds}
use Rattle.jiff_core.specs.declared.error.Error.{Error}
use Rattle.jiff_fmt.specs.Temporal.{OffsetPiece, PiecesParts, ZonePiece, instant, parse_pieces, parts_nanos, piece_seconds, time_or_midnight}

-- the offset that a text has, in seconds east of UTC; without one it is UTC
abbrev pub seconds_of : Option OffsetPiece → ℤ
seconds_of None = pos 0
seconds_of (Some offset) = piece_seconds offset

-- an instant, if there is one
abbrev pub if_instant : Result ℤ Error → Option ℤ
if_instant (Ok nanos) = Some nanos
if_instant (Err error) = None

-- the instant, in nanoseconds since 1970, at which a clock with a text's offset shows its date and time, or midnight
abbrev pub instant_with : PiecesParts → Option ℤ
instant_with parts = if_instant (instant (parts_nanos parts.date (time_or_midnight parts.time)
    -ℤ nanos_of_seconds (seconds_of parts.offset)))

-- the whole milliseconds from 1970 to an instant that is not before
abbrev pub millis_of : ℤ → Option ℕ
millis_of (pos nanos) = Some (nanos / 1000000)
millis_of (negsuc before) = None

-- the moment of an instant, unless the text names a time zone, whose rules are not known here
abbrev pub unless_zoned : Option ZonePiece → Option ℤ → Option ℕ
unless_zoned None instant = option_and_then millis_of instant
unless_zoned (Some zone) instant = None

-- the moment that the parts of a text name
abbrev pub moment_with : PiecesParts → Option ℕ
moment_with parts = unless_zoned parts.zone (instant_with parts)

-- the moment that was read, if one was
abbrev pub if_read : Result PiecesParts Error → Option ℕ
if_read (Ok parts) = moment_with parts
if_read (Err error) = None

-- the moment that a text names: a date, which may be followed by a time, and that by an offset
abbrev pub moment_of : List ℕ → Option ℕ
moment_of text = if_read (parse_pieces text)
