-- What the guests of a pad call themselves.
use Rattle.std.specs.Prelude.{ℕ, ◌==◌, ◌||◌, ◌&&◌, not, nat_lt, nat_le, Bool, if◌then◌else◌, List, [], ◌∷◌, ◌++◌, length, bytes_eq}
use Rattle.std.specs.Prelude.{slice_set, is_some, Option, Some, None, Result, Ok, Err}
use Rattle.std.specs.List.{position}
use Rattle.pad_model.specs.declared.refusal.Refusal.{Refusal}
use Rattle.pad_model.specs.declared.refusal.Refusal.TheVariants.{Empty, TooMuch}
use Rattle.guests.specs.declared.book.TheConstants.{MAX_GUESTS, MAX_GUEST_DISPLAY}
use Rattle.guests.specs.declared.guest.Guest.{Guest}

-- whether a guest has a name
abbrev pub is_called : List ℕ → Guest → Bool
is_called author guest = bytes_eq guest.author author

-- whether there is room for no other guest than those that have a display name
abbrev pub is_full : List ℕ → List Guest → Bool
is_full author all = not (is_some (position (is_called author) all)) && nat_le MAX_GUESTS (length all)

-- why a display name is refused, if so: it is empty or too long, or there is room for no other guest
abbrev pub introduction_refusal : Guest → List Guest → Option Refusal
introduction_refusal guest all =
    if length guest.display == 0 then Some Empty
    else if nat_lt MAX_GUEST_DISPLAY (length guest.display) || is_full guest.author all then Some TooMuch
    else None

-- the guests after one has a display name: in its place, or behind all others
abbrev pub called : Guest → List Guest → List Guest
called guest all = at (position (is_called guest.author) all)
  where
    at : Option ℕ → List Guest
    at None = all ++ guest ∷ []
    at (Some place) = slice_set all place guest

-- a guest gets a display name, unless it is refused
abbrev pub introduce : Guest → List Guest → Result (Unit {0}) Refusal × List Guest
introduce guest all = unless_refused (introduction_refusal guest all)
  where
    unless_refused : Option Refusal → Result (Unit {0}) Refusal × List Guest
    unless_refused (Some refusal) = (Err refusal, all)
    unless_refused None = (Ok tt, called guest all)
