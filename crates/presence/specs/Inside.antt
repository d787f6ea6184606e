-- How presence is stored, and how callers see it.
use Rattle.std.specs.Prelude.{◌≡◌, ℕ, ◌≤◌, List, length, map}
use Rattle.presence.specs.Presence.{Presence, AreNumbered}
use Rattle.presence.specs.declared.presence.TheConstants.{MAX_VISITS}
use Rattle.presence.specs.declared.presence.Visit.{Visit}
use Rattle.presence.specs.declared.presence.Visitor.{Visitor}
use Rattle.presence.specs.declared.presence.PresenceBook.TheInside.{Inside}

-- the visit with a number and what is kept beside it
abbrev pub visit_of : ℕ → Visitor → Visit
visit_of number visitor = record { number = number; author = visitor.author; caret = visitor.caret }

-- the visits of the entries
abbrev pub visits_of : List (ℕ × Visitor) → List Visit
visits_of entries = map (λ entry. visit_of entry.0 entry.1) entries

-- the visits, in the order of the map
abbrev pub shown : Inside → Presence
shown book = record {
  limit = book.limit;
  given = book.given;
  present = visits_of book.visitors.entries;
  authors = book.authors;
}

-- the numbers rise up to the one given last, which is within the limit, and each that was given has an author or none
pub record IsSound (book : Inside) : Type 0 where
  pub numbered : AreNumbered book.given (visits_of book.visitors.entries)
  pub spent : book.given ≤ MAX_VISITS
  pub counted : length book.authors ≡ book.given
