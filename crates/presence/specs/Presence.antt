-- Who is present on a pad.
use Rattle.std.specs.Prelude.{◌≡◌, ℕ, ◌+◌, ◌-◌, ◌≤◌, ◌<◌, Bool, true, false, not, ◌&&◌, ◌==◌, nat_le, nat_lt}
use Rattle.std.specs.Prelude.{if◌then◌else◌, Option, Some, None, List, [], ◌∷◌, ◌++◌, length, map, bytes_eq}
use Rattle.std.specs.Prelude.{MatchResult, Result}
use Rattle.std.specs.List.{AllByRecursion, filter, list_any}
use Rattle.pad_model.specs.Stamp.{Stamp}
use Rattle.pad_model.specs.declared.refusal.Refusal.{Refusal}
use Rattle.pad_model.specs.declared.refusal.Refusal.TheVariants.{Crowded, VisitsSpent, NotJoined, NoVisit}
use Rattle.presence.specs.Authors.{is_author_at}
use Rattle.presence.specs.declared.presence.TheConstants.{MAX_VISITS}
use Rattle.presence.specs.declared.presence.Visit.{Visit}
use Rattle.rights.specs.Rights.{Rights, may}
use Rattle.rights.specs.declared.right.Right.TheVariants.{Own}

-- how many may be present at once, how many visit numbers were given out, the visits that are present, in order of
-- joining, and for each number that was given out, whose visit it was, where that is known
pub record Presence : Type 0 where
  pub limit : ℕ
  pub given : ℕ
  pub present : List Visit
  pub authors : List (Option (List ℕ))

-- the numbers of the visits are at least 1, rise, and are at most the last one
abbrev pub AreNumbered : ℕ → List Visit → Type 0
AreNumbered last [] = Unit {0}
AreNumbered last (visit ∷ visits) =
    (1 ≤ visit.number) × (visit.number ≤ last)
    × AllByRecursion (λ later. visit.number < later.number) visits
    × AreNumbered last visits

-- why no further number is given out, if so
abbrev pub spent_refusal : Presence → Option Refusal
spent_refusal p = if nat_le MAX_VISITS p.given then Some VisitsSpent else None

-- why nobody can join, apart from memory
abbrev pub join_refusal : Presence → Option Refusal
join_refusal p = if nat_le p.limit (length p.present) then Some Crowded else spent_refusal p

-- the next number is given to an author, who is present after the others, without a caret
abbrev pub joined : List ℕ → Presence → Presence
joined author p =
    let number = p.given + 1 in
    record p {
      given = number;
      present = p.present
          ++ record { number = number; author = author; caret = None } ∷ [];
      authors = p.authors ++ Some author ∷ [];
    }

-- one more number was given out, for a visit that has ended; its author is known or not
abbrev pub counted : Option (List ℕ) → Presence → Presence
counted author p = record p { given = p.given + 1; authors = p.authors ++ author ∷ [] }

-- whether a visit was once given to an author, whether it is present or has ended
abbrev pub was_given : ℕ → List ℕ → Presence → Bool
was_given visit author p = nat_lt 0 visit && is_author_at (visit - 1) author p.authors

-- whether a visit has a number
abbrev pub has_number : ℕ → Visit → Bool
has_number number visit = number == visit.number

-- the visits without this one
abbrev pub left : ℕ → List Visit → List Visit
left number present = filter (λ visit. not (has_number number visit)) present

-- nobody has this visit any more
abbrev pub without : ℕ → Presence → Presence
without visit p = record p { present = left visit p.present }

-- whether a visit is that of an author who may own the pad
abbrev pub is_by_owner : Rights → Visit → Bool
is_by_owner rights visit = may rights visit.author Own

-- nobody has a visit any more who may not own the pad
abbrev pub owners_alone : Rights → Presence → Presence
owners_alone rights p = record p { present = filter (is_by_owner rights) p.present }

-- why an author cannot join instead of an old visit, apart from memory
abbrev pub rejoin_refusal : ℕ → List ℕ → Presence → Option Refusal
rejoin_refusal instead author p = if not (was_given instead author p) then Some NoVisit
    else join_refusal (without instead p)

-- the visits with another caret of this one
abbrev pub with_caret : Option Stamp → ℕ → List Visit → List Visit
with_caret caret number present = map
    (λ visit. if has_number number visit then record visit { caret = caret }
    else visit) present

-- whether a visit is present and belongs to the author
abbrev pub is_joined_by : ℕ → List ℕ → List Visit → Bool
is_joined_by number author present = list_any
    (λ visit. has_number number visit && bytes_eq visit.author author) present

-- a change of a visit is made if the visit is present; otherwise it is refused as not joined and nothing changes
abbrev pub OnVisit : ℕ → Presence → Presence → Result Unit Refusal → (ℕ → List Visit → List Visit)
    → Type 0
OnVisit number old new result change =
    MatchResult result
    (λ _. (list_any (has_number number) old.present ≡ true)
    × (new ≡ record old { present = change number old.present }))
    (λ e. (list_any (has_number number) old.present ≡ false) × (e ≡ NotJoined) × (new ≡ old))
