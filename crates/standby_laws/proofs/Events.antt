-- The invariant of the two servers: each event keeps it.
use Rattle.std.proofs.Common.{◌≡◌, ◌⊎◌, inl, inr, ℕ, ◌≤◌, ◌==◌, ◌≢◌, eqb, true, false}
use Rattle.std.proofs.Common.{List, [], ◌∷◌, ◌++◌, length, take, drop, refl, sym, ap, ◌∙◌, subst, arith}
use Rattle.std.specs.List.{Contains}
use Rattle.std.proofs.lemmas.Bool.{cond-true, cond-false}
use Rattle.std.proofs.lemmas.Bool.Decides.{eqb_tells}
use Rattle.std.proofs.lemmas.List.{length-append, length-take, take-append-drop, take-take}
use Rattle.store_format.specs.Laws.{file_of}
use Rattle.file_copies.specs.Laws.{Stretch}
use Rattle.standby_laws.specs.Laws.{IsCopied}
use Rattle.standby_laws.specs.Servers.{Event, Leads, MayHappen, Servers, after, beginning, with_stretch}
use Rattle.standby_laws.specs.Servers.Event.{arrives, hears, keeps, restarts, resumes, says, sends, syncs, writes}
use Rattle.standby_laws.proofs.Files.{IsFront, Stays, front_cut, front_stays, lines_front, lines_grown, lines_short}
use Rattle.standby_laws.proofs.Files.{stays_below, stays_on}
use Rattle.standby_laws.proofs.Holding.{EndsLine, Holds, IsAt, at_stays, contains_first, contains_none, ends_at}
use Rattle.standby_laws.proofs.Holding.{ends_cut, ends_grown, is_at, taken_front}

-- the main server's file keeps its synced bytes, and no fewer bytes are confirmed
abbrev pub GoesOn : Servers → Servers → Type 0
GoesOn old new = Stays (file_of old.texts) old.synced (file_of new.texts) new.synced × (old.confirmed ≤ new.confirmed)

-- synced bytes end with a line, so they are no more than the file has
pub synced_short : (texts : List (List ℕ)) (synced : ℕ) → EndsLine texts synced → synced ≤ length (file_of texts)
synced_short texts synced (lines, few, is) = omega (arith, is, lines_short lines texts)

-- synced bytes stay when the main server writes more
grown_stays : (texts more : List (List ℕ)) (synced : ℕ) → synced ≤ length (file_of texts) →
    Stays (file_of texts) synced (file_of (texts ++ more)) synced
grown_stays texts more synced short = (
  omega arith,
  sym (take-take synced (length (file_of texts)) (file_of (texts ++ more)) short)
      ∙ ap (take synced) (lines_grown texts more),
)

-- each event keeps the synced bytes of the main server, and the confirmed ones
goes_on : (event : Event) (old : Servers) → Holds old → MayHappen event old → GoesOn old (after event old)
goes_on (writes texts) old h may =
    (grown_stays old.texts texts old.synced (synced_short old.texts old.synced h.ends), omega arith)
goes_on (syncs lines) old h may = ((may, refl), omega arith)
goes_on (sends stretch) old h may = ((omega arith, refl), omega arith)
goes_on (hears mark) old h may = ((omega arith, refl), omega arith)
goes_on (restarts lines) old h may = ((ends_cut old.texts old.synced lines may h.ends).1, omega arith)
goes_on (arrives stretch) old h may = ((omega arith, refl), omega arith)
goes_on (keeps bytes) old h may = ((omega arith, refl), omega arith)
goes_on says old h may = ((omega arith, refl), omega arith)
goes_on (resumes left) old h may = ((omega arith, refl), omega arith)

-- the invariant is kept when the main server's file changes after its synced bytes
main_goes : (texts : List (List ℕ)) (synced : ℕ) (old : Servers) → Holds old → EndsLine texts synced →
    Stays (file_of old.texts) old.synced (file_of texts) synced → Holds (record old { texts = texts; synced = synced })
main_goes texts synced old h ends stays = record {
  ends = ends;
  stretches = λ stretch has. at_stays (file_of old.texts) (file_of texts) old.synced synced stretch stays
      (h.stretches stretch has);
  front = front_stays (file_of old.texts) (file_of texts) old.copy old.synced synced stays h.front h.copied;
  copied = omega (arith, stays.0, h.copied);
  kept = h.kept;
  said = h.said;
  confirmed = h.confirmed;
}

-- the invariant is kept when the copy changes after its synced bytes
copy_goes : (copy : List ℕ) (old : Servers) → Holds old → IsFront (file_of old.texts) copy → length copy ≤ old.synced →
    old.kept ≤ length copy → Holds (record old { copy = copy })
copy_goes copy old h front copied kept = record {
  ends = h.ends;
  stretches = h.stretches;
  front = front;
  copied = copied;
  kept = kept;
  said = h.said;
  confirmed = h.confirmed;
}

-- a stretch arrives: it continues the copy, or changes nothing
arrives_goes : (stretch : Stretch) (old : Servers) → Holds old → MayHappen (arrives stretch) old →
    Holds (after (arrives stretch) old)
arrives_goes stretch old h has = at (eqb_tells stretch.from (length old.copy))
  where
    longer : IsFront (file_of old.texts) (old.copy ++ stretch.lines)
        × (length (old.copy ++ stretch.lines) ≤ old.synced) →
        Holds (record old { copy = old.copy ++ stretch.lines })
    longer (front, copied) = copy_goes (old.copy ++ stretch.lines) old h front copied
        (omega (arith, h.kept, length-append old.copy stretch.lines))

    at : ((eqb stretch.from (length old.copy) ≡ true) × (stretch.from ≡ length old.copy))
        ⊎ ((eqb stretch.from (length old.copy) ≡ false) × (stretch.from ≢ length old.copy)) →
        Holds (record old { copy = with_stretch old.copy stretch })
    at (inl (is, here)) = subst (λ (copy : List ℕ). Holds (record old { copy = copy }))
        (sym (cond-true (stretch.from == length old.copy) (old.copy ++ stretch.lines) old.copy is))
        (longer (taken_front (file_of old.texts) old.copy old.synced stretch h.front (h.stretches stretch has) here))
    at (inr (is, other)) = subst (λ (copy : List ℕ). Holds (record old { copy = copy }))
        (sym (cond-false (stretch.from == length old.copy) (old.copy ++ stretch.lines) old.copy is)) h

-- the main server sends a stretch
sends_goes : (stretch : Stretch) (old : Servers) → Holds old → MayHappen (sends stretch) old →
    Holds (after (sends stretch) old)
sends_goes stretch old h may = record {
  ends = h.ends;
  stretches = λ other has. sent other (contains_first stretch other old.sent has);
  front = h.front;
  copied = h.copied;
  kept = h.kept;
  said = h.said;
  confirmed = h.confirmed;
}
  where
    sent : (other : Stretch) → (stretch ≡ other) ⊎ Contains old.sent other → IsAt (file_of old.texts) old.synced other
    sent other (inl is) = subst (IsAt (file_of old.texts) old.synced) is
        (is_at (file_of old.texts) old.synced stretch may)
    sent other (inr has) = h.stretches other has

-- the standby sends a mark
says_goes : (old : Servers) → Holds old → Holds (after says old)
says_goes old h = record {
  ends = h.ends;
  stretches = h.stretches;
  front = h.front;
  copied = h.copied;
  kept = h.kept;
  said = λ mark has. marked mark (contains_first old.kept mark old.marks has);
  confirmed = h.confirmed;
}
  where
    marked : (mark : ℕ) → (old.kept ≡ mark) ⊎ Contains old.marks mark → mark ≤ old.kept
    marked mark (inl is) = omega (arith, is)
    marked mark (inr has) = h.said mark has

-- each event keeps the invariant
holds_on : (event : Event) (old : Servers) → Holds old → MayHappen event old → Holds (after event old)
holds_on (writes texts) old h may = main_goes (old.texts ++ texts) old.synced old h
    (ends_grown old.texts texts old.synced h.ends) (goes_on (writes texts) old h may).0
holds_on (syncs lines) old h may = main_goes old.texts (length (file_of (take lines old.texts))) old h
    (ends_at lines old.texts) (goes_on (syncs lines) old h may).0
holds_on (sends stretch) old h may = sends_goes stretch old h may
holds_on (hears mark) old h may = record {
  ends = h.ends;
  stretches = h.stretches;
  front = h.front;
  copied = h.copied;
  kept = h.kept;
  said = h.said;
  confirmed = omega (arith, h.confirmed, h.said mark may);
}
holds_on (restarts lines) old h may = main_goes (take lines old.texts) old.synced old h
    (ends_cut old.texts old.synced lines may h.ends).0 (goes_on (restarts lines) old h may).0
holds_on (arrives stretch) old h may = arrives_goes stretch old h may
holds_on (keeps bytes) old h (more, few) = record {
  ends = h.ends;
  stretches = h.stretches;
  front = h.front;
  copied = h.copied;
  kept = few;
  said = λ mark has. omega (arith, more, h.said mark has);
  confirmed = omega (arith, more, h.confirmed);
}
holds_on says old h may = says_goes old h
holds_on (resumes left) old h may = copy_goes (take left old.copy) old h
    (front_cut (file_of old.texts) old.copy left h.front)
    (omega (arith, h.copied, length-take left old.copy)) (omega (arith, may, h.kept, length-take left old.copy))

-- the invariant holds at the beginning
pub holds_first : Holds beginning
holds_first = record {
  ends = (0, omega arith, refl);
  stretches = λ stretch has. absurd (contains_none stretch has);
  front = refl;
  copied = omega arith;
  kept = omega arith;
  said = λ mark has. absurd (contains_none mark has);
  confirmed = omega arith;
}

-- it holds after any events
pub holds_after : (events : List Event) (old new : Servers) → Holds old → Leads old events new → Holds new
holds_after [] old new h is = subst Holds (sym is) h
holds_after (event ∷ events) old new h (may, leads) =
    holds_after events (after event old) new (holds_on event old h may) leads

-- any events keep the synced bytes of the main server, and the confirmed ones
pub goes_after : (events : List Event) (old new : Servers) → Holds old → Leads old events new → GoesOn old new
goes_after [] old new h is = subst (GoesOn old) (sym is) ((omega arith, refl), omega arith)
goes_after (event ∷ events) old new h (may, leads) =
    join (goes_on event old h may) (goes_after events (after event old) new (holds_on event old h may) leads)
  where
    join : GoesOn old (after event old) → GoesOn (after event old) new → GoesOn old new
    join (first, low) (second, high) = (
      stays_on (file_of old.texts) (file_of (after event old).texts) (file_of new.texts) old.synced
          (after event old).synced new.synced first second,
      omega (arith, low, high),
    )

-- the law of the standby
pub copied : (events : List Event) (now : Servers) → Leads beginning events now → IsCopied now
copied events now leads = at (holds_after events beginning now holds_first leads)
  where
    at : Holds now → IsCopied now
    at h = record {
      front = (
        drop (length now.copy) (file_of now.texts),
        sym (take-append-drop (length now.copy) (file_of now.texts))
            ∙ ap (λ (b : List ℕ). b ++ drop (length now.copy) (file_of now.texts)) (sym h.front),
      );
      lines = λ whole low. lines whole (omega (arith, low, h.confirmed, h.kept));
      confirmed = h.confirmed;
      kept = h.kept;
      copied = h.copied;
      synced = synced_short now.texts now.synced h.ends;
    }
      where
        lines : (whole : ℕ) → length (file_of (take whole now.texts)) ≤ length now.copy →
            (rest : List ℕ) × (now.copy ≡ file_of (take whole now.texts) ++ rest)
        lines whole low = (
          drop (length (file_of (take whole now.texts))) now.copy,
          sym (take-append-drop (length (file_of (take whole now.texts))) now.copy)
              ∙ ap (λ (b : List ℕ). b ++ drop (length (file_of (take whole now.texts))) now.copy)
              (ap (take (length (file_of (take whole now.texts)))) h.front
              ∙ (take-take (length (file_of (take whole now.texts))) (length now.copy) (file_of now.texts) low
              ∙ lines_front whole now.texts)),
        )

-- the law of what lasts: confirmed bytes stay
pub lasting : (earlier events : List Event) (old new : Servers) → Leads beginning earlier old → Leads old events new →
    (old.confirmed ≤ new.confirmed)
    × (take old.confirmed (file_of new.texts) ≡ take old.confirmed (file_of old.texts))
lasting earlier events old new first leads = at (holds_after earlier beginning old holds_first first)
  where
    at : Holds old → (old.confirmed ≤ new.confirmed)
        × (take old.confirmed (file_of new.texts) ≡ take old.confirmed (file_of old.texts))
    at h = stay (goes_after events old new h leads)
      where
        stay : GoesOn old new → (old.confirmed ≤ new.confirmed)
            × (take old.confirmed (file_of new.texts) ≡ take old.confirmed (file_of old.texts))
        stay ((low, same), more) = (
          more,
          stays_below (file_of old.texts) (file_of new.texts) old.confirmed old.synced
              (omega (arith, h.confirmed, h.kept, h.copied)) same,
        )
