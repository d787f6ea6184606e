-- A server that starts on the copy, whatever a crash left of it.
use Rattle.std.proofs.Common.{◌≡◌, ℕ, zero, suc, ◌≤◌, ◌<◌, List, ◌++◌, length, take, refl, sym, ap, ◌∙◌, subst, arith}
use Rattle.std.proofs.lemmas.List.{length-take, take-take}
use Rattle.pad_core.specs.Machine.{Machine}
use Rattle.store_format.specs.Laws.{CrashLaw, MayLeave, file_of}
use Rattle.store_format.specs.Laws.MayLeave.{cut, torn}
use Rattle.store_format.specs.declared.entry.StoreLine.{StoreLine}
use Rattle.file_copies.specs.Laws.{LogLaw, Stretch, completed}
use Rattle.standby_laws.specs.Laws.{HasConfirmed, HasPad, IsLeft, IsRestored}
use Rattle.standby_laws.specs.Servers.{Event, Leads, Servers, beginning}
use Rattle.standby_laws.proofs.Crashes.{completes, logged_front}
use Rattle.standby_laws.proofs.Events.{holds_after, holds_first}
use Rattle.standby_laws.proofs.Files.{front_cut, lines_short}
use Rattle.standby_laws.proofs.Holding.{Holds}

-- a crash that leaves some bytes of the copy could leave them of the main server's file, with as many of it synced
left_of_file : (now : Servers) (bytes : List ℕ) → Holds now →
    MayLeave (record { written = now.copy; synced = now.kept }) now.texts bytes →
    MayLeave (record { written = file_of now.texts; synced = now.kept }) now.texts bytes
left_of_file now bytes h (cut left kept is first) = cut (length bytes) (omega (
  arith,
  kept,
  h.kept,
  ap length is,
  length-take left now.copy,
)) (is ∙ (front_cut (file_of now.texts) now.copy left h.front ∙ ap (λ (n : ℕ). take n (file_of now.texts)) same)) first
  where
    same : length (take left now.copy) ≡ length bytes
    same = ap length (sym is)
left_of_file now bytes h (torn lines tail kept some is none) = torn lines tail kept some is none

-- whatever is left of the copy is served, by the law of crashes
pub promoted : CrashLaw → (events : List Event) (now : Servers) (replica present : ℕ) (name : List ℕ)
    (entries : List StoreLine) (m : Machine) (bytes : List ℕ) →
    Leads beginning events now → HasPad now replica present name entries m →
    MayLeave (record { written = now.copy; synced = now.kept }) now.texts bytes →
    IsRestored now replica present name entries m bytes
promoted crash events now replica present name entries m bytes leads pad may =
    at (holds_after events beginning now holds_first leads)
  where
    at : Holds now → IsRestored now replica present name entries m bytes
    at h = let left = crash replica present name entries m now.texts
        (record { written = file_of now.texts; synced = now.kept }) bytes pad.life pad.file pad.says refl
        (left_of_file now bytes h may) in (
          left.0,
          λ whole few short. left.1 whole few (omega (arith, short, h.confirmed)),
          left.2,
          left.3,
          λ number most. let found = left.4 number most in record {
            read = found.0;
            pad = found.1;
            whole = found.2;
            found = found.4;
            taken = found.5;
          },
        )

-- and so is a copy that is completed from the log, by the law of logs
pub mended : CrashLaw → LogLaw → (events : List Event) (now : Servers) (replica present : ℕ) (name : List ℕ)
    (entries : List StoreLine) (m : Machine) (synced other logged : List ℕ) (log : List Stretch) →
    Leads beginning events now → HasPad now replica present name entries m → IsLeft now synced other logged log →
    length (file_of (take 1 now.texts)) ≤ length logged →
    IsRestored now replica present name entries m (completed (synced ++ other) log)
mended crash logs events now replica present name entries m synced other logged log leads pad left first =
    subst (IsRestored now replica present name entries m)
    (sym (completes logs synced other logged log left.taken left.alone))
    (promoted crash events now replica present name entries m logged leads pad
    (cut (length logged) left.kept (logged_front now.copy logged left.copy.0 left.copy.1) first))

-- where not even the first line is left of the copy, no line is confirmed
pub none_confirmed : (events : List Event) (now : Servers) (left : ℕ) → Leads beginning events now → now.kept ≤ left →
    length (take left now.copy) < length (file_of (take 1 now.texts)) → HasConfirmed now 0
none_confirmed events now left leads kept short = at (holds_after events beginning now holds_first leads)
  where
    at : Holds now → HasConfirmed now 0
    at h zero few low = omega arith
    at h (suc whole) few low = absurd (omega (
      arith,
      kept,
      short,
      low,
      h.kept,
      h.confirmed,
      length-take left now.copy,
      lines_short 1 (take (suc whole) now.texts),
      ap (λ (ts : List (List ℕ)). length (file_of ts)) (take-take 1 (suc whole) now.texts (omega arith)),
    ))
