-- Each crash is an event: the files that it leaves are those with which a server starts again.
use Rattle.std.proofs.Common.{◌≡◌, ℕ, List, [], ◌∷◌, ◌++◌, length, take, Ok, refl, sym, ap, ◌∙◌, append-nil}
use Rattle.std.proofs.lemmas.List.{take_at}
use Rattle.pad_core.specs.Machine.{Machine}
use Rattle.store_format.specs.Files.{Read, file_read}
use Rattle.store_format.specs.Laws.{CrashLaw, MayLeave, file_of}
use Rattle.store_format.specs.Lines.{whole_lines}
use Rattle.store_format.specs.declared.entry.StoreLine.{StoreLine}
use Rattle.file_copies.specs.Laws.{HasTaken, LogLaw, Stretch, completed}
use Rattle.standby_laws.specs.Laws.{HasPad, IsLeft}
use Rattle.standby_laws.specs.Servers.{MayHappen, Servers, after}
use Rattle.standby_laws.specs.Servers.Event.{restarts, resumes}

-- the main server starts again with what is read, by the law of crashes
pub main_restarts : CrashLaw → (now : Servers) (replica present : ℕ) (name : List ℕ) (entries : List StoreLine)
    (m : Machine) (bytes : List ℕ) →
    HasPad now replica present name entries m →
    MayLeave (record { written = file_of now.texts; synced = now.synced }) now.texts bytes →
    (lines : ℕ) × MayHappen (restarts lines) now
    × ((number most : ℕ) → (read : Read) × (file_read number most name (whole_lines bytes) ≡ Ok read)
    × (read.whole ≡ length (file_of (after (restarts lines) now).texts)))
main_restarts crash now replica present name entries m bytes pad may =
    let left = crash replica present name entries m now.texts
    (record { written = file_of now.texts; synced = now.synced }) bytes pad.life pad.file pad.says refl may in (
      left.0,
      left.1,
      λ number most. let found = left.4 number most in (found.0, found.3, found.2),
    )

-- what is completed from the log has the bytes that the log leads to, by the law of logs
pub completes : LogLaw → (synced other logged : List ℕ) (log : List Stretch) → HasTaken synced log logged →
    (log ≡ [] → other ≡ []) → completed (synced ++ other) log ≡ logged
completes logs synced other logged [] same empty =
    ap (λ (b : List ℕ). synced ++ b) (empty refl) ∙ (append-nil synced ∙ sym same)
completes logs synced other logged (first ∷ more) has empty = logs.whole synced other logged first more has

-- they are first bytes of the copy
pub logged_front : (copy logged rest : List ℕ) → copy ≡ logged ++ rest → logged ≡ take (length logged) copy
logged_front copy logged rest is = sym (ap (take (length logged)) is ∙ take_at logged rest (length logged) refl)

-- the standby starts again with a completed copy
pub standby_resumes : LogLaw → (now : Servers) (synced other logged : List ℕ) (log : List Stretch) →
    IsLeft now synced other logged log →
    (bytes : ℕ) × MayHappen (resumes bytes) now × (completed (synced ++ other) log ≡ (after (resumes bytes) now).copy)
standby_resumes logs now synced other logged log left = (
  length logged,
  left.kept,
  completes logs synced other logged log left.taken left.alone
      ∙ logged_front now.copy logged left.copy.0 left.copy.1,
)
