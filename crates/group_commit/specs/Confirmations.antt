-- When a reply may go out on a server with a standby.
use Rattle.std.specs.Prelude.{◌≡◌, ◌⊎◌, ◌≤◌, ◌||◌, if◌then◌else◌, ℕ, Bool, true, false, not, max, min, List, codes, decimal, Option, Some, None}
use Rattle.group_commit.specs.declared.confirming.Confirm.{Confirm}
use Rattle.group_commit.specs.declared.confirming.Confirm.TheVariants as policy
use Rattle.group_commit.specs.declared.confirming.Confirmation.{Confirmation}
use Rattle.group_commit.specs.declared.confirming.Confirmation.TheVariants.{Given, Waits, Lost}

-- the standby has the first so many notes
abbrev pub AreCopied : ℕ → Option ℕ → Type 0
AreCopied number None = ⊥
AreCopied number (Some copied) = number ≤ copied

-- the word that asks for a policy on the command line, and `never` where none does
abbrev pub word_of : Confirm → List ℕ
word_of policy.Never = codes "never"
word_of (policy.Within seconds) = decimal seconds
word_of policy.Strict = codes "strict"

-- whether replies never wait for a standby
abbrev pub is_unasked : Confirm → Bool
is_unasked policy.Never = true
is_unasked other = false

-- a server that is to end rather than go on alone never goes on alone
abbrev pub IsPolicy : Confirm → Bool → Type 0
IsPolicy asked alone = asked ≡ policy.Strict → alone ≡ false

-- why a reply that reveals the first so many notes need not wait any longer: no server promised that the standby has
-- them, or the server goes on alone, or the standby has them
abbrev pub MayGoOn : ℕ → Confirm → Option ℕ → Bool → Type 0
MayGoOn number asked copied alone = (asked ≡ policy.Never) ⊎ ((alone ≡ true) ⊎ AreCopied number copied)

-- what one does who waits until the standby has the first so many notes
abbrev pub IsConfirmation : ℕ → Confirm → Option ℕ → Bool → Bool → Confirmation → Type 0
IsConfirmation number asked copied alone lost (Given confirmed) =
    (lost ≡ false) × (confirmed.number ≡ number) × MayGoOn number asked copied alone
IsConfirmation number asked copied alone lost Waits = (lost ≡ false) × (MayGoOn number asked copied alone → ⊥)
IsConfirmation number asked copied alone lost Lost = lost ≡ true

-- how many of the first so many notes may be revealed: all of them on a server that waits for no standby, and otherwise
-- those that the standby has
abbrev pub AreRevealed : ℕ → ℕ → Confirm → Option ℕ → Bool → Type 0
AreRevealed number most asked copied alone =
    (((asked ≡ policy.Never) ⊎ (alone ≡ true)) × (number ≡ most))
    ⊎ ((has : ℕ) × (copied ≡ Some has) × (number ≡ min most has))

-- how far one may go who wants to reveal the first so many notes
abbrev pub IsReached : ℕ → Confirm → Option ℕ → Bool → Bool → Confirmation → Type 0
IsReached most asked copied alone lost (Given confirmed) =
    (lost ≡ false) × AreRevealed confirmed.number most asked copied alone
IsReached most asked copied alone lost Waits = (lost ≡ false) × (MayGoOn 0 asked copied alone → ⊥)
IsReached most asked copied alone lost Lost = lost ≡ true

-- the number of notes that a standby has, once it has said so of as many as this
abbrev pub heard : ℕ → Option ℕ → ℕ
heard mark None = mark
heard mark (Some copied) = max copied mark

-- whether a server goes on alone after one who waited has waited long enough
abbrev pub alone_after : Confirm → Bool → Bool
alone_after (policy.Within seconds) alone = true
alone_after other alone = alone

-- whether it ends then
abbrev pub lost_after : Confirm → Bool → Bool
lost_after policy.Strict lost = true
lost_after other lost = lost

-- whether this is the first time that it goes on alone, or that it is to end
abbrev pub changes : Confirm → Bool → Bool → Bool
changes policy.Never alone lost = false
changes (policy.Within seconds) alone lost = not alone
changes policy.Strict alone lost = not lost

-- on how many machines what is answered now is kept: on the standby's too, where replies wait until it has what they reveal
abbrev pub machines_of : Confirm → Option ℕ → Bool → Bool → ℕ
machines_of asked None alone lost = 1
machines_of asked (Some copied) alone lost = if is_unasked asked || (alone || lost) then 1 else 2
