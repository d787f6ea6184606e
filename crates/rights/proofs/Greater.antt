-- The greater of two rights.
use Rattle.std.proofs.Common.{◌≡◌, ℕ, true, false, ◌||◌, nat_le, List, Option, Some, None, refl, sym, arith, ◌∙◌}
use Rattle.std.proofs.Common.{le-leb, leb-false}
use Rattle.std.proofs.lemmas.Bool.{leb-true, true≢false}
use Rattle.pad_model.proofs.Newer.{split}
use Rattle.pad_model.specs.Checked.{is_name}
use Rattle.guests.specs.Guests.{is_guest, link_of}
use Rattle.rights.specs.Laws.{EitherLaw, GuestLaw, UnsharedLaw}
use Rattle.rights.specs.Rights.{Rights, covers, granted, greater, rank, shared}
use Rattle.rights.specs.declared.right.Right.{Right}

pub unshared : UnsharedLaw
unshared book name none other =
    split (is_name name) (λ named. rw (named, other, none) refl) (λ unnamed. rw unnamed refl)

-- the greater of two rights includes exactly what one of them does
greater_or : (held other : Option Right) (least : Right) →
    covers (greater held other) least ≡ (covers held least || covers other least)
greater_or None None least = refl
greater_or (Some held) None least = split (nat_le (rank least) (rank held)) (λ e. rw e refl) (λ e. rw e refl)
greater_or None (Some other) least = refl
greater_or (Some held) (Some other) least =
    split (nat_le (rank other) (rank held))
    (λ more. rw more (split (nat_le (rank least) (rank held)) (λ e. rw e refl) (λ e.
    let beyond : nat_le (rank least) (rank other) ≡ false = neither e more in rw (e, beyond) refl)))
    (λ less. rw less (split (nat_le (rank least) (rank held)) (λ e.
    let within : nat_le (rank least) (rank other) ≡ true = either e less in rw (e, within) refl) (λ e. rw e refl)))
  where
    neither : nat_le (rank least) (rank held) ≡ false → nat_le (rank other) (rank held) ≡ true →
        nat_le (rank least) (rank other) ≡ false
    neither e more =
        split (nat_le (rank least) (rank other))
        (λ t. absurd (true≢false (sym (le-leb (rank least) (rank held)
        (omega (arith, leb-true (rank least) (rank other) t, leb-true (rank other) (rank held) more))) ∙ e)))
        (λ f. f)

    either : nat_le (rank least) (rank held) ≡ true → nat_le (rank other) (rank held) ≡ false →
        nat_le (rank least) (rank other) ≡ true
    either e less = le-leb (rank least) (rank other)
        (omega (arith, leb-true (rank least) (rank held) e, leb-false (rank other) (rank held) less))

everyones : (book : Rights) (name : List ℕ) → is_name name ≡ true → is_guest name ≡ false →
    shared book name ≡ book.everyone
everyones book name named other = rw (named, other) refl

links : (book : Rights) (name : List ℕ) → is_name name ≡ true → is_guest name ≡ true →
    shared book name ≡ granted book.grants (link_of name)
links book name named guest = rw (named, guest) refl

pub either_allows : EitherLaw
either_allows book name right other named own =
    rw other (greater_or (granted book.grants name) (shared book name) right
    ∙ rw (everyones book name named own) refl)

pub guest_allows : GuestLaw
guest_allows book name right other named guest =
    rw other (greater_or (granted book.grants name) (shared book name) right
    ∙ rw (links book name named guest) refl)
