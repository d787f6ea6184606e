-- A list of pads is the same without the pads that it does not show.
use Rattle.std.proofs.Common.{◌≡◌, false, List, [], ◌∷◌, ◌++◌, Option, Some, None, map, is_some, refl, sym, ap}
use Rattle.std.proofs.Common.{ap₂, ◌∙◌}
use Rattle.pad_model.specs.declared.who.Who.{Who}
use Rattle.pad_model.specs.declared.who.Who.TheVariants.{Nobody, Author, Peer}
use Rattle.pad_model.proofs.Newer.{split}
use Rattle.pad_core.specs.Listing.{as_told, emptied, listing, one_or_none, pads_of}
use Rattle.pad_core.specs.Machine.{Machine}
use Rattle.pad_core.specs.declared.reply.Listed.{Listed}

listing-emptied : (who : Who) (m : Machine) → listing who (emptied m) ≡ None
listing-emptied Nobody m = refl
listing-emptied (Author name) m = refl
listing-emptied (Peer number version) m = refl

not_some : {A : Type 0} (o : Option A) → is_some o ≡ false → o ≡ None
not_some None e = refl
not_some (Some x) e = absurd (cc)

told-alike : (who : Who) (m : Machine) → one_or_none (listing who m) ≡ one_or_none (listing who (as_told who m))
told-alike who m = split (is_some (listing who m))
    (λ e. rw e refl)
    (λ e. rw e (ap one_or_none (not_some (listing who m) e ∙ sym (listing-emptied who m))))

pub listed-alike : (who : Who) (cells : List Machine) → pads_of who cells ≡ pads_of who (map (as_told who) cells)
listed-alike who [] = refl
listed-alike who (m ∷ cells) = ap₂ (λ (a b : List Listed). a ++ b) (told-alike who m) (listed-alike who cells)
