-- A visit to the cells of a list, as a visit to the pads that it borrows.
use Rattle.std.proofs.Common.{◌≡◌, ◌<◌, ℕ, ◌+◌, min, List, length, slice_get, Option, Some, Result, Ok, Err}
use Rattle.std.proofs.Common.{IfOk, IfErr, refl, sym, ap, ◌∙◌, subst, arith}
use Rattle.std.proofs.lemmas.List.FromFn.{get_or-range_with_len, length-range_with_len}
use Rattle.std.proofs.lemmas.Option.{slice_get-get_or}
use Rattle.std.specs.List.{range_with_len}
use Rattle.pad_model.specs.declared.refusal.Refusal.{Refusal}
use Rattle.pad_model.specs.declared.seen.Counted.{Counted}
use Rattle.pad_model.specs.declared.who.Version.{Version}
use Rattle.pad_core.specs.declared.request.Request.{Request}
use Rattle.wire_lines.specs.declared.fault.Fault.{Fault}
use Rattle.conversation.specs.Session.{Answer}
use Rattle.relay.specs.Breaks.{Breaks}
use Rattle.relay.specs.Chosen.{CallsChosen, IsSame, NamesChosen}
use Rattle.relay.specs.Kept.{Visited, ready}
use Rattle.relay.specs.Laws.{AllCellsLaw, all_of}
use Rattle.relay.specs.Listed.{NameOf, by_place, count_of}
use Rattle.relay.specs.Round.Stage.{Next}
use Rattle.relay.specs.Wire.{Wire}
use Rattle.relay.specs.declared.chosen.Chosen.{Chosen}
use Rattle.relay.specs.declared.exchanged.Exchanged.{Exchanged}
use Rattle.relay.proofs.Images.{breaks_image, reaches_image, visited_image}

-- the cell at a position in the list of all cells is that position
at_all : (n i : ℕ) → i < n → slice_get (range_with_len 0 n) i ≡ Some i
at_all n i low =
    let len = length-range_with_len 0 n in
    let inside : i < length (range_with_len 0 n) = omega (arith, low, len) in
    let same : 0 + i ≡ i = omega arith in
    slice_get-get_or (range_with_len 0 n) i 0 inside ∙ ap Some (get_or-range_with_len 0 n i 0 low ∙ same)

-- the parts of an answer
both_ok : {A E : Type 0} (B : A → Type 0) (C : Type 0) (r : Result A E) → IfOk r (λ x. B x × C) → IfOk r B
both_ok B C (Ok x) both = both.0
both_ok B C (Err e) both = tt

both_err : {A E : Type 0} (B : E → Type 0) (C : Type 0) (r : Result A E) → IfErr r (λ e. B e × C) → IfErr r B
both_err B C (Ok x) both = tt
both_err B C (Err e) both = both.0

either_way : {A E : Type 0} (B : A → Type 0) (D : E → Type 0) (C : Type 0) (r : Result A E) →
    IfOk r (λ x. B x × C) → IfErr r (λ e. D e × C) → C
either_way B D C (Ok x) one other = one.1
either_way B D C (Err e) one other = other.1

module _ {P : Type 0} (calls : P → Request → Answer → P → Type 0) (names : P → ℕ → Result (Option (List ℕ)) Refusal →
    P → Type 0) where
  -- a request to the chosen pads is one to the pads
  called : (first old : Chosen P) (request : Request) (said : Answer) (new : Chosen P) → IsSame first old →
      CallsChosen calls old request said new → calls old.pads.now request said new.pads.now × IsSame first new
  called first old request said new holds (asks, same) = (asks, (same.0 ∙ holds.0, same.1 ∙ holds.1))

  looked : (first old : Chosen P) (place : ℕ) (said : Result (Option (List ℕ)) Refusal) (new : Chosen P) →
      IsSame first old → NamesChosen names old place said new →
      by_place first.cells.now names old.pads.now place said new.pads.now × IsSame first new
  looked first old place said new holds (tells, same) = (
    subst (λ c. by_place c.now names old.pads.now place said new.pads.now) holds.1 tells,
    (same.0 ∙ holds.0, same.1 ∙ holds.1),
  )

  -- a visit to them is a visit to the pads by the positions in the list, and they stay borrowed
  visited_here : (r : Result Exchanged Fault) (version : Version) (known : List (Option (List Counted)))
      (old new : Chosen P) (wire last : Wire) →
      IfOk r (λ done. Visited (CallsChosen calls) (NamesChosen names)
      (ready version (count_of old.cells.now) known old wire) done last new) →
      IfOk r (λ done. Visited calls (by_place old.cells.now names)
      (ready version (count_of old.cells.now) known old.pads.now wire) done last new.pads.now × IsSame old new)
  visited_here r version known old new wire last visited =
      visited_image (λ c. c.pads.now) (IsSame old) (count_of old.cells.now) (CallsChosen calls) (NamesChosen names) calls
      (by_place old.cells.now names) (called old) (λ x place said y holds low tells. looked old x place said y holds tells)
      r (ready version (count_of old.cells.now) known old wire) last new ((refl, refl), refl) visited

  -- so is one that broke off
  breaks_here : (r : Result Exchanged Fault) (version : Version) (known : List (Option (List Counted)))
      (old new : Chosen P) (wire last : Wire) →
      IfErr r (λ fault. Breaks (CallsChosen calls) (NamesChosen names) fault Next
      (ready version (count_of old.cells.now) known old wire) new last) →
      IfErr r (λ fault. Breaks calls (by_place old.cells.now names) fault Next
      (ready version (count_of old.cells.now) known old.pads.now wire) new.pads.now last × IsSame old new)
  breaks_here r version known old new wire last breaks =
      breaks_image (λ c. c.pads.now) (IsSame old) (count_of old.cells.now) (CallsChosen calls) (NamesChosen names) calls
      (by_place old.cells.now names) (called old) (λ x place said y holds low tells. looked old x place said y holds tells)
      r Next (ready version (count_of old.cells.now) known old wire) new last ((refl, refl), refl) breaks

  pub visited_listed : (r : Result Exchanged Fault) (version : Version) (known : List (Option (List Counted)))
      (old new : Chosen P) (wire last : Wire) →
      IfOk r (λ done. Visited (CallsChosen calls) (NamesChosen names)
      (ready version (count_of old.cells.now) known old wire) done last new) →
      IfOk r (λ done. Visited calls (by_place old.cells.now names)
      (ready version (count_of old.cells.now) known old.pads.now wire) done last new.pads.now)
  visited_listed r version known old new wire last visited =
      both_ok _ _ r (visited_here r version known old new wire last visited)

  pub breaks_listed : (r : Result Exchanged Fault) (version : Version) (known : List (Option (List Counted)))
      (old new : Chosen P) (wire last : Wire) →
      IfErr r (λ fault. Breaks (CallsChosen calls) (NamesChosen names) fault Next
      (ready version (count_of old.cells.now) known old wire) new last) →
      IfErr r (λ fault. Breaks calls (by_place old.cells.now names) fault Next
      (ready version (count_of old.cells.now) known old.pads.now wire) new.pads.now last)
  breaks_listed r version known old new wire last breaks =
      both_err _ _ r (breaks_here r version known old new wire last breaks)

  pub stays_listed : (r : Result Exchanged Fault) (version : Version) (known : List (Option (List Counted)))
      (old new : Chosen P) (wire last : Wire) →
      IfOk r (λ done. Visited (CallsChosen calls) (NamesChosen names)
      (ready version (count_of old.cells.now) known old wire) done last new) →
      IfErr r (λ fault. Breaks (CallsChosen calls) (NamesChosen names) fault Next
      (ready version (count_of old.cells.now) known old wire) new last) → new.pads.ghost_name ≡ old.pads.ghost_name
  stays_listed r version known old new wire last visited breaks =
      (either_way _ _ _ r (visited_here r version known old new wire last visited)
      (breaks_here r version known old new wire last breaks)).0

  -- over the list of all cells, the steps are those over the cells themselves
  pub all_cells : AllCellsLaw calls names
  all_cells first old last new = (
    λ steps. (reaches_image (λ p. p) (λ p. Unit {0}) old.cells calls (by_place (all_of old.cells) names) calls names
        (λ x request said y holds asks. (asks, tt))
        (λ x cell said y holds low tells. (subst (λ o. NameOf names o x said y) (at_all old.cells cell low) tells, tt))
        first old last new (tt, refl) steps).0,
    λ steps. (reaches_image (λ p. p) (λ p. Unit {0}) old.cells calls names calls (by_place (all_of old.cells) names)
        (λ x request said y holds asks. (asks, tt))
        (λ x cell said y holds low tells. (subst (λ o. NameOf names o x said y) (sym (at_all old.cells cell low)) tells, tt))
        first old last new (tt, refl) steps).0,
    λ fits. counted old.cells fits,
  )
    where
      counted : (n : ℕ) → n < 4294967296 → count_of (all_of n) ≡ n
      counted n fits =
          let len = length-range_with_len 0 n in
          ap (λ l. min l 4294967295) len ∙ least
        where
          least : min n 4294967295 ≡ n
          least = omega (arith, fits)
