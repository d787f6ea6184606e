-- What insertions, deletions and reservations leave of what is kept.
use Rattle.std.proofs.Common.{◌≡◌, ◌⊎◌, ℕ, zero, suc, ◌+◌, ◌^◌, ◌-◌, ◌≤◌, ◌<◌, List, [], ◌∷◌, ◌++◌, length, take, drop}
use Rattle.std.proofs.Common.{map, Option, Some, Result, Ok, Err, IfErr, IsErrAnd, sym, ap, ap₂, ◌∙◌, subst}
use Rattle.std.proofs.Common.{arith, length-append, length-take, length-drop}
use Rattle.std.specs.List.{AllByRecursion}
use Rattle.std.specs.Option.{IsSomeAnd, IfSome}
use Rattle.std.proofs.Math.ListN.{replicate}
use Rattle.std.proofs.lemmas.List.{map-append, take-map, drop-map, length-replicate, take-append-drop}
use Rattle.pad_model.proofs.Each.{each-append, each-left, each-right, each-imply}
use Rattle.pad_model.specs.declared.refusal.Refusal.{Refusal}
use Rattle.pad_model.specs.declared.refusal.Refusal.TheVariants.{Memory}
use Rattle.pad_model.specs.declared.who.Author.{Author}
use Rattle.authorship.specs.Authors.{Authored, Spare, put_in, taken_out, used, reserved, deleted}
use Rattle.authorship.specs.StoredRuns.{characters, places, author_in, spare_in, authored, AuthorPlaces, IsOnce}
use Rattle.authorship.specs.StoredRuns.{HasRoom, IsKept}
use Rattle.authorship.specs.declared.stored_run.StoredRun.{StoredRun}
use Rattle.authorship.specs.declared.stored_run.KeptSpare.{KeptSpare}
use Rattle.authorship.proofs.Cuts.{length-places}
use Rattle.authorship.proofs.Fewest.{map-replicate}
use Rattle.authorship.proofs.Known.{grown, same_authors, same_spare}

each-take : {A : Type 0} (P : A → Type 0) (n : ℕ) (xs : List A) → AllByRecursion P xs → AllByRecursion P (take n xs)
each-take P n xs h = each-left P (take n xs) (drop n xs) (subst (AllByRecursion P) (sym (take-append-drop n xs)) h)

each-drop : {A : Type 0} (P : A → Type 0) (n : ℕ) (xs : List A) → AllByRecursion P xs → AllByRecursion P (drop n xs)
each-drop P n xs h = each-right P (take n xs) (drop n xs) (subst (AllByRecursion P) (sym (take-append-drop n xs)) h)

each-replicate : {A : Type 0} (P : A → Type 0) (n : ℕ) (x : A) → P x → AllByRecursion P (replicate n x)
each-replicate P zero x h = tt
each-replicate P (suc n) x h = (h, each-replicate P n x h)

-- what an insertion leaves can be counted
pub fits_put : (runs new : List StoredRun) (pos author n : ℕ) → characters runs + n < 2 ^ 64 → pos ≤ characters runs →
    places new ≡ take pos (places runs) ++ replicate n author ++ drop pos (places runs) → characters new < 2 ^ 64
fits_put runs new pos author n fits within is =
    let front = take pos (places runs) in
    let middle = replicate n author in
    let behind = drop pos (places runs) in
    let total : characters new ≡ length front + length middle + length behind =
    sym (length-places new) ∙ ap length is ∙ length-append (front ++ middle) behind ∙ ap (λ k. k + length behind)
    (length-append front middle)
    in
    omega (
      arith,
      total,
      length-take pos (places runs),
      length-replicate n author,
      length-drop pos (places runs),
      length-places runs,
    )

-- and so can what a deletion leaves
pub fits_take : (runs new : List StoredRun) (pos n : ℕ) → characters runs < 2 ^ 64 → pos + n ≤ characters runs →
    places new ≡ take pos (places runs) ++ drop (pos + n) (places runs) → characters new < 2 ^ 64
fits_take runs new pos n fits within is =
    let front = take pos (places runs) in
    let behind = drop (pos + n) (places runs) in
    let total : characters new ≡ length front + length behind = sym (length-places new) ∙ ap length is
    ∙ length-append front behind in
    omega (
      arith,
      fits,
      total,
      length-take pos (places runs),
      length-drop (pos + n) (places runs),
      length-places runs,
    )

-- an insertion in reserved room
pub kept_put : (table : List Author) (old new : AuthorPlaces) (spare : KeptSpare) (pos n : ℕ) →
    IsKept table old (Some spare) → 1 ≤ spare.left → old.room ≤ new.room + 2
    → new.places ≡ take pos old.places ++ replicate n spare.author ++ drop pos old.places →
    IsKept table new (Some (record spare { left = spare.left - 1 }))
kept_put table old new spare pos n kept some less is =
    let P = λ (p : ℕ). p < length table in
    let front = take pos old.places in
    let middle = replicate n spare.author in
    let behind = drop pos old.places in record {
      known = subst (AllByRecursion P) (sym is)
          (each-append P (front ++ middle) behind
          (each-append P front middle (each-take P pos old.places kept.known)
          (each-replicate P n spare.author kept.room.0))
          (each-drop P pos old.places kept.known));
      once = kept.once;
      room = (kept.room.0, omega (arith, kept.room.1));
    }

pub view_put : (table : List Author) (old new : List ℕ) (spare : KeptSpare) (pos n : ℕ) (now : Authored) →
    authored table old (Some spare) ≡ now
    → new ≡ take pos old ++ replicate n spare.author ++ drop pos old
    → authored table new (Some (record spare { left = spare.left - 1 }))
    ≡ used now pos (record { author = author_in table spare.author; left = spare.left }) n
view_put table old new spare pos n now view is =
    let f = author_in table in
    let front = take pos old in
    let middle = replicate n spare.author in
    let behind = drop pos old in
    let authors : map f new ≡ put_in pos (f spare.author) n (map f old) =
    ap (map f) is ∙ map-append f (front ++ middle) behind
    ∙ ap₂ (λ l r. l ++ r) (map-append f front middle ∙ ap₂ (λ l r. l ++ r) (sym (take-map f pos old))
    (map-replicate f n spare.author)) (sym (drop-map f pos old))
    in
    ap (λ l. let it : Authored = record { authors = l; spare = Some (record { author = f spare.author; left = spare.left - 1 }) } in it)
    (authors ∙ ap (λ (v : Authored). put_in pos (f spare.author) n v.authors) view)

-- a deletion
pub kept_take : (table : List Author) (old new : AuthorPlaces) (spare : Option KeptSpare) (pos n : ℕ) →
    IsKept table old spare → new.room ≡ old.room → new.places ≡ take pos old.places ++ drop (pos + n) old.places →
    IsKept table new spare
kept_take table old new spare pos n kept same is =
    let P = λ (p : ℕ). p < length table in
    let front = take pos old.places in
    let behind = drop (pos + n) old.places in record {
      known = subst (AllByRecursion P) (sym is) (each-append P front behind (each-take P pos old.places kept.known)
          (each-drop P (pos + n) old.places kept.known));
      once = kept.once;
      room = subst (λ room. HasRoom (length table) room spare) (sym same) kept.room;
    }

pub view_take : (table : List Author) (old new : List ℕ) (spare : Option KeptSpare) (pos n : ℕ) (now : Authored) →
    authored table old spare ≡ now → new ≡ take pos old ++ drop (pos + n) old → authored table new spare
    ≡ deleted now pos n
view_take table old new spare pos n now view is =
    let f = author_in table in
    let front = take pos old in
    let behind = drop (pos + n) old in
    let authors : map f new ≡ taken_out pos n (map f old) =
    ap (map f) is ∙ map-append f front behind ∙ ap₂ (λ l r. l ++ r) (sym (take-map f pos old))
    (sym (drop-map f (pos + n) old))
    in
    ap (λ l. let it : Authored = record { authors = l; spare = spare_in table spare } in it) authors
    ∙ ap (λ (v : Authored). deleted v pos n) view

-- a reservation, whose table may have got an author
pub kept_grown : (old new : List Author) (a : Author) (before after : AuthorPlaces) (spare then : Option KeptSpare) →
    IsKept old before spare → after.places ≡ before.places → (new ≡ old) ⊎ (new ≡ old ++ a ∷ []) → IsOnce new
    → HasRoom (length new) after.room then → IsKept new after then
kept_grown old new a before after spare then kept same more once room =
    let longer = grown old new a more in
    record {
      known = subst (AllByRecursion (λ (p : ℕ). p < length new)) (sym same)
          (each-imply (λ (p : ℕ). p < length old) (λ (p : ℕ). p < length new) (λ p h. omega (arith, longer.0))
          before.places kept.known);
      once = once;
      room = room;
    }

pub view_grown : (old new : List Author) (a : Author) (before after : List ℕ) (room : ℕ) (spare : Option KeptSpare)
    (now : Authored) → AllByRecursion (λ p. p < length old) before → HasRoom (length old) room spare
    → authored old before spare ≡ now → after ≡ before → (new ≡ old) ⊎ (new ≡ old ++ a ∷ []) →
    authored new after spare ≡ now
view_grown old new a before after room spare now known has view same more =
    let longer = grown old new a more in
    ap₂ (λ l s. let it : Authored = record { authors = l; spare = s } in it)
    (ap (map (author_in new)) same ∙ same_authors old new before longer.1 known)
    (same_spare old new room spare longer.1 has)
    ∙ view

pub view_reserved : (old new : List Author) (a : Author) (before after : List ℕ) (spare : Option KeptSpare)
    (author n : ℕ) (now : Authored) → AllByRecursion (λ p. p < length old) before → authored old before spare ≡ now
    → after ≡ before → (new ≡ old) ⊎ (new ≡ old ++ a ∷ []) → author_in new author ≡ a
    → authored new after (Some (record { author = author; left = n })) ≡ reserved now a n
view_reserved old new a before after spare author n now known view same more is =
    let longer = grown old new a more in
    ap₂ (λ l who. let it : Authored = record { authors = l; spare = Some (record { author = who; left = n }) } in it)
    (ap (map (author_in new)) same ∙ same_authors old new before longer.1 known) is
    ∙ ap (λ (v : Authored). reserved v a n) view

-- the room that is seen is the room that is kept
pub spare_is : (table : List Author) (ps : List ℕ) (spare : KeptSpare) (now : Authored) →
    authored table ps (Some spare) ≡ now
    → now.spare ≡ Some (let seen : Spare = record { author = author_in table spare.author; left = spare.left } in seen)
spare_is table ps spare now is = ap (λ (v : Authored). v.spare) (sym is)

pub some_left : (now : Authored) (spare : Spare) → now.spare ≡ Some spare → IsSomeAnd now.spare (λ s. 1 ≤ s.left) →
    1 ≤ spare.left
some_left now spare is some = let P : Option Spare → Type 0 = λ o. IsSomeAnd o (λ (s : Spare). 1 ≤ s.left) in
    subst P is some

pub used_spare : (now after : Authored) (spare : Spare) (pos n : ℕ) → now.spare ≡ Some spare →
    after ≡ used now pos spare n → IfSome now.spare (λ s. after ≡ used now pos s n)
used_spare now after spare pos n is used_up =
    let P : Option Spare → Type 0 = λ o. IfSome o (λ (s : Spare). after ≡ used now pos s n) in subst P (sym is) used_up

-- a refusal that changed nothing
pub refused : {A : Type 0} (r : Result A Refusal) (old new : Authored) → IsErrAnd r (λ e. e ≡ Memory) → new ≡ old →
    IfErr r (λ e. (e ≡ Memory) × (new ≡ old))
refused (Ok x) old new h same = tt
refused (Err e) old new h same = (h, same)
