-- What a store shows stays while its table of names grows, and grows with its bytes.
use Rattle.std.proofs.Common.{◌≡◌, ℕ, ◌<◌, ◌≤◌, ◌^◌, List, [], ◌∷◌, ◌++◌, length, map, Option, Some, None, Ok, Err, Result, is_some, option_map, true}
use Rattle.std.proofs.Common.{◌⊎◌, inl, inr, refl, ap, ap₂, ◌∙◌, arith, slice_index_or, OnOk, OnErr}
use Rattle.std.specs.List.{AllByRecursion}
use Rattle.std.proofs.lemmas.List.{map_push}
use Rattle.pad_model.specs.declared.op.Op.{Op}
use Rattle.pad_model.proofs.Each.{each-append, each-imply}
use Rattle.op_log.specs.Packed.{op_bytes}
use Rattle.op_log.specs.Fits.{IsFitting}
use Rattle.op_log.specs.Read.{read_op, read_name, read_seen, read_parts, author_place}
use Rattle.op_log.specs.Number.{after_number}
use Rattle.op_log.specs.Store.{IsSigned}
use Rattle.op_log.proofs.RoundTrip.{author_back, op_back}

-- an operation's author stays where the names stay
read_kept : (old new : List (List ℕ)) → ((place : ℕ) → place < length old → slice_index_or new place []
    ≡ slice_index_or old place []) → (bytes : List ℕ) → IsSigned old bytes → read_op new bytes ≡ read_op old bytes
read_kept old new others bytes signed =
    let with_author : List ℕ → Op = λ name. record {
      name = (read_name bytes).value;
      seen = (read_seen (read_name bytes).rest).value;
      author = name;
      parts = (read_parts (after_number (read_seen (read_name bytes).rest).rest)).value;
    } in
    ap with_author (others (author_place bytes) signed)

pub all_kept : (old new : List (List ℕ)) → ((place : ℕ) → place < length old → slice_index_or new place []
    ≡ slice_index_or old place []) → (items : List (List ℕ)) → AllByRecursion (IsSigned old) items →
    map (read_op new) items ≡ map (read_op old) items
all_kept old new others [] signed = refl
all_kept old new others (x ∷ xs) signed =
    ap₂ (λ (o : Op) (os : List Op). o ∷ os) (read_kept old new others x signed.0) (all_kept old new others xs signed.1)

pub signed_kept : (old new items : List (List ℕ)) → length old ≤ length new → AllByRecursion (IsSigned old) items →
    AllByRecursion (IsSigned new) items
signed_kept old new items le signed = each-imply (IsSigned old) (IsSigned new) (λ x lt. omega arith) items signed

-- the item that was ready joins the others
pub commit_signed : (authors old new : List (List ℕ)) (ready : Option (List ℕ)) → is_some ready ≡ true →
    ((b : List ℕ) → ready ≡ Some b → new ≡ old ++ b ∷ []) → AllByRecursion (IsSigned authors) old →
    ((b : List ℕ) → ready ≡ Some b → IsSigned authors b) → AllByRecursion (IsSigned authors) new
commit_signed authors old new None some more signed ready = absurd (cc)
commit_signed authors old new (Some b) some more signed ready =
    rw (more b refl) (each-append (IsSigned authors) old (b ∷ []) signed (ready b refl, tt))

pub commit_shown : (authors old new : List (List ℕ)) (ready : Option (List ℕ)) (op : Op) →
    option_map (read_op authors) ready ≡ Some op → ((b : List ℕ) → ready ≡ Some b → new ≡ old ++ b ∷ []) →
    map (read_op authors) new ≡ map (read_op authors) old ++ op ∷ []
commit_shown authors old new None op is more = absurd (cc)
commit_shown authors old new (Some b) op is more =
    let same : read_op authors b ≡ op = cc in
    ap (map (read_op authors)) (more b refl) ∙ map_push (read_op authors) old b
    ∙ ap (λ (o : Op). map (read_op authors) old ++ o ∷ []) same

-- some value is there where one is shown
pub some_there : {A B : Type 0} (f : A → B) (o : Option A) (p : Option B) → option_map f o ≡ p → is_some p ≡ true →
    is_some o ≡ true
some_there f None p is some = ap is_some is ∙ some
some_there f (Some x) p is some = refl

-- a call answered, or was out of memory
pub either : {T E P Q : Type 0} (r : Result T E) → OnOk r P → OnErr r Q → P ⊎ Q
either (Ok x) p q = inl p
either (Err e) p q = inr q

-- the bytes of an operation are signed by its author, and say it
pub packed_signed : (authors : List (List ℕ)) (author : ℕ) (op : Op) (bytes : List ℕ) → author < 2 ^ 64 → IsFitting op →
    author < length authors → bytes ≡ op_bytes author op → IsSigned authors bytes
packed_signed authors author op bytes lt fits within is =
    let place = ap author_place is ∙ author_back author op lt fits in
    omega (arith, place)

pub packed_says : (authors : List (List ℕ)) (author : ℕ) (op : Op) (bytes : List ℕ) (ready : Option (List ℕ)) →
    author < 2 ^ 64 → IsFitting op → slice_index_or authors author [] ≡ op.author → bytes ≡ op_bytes author op →
    ready ≡ Some bytes → option_map (read_op authors) ready ≡ Some op
packed_says authors author op bytes ready lt fits there is now =
    ap (option_map (read_op authors)) now
    ∙ ap (λ (b : List ℕ). Some (read_op authors b)) is ∙ ap (λ (o : Op). Some o) (op_back authors author op lt fits there)
