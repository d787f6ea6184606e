-- The written text of a header or a record has its meaning, and is one line.
use Rattle.std.proofs.Common.{◌≡◌, ℕ, ◌≤◌, ◌≢◌, List, [], ◌∷◌, Bool, true, false, true≢false, Option, Some, None}
use Rattle.std.proofs.Common.{option_map, option_and_then, Result, Ok, Err, IfOk, refl, sym, ap, ◌∙◌, subst, arith}
use Rattle.std.proofs.Common.{lit≤, ap₂, min, ◌+◌, ◌-◌, ◌*◌, ◌/◌, ◌%◌, ◌^◌, ◌<◌}
use Rattle.std.proofs.lemmas.Nat.{div-add-mod'}
use Rattle.std.specs.List.{AllByRecursion}
use Rattle.std.specs.Str.{IsUtf8, all_scalars}
use Rattle.serde_json.specs.Data.{Data, depth}
use Rattle.serde_json.specs.Read.{max_depth, read}
use Rattle.serde_json.specs.Written.{compact_text, has_float}
use Rattle.rights.specs.declared.grantee.Grantee.{Grantee}
use Rattle.rights.specs.declared.grantee.Grantee.TheVariants.{Author, Everyone}
use Rattle.rights.specs.declared.right.Right.{Right}
use Rattle.rights.specs.declared.right.Right.TheVariants as right
use Rattle.pad_model.specs.declared.op.Op.{Op}
use Rattle.store_records.specs.declared.kept_record.Record.{Record}
use Rattle.store_records.specs.declared.kept_record.Record.TheVariants.{Named, Granted, Handed, Closed, Marked, Introduced, Visited}
use Rattle.store_records.specs.declared.kept_record.Record.TheVariants.{Delivered}
use Rattle.guests.specs.declared.guest.Guest.{Guest}
use Rattle.named_revisions.specs.declared.named_revision.NamedRevision.{NamedRevision}
use Rattle.wire_json.specs.Forms.{text_data}
use Rattle.wire_json.specs.Reading.{of_three, of_two, text_in}
use Rattle.wire_json.specs.Lines.{value_of}
use Rattle.wire_json.specs.Operations.{op_data}
use Rattle.wire_json.specs.Peers.{push_request}
use Rattle.wire_json.proofs.Again.{text_again}
use Rattle.wire_json.proofs.OneLine.{text_plain}
use Rattle.wire_json.proofs.OpAgain.{reads_again}
use Rattle.wire_json.proofs.Plain.{push_has_no_float, push_is_shallow}
use Rattle.wire_json.proofs.Values.{value_of_text}
use Rattle.store_format.specs.Entries.{entry_in, entry_said, header_data}
use Rattle.store_format.specs.Forms.{IsSayableRecord, introduced_as, marked_at, record_data}
use Rattle.store_format.specs.Laws.{IsLine, Tells}
use Rattle.store_format.specs.declared.entry.StoreLine.{StoreLine}
use Rattle.store_format.specs.declared.entry.StoreLine.TheVariants as entry

-- a text without a byte below 32 has no line feed
no_feed : (bytes : List ℕ) → AllByRecursion (λ byte. 32 ≤ byte) bytes → IsLine bytes
no_feed [] h = tt
no_feed (byte ∷ bytes) (low, h) = (other, no_feed bytes h)
  where
    other : byte ≢ 10
    other is = omega (arith, low, is)

op_has_no_float : (op : Op) → has_float (op_data op) ≡ false
op_has_no_float op = at (has_float (op_data op)) refl
  where
    at : (b : Bool) → has_float (op_data op) ≡ b → has_float (op_data op) ≡ false
    at false is = is
    at true is = absurd (true≢false (sym there ∙ push_has_no_float [] op))
      where
        there : has_float (push_request [] op) ≡ true
        there = rw is refl

pub record_has_no_float : (at : ℕ) (together : Bool) (kept : Record) → has_float (record_data at together kept) ≡ false
record_has_no_float at true (Named name owner true) = refl
record_has_no_float at true (Named name owner false) = refl
record_has_no_float at false (Named name owner true) = refl
record_has_no_float at false (Named name owner false) = refl
record_has_no_float at true (Granted (Author name) given) = refl
record_has_no_float at true (Granted Everyone given) = refl
record_has_no_float at false (Granted (Author name) given) = refl
record_has_no_float at false (Granted Everyone given) = refl
record_has_no_float at true (Handed author) = refl
record_has_no_float at false (Handed author) = refl
record_has_no_float at true (Closed true) = refl
record_has_no_float at true (Closed false) = refl
record_has_no_float at false (Closed true) = refl
record_has_no_float at false (Closed false) = refl
record_has_no_float at true (Marked named) = refl
record_has_no_float at false (Marked named) = refl
record_has_no_float at true (Introduced guest) = refl
record_has_no_float at false (Introduced guest) = refl
record_has_no_float at true (Visited None) = refl
record_has_no_float at true (Visited (Some author)) = refl
record_has_no_float at false (Visited None) = refl
record_has_no_float at false (Visited (Some author)) = refl
record_has_no_float now true (Delivered at visit op) = rw (op_has_no_float op) refl
record_has_no_float now false (Delivered at visit op) = rw (op_has_no_float op) refl

pub record_is_shallow : (at : ℕ) (together : Bool) (kept : Record) → depth (record_data at together kept) ≤ max_depth
record_is_shallow at true (Named name owner true) = lit≤ tt
record_is_shallow at true (Named name owner false) = lit≤ tt
record_is_shallow at false (Named name owner true) = lit≤ tt
record_is_shallow at false (Named name owner false) = lit≤ tt
record_is_shallow at true (Granted (Author name) given) = lit≤ tt
record_is_shallow at true (Granted Everyone given) = lit≤ tt
record_is_shallow at false (Granted (Author name) given) = lit≤ tt
record_is_shallow at false (Granted Everyone given) = lit≤ tt
record_is_shallow at true (Handed author) = lit≤ tt
record_is_shallow at false (Handed author) = lit≤ tt
record_is_shallow at true (Closed true) = lit≤ tt
record_is_shallow at true (Closed false) = lit≤ tt
record_is_shallow at false (Closed true) = lit≤ tt
record_is_shallow at false (Closed false) = lit≤ tt
record_is_shallow at true (Marked named) = lit≤ tt
record_is_shallow at false (Marked named) = lit≤ tt
record_is_shallow at true (Introduced guest) = lit≤ tt
record_is_shallow at false (Introduced guest) = lit≤ tt
record_is_shallow at true (Visited None) = lit≤ tt
record_is_shallow at true (Visited (Some author)) = lit≤ tt
record_is_shallow at false (Visited None) = lit≤ tt
record_is_shallow at false (Visited (Some author)) = lit≤ tt
record_is_shallow now true (Delivered at visit op) = omega (arith, push_is_shallow [] op)
record_is_shallow now false (Delivered at visit op) = omega (arith, push_is_shallow [] op)

granted_again : (at : ℕ) (together : Bool) (grantee : Grantee) (given : Option Right) →
    entry_in (record_data at together (Granted grantee given)) ≡ Some (entry.Record (Granted grantee given))
granted_again at true (Author name) None = refl
granted_again at true (Author name) (Some right.Read) = refl
granted_again at true (Author name) (Some right.Comment) = refl
granted_again at true (Author name) (Some right.Write) = refl
granted_again at true (Author name) (Some right.Own) = refl
granted_again at true Everyone None = refl
granted_again at true Everyone (Some right.Read) = refl
granted_again at true Everyone (Some right.Comment) = refl
granted_again at true Everyone (Some right.Write) = refl
granted_again at true Everyone (Some right.Own) = refl
granted_again at false (Author name) None = refl
granted_again at false (Author name) (Some right.Read) = refl
granted_again at false (Author name) (Some right.Comment) = refl
granted_again at false (Author name) (Some right.Write) = refl
granted_again at false (Author name) (Some right.Own) = refl
granted_again at false Everyone None = refl
granted_again at false Everyone (Some right.Read) = refl
granted_again at false Everyone (Some right.Comment) = refl
granted_again at false Everyone (Some right.Write) = refl
granted_again at false Everyone (Some right.Own) = refl

-- a time is read again from its seconds and milliseconds
time_again : (at : ℕ) → at < 2 ^ 64 →
    min (min (at / 1000 * 1000) (2 ^ 64 - 1) + at % 1000) (2 ^ 64 - 1) ≡ at
time_again at small =
    let whole : at / 1000 * 1000 + at % 1000 ≡ at = div-add-mod' at 1000 in
    omega (arith, whole, small)

-- a named revision is read again from its fields
marked_again : (named : NamedRevision) → all_scalars named.text ≡ true → named.at < 2 ^ 64 →
    option_map entry.Record (of_three (marked_at (min (min (named.at / 1000 * 1000) (2 ^ 64 - 1) + named.at % 1000) (2 ^ 64 - 1)))
    (Some named.author) (Some named.rev) (text_in (text_data named.text))) ≡ Some (entry.Record (Marked named))
marked_again named scalars small =
    ap₂ (λ (t : ℕ) (o : Option (List ℕ)). option_map entry.Record (of_three (marked_at t) (Some named.author) (Some named.rev) o))
    (time_again named.at small) (text_again named.text scalars)

-- a guest is read again from its fields
introduced_again : (guest : Guest) → all_scalars guest.display ≡ true →
    option_map entry.Record (of_two introduced_as (Some guest.author) (text_in (text_data guest.display)))
    ≡ Some (entry.Record (Introduced guest))
introduced_again guest scalars =
    ap (λ (o : Option (List ℕ)). option_map entry.Record (of_two introduced_as (Some guest.author) o))
    (text_again guest.display scalars)

-- the written form of a record is read as the record
pub record_again : (at : ℕ) (together : Bool) (kept : Record) → IsSayableRecord kept →
    entry_in (record_data at together kept) ≡ Some (entry.Record kept)
record_again at true (Named name owner true) h = refl
record_again at true (Named name owner false) h = refl
record_again at false (Named name owner true) h = refl
record_again at false (Named name owner false) h = refl
record_again at together (Granted grantee given) h = granted_again at together grantee given
record_again at true (Handed author) h = refl
record_again at false (Handed author) h = refl
record_again at true (Closed true) h = refl
record_again at true (Closed false) h = refl
record_again at false (Closed true) h = refl
record_again at false (Closed false) h = refl
record_again now true (Marked named) (scalars, small) = marked_again named scalars small
record_again now false (Marked named) (scalars, small) = marked_again named scalars small
record_again now true (Introduced guest) scalars = introduced_again guest scalars
record_again now false (Introduced guest) scalars = introduced_again guest scalars
record_again at true (Visited None) h = refl
record_again at true (Visited (Some author)) h = refl
record_again at false (Visited None) h = refl
record_again at false (Visited (Some author)) h = refl
record_again now true (Delivered at visit op) (checked, sayable, small) =
    ap₂ (λ (t : ℕ) (o : Option Op). option_map entry.Record (option_map (Delivered t visit) o)) (time_again at small)
    (reads_again op checked sayable)
record_again now false (Delivered at visit op) (checked, sayable, small) =
    ap₂ (λ (t : ℕ) (o : Option Op). option_map entry.Record (option_map (Delivered t visit) o)) (time_again at small)
    (reads_again op checked sayable)

pub header_again : (pad : List ℕ) (replica : ℕ) → entry_in (header_data pad replica)
    ≡ Some (entry.Header (record { pad = pad; replica = replica }))
header_again pad replica = refl

-- the text of a value that is read as an entry
pub told : {A E : Type 0} (bytes_of : A → List ℕ) (r : Result A E) (v d : Data) (said : StoreLine) (Premise : Type 0) →
    ((x : A) → IsUtf8 (bytes_of x)) → v ≡ d → has_float d ≡ false → depth d ≤ max_depth →
    (Premise → entry_in d ≡ Some said) → IfOk r (λ text. has_float v ≡ false → bytes_of text ≡ compact_text v) →
    IfOk r (λ text. depth v ≤ max_depth → read (bytes_of text) ≡ Some v) →
    IfOk r (λ text. Premise → Tells said (bytes_of text))
told bytes_of (Err e) v d said Premise utf8 same floatless low again compact back = tt
told bytes_of (Ok text) v d said Premise utf8 same floatless low again compact back = λ premise. (plain, says premise)
  where
    plain : IsLine (bytes_of text)
    plain = subst IsLine (sym (compact (ap has_float same ∙ floatless))) (no_feed (compact_text v) (text_plain v))

    says : Premise → entry_said (bytes_of text) ≡ Some said
    says premise =
        ap (option_and_then entry_in) (value_of_text (bytes_of text) v (utf8 text)
        (back (subst (λ x. depth x ≤ max_depth) (sym same) low)))
        ∙ (ap entry_in same ∙ again premise)

-- the text of a value without numbers that are no integers
pub written : {A E : Type 0} (bytes_of : A → List ℕ) (r : Result A E) (v d : Data) → v ≡ d → has_float d ≡ false →
    IfOk r (λ text. has_float v ≡ false → bytes_of text ≡ compact_text v) → IfOk r (λ text. bytes_of text ≡ compact_text d)
written bytes_of (Err e) v d same floatless compact = tt
written bytes_of (Ok text) v d same floatless compact = compact (ap has_float same ∙ floatless) ∙ ap compact_text same

-- the value of such a text
pub valued : {A E : Type 0} (bytes_of : A → List ℕ) (r : Result A E) (v d : Data) → ((x : A) → IsUtf8 (bytes_of x)) →
    v ≡ d → depth d ≤ max_depth → IfOk r (λ text. depth v ≤ max_depth → read (bytes_of text) ≡ Some v) →
    IfOk r (λ text. value_of (bytes_of text) ≡ Some d)
valued bytes_of (Err e) v d utf8 same low back = tt
valued bytes_of (Ok text) v d utf8 same low back =
    value_of_text (bytes_of text) v (utf8 text) (back (subst (λ x. depth x ≤ max_depth) (sym same) low)) ∙ ap Some same

-- the same without conditions on the entry
pub told_always : {A E : Type 0} (bytes_of : A → List ℕ) (r : Result A E) (said : StoreLine) →
    IfOk r (λ text. Unit {0} → Tells said (bytes_of text)) → IfOk r (λ text. Tells said (bytes_of text))
told_always bytes_of (Ok text) said h = h tt
told_always bytes_of (Err e) said h = tt
