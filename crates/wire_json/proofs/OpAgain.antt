-- An operation is read as it was written.
use Rattle.std.proofs.Common.{◌≡◌, ℕ, ◌≤◌, ◌<◌, List, [], ◌∷◌, length, Bool, true, false, ◌&&◌, ◌||◌, not, Some}
use Rattle.std.proofs.Common.{option_map, option_and_then, refl, sym, ap, arith, codes, ◌==◌, nat_le, sum_by}
use Rattle.std.proofs.Common.{true≢false}
use Rattle.std.proofs.lemmas.Bool.{cond-false, and_parts, leb-true, ne_eqb, lt-leb}
use Rattle.std.specs.List.{AllByRecursion, list_all}
use Rattle.serde_json.specs.Data.{Data, string}
use Rattle.serde_json.specs.Find.{get}
use Rattle.pad_model.specs.Checked.{is_checked, is_name, is_within, is_seen, is_part, is_edit, part_size, counters_rise}
use Rattle.pad_model.specs.Checked.{are_parts}
use Rattle.pad_model.specs.declared.limits.TheConstants.{MAX_NUMBER, MAX_PARTS, MAX_TEXT}
use Rattle.pad_model.specs.declared.op.OpName.{OpName}
use Rattle.pad_model.specs.declared.op.Part.{Part}
use Rattle.pad_model.specs.declared.op.Part.TheVariants.{Insert, Delete, Comment, Resolve}
use Rattle.pad_model.specs.declared.op.Run.{Run}
use Rattle.pad_model.specs.declared.op.Span.{Span}
use Rattle.pad_model.specs.declared.seen.Counted.{Counted}
use Rattle.pad_model.specs.Stamp.{Stamp}
use Rattle.pad_core.specs.Reads.{kind_of}
use Rattle.pad_core.specs.declared.reply.Kind.{Kind}
use Rattle.pad_core.specs.declared.reply.Kind.TheVariants as kind
use Rattle.wire_json.specs.Words.{kind_word}
use Rattle.wire_json.specs.Forms.{each_data, text_data, op_name_data, stamp_data, parent_data, span_data, seen_data}
use Rattle.wire_json.specs.Operations.{part_data, op_data}
use Rattle.wire_json.specs.Reading.{null_or, list_in, name_in, text_in, stamp_in, op_name_in, span_in, seen_in}
use Rattle.wire_json.specs.Requests.{part_of, parts_of, kind_in, edit_part_in, several, op_of, op_in}
use Rattle.wire_json.specs.Laws.{IsStamp, IsSayablePart, IsSayable, ReadAgainLaw}
use Rattle.wire_json.proofs.Again.{three_found, four_found, field_found, text_again, stamp_again, parent_again}
use Rattle.wire_json.proofs.Again.{span_again, op_name_again, list_again, seen_again}

insert_again : (run : Run) (d : Data) → get (codes "after") d ≡ Some (parent_data run.after) → get (codes "first") d
    ≡ Some (stamp_data run.first) → get (codes "text") d ≡ Some (text_data run.text)
    → IsSayablePart (Insert run) → part_of kind.Insert d ≡ Some (Insert run)
insert_again run d after first text h =
    three_found (λ f a t. Insert (record { first = f; after = a; text = t })) run.first run.after run.text _ _ _
    (field_found stamp_in (codes "first") d _ run.first first (stamp_again run.first h.0))
    (field_found (null_or stamp_in) (codes "after") d _ run.after after (parent_again run.after h.1))
    (field_found text_in (codes "text") d _ run.text text (text_again run.text h.2))

each_span : (spans : List Span) → AllByRecursion (λ span. IsStamp span.first) spans →
    AllByRecursion (λ span. span_in (span_data span) ≡ Some span) spans
each_span [] h = tt
each_span (span ∷ spans) h = (span_again span h.0, each_span spans h.1)

delete_again : (spans : List Span) (d : Data) → get (codes "spans") d ≡ Some (each_data span_data spans) →
    IsSayablePart (Delete spans) → part_of kind.Delete d ≡ Some (Delete spans)
delete_again spans d is h = ap (option_map Delete)
    (field_found (list_in span_in) (codes "spans") d _ spans is
    (list_again span_in span_data spans (each_span spans h)))

comment_again : (first last : Stamp) (text : List ℕ) (d : Data) → get (codes "first") d ≡ Some (stamp_data first) →
    get (codes "last") d ≡ Some (stamp_data last) → get (codes "text") d ≡ Some (text_data text)
    → IsSayablePart (Comment first last text) → part_of kind.Comment d ≡ Some (Comment first last text)
comment_again first last text d is_first is_last is_text h =
    three_found Comment first last text _ _ _
    (field_found stamp_in (codes "first") d _ first is_first (stamp_again first h.0))
    (field_found stamp_in (codes "last") d _ last is_last (stamp_again last h.1))
    (field_found text_in (codes "text") d _ text is_text (text_again text h.2))

resolve_again : (comment : OpName) (d : Data) → get (codes "comment") d ≡ Some (op_name_data comment) →
    (1 ≤ comment.origin) × (1 ≤ comment.number) → IsSayablePart (Resolve comment) → part_of kind.Resolve d
    ≡ Some (Resolve comment)
resolve_again comment d is named h = ap (option_map Resolve)
    (field_found op_name_in (codes "comment") d _ comment is (op_name_again comment named.0 h named.1))

-- a part of an edit
edit_part_again : (p : Part) → is_edit p ≡ true → IsSayablePart p → edit_part_in (part_data p) ≡ Some p
edit_part_again (Insert run) edit h = insert_again run (part_data (Insert run)) refl refl refl h
edit_part_again (Delete spans) edit h = delete_again spans (part_data (Delete spans)) refl h
edit_part_again (Comment first last text) edit h = absurd (true≢false (sym edit))
edit_part_again (Resolve comment) edit h = absurd (true≢false (sym edit))

each_edit_part : (parts : List Part) → list_all is_edit parts ≡ true → AllByRecursion IsSayablePart parts →
    AllByRecursion (λ p. edit_part_in (part_data p) ≡ Some p) parts
each_edit_part [] edits h = tt
each_edit_part (p ∷ parts) edits h = let both = and_parts (is_edit p) (list_all is_edit parts) edits in
    (edit_part_again p both.0 h.0, each_edit_part parts both.1 h.1)

several_parts : (p q : Part) (parts : List Part) → several (p ∷ q ∷ parts) ≡ Some (p ∷ q ∷ parts)
several_parts p q parts = cond-false _ _ _ (ne_eqb (length (p ∷ q ∷ parts)) 1 (λ e. omega arith))

edit_again : (p q : Part) (parts : List Part) (d : Data) → get (codes "parts") d
    ≡ Some (each_data part_data (p ∷ q ∷ parts)) → list_all is_edit (p ∷ q ∷ parts) ≡ true
    → AllByRecursion IsSayablePart (p ∷ q ∷ parts) → parts_of kind.Edit d ≡ Some (p ∷ q ∷ parts)
edit_again p q parts d is edits h =
    rw (field_found (list_in edit_part_in) (codes "parts") d _ (p ∷ q ∷ parts) is
    (list_again edit_part_in part_data (p ∷ q ∷ parts) (each_edit_part (p ∷ q ∷ parts) edits h)))
    (several_parts p q parts)

five : (a b c d e : Bool) → (a && b && c && d && e) ≡ true → (a ≡ true) × (b ≡ true) × (c ≡ true) × (d ≡ true)
    × (e ≡ true)
five a b c d e h =
    let p = and_parts (a && b && c && d) e h in
    let q = and_parts (a && b && c) d p.0 in
    let r = and_parts (a && b) c q.0 in
    let s = and_parts a b r.0 in
    (s.0, s.1, r.1, q.1, p.1)

-- what the check says about parts: several only insert and erase, and each is within its limits
checked_parts : (origin : ℕ) (parts : List Part) → are_parts origin parts ≡ true
    → ((nat_le (length parts) 1 || list_all is_edit parts) ≡ true) × (list_all (is_part origin) parts ≡ true)
checked_parts origin parts checked =
    let all = five (is_within (length parts) MAX_PARTS) (nat_le (length parts) 1 || list_all is_edit parts)
    (list_all (is_part origin) parts) (counters_rise 0 parts) (nat_le (sum_by part_size parts) MAX_TEXT) checked in
    (all.1, all.2)

resolved_name : (origin : ℕ) (comment : OpName) → are_parts origin (Resolve comment ∷ []) ≡ true → (1 ≤ comment.origin)
    × (1 ≤ comment.number)
resolved_name origin comment checked =
    let part = (and_parts (nat_le 1 comment.origin && nat_le 1 comment.number) true
    (checked_parts origin (Resolve comment ∷ []) checked).1).0 in
    let both = and_parts (nat_le 1 comment.origin) (nat_le 1 comment.number) part in
    (leb-true 1 comment.origin both.0, leb-true 1 comment.number both.1)

second : (a b : Bool) → (a || b) ≡ true → a ≡ false → b ≡ true
second true b h fails = absurd (true≢false fails)
second false b h fails = h

several_edits : (origin : ℕ) (p q : Part) (parts : List Part) → are_parts origin (p ∷ q ∷ parts) ≡ true →
    list_all is_edit (p ∷ q ∷ parts) ≡ true
several_edits origin p q parts checked =
    second (nat_le (length (p ∷ q ∷ parts)) 1) _ (checked_parts origin (p ∷ q ∷ parts) checked).0
    (lt-leb (length (p ∷ q ∷ parts)) 1 (omega arith))

-- the parts of an operation, whose other fields are these
parts_again : (name : OpName) (seen : List Counted) (author : List ℕ) (parts : List Part) → are_parts name.origin parts
    ≡ true → AllByRecursion IsSayablePart parts
    → option_and_then (λ k. parts_of k (op_data (op_of name seen author parts)))
    (kind_in (op_data (op_of name seen author parts))) ≡ Some parts
parts_again name seen author [] checked h = refl
parts_again name seen author (Insert run ∷ []) checked h = ap (option_map (λ p. p ∷ []))
    (insert_again run (op_data (op_of name seen author (Insert run ∷ []))) refl refl refl h.0)
parts_again name seen author (Delete spans ∷ []) checked h = ap (option_map (λ p. p ∷ []))
    (delete_again spans (op_data (op_of name seen author (Delete spans ∷ []))) refl h.0)
parts_again name seen author (Comment first last text ∷ []) checked h =
    ap (option_map (λ p. p ∷ [])) (comment_again first last text
    (op_data (op_of name seen author (Comment first last text ∷ []))) refl refl refl h.0)
parts_again name seen author (Resolve comment ∷ []) checked h =
    ap (option_map (λ p. p ∷ [])) (resolve_again comment (op_data (op_of name seen author (Resolve comment ∷ []))) refl
    (resolved_name name.origin comment checked) h.0)
parts_again name seen author (p ∷ q ∷ parts) checked h =
    edit_again p q parts (op_data (op_of name seen author (p ∷ q ∷ parts))) refl
    (several_edits name.origin p q parts checked) h

-- the other fields are beside those of the parts
others_again : (name : OpName) (seen : List Counted) (author : List ℕ) (parts : List Part) → let d =
    op_data (op_of name seen author parts) in
    (get (codes "name") d ≡ Some (op_name_data name)) × (get (codes "seen") d ≡ Some (seen_data seen))
    × (get (codes "author") d ≡ Some (string author))
others_again name seen author [] = (refl, refl, refl)
others_again name seen author (Insert run ∷ []) = (refl, refl, refl)
others_again name seen author (Delete spans ∷ []) = (refl, refl, refl)
others_again name seen author (Comment first last text ∷ []) = (refl, refl, refl)
others_again name seen author (Resolve comment ∷ []) = (refl, refl, refl)
others_again name seen author (p ∷ q ∷ parts) = (refl, refl, refl)

seen_origins : (own : ℕ) (pairs : List Counted) → is_seen own pairs ≡ true →
    AllByRecursion (λ pair. 0 < pair.origin) pairs
seen_origins own [] checked = tt
seen_origins own (pair ∷ pairs) checked =
    let both = and_parts (is_within pair.count MAX_NUMBER && nat_le 1 pair.origin && not (pair.origin == own))
    (is_seen own pairs) checked in
    let two = and_parts (is_within pair.count MAX_NUMBER && nat_le 1 pair.origin) (not (pair.origin == own)) both.0 in
    let one = and_parts (is_within pair.count MAX_NUMBER) (nat_le 1 pair.origin) two.0 in
    let low : 1 ≤ pair.origin = leb-true 1 pair.origin one.1 in
    (omega arith, seen_origins own pairs both.1)

-- an operation of these fields
fields_again : (name : OpName) (seen : List Counted) (author : List ℕ) (parts : List Part) →
    is_checked (op_of name seen author parts) ≡ true → IsSayable (op_of name seen author parts)
    → op_in (op_data (op_of name seen author parts)) ≡ Some (op_of name seen author parts)
fields_again name seen author parts checked h =
    let d : Data = op_data (op_of name seen author parts) in
    let all = five (is_name author) (nat_le 1 name.origin) (is_within name.number MAX_NUMBER) (is_seen name.origin seen)
    (are_parts name.origin parts) checked in
    let number = and_parts (nat_le 1 name.number) (nat_le name.number MAX_NUMBER) all.2 in
    let others = others_again name seen author parts in
    four_found op_of name seen author parts _ _ _ _
    (field_found op_name_in (codes "name") d _ name others.0 (op_name_again name (leb-true 1 name.origin all.1) h.origin
    (leb-true 1 name.number number.0)))
    (field_found seen_in (codes "seen") d _ seen others.1
    (seen_again seen h.vector h.origins (seen_origins name.origin seen all.3)))
    (field_found name_in (codes "author") d _ author others.2 refl)
    (parts_again name seen author parts all.4 h.parts)

pub reads_again : ReadAgainLaw
reads_again op checked h = fields_again op.name op.seen op.author op.parts checked h
